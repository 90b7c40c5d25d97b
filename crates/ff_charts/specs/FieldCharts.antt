-- The chart at 1/u of a chart at u, and the finite and the infinite chart of E(f).
use Rattle.std.specs.Prelude.{◌≡◌, ℕ, ◌-◌, false, [], ◌∷◌, length}
use Rattle.ff_theory.specs.Ring.{RingOps, power}
use Rattle.ff_theory.specs.Lawful.{Field}
use Rattle.ff_theory.specs.Poly.{coeff, Poly, poly, polynomials}
use Rattle.ff_theory.specs.Division.{size}
use Rattle.ff_theory.specs.Monomial.{variable}
use Rattle.ff_theory.specs.Planes.{Plane, row_of}
use Rattle.ff_theory.specs.Monic.{monic_form}
use Rattle.ff_theory.specs.Algebra.{algebra_of, value_of, inverse_of, constant, x_of, y_of, degree}
use Rattle.ff_charts.specs.Chart.{Chart}
use Rattle.ff_theory.specs.Reversal.{reversed}

-- the chart at 1/u: t = 1/u and t^e * theta; the units are not 0 at t = 0, and the moduli are the
-- powers of t
abbrev pub inverted : {k A : RingOps} → Chart k A → A.carrier → ℕ → Chart k A
inverted {k = k} {A = A} c t e = record {
  constant = c.constant;
  u = t;
  theta = A.mul (power A t e) c.theta;
  degree = c.degree;
  equation = reversed k c.degree e c.equation;
  IsUnit = λ s. k.same (coeff k s.coeffs 0) k.zero ≡ false;
  IsModulus = λ m. (j : ℕ) × (m ≡ power (polynomials k) (poly k (k.zero ∷ k.one ∷ [])) j);
}

module _ (K : Field) (f : Plane K) where
  -- the leading row of f
  abbrev pub leading_row : Poly K.ring
  leading_row = coeff (polynomials K.ring) f.coeffs (length f.coeffs - 1)

  -- y' = a_n * y
  abbrev pub y_monic : (algebra_of K f).carrier
  y_monic = (algebra_of K f).mul (value_of K f (row_of K.ring leading_row)) (y_of K f)

  -- 1/x
  abbrev pub t_of : (algebra_of K f).carrier
  t_of = inverse_of K f (variable K.ring)

  -- x and y'; the units are the constants but 0, the moduli all polynomials but 0
  abbrev pub finite_chart : Chart K.ring (algebra_of K f)
  finite_chart = record {
    constant = constant K f;
    u = x_of K f;
    theta = y_monic;
    degree = degree K f;
    equation = monic_form (polynomials K.ring) f;
    IsUnit = λ s. size K.ring s ≡ 1;
    IsModulus = λ m. (polynomials K.ring).same m (polynomials K.ring).zero ≡ false;
  }

  -- t = 1/x and y'' = y'/x^e
  abbrev pub infinite_chart : ℕ → Chart K.ring (algebra_of K f)
  infinite_chart e = inverted finite_chart t_of e
