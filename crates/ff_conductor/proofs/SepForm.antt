-- d and b from the inverse of the derivative of f at y: b times the different is d.
use Rattle.std.proofs.Common.{◌≡◌, ℕ, suc, ◌-◌, ◌<◌, ◌≤◌, false, refl, sym, ◌∙◌, ap}
use Rattle.std.proofs.Common.{ap₂, arith}
use Rattle.ff_theory.specs.Ring.{RingOps, IsCommRing, power}
use Rattle.ff_theory.specs.Lawful.{Domain, Field}
use Rattle.ff_theory.specs.Poly.{coeff, Poly, polynomials}
use Rattle.ff_theory.specs.Division.{size}
use Rattle.ff_theory.specs.Planes.{Plane}
use Rattle.ff_theory.proofs.Solver.{◌⊗◌, ring3, ring6}
use Rattle.ff_theory.specs.Map.{IsMap}
use Rattle.ff_theory.proofs.Powers.{power-mul}
use Rattle.ff_theory.proofs.FrobeniusPoly.{map-power}
use Rattle.ff_theory.proofs.Sums.{sum-ext, sum-mul}
use Rattle.ff_theory.proofs.PolyMap.{polynomial_domain}
use Rattle.ff_theory.specs.Algebra.{algebra_of, value_of, y_of}
use Rattle.ff_theory.proofs.Element.{algebra_is_ring}
use Rattle.ff_charts.specs.Chart.{Chart, at_u, at_theta}
use Rattle.ff_charts.specs.FieldCharts.{leading_row, y_monic, finite_chart}
use Rattle.ff_charts.proofs.Rows.{value_sum}
use Rattle.ff_charts.proofs.Chart.{at_u_map, cancel_u}
use Rattle.ff_charts.proofs.FiniteChart.{at_is, value_rows, power_split, power_nonzero}
use Rattle.ff_charts.proofs.FiniteChart.{leading_nonzero, finite_is_chart}
use Rattle.ff_conductor.proofs.Separable.{different_of, derivative_of, derivative_scales}

-- n + 1 is the degree of f, N the numerators of w over the denominator den
module _ (K : Field) (f : Plane K) (n : ℕ) (has : size (polynomials K.ring) f ≡ suc (suc n))
    (w : (algebra_of K f).carrier) (den : Poly K.ring) (N : Plane K)
    (few : size (polynomials K.ring) N ≤ suc n)
    (nd : (polynomials K.ring).same den (polynomials K.ring).zero ≡ false)
    (clears : (algebra_of K f).mul (at_u (finite_chart K f) den) w ≡ value_of K f N)
    (inverts : (algebra_of K f).mul w (derivative_of K f n has) ≡ (algebra_of K f).one) where
  abbrev A : RingOps
  A = algebra_of K f

  AL : IsCommRing (algebra_of K f)
  AL = algebra_is_ring K f

  abbrev P : Domain
  P = polynomial_domain K

  abbrev a : Poly K.ring
  a = leading_row K f

  abbrev C : Chart K.ring (algebra_of K f)
  C = finite_chart K f

  abbrev at : Poly K.ring → A.carrier
  at h = at_u C h

  U : IsMap (polynomials K.ring) (algebra_of K f) (at_u (finite_chart K f))
  U = at_u_map K A AL C (finite_is_chart K f (suc n) has)

  -- a_n^n, twice
  abbrev pub top : Poly K.ring
  top = power (polynomials K.ring) (leading_row K f) n

  -- the rows of b over d are those of w times powers of a_n, in lowest terms or not
  module _ (d : Poly K.ring) (B : Plane K) (fewB : size (polynomials K.ring) B ≤ suc n)
      (same : (i : ℕ) → i < suc n → (polynomials K.ring).mul (coeff (polynomials K.ring) B.coeffs i)
      ((polynomials K.ring).mul den ((polynomials K.ring).mul top top))
      ≡ (polynomials K.ring).mul ((polynomials K.ring).mul (coeff (polynomials K.ring) N.coeffs i)
      (power (polynomials K.ring) (leading_row K f) (suc n - i))) d) where
    abbrev whole : Poly K.ring
    whole = P.mul den (P.mul top top)

    whole_nonzero : (polynomials K.ring).same whole (polynomials K.ring).zero ≡ false
    whole_nonzero = P.no_divisors den (P.mul top top) nd
        (P.no_divisors top top (power_nonzero P a (leading_nonzero K f (suc n) has) n)
        (power_nonzero P a (leading_nonzero K f (suc n) has) n))

    y_is : y_monic K f ≡ A.mul (at a) (y_of K f)
    y_is = ap (λ t. A.mul t (y_of K f)) (at_is K f (suc n) has a)

    cleared : A.mul (at whole) (at_theta C B)
        ≡ A.mul (A.mul (at d) (at (power P.ring a (suc n)))) (A.mul (at den) w)
    cleared = ap (A.mul (at whole))
        (value_sum (polynomials K.ring) P.laws P.tests A AL at U.on_zero (y_monic K f) B (suc n)
        fewB) ∙ sym (sum-mul A AL (suc n) (at whole) _)
        ∙ sum-ext A AL (suc n) _ _ (λ i q. term i q)
        ∙ sum-mul A AL (suc n) (A.mul (at d) (at (power P.ring a (suc n)))) _
        ∙ ap (A.mul (A.mul (at d) (at (power P.ring a (suc n)))))
        (sym (value_rows K f (suc n) has N (suc n) few) ∙ sym clears)
      where
        term : (i : ℕ) → i < suc n → A.mul (at whole) (A.mul (at (coeff (polynomials K.ring)
            B.coeffs i)) (power A (y_monic K f) i))
            ≡ A.mul (A.mul (at d) (at (power P.ring a (suc n))))
            (A.mul (at (coeff (polynomials K.ring) N.coeffs i)) (power A (y_of K f) i))
        term i q = ring3 A AL (λ w b t. w ⊗ (b ⊗ t)) (λ w b t. (b ⊗ w) ⊗ t) refl (at whole)
            (at (coeff (polynomials K.ring) B.coeffs i)) (power A (y_monic K f) i)
            ∙ ap₂ A.mul (sym (U.on_mul (coeff (polynomials K.ring) B.coeffs i) whole)
            ∙ ap at (same i q) ∙ U.on_mul _ d
            ∙ ap (λ t. A.mul t (at d)) (U.on_mul _ (power P.ring a (suc n - i))))
            (ap (λ t. power A t i) y_is ∙ power-mul A AL (at a) (y_of K f) i
            ∙ ap (λ t. A.mul t (power A (y_of K f) i)) (sym (map-power P.ring A at U a i)))
            ∙ ring6 A AL (λ n p d q y z. ((n ⊗ p) ⊗ d) ⊗ (q ⊗ y))
            (λ n p d q y z. (d ⊗ (p ⊗ q)) ⊗ (n ⊗ y)) refl
            (at (coeff (polynomials K.ring) N.coeffs i)) (at (power P.ring a (suc n - i)))
            (at d) (at (power P.ring a i)) (power A (y_of K f) i) (at d)
            ∙ ap (λ t. A.mul (A.mul (at d) t)
            (A.mul (at (coeff (polynomials K.ring) N.coeffs i)) (power A (y_of K f) i)))
            (sym (U.on_mul (power P.ring a (suc n - i)) (power P.ring a i))
            ∙ ap at (power_split P.ring P.laws a i (suc n - i) (suc n) (omega (arith, q))))

    -- b times the different is d
    pub sep_product : (algebra_of K f).mul (at_theta (finite_chart K f) B) (different_of K f n has)
        ≡ at_u (finite_chart K f) d
    sep_product = cancel_u K A AL C (finite_is_chart K f (suc n) has) whole whole_nonzero _ _
        (sym (AL.mul_assoc _ _ _) ∙ ap (λ t. A.mul t δ) cleared
        ∙ ap (λ t. A.mul (A.mul (A.mul (at d) t) (A.mul (at den) w)) δ) (U.on_mul a top)
        ∙ ring6 A AL (λ d a t e w x. ((d ⊗ (a ⊗ t)) ⊗ (e ⊗ w)) ⊗ x)
        (λ d a t e w x. ((d ⊗ t) ⊗ (e ⊗ w)) ⊗ (a ⊗ x)) refl (at d) (at a) (at top) (at den) w δ
        ∙ ap (A.mul (A.mul (A.mul (at d) (at top)) (A.mul (at den) w)))
        (derivative_scales K f n has)
        ∙ ring6 A AL (λ d t e w v z. ((d ⊗ t) ⊗ (e ⊗ w)) ⊗ (t ⊗ v))
        (λ d t e w v z. ((e ⊗ (t ⊗ t)) ⊗ d) ⊗ (w ⊗ v)) refl (at d) (at top) (at den) w v (at d)
        ∙ ap (A.mul (A.mul (A.mul (at den) (A.mul (at top) (at top))) (at d))) inverts
        ∙ AL.mul_one _
        ∙ ap (λ t. A.mul t (at d)) (ap (A.mul (at den)) (sym (U.on_mul top top)) ∙ sym (U.on_mul den
        (P.mul top top))))
      where
        δ : A.carrier
        δ = different_of K f n has

        v : A.carrier
        v = derivative_of K f n has
