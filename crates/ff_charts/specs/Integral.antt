-- Finite-integral and infinity-integral elements of E(f).
use Rattle.std.specs.Prelude.{◌≡◌, ℕ, ◌+◌, ◌≤◌, false}
use Rattle.ff_theory.specs.Ring.{power}
use Rattle.ff_theory.specs.Lawful.{Field}
use Rattle.ff_theory.specs.Poly.{coeff, Poly, polynomials}
use Rattle.ff_theory.specs.Division.{size}
use Rattle.ff_theory.specs.Planes.{Plane, row_of}
use Rattle.ff_theory.specs.Algebra.{algebra_of, value_of, Form}

module _ (K : Field) (f : Plane K) where
  -- the denominator in lowest terms is 1
  abbrev pub HasNoDenominator : (algebra_of K f).carrier → Type 0
  HasNoDenominator a = (s : Form K f a) × (s.den ≡ (polynomials K.ring).one)

  -- the degrees of all coordinates in 1, y, .., y^(n-1) are at most m
  abbrev pub HasDegrees : ℕ → (algebra_of K f).carrier → Type 0
  HasDegrees m a = (s : Form K f a) × ((i : ℕ)
      → size K.ring (coeff (polynomials K.ring) s.nums i) ≤ size K.ring s.den + m)

  -- finite-integral: h times each power of s has the denominator 1, for one h that is not 0
  pub record IsFiniteIntegral (s : (algebra_of K f).carrier) : Type 0 where
    pub h : Poly K.ring
    pub nonzero : (polynomials K.ring).same h (polynomials K.ring).zero ≡ false
    pub powers : (j : ℕ) → HasNoDenominator
        ((algebra_of K f).mul (value_of K f (row_of K.ring h)) (power (algebra_of K f) s j))

  -- infinity-integral: one number bounds the degrees of the coordinates of all powers of s
  pub record IsInfinityIntegral (s : (algebra_of K f).carrier) : Type 0 where
    pub bound : ℕ
    pub powers : (j : ℕ) → HasDegrees bound (power (algebra_of K f) s j)
