-- The constants of E(f), and the values of polynomials in x and y at elements of E(f).
use Rattle.std.proofs.Common.{◌≡◌, ℕ, ◌≤◌, length, ap, ◌∙◌, sym, refl}
use Rattle.ff_theory.specs.Ring.{RingOps, IsCommRing, power}
use Rattle.ff_theory.specs.Lawful.{Field}
use Rattle.ff_theory.specs.Sum.{sum_below}
use Rattle.ff_theory.specs.Poly.{coeff, Poly, polynomials}
use Rattle.ff_theory.specs.Eval.{eval, plane_at}
use Rattle.ff_theory.proofs.Solver.{◌⊗◌, unit, ring2, ring3}
use Rattle.ff_theory.specs.Map.{IsMap}
use Rattle.ff_theory.proofs.PolyMap.{compose, polynomial_domain}
use Rattle.ff_theory.proofs.Division.{const}
use Rattle.ff_theory.proofs.Evaluate.{const_map}
use Rattle.ff_theory.specs.Planes.{planes, Plane, row_of}
use Rattle.ff_theory.specs.Algebra.{algebra_of, value_of, constant}
use Rattle.ff_theory.proofs.Element.{algebra_is_ring, value_map}
use Rattle.ff_theory.proofs.Horner.{horner, plane_at-horner, eval-horner}

module _ (K : Field) (f : Plane K) where
  -- sums and products of constants
  pub constant_map : IsMap K.ring (algebra_of K f) (constant K f)
  unfolding constant
  constant_map = compose K.ring (polynomials K.ring) (algebra_of K f) (const K.ring K.laws K.tests)
      (λ a. value_of K f (row_of K.ring a)) (const_map K.ring K.laws K.tests)
      (compose (polynomials K.ring) (planes K) (algebra_of K f) (row_of K.ring) (value_of K f)
      (const_map (polynomials K.ring) (polynomial_domain K).laws (polynomial_domain K).tests)
      (value_map K f))

  -- a polynomial in x and y at X and Y, by the powers of X from the top
  pub plane_at-columns : (X Y : (algebra_of K f).carrier) (N : Plane K) (m n : ℕ)
      → length N.coeffs ≤ n → ((j : ℕ) → length (coeff (polynomials K.ring) N.coeffs j).coeffs ≤ m)
      → plane_at K.ring (algebra_of K f) (constant K f) X Y N
      ≡ horner (algebra_of K f) X (λ i. sum_below (algebra_of K f) n
      (λ j. (algebra_of K f).mul
      (constant K f (coeff K.ring (coeff (polynomials K.ring) N.coeffs j).coeffs i))
      (power (algebra_of K f) Y j))) m
  plane_at-columns = plane_at-horner K.ring (algebra_of K f) (algebra_is_ring K f) (constant K f)
      constant_map.on_zero

  pub poly_at-horner : (X : (algebra_of K f).carrier) (p : Poly K.ring) (n : ℕ)
      → length p.coeffs ≤ n
      → eval K.ring (algebra_of K f) (constant K f) X p
      ≡ horner (algebra_of K f) X (λ i. constant K f (coeff K.ring p.coeffs i)) n
  poly_at-horner X p n = eval-horner K.ring (algebra_of K f) (algebra_is_ring K f) (constant K f)
      constant_map.on_zero X p n

-- an element has at most one inverse
pub one_inverse : (R : RingOps) (laws : IsCommRing R) (a b c : R.carrier) → R.mul b a ≡ R.one
    → R.mul c a ≡ R.one → b ≡ c
one_inverse R laws a b c h k = ring2 R laws (λ b z. b) (λ b z. b ⊗ unit) refl b b
    ∙ ap (R.mul b) (sym k) ∙ ring3 R laws (λ a b c. b ⊗ (c ⊗ a)) (λ a b c. (b ⊗ a) ⊗ c) refl a b c
    ∙ ap (λ t. R.mul t c) h ∙ ring2 R laws (λ c z. unit ⊗ c) (λ c z. c) refl c c
