-- The power to the characteristic of an element of E(f).
use Rattle.std.proofs.Common.{◌≡◌, ℕ, List, false, sym, ◌∙◌, ap}
use Rattle.ff_theory.specs.Ring.{RingOps, IsCharacteristic, power}
use Rattle.ff_theory.specs.Lawful.{Field}
use Rattle.ff_theory.specs.Poly.{Poly, poly, polynomials}
use Rattle.ff_theory.specs.Map.{IsMap}
use Rattle.ff_theory.proofs.Poly.{polynomial_laws}
use Rattle.ff_theory.proofs.Powers.{power-mul}
use Rattle.ff_theory.proofs.Division.{const}
use Rattle.ff_theory.proofs.Evaluate.{const_map}
use Rattle.ff_theory.proofs.PolyMap.{compose, polynomial_domain}
use Rattle.ff_theory.specs.Planes.{planes, Plane, row_of}
use Rattle.ff_theory.proofs.Frobenius.{HasCharacteristic, characteristic_along}
use Rattle.ff_theory.proofs.FrobeniusPoly.{map-power}
use Rattle.ff_theory.specs.Algebra.{algebra_of, value_of, element, over_of, constant}
use Rattle.ff_theory.proofs.Element.{algebra_is_ring, value_map, element_clear, over_one}

module _ (K : Field) where
  row_map : IsMap (polynomials K.ring) (planes K) (row_of K.ring)
  row_map = const_map (polynomials K.ring) (polynomial_domain K).laws (polynomial_domain K).tests

  constant_map : (f : Plane K) → IsMap K.ring (algebra_of K f) (constant K f)
  unfolding constant
  constant_map f = compose K.ring (polynomials K.ring) (algebra_of K f)
      (const K.ring K.laws K.tests) (λ c. value_of K f (row_of K.ring c))
      (const_map K.ring K.laws K.tests) (compose (polynomials K.ring) (planes K) (algebra_of K f)
      (row_of K.ring) (value_of K f) row_map (value_map K f))

  module _ (p : ℕ) (least : IsCharacteristic K.ring p) where
    pub polynomials_characteristic : HasCharacteristic (polynomials K.ring) p
    polynomials_characteristic = characteristic_along K.ring (polynomials K.ring) K.laws K.inverse
        K.is_field p least (polynomial_domain K).laws (const K.ring K.laws K.tests)
        (const_map K.ring K.laws K.tests)

    pub planes_characteristic : HasCharacteristic (planes K) p
    planes_characteristic = characteristic_along K.ring (planes K) K.laws K.inverse K.is_field p
        least (polynomial_laws (polynomials K.ring) (polynomial_domain K).laws
        (polynomial_domain K).tests)
        (λ c. row_of K.ring (const K.ring K.laws K.tests c)) (compose K.ring (polynomials K.ring)
        (planes K) (const K.ring K.laws K.tests) (row_of K.ring)
        (const_map K.ring K.laws K.tests) row_map)

    pub algebra_characteristic : (f : Plane K) → HasCharacteristic (algebra_of K f) p
    algebra_characteristic f = characteristic_along K.ring (algebra_of K f) K.laws K.inverse
        K.is_field p least (algebra_is_ring K f) (constant K f) (constant_map f)

  -- a power of an element: the powers of its numerators' plane and of its denominator
  pub power_exact : (f : Plane K) (n : ℕ) (d : Poly K.ring) (M : List (Poly K.ring))
      → (polynomials K.ring).same d (polynomials K.ring).zero ≡ false
      → (polynomials K.ring).same (power (polynomials K.ring) d n) (polynomials K.ring).zero ≡ false
      → power (algebra_of K f) (element K f d M) n
      ≡ over_of K f (power (planes K) (poly (polynomials K.ring) M) n)
      (power (polynomials K.ring) d n)
  power_exact f n d M nd np = over_one K f _ _ _ np (ap (λ t. A.mul t (power A (element K f d M) n))
      (ap (value_of K f) (map-power (polynomials K.ring) (planes K) (row_of K.ring) row_map d n)
      ∙ map-power (planes K) A (value_of K f) (value_map K f) (row_of K.ring d) n)
      ∙ sym (power-mul A (algebra_is_ring K f) (value_of K f (row_of K.ring d)) (element K f d M) n)
      ∙ ap (λ t. power A t n) (element_clear K f d M nd)
      ∙ sym (map-power (planes K) A (value_of K f) (value_map K f) (poly (polynomials K.ring) M) n))
    where
      A : RingOps
      A = algebra_of K f
