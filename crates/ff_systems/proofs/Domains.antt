-- E(f) has no divisors of zero where f has no factors over k(x).
use Rattle.std.proofs.Common.{◌≡◌, ℕ, suc, ◌-◌, ◌<◌, List, length, refl, sym, ◌∙◌, ap, subst}
use Rattle.std.proofs.Common.{arith}
use Rattle.ff_theory.specs.Ring.{RingOps, IsCommRing, IsField, Elements}
use Rattle.ff_theory.specs.Lawful.{Field, Lawful, lawful_field}
use Rattle.ff_theory.specs.Poly.{Poly, polynomials}
use Rattle.ff_theory.specs.Division.{size}
use Rattle.ff_theory.specs.Planes.{Plane}
use Rattle.ff_theory.specs.Algebra.{proper, degree}
use Rattle.ff_theory.specs.Values.{plane_of, IsPlane}
use Rattle.ff_theory.proofs.Solver.{◌⊗◌, unit, ring1, ring3, mul_zero}
use Rattle.ff_theory.proofs.Proper.{proper_is, proper_size}
use Rattle.ff_theory.proofs.ElementField.{element_inverse, element_field}
use Rattle.ff_theory.proofs.Element.{algebra_is_ring}
use Rattle.ff_factors.specs.Factors.{IsFactored}
use Rattle.ff_factors.proofs.Factored.{irreducible_if_none}
use Rattle.ff_charts.proofs.FiniteChart.{degree_is}
use Rattle.ff_elem.specs.Elem.{algebra_in}
use Rattle.ff_data.proofs.ChartLaws.{has}

-- no product of two elements that are not 0 is 0
abbrev pub HasNoDivisors : RingOps → Type 0
HasNoDivisors R = (a b : R.carrier) → R.mul a b ≡ R.zero → ¬ (a ≡ R.zero) → b ≡ R.zero

pub field_domain : (R : RingOps) → IsCommRing R → (i : R.carrier → R.carrier) → IsField R i
    → HasNoDivisors R
field_domain R laws i field a b e n = ring1 R laws (λ b. b) (λ b. unit ⊗ b) refl b
    ∙ ap (λ t. R.mul t b) (sym (field.mul_inverse a n))
    ∙ ring3 R laws (λ a i b. a ⊗ i ⊗ b) (λ a i b. i ⊗ (a ⊗ b)) refl a (i a) b
    ∙ ap (R.mul (i a)) e ∙ mul_zero R laws (i a)

module _ (F : Elements ℕ) (L : Lawful F) (f : List (List ℕ)) (hf : IsPlane F f)
    (two : 1 < length f)
    (irreducible : (g h : Poly (polynomials F.ring)) → ¬ IsFactored F.ring (plane_of F f) g h)
  where
    abbrev K : Field
    K = lawful_field L

    abbrev G : Plane (lawful_field L)
    G = plane_of F f

    same : proper (lawful_field L) (plane_of F f) ≡ plane_of F f
    same = proper_is K G (λ e. let h : size (polynomials F.ring) (plane_of F f)
        ≡ suc (length f - 1) = has F L f hf two in omega (arith, e, h))

    pub algebra_field : IsField (algebra_in L f) (element_inverse (lawful_field L) (plane_of F f))
    algebra_field = element_field K G (irreducible_if_none K (proper K G) (degree K G)
        (proper_size K G) (subst (λ g. (s t : Plane (lawful_field L)) → ¬ IsFactored F.ring g s t)
        (sym same) irreducible))
        (let d : degree K G ≡ length f - 1 = degree_is K G (length f - 1) (has F L f hf two) in
        omega (arith, d, two))

    pub algebra_domain : HasNoDivisors (algebra_in L f)
    algebra_domain = field_domain (algebra_in L f) (algebra_is_ring K G) (element_inverse K G)
        algebra_field
