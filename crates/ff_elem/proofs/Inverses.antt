-- Inverses and divisors of zero from the end of Euclid's algorithm.
use Rattle.std.proofs.Common.{◌≡◌, ℕ, zero, suc, ◌-◌, ◌<◌, true, false, nat_eq, List, [], ◌∷◌}
use Rattle.std.proofs.Common.{length, map, get_or, refl, sym, ◌∙◌, ap, arith}
use Rattle.ff_theory.specs.Ring.{RingOps, IsCommRing, Elements}
use Rattle.ff_theory.specs.Lawful.{Lawful, lawful_field, Field}
use Rattle.ff_theory.specs.Poly.{polynomials}
use Rattle.ff_theory.specs.Division.{size}
use Rattle.ff_theory.proofs.Solver.{◌⊗◌, nil, unit, ring1, ring3}
use Rattle.ff_theory.proofs.Element.{algebra_is_ring, value_map, inverse_exact}
use Rattle.ff_theory.specs.Algebra.{over_of}
use Rattle.ff_theory.proofs.ElementEuclid.{value-nonzero, divisor-exact, zero_plane_size}
use Rattle.ff_theory.specs.Values.{poly_of, IsPoly, plane_of, IsPlane}
use Rattle.ff_theory.specs.Planes.{row_of}
use Rattle.ff_elem.specs.Elem.{algebra_in, elem_of, plane_in, IsElem}
use Rattle.ff_elem.specs.Inverse.{IsZeroDivisor}
use Rattle.ff_elem.specs.declared.elem.Elem.{Elem}
use Rattle.ff_elem.specs.Euclid.{ArePlanes}
use Rattle.ff_elem.specs.declared.euclid.Multiple.{Multiple}
use Rattle.ff_elem.proofs.PolyLemmas.{poly-nonzero}
use Rattle.ff_elem.proofs.Reduction.{plane-size, last-row}
use Rattle.ff_elem.proofs.Quotients.{not-empty, zero-rows, element-nonzero}

pub positive : (n : ℕ) → nat_eq n 0 ≡ false → 0 < n
positive zero h = let e : true ≡ false = h in cc
positive (suc n) h = omega arith

pub nothing-left : {X : Type 0} (xs : List X) → length xs ≡ 0 → xs ≡ []
nothing-left [] e = refl
nothing-left (x ∷ xs) e = absurd (omega arith)

pub only-one : {X : Type 0} (xs : List X) (x : X) → length xs ≡ 1 → x ≡ get_or xs 0 x → xs ≡ x ∷ []
only-one [] x e h = absurd (omega arith)
only-one (y ∷ z ∷ xs) x e h = absurd (omega arith)
only-one (y ∷ []) x e h = ap (λ t. t ∷ []) (sym h)

module _ (K : Elements ℕ) (L : Lawful K) (f : List (List ℕ)) where
  abbrev F : Field
  F = lawful_field L

  abbrev A : RingOps
  A = algebra_in L f

  -- the value is a polynomial in x: the factor times the denominator, over the value
  pub inverse-value : (a r : Elem) (p : Multiple) (c : List ℕ) → IsElem L f a → ArePlanes K p
      → length p.value ≡ 1 → c ≡ get_or p.value 0 c
      → (algebra_in L f).mul (plane_in L f p.factor) (plane_in L f a.num) ≡ plane_in L f p.value
      → elem_of L f r ≡ over_of (lawful_field L) (plane_of K f)
      ((polynomials (polynomials K.ring)).mul (row_of K.ring (poly_of K a.den))
      (plane_of K p.factor)) (poly_of K c)
      → (algebra_in L f).mul (elem_of L f r) (elem_of L f a) ≡ (algebra_in L f).one
  inverse-value a r p c ha hp one top value is = ap (λ t. A.mul t (elem_of L f a)) is
      ∙ inverse_exact F (plane_of K f) (poly_of K a.den) (map (λ p. poly_of K p) a.num)
      (plane_of K p.factor) (poly_of K c) (element-nonzero K L f a ha)
      (poly-nonzero K L c lead.0 lead.1)
      ((value_map F (plane_of K f)).on_mul (plane_of K p.factor) (plane_of K a.num) ∙ value
      ∙ ap (plane_in L f) (only-one p.value c one top))
    where
      lead : IsPoly K c × (0 < length c)
      lead = last-row K L p.value 0 c hp.value (one ∙ (let e : 1 ≡ suc 0 = omega arith in e)) top

  -- the value is 0: the factor is a divisor of zero
  pub divisor-value : (a u : Elem) (p : Multiple) → IsPlane K f → 1 < length f → IsElem L f a
      → IsElem L f u → ArePlanes K p → length p.value ≡ 0
      → (0 < length p.factor) × (length p.factor < length f)
      → (algebra_in L f).mul (plane_in L f p.factor) (plane_in L f a.num) ≡ plane_in L f p.value
      → elem_of L f u ≡ plane_in L f p.factor → IsZeroDivisor L f a u
  divisor-value a u p hf has ha hu hp none low value is = record {
    element = hu;
    nonzero = λ z. value-nonzero F (plane_of K f) (plane_of K p.factor)
        (not-empty K L f (length f - 1) hf
        (let e : length f ≡ suc (length f - 1) = omega (arith, has) in e))
        (omega (arith, low.1, plane-size K L f hf, plane-size K L p.factor hp.factor))
        (λ e. let n : size (polynomials K.ring) (plane_of K p.factor)
        ≡ 0 = ap (size (polynomials K.ring)) e
        ∙ zero_plane_size F in absurd (omega (
          arith,
          n,
          low.0,
          plane-size K L p.factor
              hp.factor,
        ))) (sym is ∙ z);
    product = ap (A.mul (elem_of L f a)) is
        ∙ divisor-exact F (plane_of K f) (poly_of K a.den) (map (λ p. poly_of K p) a.num)
        (plane_of K p.factor) (element-nonzero K L f a ha)
        (value ∙ ap (plane_in L f) (nothing-left p.value none) ∙ zero-rows K L f);
  }

  -- a divisor of zero has no inverse
  pub no-inverse : (a u : Elem) → IsZeroDivisor L f a u → (b : (algebra_in L f).carrier)
      → ¬ ((algebra_in L f).mul (elem_of L f a) b ≡ (algebra_in L f).one)
  no-inverse a u h b one = h.nonzero (ring1 A laws (λ u. u) (λ u. u ⊗ unit) refl (elem_of L f u)
      ∙ ap (A.mul (elem_of L f u)) (sym one)
      ∙ ring3 A laws (λ a u b. u ⊗ (a ⊗ b)) (λ a u b. (a ⊗ u) ⊗ b) refl (elem_of L f a)
      (elem_of L f u) b
      ∙ ap (λ t. A.mul t b) h.product
      ∙ ring1 A laws (λ b. nil ⊗ b) (λ b. nil) refl b)
    where
      laws : IsCommRing (algebra_in L f)
      laws = algebra_is_ring F (plane_of K f)
