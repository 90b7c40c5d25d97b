-- Polynomials that lists of values stand for.
use Rattle.std.proofs.Common.{◌≡◌, ℕ, zero, suc, ◌<◌, List, [], ◌∷◌, length, map, get_or, refl, sym}
use Rattle.std.proofs.Common.{◌∙◌, ap, arith, All}
use Rattle.ff_theory.specs.Ring.{Elements, IsElement, IsCommRing, IsTested}
use Rattle.ff_theory.specs.Poly.{Poly, poly, coeff}
use Rattle.ff_theory.proofs.Poly.{trim_same}
use Rattle.ff_theory.proofs.Coeffs.{coeff-map}
use Rattle.ff_theory.specs.Values.{poly_of, IsPoly}

module _ {E : Type 0} (K : Elements E) (one_value : (a b : E) → IsElement K a → IsElement K b
    → K.value a ≡ K.value b → a ≡ b) where
  one_map : (p q : List E) → All (IsElement K) p → All (IsElement K) q → map K.value p
      ≡ map K.value q → p ≡ q
  one_map [] [] hp hq e = refl
  one_map [] (b ∷ q) hp hq e = cc
  one_map (a ∷ p) [] hp hq e = cc
  one_map (a ∷ p) (b ∷ q) hp hq e =
      let h : K.value a ≡ K.value b = cc in
      let t : map K.value p ≡ map K.value q = cc in
      ap (λ x. x ∷ p) (one_value a b (hp zero a (omega arith)) (hq zero b (omega arith)) h)
      ∙ ap (λ r. b ∷ r) (one_map p q (λ k d l. hp (suc k) d (omega arith))
      (λ k d l. hq (suc k) d (omega arith)) t)

  -- a polynomial has one list
  pub one_list : IsCommRing K.ring → IsTested K.ring → (p q : List E) → IsPoly K p → IsPoly K q
      → poly_of K p ≡ poly_of K q → p ≡ q
  unfolding poly
  one_list laws tests p q hp hq e = one_map p q hp.each hq.each
      (sym (trim_same K.ring laws tests (map K.value p) hp.canonical)
      ∙ ap (λ (r : Poly K.ring). r.coeffs) e ∙ trim_same K.ring laws tests (map K.value q)
      hq.canonical)

module _ {E : Type 0} (K : Elements E) where
  -- an entry that the code read, as a coefficient
  pub entry : (p : List E) (i : ℕ) (x : E) → i < length p → x ≡ get_or p i x → K.value x
      ≡ coeff K.ring (map K.value p) i
  entry p i x l e = ap K.value e ∙ sym (coeff-map K.ring K.value p i x l)

  pub entry_at : (p : List E) (i : ℕ) (x : E) → i < length p → K.value (get_or p i x)
      ≡ coeff K.ring (map K.value p) i
  entry_at p i x l = sym (coeff-map K.ring K.value p i x l)
