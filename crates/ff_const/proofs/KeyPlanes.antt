-- Polynomials in x and y with the same key are the same, so that the keys of two factors of f
-- without a common divisor differ.
use Rattle.std.proofs.Common.{◌≡◌, ℕ, zero, suc, ◌≤◌, List, [], ◌∷◌, ◌++◌, length, map, reverse}
use Rattle.std.proofs.Common.{refl, sym, ◌∙◌, ap, ap₂, subst, arith, All}
use Rattle.std.proofs.lemmas.List.{reverse-reverse, length-map, length-reverse}
use Rattle.std.specs.declared.cmp.Ordering.{Ordering}
use Rattle.std.specs.declared.cmp.Ordering.TheVariants.{Less, Equal, Greater}
use Rattle.ff_theory.specs.Ring.{Elements, IsElement}
use Rattle.ff_theory.specs.Lawful.{Lawful, lawful_field}
use Rattle.ff_theory.specs.Poly.{polynomials}
use Rattle.ff_theory.specs.Division.{size}
use Rattle.ff_theory.specs.Planes.{IsDivisorOver}
use Rattle.ff_theory.specs.Values.{plane_of, IsPoly, ArePolys}
use Rattle.ff_factors.specs.Factors.{AreCoprime}
use Rattle.ff_factors.proofs.NormalForm.{divisor_self}
use Rattle.ff_elem.specs.Key.{rows_key, key_cmp}
use Rattle.ff_elem.proofs.KeyLemmas.{key_cmp-is_equal}
use Rattle.ff_const.specs.Keys.{plane_key}
use Rattle.ff_const.specs.Fixed.{AreOrderedFactors}
use Rattle.ff_const.specs.Irreducible.{AreStrictFactors}

head-of : (a b : ℕ) (r s : List ℕ) → a ∷ r ≡ b ∷ s → a ≡ b
head-of a b r s e = cc

tail-of : (a b : ℕ) (r s : List ℕ) → a ∷ r ≡ b ∷ s → r ≡ s
tail-of a b r s e = cc

append-parts : (r s u v : List ℕ) → length r ≡ length s → r ++ u ≡ s ++ v → (r ≡ s) × (u ≡ v)
append-parts [] [] u v l e = (refl, e)
append-parts [] (y ∷ s) u v l e = absurd (omega arith)
append-parts (x ∷ r) [] u v l e = absurd (omega arith)
append-parts (x ∷ r) (y ∷ s) u v l e =
    let h : x ≡ y = head-of x y (r ++ u) (s ++ v) e in
    let rest = append-parts r s u v (omega arith) (tail-of x y (r ++ u) (s ++ v) e) in
    (ap₂ (λ x r. x ∷ r) h rest.0, rest.1)

module _ (K : Elements ℕ) (one_place : (a b : ℕ) → IsElement K a → IsElement K b → K.index (K.value
    a) ≡ K.index (K.value b) → a ≡ b) where
  abbrev place : ℕ → ℕ
  place c = K.index (K.value c)

  places-one : (p q : List ℕ) → All (IsElement K) p → All (IsElement K) q
      → map (λ c. K.index (K.value c)) p ≡ map (λ c. K.index (K.value c)) q → p ≡ q
  places-one [] [] hp hq e = refl
  places-one [] (b ∷ q) hp hq e = cc
  places-one (a ∷ p) [] hp hq e = cc
  places-one (a ∷ p) (b ∷ q) hp hq e = ap₂ (λ x r. x ∷ r)
      (one_place a b (hp zero a (omega arith)) (hq zero b (omega arith))
      (head-of (place a) (place b) _ _ e))
      (places-one p q (λ k d l. hp (suc k) d (omega arith)) (λ k d l. hq (suc k) d (omega arith))
      (tail-of (place a) (place b) _ _ e))

  same-length : (p q : List ℕ) → length p ≡ length q → length (reverse (map place p))
      ≡ length (reverse (map place q))
  same-length p q e = length-reverse (map place p) ∙ length-map p place ∙ e
      ∙ sym (length-reverse (map place q) ∙ length-map q place)

  rows-one : (a b : List (List ℕ)) → length a ≡ length b → All (λ p. IsPoly K p) a
      → All (λ p. IsPoly K p) b → rows_key K a ≡ rows_key K b → a ≡ b
  rows-one [] [] l ha hb e = refl
  rows-one [] (q ∷ b) l ha hb e = absurd (omega arith)
  rows-one (p ∷ a) [] l ha hb e = absurd (omega arith)
  rows-one (p ∷ a) (q ∷ b) l ha hb e =
      let n : length p ≡ length q = head-of (length p) (length q) _ _ e in
      let parts = append-parts (reverse (map place p)) (reverse (map place q)) (rows_key K a)
      (rows_key K b) (same-length p q n) (tail-of (length p) (length q) _ _ e) in
      ap₂ (λ p a. p ∷ a) (places-one p q (ha zero p (omega arith)).each
      (hb zero q (omega arith)).each (sym (reverse-reverse (map place p)) ∙ ap reverse parts.0
      ∙ reverse-reverse (map place q)))
      (rows-one a b (omega arith) (λ k d l. ha (suc k) d (omega arith))
      (λ k d l. hb (suc k) d (omega arith)) parts.1)

  pub planes-one : (a b : List (List ℕ)) → ArePolys K a → ArePolys K b
      → plane_key K a ≡ plane_key K b → a ≡ b
  planes-one a b ha hb e = rows-one a b (head-of (length a) (length b) _ _ e) ha hb
      (tail-of (length a) (length b) _ _ e)

-- so the key of the first is less
pub strict-factors : (K : Elements ℕ) (L : Lawful K) (f g h : List (List ℕ))
    → ((a b : ℕ) → IsElement K a → IsElement K b → K.value a ≡ K.value b → a ≡ b)
    → AreOrderedFactors L f g h → AreCoprime K.ring (plane_of K g) (plane_of K h)
    → AreStrictFactors K g h
strict-factors K L f g h one_value s coprime = record {
  coprime = coprime;
  less = go (key_cmp (plane_key K g) (plane_key K h)) refl;
}
  where
    differ : ¬ (g ≡ h)
    differ e = let l : size (polynomials K.ring) (plane_of K g) ≤ 1 = coprime (plane_of K g)
        (divisor_self (lawful_field L) (plane_of K g))
        (subst (λ t. IsDivisorOver K.ring (plane_of K g) (plane_of K t)) e
        (divisor_self (lawful_field L) (plane_of K g))) in
        absurd (omega (arith, l, s.factored.left_degree))

    go : (o : Ordering) → key_cmp (plane_key K g) (plane_key K h) ≡ o
        → key_cmp (plane_key K g) (plane_key K h) ≡ Less
    go Less e = e
    go Equal e = absurd (differ (planes-one K (λ a b ha hb p. one_value a b ha hb
        (sym (L.finite.at_index (K.value a)) ∙ ap K.element_at p
        ∙ L.finite.at_index (K.value b))) g h s.first.each s.second.each
        (key_cmp-is_equal (plane_key K g) (plane_key K h) e)))
    go Greater e = absurd (s.ordered e)
