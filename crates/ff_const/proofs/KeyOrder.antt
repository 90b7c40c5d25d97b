-- The order of the keys of polynomials in x and y.
use Rattle.std.proofs.Common.{◌≡◌, ℕ, List, [], ◌∷◌, true, false, length, sym, ◌∙◌, ap, refl}
use Rattle.std.specs.declared.cmp.Ordering.{Ordering}
use Rattle.std.specs.declared.cmp.Ordering.TheVariants.{Less, Equal, Greater}
use Rattle.std.specs.Ordering.{nat_cmp, ordering_then, ordering_reverse, is_ne, is_gt}
use Rattle.std.proofs.lemmas.Cmp.{nat_list_cmp_total}
use Rattle.ff_theory.specs.Ring.{Elements}
use Rattle.ff_elem.specs.Key.{rows_key, key_cmp}
use Rattle.ff_elem.proofs.KeyLemmas.{key_cmp-same, cmp-equal}
use Rattle.ff_const.specs.Keys.{plane_key}

then-first : (o r : Ordering) → is_ne o ≡ true → ordering_then o r ≡ o
then-first Less r h = refl
then-first Equal r h = absurd cc
then-first Greater r h = refl

-- greater is less the other way round
pub not-greater : (a b : List ℕ) → key_cmp a b ≡ Greater → ¬ (key_cmp b a ≡ Greater)
not-greater a b h k = absurd (let e : Greater ≡ Less = sym k ∙ nat_list_cmp_total.antisymm b a
    ∙ ap ordering_reverse h in cc)

pub greater : (o : Ordering) → is_gt o ≡ true → o ≡ Greater
greater Less h = absurd cc
greater Equal h = absurd cc
greater Greater h = refl

pub greater-not : (o : Ordering) → is_gt o ≡ false → ¬ (o ≡ Greater)
greater-not o h e = absurd (let t : true ≡ false = sym (ap is_gt e) ∙ h in cc)

module _ (K : Elements ℕ) where
  pub lengths-differ : (a b : List (List ℕ)) (o : Ordering) → o ≡ nat_cmp (length a) (length b)
      → is_ne o ≡ true → o ≡ key_cmp (plane_key K a) (plane_key K b)
  lengths-differ a b o e h = sym (then-first o (key_cmp (rows_key K a) (rows_key K b)) h)
      ∙ ap (λ t. ordering_then t (key_cmp (rows_key K a) (rows_key K b))) e

  pub lengths-agree : (a b : List (List ℕ)) (o : Ordering) → o ≡ nat_cmp (length a) (length b)
      → is_ne o ≡ false → length a ≡ length b
  lengths-agree a b o e h = cmp-equal (length a) (length b) (ap is_ne (sym e) ∙ h)

  pub rows-decide : (a b : List (List ℕ)) → length a ≡ length b
      → key_cmp (rows_key K a) (rows_key K b) ≡ key_cmp (plane_key K a) (plane_key K b)
  rows-decide a b e = sym (key_cmp-same (length a ∷ []) (rows_key K a) (rows_key K b))
      ∙ ap (λ n. key_cmp (plane_key K a) (n ∷ rows_key K b)) e
