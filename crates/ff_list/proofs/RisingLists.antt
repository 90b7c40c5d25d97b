-- Lists of entries by rising key, and one entry more at its place.
use Rattle.std.proofs.Common.{◌≡◌, ℕ, ◌+◌, ◌-◌, ◌<◌, ◌≤◌, List, [], length, get_or, All}
use Rattle.std.proofs.Common.{sym, ◌∙◌, ap, ap₂, subst, arith, ⊎_elim}
use Rattle.std.proofs.lemmas.Bool.{cases_lt}
use Rattle.std.proofs.lemmas.List.Edits.{length-insert, get_or-insert_below, get_or-insert_at}
use Rattle.std.proofs.lemmas.List.Edits.{get_or-insert_above}
use Rattle.std.specs.List.{insert}
use Rattle.std.specs.declared.cmp.Ordering.{Ordering}
use Rattle.std.specs.declared.cmp.Ordering.TheVariants.{Less}
use Rattle.ff_theory.specs.Ring.{Elements}
use Rattle.ff_theory.specs.Lawful.{Lawful}
use Rattle.ff_elem.specs.Key.{key_cmp}
use Rattle.ff_data.specs.declared.pair.Entry.{Entry}
use Rattle.ff_data.specs.Lists.{IsEntry, pair_key}
use Rattle.ff_list.specs.Lists.{IsTrueList}
use Rattle.ff_list.specs.Searches.{BelongsAt}

module _ {F : Elements ℕ} (L : Lawful F) (f g : List (List ℕ)) where
  pub empty-true : (entries : List Entry) → entries ≡ [] → IsTrueList L f g entries
  empty-true entries e = subst (IsTrueList L f g) (sym e) (record {
    each = λ k d l. absurd (omega (arith, l));
    rising = λ k d l. absurd (omega (arith, l));
  })

module _ {F : Elements ℕ} (L : Lawful F) (f g : List (List ℕ)) (xs : List Entry) (y : Entry)
    (i : ℕ) (old : IsTrueList L f g xs) (new : IsEntry L f g y)
    (at : BelongsAt F xs y.pair i) where
  long : length (insert xs i y) ≡ length xs + 1
  long = length-insert xs i y at.within

  below : (k : ℕ) (d : Entry) → k < i → get_or (insert xs i y) k d ≡ get_or xs k d
  below k d l = get_or-insert_below xs i y d k l at.within

  there : (k : ℕ) (d : Entry) → k ≡ i → get_or (insert xs i y) k d ≡ y
  there k d e = ap (λ n. get_or (insert xs i y) n d) e ∙ get_or-insert_at xs i y d at.within

  above : (k : ℕ) (d : Entry) → i ≤ k → get_or (insert xs i y) (k + 1) d ≡ get_or xs k d
  above k d l = get_or-insert_above xs i y d k l at.within

  above' : (k : ℕ) (d : Entry) → i < k → get_or (insert xs i y) k d ≡ get_or xs (k - 1) d
  above' k d l = let e : k ≡ k - 1 + 1 = omega arith in
      ap (λ n. get_or (insert xs i y) n d) e ∙ above (k - 1) d (omega arith)

  -- below i, at i or above it
  data Place (k : ℕ) : Type 0 where
    before : k < i → Place k
    same : k ≡ i → Place k
    after : i < k → Place k

  place : (k : ℕ) → Place k
  place k = ⊎_elim (λ b. before b)
      (λ a. ⊎_elim (λ b. after b) (λ b. same (omega (arith, a, b))) (cases_lt i k)) (cases_lt k i)

  each' : All (IsEntry L f g) (insert xs i y)
  each' k d l = go (place k)
    where
      go : Place k → IsEntry L f g (get_or (insert xs i y) k d)
      go (before b) = subst (IsEntry L f g) (sym (below k d b))
          (old.each k d (let w = at.within in omega (arith, b, w)))
      go (same e) = subst (IsEntry L f g) (sym (there k d e)) new
      go (after a) = subst (IsEntry L f g) (sym (above' k d a))
          (old.each (k - 1) d (omega (arith, a, l, long)))

  abbrev cmp : Entry → Entry → Ordering
  cmp a b = key_cmp (pair_key F a.pair) (pair_key F b.pair)

  rising' : (k : ℕ) (d : Entry) → k + 1 < length (insert xs i y)
      → cmp (get_or (insert xs i y) k d) (get_or (insert xs i y) (k + 1) d) ≡ Less
  rising' k d l = go (place k) (place (k + 1))
    where
      go : Place k → Place (k + 1)
          → cmp (get_or (insert xs i y) k d) (get_or (insert xs i y) (k + 1) d) ≡ Less
      go (before b) (before c) = ap₂ cmp (below k d b) (below (k + 1) d c)
          ∙ old.rising k d (let w = at.within in omega (arith, c, w))
      go (before b) (same e) = let back : k ≡ i - 1 = omega (arith, e) in
          ap₂ cmp (below k d b ∙ ap (λ n. get_or xs n d) back) (there (k + 1) d e)
          ∙ at.after d (omega (arith, e))
      go (before b) (after a) = absurd (omega (arith, b, a))
      go (same e) q = ap₂ cmp (there k d e) (above k d (omega (arith, e))
          ∙ ap (λ n. get_or xs n d) e) ∙ at.before d (omega (arith, e, l, long))
      go (after a) q = let back : k - 1 + 1 ≡ k = omega (arith, a) in
          ap₂ cmp (above' k d a)
          (above k d (omega (arith, a)) ∙ ap (λ n. get_or xs n d) (sym back))
          ∙ old.rising (k - 1) d (omega (arith, a, l, long))

  pub insert-true : IsTrueList L f g (insert xs i y)
  insert-true = record { each = each'; rising = rising' }
