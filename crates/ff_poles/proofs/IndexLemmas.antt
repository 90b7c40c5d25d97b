-- The least indices of classes at which the dimension rises, with one more.
use Rattle.std.proofs.Common.{◌≡◌, ℕ, ◌+◌, ◌<◌, ◌≤◌, ◌⊎◌, inl, inr, List, [], ◌∷◌, ◌++◌, length}
use Rattle.std.proofs.Common.{get_or, sym, ◌∙◌, subst, arith}
use Rattle.std.proofs.lemmas.Bool.{cases_lt}
use Rattle.std.proofs.lemmas.List.{get_or_push}
use Rattle.ff_data.specs.declared.point.RRSpace.{RRSpace}
use Rattle.ff_functions.proofs.SearchLemmas.{push_below}
use Rattle.ff_poles.specs.Spaces.{IsLeastIndex, AreLeastIndices}

pub indices_more : (spaces : List RRSpace) (e n : ℕ) (list : List ℕ) (m : ℕ) → length list ≡ n
    → AreLeastIndices spaces e n list → IsLeastIndex spaces e n m
    → AreLeastIndices spaces e (n + 1) (list ++ m ∷ [])
indices_more spaces e n list m count h k i q = go (cases_lt i n)
  where
    go : (i < n) ⊎ (n ≤ i) → IsLeastIndex spaces e i (get_or (list ++ m ∷ []) i 0)
    go (inl l) = subst (IsLeastIndex spaces e i) (sym (push_below list m 0 i (omega (
      arith,
      l,
      count,
    )))) (h i l)
    go (inr l) = let is : n ≡ i = omega (arith, q, l) in
        subst (IsLeastIndex spaces e i) (sym (get_or_push list m 0 i (count ∙ is)))
        (subst (λ i. IsLeastIndex spaces e i m) is k)
