-- Lists that grow by one entry.
use Rattle.std.proofs.Common.{◌≡◌, ℕ, suc, ◌+◌, ◌<◌, ◌≤◌, ◌⊎◌, inl, inr, List, [], ◌∷◌, ◌++◌}
use Rattle.std.proofs.Common.{length}
use Rattle.std.proofs.Common.{zero, map, get_or, sym, ◌∙◌, subst, arith}
use Rattle.std.specs.Global.{Vec}
use Rattle.std.proofs.lemmas.Bool.{cases_lt}
use Rattle.std.proofs.lemmas.List.{get_or_append_left, get_or_push}

-- what holds of each entry at its index holds with one more entry
pub pushed-at : {X : Type 0} (P : ℕ → X → Type 0) (d : X) (xs : List X) (x : X) (ys : List X)
    (i : ℕ) → ys ≡ xs ++ x ∷ [] → length xs ≡ i → ((j : ℕ) → j < i → P j (get_or xs j d)) → P i x
    → (j : ℕ) → j < i + 1 → P j (get_or ys j d)
pushed-at P d xs x ys i e n h k j l = subst (λ t. P j (get_or t j d)) (sym e) (go (cases_lt j i))
  where
    go : (j < i) ⊎ (i ≤ j) → P j (get_or (xs ++ x ∷ []) j d)
    go (inl s) = subst (P j) (sym (get_or_append_left xs (x ∷ []) d j (omega (arith, s, n))))
        (h j s)
    go (inr s) = let same : i ≡ j = omega (arith, s, l) in
        subst (P j) (sym (get_or_push xs x d j (n ∙ same))) (subst (λ t. P t x) same k)

-- an entry of the lists that a list of vectors holds
pub held-at : (P : List ℕ → Type 0) (vs : List (Vec ℕ)) (i : ℕ) → i < length vs
    → ((d : Vec ℕ) → P (get_or vs i d).items) → P (get_or (map (λ (v : Vec ℕ). v.items) vs) i [])
held-at P [] i h k = absurd (omega (arith, h))
held-at P (v ∷ vs) zero h k = k v
held-at P (v ∷ vs) (suc i) h k = held-at P vs i (omega (arith, h)) k
