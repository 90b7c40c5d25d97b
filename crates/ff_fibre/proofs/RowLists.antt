-- Lists of vectors in code: rows of a basis, and lists that grow at the end.
use Rattle.std.proofs.Common.{◌≡◌, ℕ, ◌+◌, ◌<◌, ◌≤◌, ◌⊎◌, inl, inr, List, [], ◌∷◌, ◌++◌, get_or}
use Rattle.std.proofs.Common.{length, sym, ◌∙◌, ap, subst, arith}
use Rattle.std.proofs.lemmas.Bool.{cases_lt}
use Rattle.std.proofs.lemmas.List.{get_or-map, map_push, length-map, get_or_append_left}
use Rattle.std.proofs.lemmas.List.{get_or_push}
use Rattle.std.specs.Global.{Vec}
use Rattle.ff_theory.specs.Ring.{Elements}
use Rattle.ff_theory.specs.Vector.{IsVector, vector_of, vectors_of}
use Rattle.ff_lin.specs.Space.{rows_of, SpaceParts, IsSpaceOf}
use Rattle.ff_characters.specs.Characters.{tables_of}

-- a basis vector of a space, as the code reads it
pub basis_row : (F : Elements ℕ) (n : ℕ) (s : SpaceParts) → IsSpaceOf F n s
    → (basis : List (Vec ℕ)) → rows_of basis ≡ s.basis → (i : ℕ) (v : Vec ℕ) → i < length basis
    → v ≡ get_or basis i v → IsVector F n v.items
basis_row F n s h basis e i v l is = subst (λ m. IsVector F m v.items) h.len
    (subst (IsVector F s.len) same (h.space.rows i [] (omega (
      arith,
      l,
      ap length e,
      length-map basis (λ (r : Vec ℕ). r.items),
    ))))
  where
    same : get_or s.basis i [] ≡ v.items
    same = ap (λ t. get_or t i []) (sym e)
        ∙ get_or-map (λ (r : Vec ℕ). r.items) basis i v [] l
        ∙ sym (ap (λ (r : Vec ℕ). r.items) is)

module _ (F : Elements ℕ) (old : List (Vec ℕ)) (row : Vec ℕ) where
  pushed : rows_of (old ++ row ∷ []) ≡ rows_of old ++ row.items ∷ []
  pushed = map_push (λ (r : Vec ℕ). r.items) old row

  count : length (rows_of old) ≡ length old
  count = length-map old (λ (r : Vec ℕ). r.items)

  -- the rows that stood before
  pub kept_row : (i : ℕ) → i < length old → (j : ℕ) → vectors_of F (rows_of (old ++ row ∷ [])) i j
      ≡ vectors_of F (rows_of old) i j
  kept_row i l j = ap (λ r. vector_of F r j) (ap (λ t. get_or t i []) pushed
      ∙ get_or_append_left (rows_of old) (row.items ∷ []) [] i
      (let e = count in omega (arith, l, e)))

  last_row : (i : ℕ) → length old ≡ i → get_or (rows_of (old ++ row ∷ [])) i [] ≡ row.items
  last_row i e = ap (λ t. get_or t i []) pushed
      ∙ get_or_push (rows_of old) row.items [] i (let c = count in omega (arith, c, e))

  -- those from n on, and the new one
  pub pushed_rows : (n i : ℕ) → length old ≡ n + i → (P : ℕ → (ℕ → F.carrier) → Type 0)
      → ((j : ℕ) → j < i → P j (vectors_of F (rows_of old) (n + j))) → P i (vector_of F row.items)
      → (j : ℕ) → j < i + 1 → P j (vectors_of F (rows_of (old ++ row ∷ [])) (n + j))
  pushed_rows n i e P h k j l = go (cases_lt j i)
    where
      go : (j < i) ⊎ (i ≤ j) → P j (vectors_of F (rows_of (old ++ row ∷ [])) (n + j))
      go (inl s) = subst (λ r. P j (vector_of F r)) (sym (ap (λ t. get_or t (n + j) []) pushed
          ∙ get_or_append_left (rows_of old) (row.items ∷ []) [] (n + j)
          (let c = count in omega (arith, s, e, c)))) (h j s)
      go (inr s) = let same : i ≡ j = omega (arith, s, l) in
          subst (λ j. P j (vectors_of F (rows_of (old ++ row ∷ [])) (n + j))) same
          (subst (λ r. P i (vector_of F r)) (sym (last_row (n + i) e)) k)

-- a row of a table, as the code reads it
pub table_row : (table : List (Vec (Vec ℕ))) (j i : ℕ) (m : Vec (Vec ℕ)) (v : Vec ℕ)
    → j < length table → m ≡ get_or table j m → i < length m.items → v ≡ get_or m.items i v
    → get_or (get_or (tables_of table) j []) i [] ≡ v.items
table_row table j i m v l e k d = ap (λ t. get_or t i []) (get_or-map
    (λ (m : Vec (Vec ℕ)). rows_of m.items) table j m [] l
    ∙ sym (ap (λ (m : Vec (Vec ℕ)). rows_of m.items) e))
    ∙ get_or-map (λ (r : Vec ℕ). r.items) m.items i v [] k ∙ sym (ap (λ (r : Vec ℕ). r.items) d)

-- a table that one matrix was pushed onto
module _ (table : List (Vec (Vec ℕ))) (m : Vec (Vec ℕ)) where
  tables_pushed : tables_of (table ++ m ∷ []) ≡ tables_of table ++ rows_of m.items ∷ []
  tables_pushed = map_push (λ (m : Vec (Vec ℕ)). rows_of m.items) table m

  tables_count : length (tables_of table) ≡ length table
  tables_count = length-map table (λ (m : Vec (Vec ℕ)). rows_of m.items)

  pub pushed_table : (n : ℕ) → length table ≡ n → (P : ℕ → List (List ℕ) → Type 0)
      → ((i : ℕ) → i < n → P i (get_or (tables_of table) i [])) → P n (rows_of m.items)
      → (i : ℕ) → i < n + 1 → P i (get_or (tables_of (table ++ m ∷ [])) i [])
  pushed_table n e P h k i l = go (cases_lt i n)
    where
      go : (i < n) ⊎ (n ≤ i) → P i (get_or (tables_of (table ++ m ∷ [])) i [])
      go (inl s) = subst (P i) (sym (ap (λ t. get_or t i []) tables_pushed
          ∙ get_or_append_left (tables_of table) (rows_of m.items ∷ []) [] i
          (let c = tables_count in omega (arith, s, e, c)))) (h i s)
      go (inr s) = let same : n ≡ i = omega (arith, s, l) in
          subst (λ i. P i (get_or (tables_of (table ++ m ∷ [])) i [])) same
          (subst (P n) (sym (ap (λ t. get_or t n []) tables_pushed
          ∙ get_or_push (tables_of table) (rows_of m.items) [] n
          (let c = tables_count in omega (arith, c, e)))) k)
