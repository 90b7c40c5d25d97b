-- Rows and columns read from the last entry to the first.
use Rattle.std.proofs.Common.{◌≡◌, ℕ, zero, suc, ◌-◌, ◌<◌, ◌≤◌, ◌⊎◌, inl, inr, List, [], ◌∷◌}
use Rattle.std.proofs.Common.{length, map, reverse, get_or, refl, sym, ◌∙◌, ap, arith, subst, All}
use Rattle.std.proofs.lemmas.Bool.{cases_lt, cond_below, cond_above}
use Rattle.std.proofs.lemmas.List.{get_or-reverse, length-reverse, length-map, get_or-map}
use Rattle.std.proofs.lemmas.List.Elements.{All-map}
use Rattle.ff_theory.specs.Ring.{Elements, IsElement}
use Rattle.ff_theory.proofs.Coeffs.{coeff-past, coeff-map}
use Rattle.ff_theory.specs.Vector.{vector_of, vectors_of, IsVector}
use Rattle.ff_lin.specs.Kernel.{mirror, mirrored_rows, mirrored_columns}

pub mirror-below : (n j : ℕ) → j < n → mirror n j ≡ n - 1 - j
mirror-below n j l = sym (cond_below j n (n - 1 - j) j l)

pub mirror-past : (n j : ℕ) → n ≤ j → mirror n j ≡ j
mirror-past n j l = sym (cond_above j n (n - 1 - j) j j l refl)

pub mirror-inside : (n j : ℕ) → j < n → mirror n j < n
mirror-inside n j l = omega (arith, mirror-below n j l)

pub mirror-mirror : (n j : ℕ) → mirror n (mirror n j) ≡ j
mirror-mirror n j = go (cases_lt j n)
  where
    go : (j < n) ⊎ (n ≤ j) → mirror n (mirror n j) ≡ j
    go (inl l) = ap (mirror n) (mirror-below n j l) ∙ mirror-below n (n - 1 - j) (omega arith)
        ∙ (let e : n - 1 - (n - 1 - j) ≡ j = omega arith in e)
    go (inr l) = ap (mirror n) (mirror-past n j l) ∙ mirror-past n j l

module _ (K : Elements ℕ) where
  -- the entries from the last to the first
  pub vector-reverse : (v : List ℕ) (j : ℕ) → vector_of K (reverse v) j
      ≡ vector_of K v (mirror (length v) j)
  vector-reverse [] j = ap (vector_of K []) (sym (mirror-past 0 j (omega arith)))
  vector-reverse (x ∷ v) j = go (cases_lt j (length (x ∷ v)))
    where
      w : List ℕ
      w = x ∷ v

      go : (j < length (x ∷ v)) ⊎ (length (x ∷ v) ≤ j) → vector_of K (reverse (x ∷ v)) j
          ≡ vector_of K (x ∷ v) (mirror (length (x ∷ v)) j)
      go (inl l) = coeff-map K.ring K.value (reverse (x ∷ v)) j x
          (omega (arith, length-reverse (x ∷ v))) ∙ ap K.value (get_or-reverse (x ∷ v) j x l)
          ∙ sym (ap (vector_of K (x ∷ v)) (mirror-below (length (x ∷ v)) j l)
          ∙ coeff-map K.ring K.value (x ∷ v) (length (x ∷ v) - 1 - j) x (omega arith))
      go (inr l) = coeff-past K.ring K.value (reverse (x ∷ v)) j
          (omega (arith, length-reverse (x ∷ v)))
          ∙ sym (ap (vector_of K (x ∷ v)) (mirror-past (length (x ∷ v)) j l)
          ∙ coeff-past K.ring K.value (x ∷ v) j l)

  pub reverse-vector : (n : ℕ) (v : List ℕ) → IsVector K n v → IsVector K n (reverse v)
  reverse-vector n v h = record {
    each = λ i d l. let q : i < length v = omega (arith, l, length-reverse v) in
        subst (IsElement K) (sym (get_or-reverse v i d q))
        (h.each (length v - 1 - i) d (omega arith));
    len = length-reverse v ∙ h.len;
  }

  pub vectors-past : (rows : List (List ℕ)) (i j : ℕ) → length rows ≤ i → vectors_of K rows i j
      ≡ K.zero
  vectors-past [] i j l = refl
  vectors-past (x ∷ rows) zero j l = absurd (omega arith)
  vectors-past (x ∷ rows) (suc i) j l = vectors-past rows i j (omega arith)

  -- a column read from the last row to the first
  module _ (rows : List (List ℕ)) (m j : ℕ) (column : List ℕ) (vectors : All (IsVector K m) rows)
      (within : j < m) (len : length column ≡ length rows)
      (value : (i : ℕ) (d : ℕ) → i < length rows → get_or column i d
      ≡ get_or (get_or rows (length rows - 1 - i) []) j d) where
    row_at : (i : ℕ) → i < length rows → IsVector K m (get_or rows (length rows - 1 - i) [])
    row_at i l = vectors (length rows - 1 - i) [] (omega arith)

    pub column-vector : IsVector K (length rows) column
    column-vector = record {
      each = λ i d l. let q : i < length rows = omega (arith, l, len) in
          subst (IsElement K) (sym (value i d q))
          ((row_at i q).each j d (omega (arith, within, (row_at i q).len)));
      len = len;
    }

    at : (i : ℕ) (d : ℕ) → i < length rows → vector_of K column i ≡ mirrored_columns K rows j i
    at i d l = coeff-map K.ring K.value column i d (omega (arith, l, len))
        ∙ ap K.value (value i d l)
        ∙ sym (coeff-map K.ring K.value (get_or rows (length rows - 1 - i) []) j d
        (omega (arith, within, (row_at i l).len)))
        ∙ ap (λ t. vectors_of K rows t j) (sym (mirror-below (length rows) i l))

    pub column-value : (i : ℕ) → vector_of K column i ≡ mirrored_columns K rows j i
    column-value i = go column refl (cases_lt i (length rows))
      where
        go : (c : List ℕ) → column ≡ c → (i < length rows) ⊎ (length rows ≤ i)
            → vector_of K column i ≡ mirrored_columns K rows j i
        go [] e (inl l) = absurd (omega (arith, len, ap length e, l))
        go (x ∷ c) e (inl l) = at i x l
        go c e (inr l) = coeff-past K.ring K.value column i (omega (arith, len, l))
            ∙ sym (ap (λ t. vectors_of K rows t j) (mirror-past (length rows) i l)
            ∙ vectors-past rows i j l)

  pub column_code : {V : Type 0} (items : V → List ℕ) (vs : List V) (m j : ℕ) (column : List ℕ)
      → All (λ v. IsVector K m (items v)) vs → j < m → length column ≡ length vs
      → ((i : ℕ) (d : ℕ) → i < length vs → get_or column i d
      ≡ get_or (get_or (map items vs) (length vs - 1 - i) []) j d)
      → IsVector K (length vs) column
      × ((i : ℕ) → vector_of K column i ≡ mirrored_columns K (map items vs) j i)
  column_code items vs m j column h l len value = (
    subst (λ n. IsVector K n column) count
        (column-vector (map items vs) m j column vectors l long at_each),
    column-value
        (map items vs) m j column vectors l long at_each,
  )
    where
      count : length (map items vs) ≡ length vs
      count = length-map vs items

      vectors : All (IsVector K m) (map items vs)
      vectors = All-map (IsVector K m) items vs h

      long : length column ≡ length (map items vs)
      long = len ∙ sym count

      at_each : (i : ℕ) (d : ℕ) → i < length (map items vs) → get_or column i d
          ≡ get_or (get_or (map items vs) (length (map items vs) - 1 - i) []) j d
      at_each i d q = value i d (omega (arith, q, count))
          ∙ ap (λ n. get_or (get_or (map items vs) (n - 1 - i) []) j d) (sym count)

  pub reversed_code : {V : Type 0} (items : V → List ℕ) (rows : List V) (n i : ℕ) (row : V)
      (w : List ℕ) → All (λ v. IsVector K n (items v)) rows → i < length rows → row
      ≡ get_or rows i row → w ≡ reverse (items row)
      → (j : ℕ) → vector_of K w j ≡ mirrored_rows K n (map items rows) i j
  reversed_code items rows n i row w h l hr hw j =
      ap (λ t. vector_of K t j) hw ∙ vector-reverse (items row) j
      ∙ ap (λ m. vector_of K (items row) (mirror m j))
      (ap (λ r. length (items r)) hr ∙ (h i row l).len)
      ∙ ap (λ t. vector_of K t (mirror n j))
      (ap items hr ∙ sym (get_or-map items rows i row [] l))
