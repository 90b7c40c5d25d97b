-- Rows that grow, and entries of polynomials.
use Rattle.std.proofs.Common.{◌≡◌, ℕ, zero, suc, ◌+◌, ◌-◌, ◌<◌, ◌≤◌, ◌⊎◌, inl, inr}
use Rattle.std.proofs.Common.{List, [], ◌∷◌, ◌++◌}
use Rattle.std.proofs.Common.{length, map, get_or, refl, sym, ◌∙◌, ap, subst, arith}
use Rattle.std.proofs.lemmas.Bool.{cases_lt}
use Rattle.std.proofs.lemmas.List.{get_or_append_left, get_or_push, length-map}
use Rattle.ff_theory.specs.Ring.{Elements}
use Rattle.ff_theory.specs.Lawful.{Lawful}
use Rattle.ff_theory.specs.Poly.{coeff, poly, polynomials}
use Rattle.ff_theory.specs.Division.{size}
use Rattle.ff_theory.specs.Values.{IsPoly, poly_of}
use Rattle.ff_theory.specs.Span.{unit_at}
use Rattle.ff_theory.specs.Vector.{vector_of, vectors_of, IsVector}
use Rattle.ff_theory.proofs.Span.{unit-same, unit-other}
use Rattle.ff_lin.specs.Space.{SpaceParts, IsSpace, rows_of, AreVectors, pivot}
use Rattle.std.specs.Global.{Vec}
use Rattle.ff_describe.specs.Readings.{IsLed}
use Rattle.ff_theory.proofs.Division.{size_le}
use Rattle.ff_theory.proofs.Coeffs.{coeff-past}
use Rattle.ff_theory.proofs.Product.{poly-coeff}
use Rattle.ff_poly.proofs.LongDivision.{poly-size}

-- what holds of each entry at its index holds with one more entry
pub pushed-at : {X : Type 0} (P : ℕ → X → Type 0) (d : X) (xs : List X) (x : X) (ys : List X)
    (i : ℕ) → ys ≡ xs ++ x ∷ [] → length xs ≡ i → ((j : ℕ) → j < i → P j (get_or xs j d)) → P i x
    → (j : ℕ) → j < i + 1 → P j (get_or ys j d)
pushed-at P d xs x ys i e n h k j l = subst (λ t. P j (get_or t j d)) (sym e) (go (cases_lt j i))
  where
    go : (j < i) ⊎ (i ≤ j) → P j (get_or (xs ++ x ∷ []) j d)
    go (inl s) = subst (P j) (sym (get_or_append_left xs (x ∷ []) d j (omega (arith, s, n))))
        (h j s)
    go (inr s) = let same : i ≡ j = omega (arith, s, l) in
        subst (P j) (sym (get_or_push xs x d j (n ∙ same))) (subst (λ t. P t x) same k)

-- one zero more
pub more-zeros : (F : Elements ℕ) (v : ℕ → F.carrier) (from j : ℕ)
    → ((i : ℕ) → from ≤ i → i < j → v i ≡ F.zero) → v j ≡ F.zero
    → (i : ℕ) → from ≤ i → i < j + 1 → v i ≡ F.zero
more-zeros F v from j h k i a b = go (cases_lt i j)
  where
    go : (i < j) ⊎ (j ≤ i) → v i ≡ F.zero
    go (inl s) = h i a s
    go (inr s) = let e : i ≡ j = omega (arith, s, b) in ap v e ∙ k

-- zeros on both sides of a one
pub unit-row : (F : Elements ℕ) (v : ℕ → F.carrier) (n r : ℕ)
    → ((j : ℕ) → 0 ≤ j → j < r → v j ≡ F.zero) → v r ≡ F.one
    → ((j : ℕ) → r + 1 ≤ j → j < n → v j ≡ F.zero)
    → (j : ℕ) → j < n → v j ≡ unit_at F.ring r j
unit-row F v n r h one k j l = go (cases_lt j r) (cases_lt r j)
  where
    go : (j < r) ⊎ (r ≤ j) → (r < j) ⊎ (j ≤ r) → v j ≡ unit_at F.ring r j
    go (inl s) q = h j (omega arith) s
        ∙ sym (unit-other F.ring r j (λ e. absurd (omega (arith, e, s))))
    go (inr s) (inl q) = k j (omega (arith, q)) l
        ∙ sym (unit-other F.ring r j (λ e. absurd (omega (arith, e, q))))
    go (inr s) (inr q) = let e : j ≡ r = omega (arith, s, q) in
        ap v e ∙ one ∙ sym (unit-same F.ring r) ∙ ap (unit_at F.ring r) (sym e)

-- a vector of an echelon basis that is not zero before n has its one there
pub led-row : (F : Elements ℕ) (s : SpaceParts) → IsSpace F s → (n i : ℕ) → i < length s.basis
    → ¬ ((j : ℕ) → 0 ≤ j → j < n → vectors_of F s.basis i j ≡ F.zero)
    → IsLed F n (vectors_of F s.basis i)
led-row F s space n i l h = go (cases_lt (pivot s i) n)
  where
    go : (pivot s i < n) ⊎ (n ≤ pivot s i) → IsLed F n (vectors_of F s.basis i)
    go (inl q) = record {
      index = pivot s i;
      below = q;
      one = space.echelon.one_at i l;
      zeros = λ j k. space.echelon.begins i j l k;
    }
    go (inr q) = absurd (h (λ j a b. space.echelon.begins i j l (omega (arith, q, b))))

-- a row of a space as the code reads it
pub read-row : (s : SpaceParts) (rows : List (Vec ℕ)) (i : ℕ) (row d : Vec ℕ)
    → rows_of rows ≡ s.basis → i < length rows → row ≡ get_or rows i d
    → get_or s.basis i [] ≡ row.items
read-row s rows i row d e l h = ap (λ t. get_or t i []) (sym e) ∙ go rows i l h
  where
    go : (rows : List (Vec ℕ)) (i : ℕ) → i < length rows → row ≡ get_or rows i d
        → get_or (rows_of rows) i [] ≡ row.items
    go [] i l h = absurd (omega (arith, l))
    go (x ∷ rows) zero l h = ap (λ (t : Vec ℕ). t.items) (sym h)
    go (x ∷ rows) (suc i) l h = go rows i (omega (arith, l)) h

-- a row of a list as the code reads it
pub row-read : (rows : List (Vec ℕ)) (i : ℕ) (row d : Vec ℕ) → i < length rows
    → row ≡ get_or rows i d → get_or (rows_of rows) i [] ≡ row.items
row-read [] i row d l e = absurd (omega (arith, l))
row-read (x ∷ rows) zero row d l e = ap (λ (t : Vec ℕ). t.items) (sym e)
row-read (x ∷ rows) (suc i) row d l e = row-read rows i row d (omega (arith, l)) e

-- and it is a vector
pub row-vector : (F : Elements ℕ) (m : ℕ) (rows : List (Vec ℕ)) (i : ℕ) (row : Vec ℕ)
    (read : List ℕ) → AreVectors F m rows → i < length rows → row ≡ get_or rows i row
    → read ≡ row.items → IsVector F m read
row-vector F m rows i row read h l e k = subst (IsVector F m) (sym k)
    (subst (λ (v : Vec ℕ). IsVector F m v.items) (sym e) (h i row l))

-- and it is the row that is read
pub row-same : (rows : List (Vec ℕ)) (i : ℕ) (row : Vec ℕ) (read : List ℕ) → i < length rows
    → row ≡ get_or rows i row → read ≡ row.items → get_or (rows_of rows) i [] ≡ read
row-same rows i row read l e k = row-read rows i row row l e ∙ sym k

-- a row of a space, and all of them
pub basis-row : (s : SpaceParts) (rows : List (Vec ℕ)) (i : ℕ) (row : Vec ℕ) (read : List ℕ)
    → rows_of rows ≡ s.basis → i < length s.basis → row ≡ get_or rows i row → read ≡ row.items
    → get_or s.basis i [] ≡ read
basis-row s rows i row read e l h k =
    let t : length (rows_of rows) ≡ length s.basis = ap length e in
    let q : length (rows_of rows) ≡ length rows = length-map rows (λ (v : Vec ℕ). v.items) in
    read-row s rows i row row e (omega (arith, l, t, q)) h ∙ sym k

pub rows-vectors : (F : Elements ℕ) (m : ℕ) (s : SpaceParts) (rows : List (Vec ℕ)) → IsSpace F s
    → rows_of rows ≡ s.basis → s.len ≡ m → AreVectors F m rows
rows-vectors F m s rows space e n i d l =
    let t : length (rows_of rows) ≡ length s.basis = ap length e in
    let q : length (rows_of rows) ≡ length rows = length-map rows (λ (v : Vec ℕ). v.items) in
    let same : get_or s.basis i [] ≡ (get_or rows i d).items
    = sym (ap (λ t. get_or t i []) e) ∙ row-read rows i (get_or rows i d) d l refl in
    subst (λ m. IsVector F m (get_or rows i d).items) n
    (subst (IsVector F s.len) same (space.rows i [] (omega (arith, l, t, q))))

-- an index that the loop has reached
pub held-index : (F : Elements ℕ) (s : SpaceParts) (rows : List (Vec ℕ)) (i : ℕ)
    → rows_of rows ≡ s.basis → 0 < i → i ≤ length s.basis → i - 1 < length rows
held-index F s rows i e pos l = let t : length (rows_of rows) ≡ length s.basis = ap length e in
    let q : length (rows_of rows) ≡ length rows = length-map rows (λ (v : Vec ℕ). v.items) in
    omega (arith, pos, l, t, q)

pub held-row : (F : Elements ℕ) (s : SpaceParts) → IsSpace F s → (rows : List (Vec ℕ)) (i : ℕ)
    (row : Vec ℕ) (read : List ℕ) → rows_of rows ≡ s.basis → 0 < i + 1 → row ≡ get_or rows i row
    → read ≡ row.items → i + 1 ≤ length s.basis → IsVector F s.len read
held-row F s space rows i row read e pos h k l =
    let q : i + 1 - 1 < length rows = held-index F s rows (i + 1) e pos l in
    let t : i < length rows = omega (arith, q) in
    subst (IsVector F s.len) (read-row s rows i row row e (omega (arith, t)) h ∙ sym k)
    (space.rows i [] (omega (arith, l)))

-- one more from below
pub more-below : (P : ℕ → Type 0) (i n : ℕ) → 0 < i → ((j : ℕ) → i ≤ j → j < n → P j)
    → P (i - 1) → (j : ℕ) → i - 1 ≤ j → j < n → P j
more-below P i n pos h k j a b = go (cases_lt j i)
  where
    go : (j < i) ⊎ (i ≤ j) → P j
    go (inl q) = let e : i - 1 ≡ j = omega (arith, q, a, pos) in subst P e k
    go (inr q) = h j q b

module _ (K : Elements ℕ) (L : Lawful K) where
  -- the coefficients of a polynomial with the value of a list
  pub read-poly : (p c : List ℕ) → poly_of K p ≡ poly_of K c → (a : ℕ)
      → vector_of K p a ≡ vector_of K c a
  read-poly p c e a = sym (poly-coeff K.ring L.laws L.tests (map K.value p) a)
      ∙ ap (λ t. coeff K.ring t.coeffs a) e ∙ poly-coeff K.ring L.laws L.tests (map K.value c) a

  short-value : (c : List ℕ) → length (poly_of K c).coeffs ≤ length c
  short-value c = size_le K.ring L.laws L.tests (poly_of K c) (length c)
      (λ i h. poly-coeff K.ring L.laws L.tests (map K.value c) i ∙ coeff-past K.ring K.value c i h)

  -- and its length
  pub read-short : (p c : List ℕ) → IsPoly K p → poly_of K p ≡ poly_of K c
      → length p ≤ length c
  read-short p c h e =
      let s : length (poly_of K p).coeffs ≡ length p
      = poly-size K.ring L.laws L.tests K.value p h.canonical in
      let t : length (poly_of K p).coeffs ≡ length (poly_of K c).coeffs
      = ap (λ t. length t.coeffs) e in
      let r : length (poly_of K c).coeffs ≤ length c = short-value c in
      omega (arith, s, t, r)
