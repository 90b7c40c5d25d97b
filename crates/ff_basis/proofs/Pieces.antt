-- Pieces of vectors as polynomials, and planes whose rows come n by n.
use Rattle.std.proofs.Common.{◌≡◌, ℕ, zero, suc, ◌+◌, ◌-◌, ◌*◌, ◌/◌, ◌%◌, ◌<◌, ◌≤◌, ◌⊎◌, inl, inr}
use Rattle.std.proofs.Common.{List, [], ◌∷◌, ◌++◌, length, map, get_or, take, drop, reverse, refl}
use Rattle.std.proofs.Common.{sym}
use Rattle.std.proofs.Common.{◌∙◌, ap, ap₂, subst, arith, All}
use Rattle.std.proofs.lemmas.Bool.{cases_lt}
use Rattle.std.proofs.lemmas.List.{length-reverse, get_or-map}
use Rattle.std.proofs.lemmas.Nat.{div-mul-add, mod-mul-add, div-add-mod'}
use Rattle.ff_theory.specs.Ring.{RingOps, Elements}
use Rattle.ff_theory.specs.Lawful.{Domain, Field}
use Rattle.ff_theory.specs.Lists.{listed}
use Rattle.ff_theory.specs.Poly.{coeff, Poly, poly, polynomials}
use Rattle.ff_theory.specs.Division.{size}
use Rattle.ff_theory.specs.Planes.{Plane}
use Rattle.ff_theory.specs.Vector.{vector_of, vectors_of, IsVector}
use Rattle.ff_theory.specs.Values.{poly_of}
use Rattle.ff_theory.proofs.PolyMap.{polynomial_domain, zero_size}
use Rattle.ff_charts.specs.Lattice.{HasShape, flat}
use Rattle.ff_charts.proofs.Rows.{polynomial_of, polynomial_at, polynomial_past, polynomial_size}
use Rattle.ff_charts.proofs.Flat.{plane_with}
use Rattle.ff_lin.specs.Kernel.{mirror}
use Rattle.ff_lin.proofs.Mirror.{mirror-below, vector-reverse}
use Rattle.ff_basis.specs.Blocks.{piece, piece_back, row_in, entry_in, part_of, reversed_part}

pub listed-ext : {C : Type 0} (n : ℕ) (g h : ℕ → C) → ((i : ℕ) → i < n → g i ≡ h i)
    → listed n g ≡ listed n h
listed-ext zero g h e = refl
listed-ext (suc n) g h e = ap₂ (λ a t. a ∷ t) (e zero (omega arith))
    (listed-ext n (λ i. g (suc i)) (λ i. h (suc i)) (λ i l. e (suc i) (omega arith)))

-- a list of entries by their index
list_listed : {E : Type 0} (R : RingOps) (f : E → R.carrier) (v : List E) (l : ℕ) → l ≤ length v
    → map f (take l v) ≡ listed l (coeff R (map f v))
list_listed R f v zero h = refl
list_listed R f [] (suc l) h = absurd (omega arith)
list_listed R f (x ∷ v) (suc l) h = ap (λ t. f x ∷ t) (list_listed R f v l (omega arith))

drop_coeff : {E : Type 0} (R : RingOps) (f : E → R.carrier) (v : List E) (at j : ℕ)
    → coeff R (map f (drop at v)) j ≡ coeff R (map f v) (at + j)
drop_coeff R f v zero j = let e : j ≡ 0 + j = omega arith in ap (coeff R (map f v)) e
drop_coeff R f [] (suc at) j = refl
drop_coeff R f (x ∷ v) (suc at) j = drop_coeff R f v at j
    ∙ (let e : suc (at + j) ≡ suc at + j = omega arith in ap (coeff R (map f (x ∷ v))) e)

drop_length : {E : Type 0} (v : List E) (at : ℕ) → length v ≤ at + length (drop at v)
drop_length v zero = omega arith
drop_length [] (suc at) = omega arith
drop_length (x ∷ v) (suc at) = let h : length v ≤ at + length (drop at v) = drop_length v at in
    omega (arith, h)

take_whole : {E : Type 0} (v : List E) → take (length v) v ≡ v
take_whole [] = refl
take_whole (x ∷ v) = ap (λ t. x ∷ t) (take_whole v)

-- a loop that pushes one entry after another, of each of which something holds
pub pushed_at : (R : RingOps) {A : Type 0} (f : A → R.carrier) (xs : List A) (y : A)
    (H : ℕ → R.carrier → Type 0) (i : ℕ) → length xs ≡ i
    → ((j : ℕ) → j < i → H j (coeff R (map f xs) j)) → H i (f y) → (j : ℕ) → j < i + 1
    → H j (coeff R (map f (xs ++ y ∷ [])) j)
pushed_at R f [] y H i e h k zero l = subst (λ n. H n (f y)) (sym e) k
pushed_at R f [] y H i e h k (suc j) l = absurd (omega arith)
pushed_at R f (x ∷ xs) y H i e h k zero l = h zero (omega arith)
pushed_at R f (x ∷ xs) y H zero e h k (suc j) l = absurd (omega arith)
pushed_at R f (x ∷ xs) y H (suc i) e h k (suc j) l = pushed_at R f xs y (λ n. H (suc n)) i
    (omega arith) (λ m q. h (suc m) (omega arith)) k j (omega arith)

-- the same for the vectors of rows
pub row_pushed : {V : Type 0} (F : Elements ℕ) (items : V → List ℕ) (xs : List V) (y : V)
    (P : ℕ → (ℕ → F.carrier) → Type 0) (i : ℕ) → length xs ≡ i
    → ((j : ℕ) → j < i → P j (vectors_of F (map items xs) j)) → P i (vector_of F (items y))
    → (j : ℕ) → j < i + 1 → P j (vectors_of F (map items (xs ++ y ∷ [])) j)
row_pushed F items [] y P i e h k zero l = subst (λ n. P n (vector_of F (items y))) (sym e) k
row_pushed F items [] y P i e h k (suc j) l = absurd (omega arith)
row_pushed F items (x ∷ xs) y P i e h k zero l = h zero (omega arith)
row_pushed F items (x ∷ xs) y P zero e h k (suc j) l = absurd (omega arith)
row_pushed F items (x ∷ xs) y P (suc i) e h k (suc j) l = row_pushed F items xs y
    (λ n. P (suc n)) i (omega arith) (λ m q. h (suc m) (omega arith)) k j (omega arith)

-- and for the entries themselves
pub entry_pushed : {V : Type 0} (xs : List V) (y : V) (P : ℕ → V → Type 0) (i : ℕ) → length xs ≡ i
    → ((j : ℕ) (e : V) → j < i → P j (get_or xs j e)) → P i y → (j : ℕ) (e : V) → j < i + 1
    → P j (get_or (xs ++ y ∷ []) j e)
entry_pushed [] y P i e h k zero d l = subst (λ n. P n y) (sym e) k
entry_pushed [] y P i e h k (suc j) d l = absurd (omega arith)
entry_pushed (x ∷ xs) y P i e h k zero d l = h zero d (omega arith)
entry_pushed (x ∷ xs) y P zero e h k (suc j) d l = absurd (omega arith)
entry_pushed (x ∷ xs) y P (suc i) e h k (suc j) d l = entry_pushed xs y (λ n. P (suc n)) i
    (omega arith) (λ m a q. h (suc m) a (omega arith)) k j d (omega arith)

-- a vector of a list of vectors, as code reads it
pub vector_read : {V : Type 0} (F : Elements ℕ) (items : V → List ℕ) (basis : List V) (m a : ℕ)
    (v : V) (now : List ℕ) → All (λ v. IsVector F m (items v)) basis → a < length basis
    → v ≡ get_or basis a v → now ≡ items v
    → IsVector F m now × (now ≡ get_or (map items basis) a [])
vector_read F items basis m a v now h l e n = (
  subst (IsVector F m) (sym n) (subst (λ w. IsVector F m (items w)) (sym e) (h a v l)),
  n ∙ ap items e ∙ sym (get_or-map items basis a v [] l),
)

module _ (F : Elements ℕ) where
  -- the l entries of a list from index `at` on
  pub slice_piece : (v : List ℕ) (at l : ℕ) → at + l ≤ length v
      → poly_of F (take (at + l - at) (drop at v)) ≡ piece F.ring (vector_of F v) at l
  slice_piece v at l h = (let e : at + l - at ≡ l = omega arith in
      ap (λ m. poly_of F (take m (drop at v))) e) ∙ ap (poly F.ring)
      (list_listed F.ring F.value (drop at v) l
      (let e : length v ≤ at + length (drop at v) = drop_length v at in omega (arith, e, h))
      ∙ listed-ext l _ _ (λ j q. drop_coeff F.ring F.value v at j))

  take_entry : (v : List ℕ) (l j : ℕ) → j < l → vector_of F (take l v) j ≡ vector_of F v j
  take_entry v zero j h = absurd (omega arith)
  take_entry [] (suc l) j h = refl
  take_entry (x ∷ v) (suc l) zero h = refl
  take_entry (x ∷ v) (suc l) (suc j) h = take_entry v l j (omega arith)

  take_length : (v : List ℕ) (l : ℕ) → l ≤ length v → length (take l v) ≡ l
  take_length v zero h = refl
  take_length [] (suc l) h = absurd (omega arith)
  take_length (x ∷ v) (suc l) h = ap suc (take_length v l (omega arith))

  -- the same entries from the last one to the first
  pub slice_back : (v w : List ℕ) (at l : ℕ) → at + l ≤ length v
      → w ≡ reverse (take (at + l - at) (drop at v))
      → poly_of F w ≡ piece_back F.ring (vector_of F v) at l
  slice_back v w at l h e = ap (poly_of F) (e ∙ (let m : at + l - at ≡ l = omega arith in
      ap (λ m. reverse (take m (drop at v))) m)) ∙ ap (poly F.ring)
      (ap (map F.value) (sym (take_whole (reverse s))) ∙ ap (λ n. map F.value (take n
      (reverse s))) len
      ∙ list_listed F.ring F.value (reverse s) l (omega (arith, len))
      ∙ listed-ext l _ _ each)
    where
      s : List ℕ
      s = take l (drop at v)

      slice_len : length s ≡ l
      slice_len = take_length (drop at v) l
          (let e : length v ≤ at + length (drop at v) = drop_length v at in omega (arith, e, h))

      len : length (reverse s) ≡ l
      len = length-reverse s ∙ slice_len

      each : (j : ℕ) → j < l → vector_of F (reverse s) j ≡ vector_of F v (at + (l - 1 - j))
      each j q = vector-reverse F s j
          ∙ ap (λ n. vector_of F s (mirror n j)) slice_len
          ∙ ap (vector_of F s) (mirror-below l j q)
          ∙ take_entry (drop at v) l (l - 1 - j) (omega arith)
          ∙ drop_coeff F.ring F.value v at (l - 1 - j)

pub times_mono : (x y l : ℕ) → x ≤ y → x * l ≤ y * l
times_mono zero y l h = let e : 0 * l ≡ 0 = omega arith in omega (arith, e)
times_mono (suc x) zero l h = absurd (omega arith)
times_mono (suc x) (suc y) l h = let i : x * l ≤ y * l = times_mono x y l (omega arith) in
    let e : suc x * l ≡ l + x * l = omega arith in
    let f : suc y * l ≡ l + y * l = omega arith in omega (arith, i, e, f)

-- row i of n rows of l entries ends inside
pub row_room : (n l i : ℕ) → i < n → i * l + l ≤ n * l
row_room n l i q = let h : suc i * l ≤ n * l = times_mono (suc i) n l (omega arith) in
    let e : suc i * l ≡ l + i * l = omega arith in omega (arith, h, e)

-- a product that is above a number has positive factors
pub factor_positive : (a n s : ℕ) → s < a * n → 0 < n
factor_positive a zero s q = absurd (let e : a * 0 ≡ 0 = omega arith in omega (arith, e, q))
factor_positive a (suc n) s q = omega arith

pub quotient_below : (m n l : ℕ) → m < n * l → m / l < n
quotient_below m n l q = go (cases_lt (m / l) n)
  where
    go : (m / l < n) ⊎ (n ≤ m / l) → m / l < n
    go (inl s) = s
    go (inr s) = absurd (let e : m / l * l + m % l ≡ m = div-add-mod' m l in
        let g : n * l ≤ m / l * l = times_mono n (m / l) l s in omega (arith, e, g, q))

module _ (K : Field) (n l : ℕ) where
  abbrev P : Domain
  P = polynomial_domain K

  abbrev row_at : Plane K → ℕ → Poly K.ring
  row_at N i = coeff (polynomials K.ring) N.coeffs i

  -- row i of plane a is row a * n + i
  pub part_at : (rows : List (Poly K.ring)) (a i : ℕ) → i < n
      → coeff (polynomials K.ring) (part_of K.ring rows n a).coeffs i
      ≡ coeff (polynomials K.ring) rows (a * n + i)
  part_at rows a i q = polynomial_at (polynomials K.ring) P.laws P.tests n
      (λ b. coeff (polynomials K.ring) rows (a * n + b)) i q

  pub part_shape : (rows : List (Poly K.ring)) (a : ℕ)
      → ((i : ℕ) → i < n → size K.ring (coeff (polynomials K.ring) rows (a * n + i)) ≤ l)
      → HasShape K.ring n l (part_of K.ring rows n a)
  part_shape rows a h = record {
    rows = polynomial_size (polynomials K.ring) P.laws P.tests n g;
    each = λ i. go i (cases_lt i n);
  }
    where
      g : ℕ → Poly K.ring
      g b = coeff (polynomials K.ring) rows (a * n + b)

      go : (i : ℕ) → (i < n) ⊎ (n ≤ i) → size K.ring (row_at (part_of K.ring rows n a) i) ≤ l
      go i (inl s) = subst (λ p. size K.ring p ≤ l) (sym (part_at rows a i s)) (h i s)
      go i (inr s) = subst (λ p. size K.ring p ≤ l)
          (sym (polynomial_past (polynomials K.ring) P.laws P.tests n g i s))
          (let z : size K.ring P.zero ≡ 0 = zero_size K in omega (arith, z))

  -- the entries of plane a from the last one to the first
  pub part_entry : (rows : List (Poly K.ring)) (a j : ℕ) → j < n * l
      → entry_in K.ring rows (a * n) l (n * l - 1 - j) ≡ reversed_part K.ring rows n l a j
  part_entry rows a j q = ap (λ (p : Poly K.ring). coeff K.ring p.coeffs (m % l))
      (sym (part_at rows a (m / l) row))
      ∙ ap (flat K.ring l (part_of K.ring rows n a)) (sym (mirror-below (n * l) j q))
    where
      m : ℕ
      m = n * l - 1 - j

      row : m / l < n
      row = quotient_below m n l (omega (arith, q))

  -- row a * n + i of the planes of vectors
  pub row_of_vector : (b : ℕ → ℕ → K.carrier) (a i : ℕ) → i < n
      → row_in K.ring b n l (a * n + i)
      ≡ coeff (polynomials K.ring) (plane_with K l n (b a)).coeffs i
  row_of_vector b a i q = ap₂ (λ s t. piece K.ring (b s) (t * l) l) (div-mul-add a n i q)
      (mod-mul-add a n i q)
      ∙ sym (polynomial_at (polynomials K.ring) P.laws P.tests n
      (λ i. polynomial_of K.ring K.laws K.tests l (λ j. b a (i * l + j))) i q)

  -- the same by its own index
  pub row_by_index : (b : ℕ → ℕ → K.carrier) (s : ℕ) → s % n < n → row_in K.ring b n l s
      ≡ coeff (polynomials K.ring) (plane_with K l n (b (s / n))).coeffs (s % n)
  row_by_index b s q = sym (polynomial_at (polynomials K.ring) P.laws P.tests n
      (λ i. polynomial_of K.ring K.laws K.tests l (λ j. b (s / n) (i * l + j))) (s % n) q)
