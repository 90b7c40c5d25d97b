use Rattle.std.proofs.Common.{◌≡◌, ℕ, zero, suc, ◌+◌, ◌-◌, ◌*◌, ◌<◌, ◌≤◌, ◌⊎◌, inl, inr, max, false}
use Rattle.std.proofs.Common.{not, cond, nat_eq, IsTrue, List, [], ◌∷◌, ◌++◌, length, map, get_or}
use Rattle.std.proofs.Common.{refl, sym, ◌∙◌, ap, ap₂, arith}
use Rattle.std.proofs.lemmas.Bool.{cases_lt, ne_eqb}
use Rattle.std.proofs.lemmas.List.{length-map}
use Rattle.ff_theory.specs.Ring.{RingOps, IsCommRing, IsTested, Elements, power}
use Rattle.ff_theory.specs.Poly.{coeff, ends_in_nonzero, Poly, poly, polynomials}
use Rattle.ff_theory.specs.Division.{size}
use Rattle.ff_theory.proofs.Solver.{zero_mul}
use Rattle.ff_theory.proofs.Poly.{trim_same, polynomial_laws, polynomial_tests}
use Rattle.ff_theory.proofs.Coeffs.{coeff-past, poly_ext}
use Rattle.ff_theory.proofs.Division.{size-mul, coeff-beyond}
use Rattle.ff_theory.proofs.Gcd.{no_size}
use Rattle.ff_theory.proofs.PolyMap.{same_false}
use Rattle.ff_theory.specs.Values.{poly_of, plane_of, IsPlane, x_size}
use Rattle.ff_theory.specs.Monic.{monic_rows, monic_form, rows_of}
use Rattle.ff_theory.specs.Lawful.{Field, Lawful, lawful_field}
use Rattle.ff_poly.proofs.LongDivision.{poly-size}
use Rattle.ff_poly.proofs.RowLists.{row-value}

-- the greatest of f 0, f 1, .. up to the place before n
abbrev pub greatest : ℕ → (ℕ → ℕ) → ℕ
greatest zero f = 0
greatest (suc n) f = max (greatest n f) (f n)

greatest-front : (n : ℕ) (f : ℕ → ℕ) → greatest (suc n) f
    ≡ max (f zero) (greatest n (λ i. f (suc i)))
greatest-front zero f = omega arith
greatest-front (suc n) f = omega (arith, greatest-front n f)

greatest-ext : (n : ℕ) (f g : ℕ → ℕ) → ((i : ℕ) → i < n → f i ≡ g i) → greatest n f ≡ greatest n g
greatest-ext zero f g h = refl
greatest-ext (suc n) f g h = ap₂ max (greatest-ext n f g (λ i l. h i (omega arith)))
    (h n (omega arith))

-- the degree of row i of the monic form, as the lengths of the rows tell it
abbrev pub row_degree_of : {E : Type 0} → List (List E) → ℕ → ℕ → ℕ → ℕ
row_degree_of rows n m i = cond (nat_eq (length (get_or rows i [])) 0) 0
    (length (get_or rows i []) - 1 + (n - 1 - i) * m)

degree-none : (l y : ℕ) → l ≡ 0 → cond (nat_eq l 0) 0 (l - 1 + y) ≡ 0
degree-none zero y e = refl
degree-none (suc l) y e = absurd (omega arith)

degree-some : (l y : ℕ) → 0 < l → cond (nat_eq l 0) 0 (l - 1 + y) + 1 ≡ l + y
degree-some zero y h = absurd (omega arith)
degree-some (suc l) y h = ap (λ b. cond b 0 (suc l - 1 + y) + 1)
    (ne_eqb (suc l) 0 (λ e. absurd (omega arith)))
    ∙ (let k : suc l - 1 + y + 1 ≡ suc l + y = omega arith in k)

-- degrees and sizes
greatest-suc : (n : ℕ) (d s : ℕ → ℕ) → ((i : ℕ) → i < n → d i + 1 ≡ max (s i) 1) → greatest n d + 1
    ≡ max (greatest n s) 1
greatest-suc zero d s h = omega arith
greatest-suc (suc n) d s h = omega (
  arith,
  greatest-suc n d s (λ i l. h i (omega arith)),
  h n
      (omega arith),
)

module _ (R : RingOps) where
  -- a list with one entry pushed
  pub pushed-below : {E : Type 0} (f : E → R.carrier) (xs : List E) (y : E) (i : ℕ) → i < length xs
      → coeff R (map f (xs ++ y ∷ [])) i ≡ coeff R (map f xs) i
  pushed-below f [] y i l = absurd (omega arith)
  pushed-below f (x ∷ xs) y zero l = refl
  pushed-below f (x ∷ xs) y (suc i) l = pushed-below f xs y i (omega arith)

  pub pushed-at : {E : Type 0} (f : E → R.carrier) (xs : List E) (y : E) (i : ℕ) → i ≡ length xs
      → coeff R (map f (xs ++ y ∷ [])) i ≡ f y
  pushed-at f [] y zero e = refl
  pushed-at f [] y (suc i) e = absurd (omega arith)
  pushed-at f (x ∷ xs) y zero e = absurd (omega arith)
  pushed-at f (x ∷ xs) y (suc i) e = pushed-at f xs y i (omega arith)

  pub monic-length : (t : R.carrier) (p : List R.carrier) → length (monic_rows R t p) ≡ length p
  monic-length t [] = refl
  monic-length t (a ∷ []) = refl
  monic-length t (a ∷ b ∷ p) = ap suc (monic-length t (b ∷ p))

  monic-below : (t : R.carrier) (p : List R.carrier) (n i : ℕ) → length p ≡ suc n → i < n
      → coeff R (monic_rows R t p) i ≡ R.mul (coeff R p i) (power R t (n - 1 - i))
  monic-below t [] n i e l = absurd (omega arith)
  monic-below t (a ∷ []) n i e l = absurd (omega arith)
  monic-below t (a ∷ b ∷ p) n zero e l = ap (λ m. R.mul a (power R t m))
      (let k : length p ≡ n - 1 - 0 = omega arith in k)
  monic-below t (a ∷ b ∷ p) n (suc i) e l = monic-below t (b ∷ p) (n - 1) i (omega arith)
      (omega arith) ∙ ap (λ m. R.mul (coeff R (b ∷ p) i) (power R t m))
      (let k : n - 1 - 1 - i ≡ n - 1 - suc i = omega arith in k)

  monic-last : (t : R.carrier) (p : List R.carrier) (n : ℕ) → length p ≡ suc n
      → coeff R (monic_rows R t p) n ≡ R.one
  monic-last t [] n e = absurd (omega arith)
  monic-last t (a ∷ []) zero e = refl
  monic-last t (a ∷ []) (suc n) e = absurd (omega arith)
  monic-last t (a ∷ b ∷ p) zero e = absurd (omega arith)
  monic-last t (a ∷ b ∷ p) (suc n) e = monic-last t (b ∷ p) n (omega arith)

  monic-canonical : (t : R.carrier) (p : List R.carrier) → R.same R.one R.zero ≡ false
      → 0 < length p → IsTrue (ends_in_nonzero R (monic_rows R t p))
  monic-canonical t [] h l = absurd (omega arith)
  monic-canonical t (a ∷ []) h l = ap not h
  monic-canonical t (a ∷ b ∷ p) h l = cons (R.mul a (power R t (length p))) (monic_rows R t (b ∷ p))
      (monic-canonical t (b ∷ p) h (omega arith))
      (let e : length (monic_rows R t (b ∷ p)) ≡ suc (length p) = monic-length t (b ∷ p) in omega
      (arith, e))
    where
      cons : (x : R.carrier) (q : List R.carrier) → IsTrue (ends_in_nonzero R q) → 0 < length q
          → IsTrue (ends_in_nonzero R (x ∷ q))
      cons x [] k m = absurd (omega arith)
      cons x (y ∷ q) k m = k

module _ (R : RingOps) (laws : IsCommRing R) (tests : IsTested R) where
  -- rows that a loop computed
  pub monic_by_loop : {A : Type 0} (f : A → R.carrier) (p q : List A) (t : R.carrier) (n : ℕ)
      → length p ≡ suc n → length q ≡ suc n → IsTrue (ends_in_nonzero R (map f p)) → t
      ≡ coeff R (map f p) n
      → ((i : ℕ) → i < n → coeff R (map f q) i ≡ R.mul (coeff R (map f p) i)
      (power R t (n - 1 - i))) → coeff R (map f q) n ≡ R.one
      → poly R (map f q) ≡ monic_form R (poly R (map f p))
  unfolding poly monic_form
  monic_by_loop f p q t n lp lq h ht below last =
      poly_ext R laws tests (map f q) (monic_rows R t (map f p)) (λ i. all i (cases_lt i n))
      ∙ ap (λ t. poly R (monic_rows R t (map f p)))
      (ht ∙ ap (coeff R (map f p)) (let e : n ≡ length (map f p) - 1 = omega (arith, size) in e))
      ∙ ap (λ l. poly R (monic_rows R (coeff R l (length l - 1)) l))
      (sym (trim_same R laws tests (map f p) h))
    where
      size : length (map f p) ≡ length p
      size = length-map p f

      rows : length (monic_rows R t (map f p)) ≡ length (map f p)
      rows = monic-length R t (map f p)

      all : (i : ℕ) → (i < n) ⊎ (n ≤ i) → coeff R (map f q) i ≡ coeff R (monic_rows R t (map f p)) i
      all i (inl l) = below i l ∙ sym (monic-below R t (map f p) n i (size ∙ lp) l)
      all i (inr l) = go (cases_lt n i)
        where
          go : (n < i) ⊎ (i ≤ n) → coeff R (map f q) i ≡ coeff R (monic_rows R t (map f p)) i
          go (inl m) = coeff-past R f q i (omega arith) ∙ sym
              (coeff-beyond R laws tests (monic_rows R t (map f p)) i (omega (arith, rows, size)))
          go (inr m) = let e : i ≡ n = omega arith in ap (coeff R (map f q)) e ∙ last
              ∙ sym (monic-last R t (map f p) n (size ∙ lp))
              ∙ ap (coeff R (monic_rows R t (map f p))) (sym e)

  -- the coefficients of a monic form
  pub monic_form-coeffs : (p : List R.carrier) → IsTrue (ends_in_nonzero R p) → R.same R.one R.zero
      ≡ false → 0 < length p → (monic_form R (poly R p)).coeffs
      ≡ monic_rows R (coeff R p (length p - 1)) p
  unfolding poly monic_form
  monic_form-coeffs p h one l = ap (λ l.
      (poly R (monic_rows R (coeff R l (length l - 1)) l)).coeffs) (trim_same R laws tests p h)
      ∙ trim_same R laws tests (monic_rows R (coeff R p (length p - 1)) p)
      (monic-canonical R (coeff R p (length p - 1)) p one l)

x_size-greatest : (R : RingOps) (L : List (Poly R)) → x_size (map (λ p. p.coeffs) L)
    ≡ greatest (length L) (λ i. size R (coeff (polynomials R) L i))
x_size-greatest R [] = refl
x_size-greatest R (p ∷ L) = ap (max (size R p)) (x_size-greatest R L)
    ∙ sym (greatest-front (length L) (λ i. size R (coeff (polynomials R) (p ∷ L) i)))

module _ (F : Field) where
  open F use {ring as R, laws, tests, is_field as field}

  PL : IsCommRing (polynomials R)
  PL = polynomial_laws R laws tests

  one-size : size R (polynomials R).one ≡ 1
  one-size = poly-size R laws tests (λ c. c) (R.one ∷ [])
      (ap not (same_false R tests R.one R.zero field.one_not_zero))

  zero-size : size R (polynomials R).zero ≡ 0
  unfolding poly
  zero-size = refl

  -- the size of a power
  pub power-size : (t : Poly R) (m e : ℕ) → size R t ≡ suc m → size R (power (polynomials R) t e)
      ≡ suc (e * m)
  power-size t m zero h = one-size ∙ (let k : 1 ≡ suc (0 * m) = omega arith in k)
  power-size t m (suc e) h = size-mul F t (power (polynomials R) t e) m
      (e * m) h (power-size t m e h) ∙ (let k : suc (m + e * m)
      ≡ suc (suc e * m) = omega (arith, suc-mul e m) in k)
    where
      suc-mul : (e m : ℕ) → suc e * m ≡ m + e * m
      suc-mul e m = omega arith

  -- the degree of a row of the monic form
  row-degree : (a t : Poly R) (m e s d : ℕ) → size R t ≡ suc m → size R a ≡ s → (s ≡ 0 → d ≡ 0)
      → (0 < s → d + 1 ≡ s + e * m) → d + 1 ≡ max
      (size R ((polynomials R).mul a (power (polynomials R) t e))) 1
  row-degree a t m e zero d ht ha hz hp =
      let none : size R ((polynomials R).mul a (power (polynomials R) t e))
      ≡ 0 = ap (size R) (ap (λ a. (polynomials R).mul a (power (polynomials R) t e))
      (no_size F a ha) ∙ zero_mul (polynomials R) PL
      (power (polynomials R) t e)) ∙ zero-size in
      omega (arith, none, hz refl)
  row-degree a t m e (suc s) d ht ha hz hp =
      let n = size-mul F a (power (polynomials R) t e) s (e * m) ha
      (power-size t m e ht) in
      omega (arith, n, hp (omega arith))

  -- the degree of the monic form, from the degrees of its rows
  pub monic-degree : (p : List (Poly R)) (n m : ℕ) (d : ℕ → ℕ)
      → IsTrue (ends_in_nonzero (polynomials R) p) → length p ≡ suc n
      → size R (coeff (polynomials R) p n) ≡ suc m
      → ((i : ℕ) → i < n → size R (coeff (polynomials R) p i) ≡ 0 → d i ≡ 0)
      → ((i : ℕ) → i < n → 0 < size R (coeff (polynomials R) p i) → d i + 1
      ≡ size R (coeff (polynomials R) p i) + (n - 1 - i) * m)
      → greatest n d + 1 ≡ x_size (rows_of R (monic_form (polynomials R) (poly (polynomials R) p)))
  monic-degree p n m d h lp ht hz hp =
      greatest-suc n d (λ i. size R (coeff P M i)) rows
      ∙ ap (max (greatest n (λ i. size R (coeff P M i)))) (sym last)
      ∙ ap (λ k. greatest k (λ i. size R (coeff P M i))) (sym (monic-length P t p ∙ lp))
      ∙ sym (x_size-greatest R M)
      ∙ ap (λ l. x_size (map (λ (p : Poly R). p.coeffs) l))
      (ap (λ k. monic_rows P (coeff P p k) p) (let e : n ≡ length p - 1 = omega arith in e)
      ∙ sym (monic_form-coeffs P PL (polynomial_tests R laws tests) p h one (omega arith)))
    where
      P : RingOps
      P = polynomials R

      t : Poly R
      t = coeff P p n

      M : List (Poly R)
      M = monic_rows P t p

      one : (polynomials R).same (polynomials R).one (polynomials R).zero ≡ false
      one = same_false P (polynomial_tests R laws tests) (polynomials R).one (polynomials R).zero
          (λ e. let z : 1 ≡ 0 = sym one-size ∙ ap (size R) e ∙ zero-size in absurd (omega arith))

      last : size R (coeff P M n) ≡ 1
      last = ap (size R) (monic-last P t p n lp) ∙ one-size

      rows : (i : ℕ) → i < n → d i + 1 ≡ max (size R (coeff P M i)) 1
      rows i l = row-degree (coeff P p i) t m (n - 1 - i) (size R (coeff P p i)) (d i) ht refl
          (hz i l) (hp i l) ∙ ap (λ (a : Poly R). max (size R a) 1)
          (sym (monic-below P t p n i lp l))

module _ {E : Type 0} {K : Elements E} (L : Lawful K) where
  open L use {laws, tests}

  row-size : (rows : List (List E)) (i : ℕ) → IsPlane K rows → i < length rows
      → size K.ring (coeff (polynomials K.ring) (map (λ p. poly_of K p) rows) i)
      ≡ length (get_or rows i [])
  row-size rows i h l = ap (size K.ring) (sym (row-value K rows i))
      ∙ poly-size K.ring laws tests K.value (get_or rows i []) (h.each i [] l).canonical

  -- the degree that the code counts
  pub rows_degree : (rows : List (List E)) (n m d : ℕ) (lead : List E) → IsPlane K rows
      → length rows ≡ suc n → 0 < length lead → lead ≡ get_or rows n [] → m ≡ length lead - 1
      → d ≡ greatest n (row_degree_of rows n m) → d + 1
      ≡ x_size (rows_of K.ring (monic_form (polynomials K.ring) (plane_of K rows)))
  rows_degree rows n m d lead h ln pos hl hm hd =
      ap (λ d. d + 1) hd ∙ monic-degree (lawful_field L)
      (map (λ p. poly_of K p) rows) n m (row_degree_of rows n m) h.canonical
      (length-map rows (λ p. poly_of K p) ∙ ln)
      (row-size rows n h (omega arith) ∙ sym (ap length hl)
      ∙ (let e : length lead ≡ suc m = omega arith in e))
      (λ i l z. degree-none (length (get_or rows i [])) ((n - 1 - i) * m)
      (sym (row-size rows i h (omega arith)) ∙ z))
      (λ i l z. degree-some (length (get_or rows i [])) ((n - 1 - i) * m)
      (omega (arith, row-size rows i h (omega arith), z))
      ∙ ap (λ s. s + (n - 1 - i) * m) (sym (row-size rows i h (omega arith))))
