-- The rows of a sum: what is written into them, and the polynomials that they become.
use Rattle.std.proofs.Common.{◌≡◌, ℕ, zero, suc, ◌+◌, ◌<◌, ◌≤◌, Bool, true, false, cond, eqb}
use Rattle.std.proofs.Common.{IsTrue, nat_lt, Result, Ok, Err, List, [], ◌∷◌, length, map}
use Rattle.std.proofs.Common.{get_or, set, replicate, refl, sym, ap, subst, ◌∙◌, arith, below_more}
use Rattle.std.proofs.Common.{eq-eqb, ◌≢◌, ◌++◌, ◌⊎◌, inl, inr, ⊎_elim}
use Rattle.std.proofs.lemmas.List.Elements.{All-set, All-push}
use Rattle.std.specs.Prelude.{IfOk}
use Rattle.std.specs.List.{All, Any}
use Rattle.std.proofs.lemmas.Bool.{eqb-true, cases_lt, cases_eq, lt-ltb}
use Rattle.std.proofs.lemmas.List.{length-append, get_or_append_left, get_or_push, get_or-replicate}
use Rattle.std.proofs.lemmas.List.{get_or_past, length-replicate, get_or-set_same}
use Rattle.std.proofs.lemmas.List.{get_or-set_other, length-set}
use Rattle.ff_theory.specs.Residue.{residue, residues}
use Rattle.ff_theory.specs.PrimeTable.{primes, is_in, prime_elements}
use Rattle.ff_theory.specs.Poly.{Poly, poly, polynomials, coeff}
use Rattle.ff_theory.proofs.Coeffs.{coeff-map, coeff-past}
use Rattle.ff_theory.proofs.Poly.{trim-coeff, polynomial_laws, polynomial_tests}
use Rattle.ff_theory.proofs.PrimeField.{above_one}
use Rattle.ff_theory.proofs.Prime.{prime_ring_laws, prime_tests, same_residue}
use Rattle.ff_theory.specs.Values.{ArePolys, IsPoly, IsPlane, poly_of, plane_of}
use Rattle.ff_text.specs.declared.reader.Monomial.{Monomial}
use Rattle.ff_text.specs.Sums.{total, HasPowers, IsCollected, IsSum, IsSumInX, write, write_all}

-- ---- What is written

All-tail : {X : Type 0} (P : X → Type 0) (x : X) (xs : List X) → All P (x ∷ xs) → All P xs
All-tail P x xs h k d l = h (suc k) d (omega arith)

All-first : {X : Type 0} (P : X → Type 0) (x : X) (xs : List X) → All P (x ∷ xs) → P x
All-first P x xs h = h 0 x (omega arith)

below_write : (p j : ℕ) (row : List ℕ) (m : Monomial) → All (λ c. c < p) row → m.coefficient < p
    → All (λ c. c < p) (write j row m)
below_write p j row m h lt = go (eqb m.y j)
  where
    go : (b : Bool) → All (λ c. c < p) (cond b (set row m.x m.coefficient) row)
    go true = All-set (λ c. c < p) row m.x m.coefficient lt h
    go false = h

length-write : (j : ℕ) (row : List ℕ) (m : Monomial) → length (write j row m) ≡ length row
length-write j row m = go (eqb m.y j)
  where
    go : (b : Bool) → length (cond b (set row m.x m.coefficient) row) ≡ length row
    go true = length-set row m.x m.coefficient
    go false = refl

-- the entries stay below p
pub below_write_all : (p j : ℕ) (ms : List Monomial) (row : List ℕ) → All (λ c. c < p) row
    → All (λ m. m.coefficient < p) ms → All (λ c. c < p) (write_all j row ms)
below_write_all p j [] row h a = h
below_write_all p j (m ∷ ms) row h a = below_write_all p j ms (write j row m)
    (below_write p j row m h (All-first (λ m. m.coefficient < p) m ms a))
    (All-tail (λ m. m.coefficient < p) m ms a)

Any-cases : (P : Monomial → Type 0) (m : Monomial) (ms : List Monomial) → Any P (m ∷ ms) → P m
    ⊎ Any P ms
Any-cases P m ms (zero, x, lt, e, h) = inl (subst P (sym e) h)
Any-cases P m ms (suc k, x, lt, e, h) = inr (k, x, omega arith, e, h)

-- Where each term with y^j has the coefficient that f gives its power of x, a row of such entries
-- and zeros stays one,
-- and gets each of them that a term has.
module _ (f : ℕ → ℕ) (j : ℕ) where
  IsRight : List ℕ → ℕ → Type 0
  IsRight row i = (get_or row i 0 ≡ f i) ⊎ (get_or row i 0 ≡ 0)

  Agrees : Monomial → Type 0
  Agrees m = m.y ≡ j → m.coefficient ≡ f m.x

  write_at : (row : List ℕ) (m : Monomial) (i : ℕ) → m.x < length row → Agrees m
      → (get_or (write j row m) i 0 ≡ get_or row i 0) ⊎ (get_or (write j row m) i 0 ≡ f i)
  unfolding Agrees
  write_at row m i lt a = go (eqb m.y j) refl
    where
      go : (b : Bool) → eqb m.y j ≡ b
          → (get_or (cond b (set row m.x m.coefficient) row) i 0 ≡ get_or row i 0)
          ⊎ (get_or (cond b (set row m.x m.coefficient) row) i 0 ≡ f i)
      go true e = ⊎_elim
          (λ (s : i ≡ m.x). inr (ap (λ k. get_or (set row m.x m.coefficient) k 0) s
          ∙ get_or-set_same row m.x m.coefficient 0 lt ∙ a (eqb-true _ _ e) ∙ ap f (sym s)))
          (λ (n : i ≢ m.x). inl (get_or-set_other row m.x i m.coefficient 0 n))
          (cases_eq i m.x)
      go false e = inl refl

  write_here : (row : List ℕ) (m : Monomial) (i : ℕ) → m.x < length row → Agrees m → HasPowers i j m
      → get_or (write j row m) i 0 ≡ f i
  unfolding Agrees
  write_here row m i lt a h = rw (eq-eqb m.y j h.1)
      (ap (λ k. get_or (set row m.x m.coefficient) k 0) (sym h.0)
      ∙ get_or-set_same row m.x m.coefficient 0 lt ∙ a h.1 ∙ ap f h.0)

  write_all_right : (ms : List Monomial) (row : List ℕ) (i : ℕ) → All (λ m. m.x < length row) ms
      → All Agrees ms → IsRight row i
      → IsRight (write_all j row ms) i
      × ((get_or row i 0 ≡ f i) ⊎ Any (HasPowers i j) ms → get_or (write_all j row ms) i 0
      ≡ f i)
  unfolding IsRight
  write_all_right [] row i within a
      r = (r, λ h. elim h [ inl e ↦ e | inr n ↦ absurd (omega (arith, n.2)) ])
  write_all_right (m ∷ ms) row i within a r =
      let lt : m.x < length row = All-first (λ m. m.x < length row) m ms within in
      let am = All-first Agrees m ms a in
      let new = write j row m in
      let w = write_at row m i lt am in
      let within' : All (λ m. m.x < length new) ms = subst (λ n. All (λ m. m.x < n) ms)
      (sym (length-write j row m)) (All-tail (λ m. m.x < length row) m ms within) in
      let r' : IsRight new i = elim w
      [ inl e ↦ elim r [ inl t ↦ inl (e ∙ t) | inr t ↦ inr (e ∙ t) ] | inr t ↦ inl t ] in
      let rest = write_all_right ms new i within' (All-tail Agrees m ms a) r' in (
        rest.0,
        λ h. rest.1 (elim h [
          | inl t ↦ inl (elim w [ inl e ↦ e ∙ t | inr e ↦ e ])
          | inr n ↦ elim (Any-cases (HasPowers i j) m ms n)
              [ inl g ↦ inl (write_here row m i lt am g) | inr g ↦ inr g ]
        ]),
      )

-- the row of y^j of a sum
pub row_same : (p j : ℕ) (terms cs : List Monomial) (width : ℕ) → IsCollected p terms cs
    → All (λ m. m.x < width) cs
    → (i : ℕ) → get_or (write_all j (replicate width 0) cs) i 0 ≡ total p terms i j
unfolding IsRight Agrees
row_same p j terms cs width c within i =
    let f = λ (i : ℕ). total p terms i j in
    let zs : List ℕ = replicate width 0 in
    let zeros : get_or zs i 0 ≡ 0 = ⊎_elim (λ (lt : i < width). get_or-replicate width i 0 0 lt) (λ
    (le : width ≤ i). get_or_past zs i 0 (omega (arith, length-replicate {A = ℕ} width 0)))
    (cases_lt i width) in
    let within' : All (λ (m : Monomial). m.x < length zs) cs = subst (λ n. All (λ m. m.x < n) cs)
    (sym (length-replicate width 0)) within in
    let agrees : All (Agrees f j) cs = λ k d l e. (c.each k d l).0
    ∙ ap (λ y. total p terms (get_or cs k d).x y) e in
    let w = write_all_right f j cs (replicate width 0) i within' agrees (inr zeros) in
    ⊎_elim (λ (lt : 0 < total p terms i j). w.1 (inr (c.all i j lt)))
    (λ (le : total p terms i j ≤ 0). elim w.0 [ inl e ↦ e | inr e ↦ omega (arith, e, le) ])
    (cases_lt 0 (total p terms i j))

-- ---- Coefficients of polynomials over the field of p elements

module _ (p : ℕ) (known : IsTrue (is_in p primes)) where
  pos : 0 < p
  pos = omega (arith, above_one p known)

  value_at : (xs : List ℕ) (i : ℕ) → coeff (residues p) (map (residue p) xs) i
      ≡ residue p (get_or xs i 0)
  value_at xs i = ⊎_elim
      (λ (lt : i < length xs). coeff-map (residues p) (residue p) xs i 0 lt)
      (λ (le : length xs ≤ i). coeff-past (residues p) (residue p) xs i le
      ∙ ap (residue p) (sym (get_or_past xs i 0 le)))
      (cases_lt i (length xs))

  below_p : (xs : List ℕ) (i : ℕ) → All (λ c. IsTrue (nat_lt c p)) xs
      → IsTrue (nat_lt (get_or xs i 0) p)
  below_p xs i h = ⊎_elim
      (λ (lt : i < length xs). h i 0 lt)
      (λ (le : length xs ≤ i). rw (get_or_past xs i 0 le) (lt-ltb 0 p pos))
      (cases_lt i (length xs))

  -- two lists of one polynomial have the same coefficients
  pub same_coefficients : (a b : List ℕ) → All (λ c. IsTrue (nat_lt c p)) a
      → All (λ c. IsTrue (nat_lt c p)) b → poly_of (prime_elements p) a
      ≡ poly_of (prime_elements p) b
      → (i : ℕ) → get_or a i 0 ≡ get_or b i 0
  unfolding poly
  same_coefficients a b ha hb e i =
      let laws = prime_ring_laws p known in
      let tests = prime_tests p in
      let t = ap (λ (q : Poly (residues p)). coeff (residues p) q.coeffs i) e in
      same_residue p (get_or a i 0) (get_or b i 0) (below_p a i ha) (below_p b i hb)
      (sym (value_at a i) ∙ sym (trim-coeff (residues p) laws tests (map (residue p) a) i) ∙ t
      ∙ trim-coeff (residues p) laws tests (map (residue p) b) i ∙ value_at b i)

  row_at : (rows : List (List ℕ)) (j : ℕ)
      → coeff (polynomials (residues p)) (map (λ r. poly_of (prime_elements p) r) rows) j
      ≡ poly_of (prime_elements p) (get_or rows j [])
  row_at rows j = ⊎_elim
      (λ (lt : j < length rows). coeff-map (polynomials (residues p))
      (λ r. poly_of (prime_elements p) r) rows j [] lt)
      (λ (le : length rows ≤ j). coeff-past (polynomials (residues p))
      (λ r. poly_of (prime_elements p) r) rows j le
      ∙ ap (λ r. poly_of (prime_elements p) r) (sym (get_or_past rows j [] le)))
      (cases_lt j (length rows))

  rows_below : (rows : List (List ℕ)) (j : ℕ) → ArePolys (prime_elements p) rows
      → All (λ c. IsTrue (nat_lt c p)) (get_or rows j [])
  rows_below rows j h = ⊎_elim
      (λ (lt : j < length rows). (h j [] lt).each)
      (λ (le : length rows ≤ j). rw (get_or_past rows j [] le) (λ k d l. absurd (omega arith)))
      (cases_lt j (length rows))

  -- and so do two lists of rows
  pub same_rows : (a b : List (List ℕ)) → ArePolys (prime_elements p) a
      → ArePolys (prime_elements p) b → plane_of (prime_elements p) a
      ≡ plane_of (prime_elements p) b
      → (i j : ℕ) → get_or (get_or a j []) i 0 ≡ get_or (get_or b j []) i 0
  unfolding poly
  same_rows a b ha hb e i j =
      let laws = prime_ring_laws p known in
      let tests = prime_tests p in
      let Rs = polynomials (residues p) in
      let Ls = polynomial_laws (residues p) laws tests in
      let Ts = polynomial_tests (residues p) laws tests in
      let t = ap (λ (q : Poly Rs). coeff Rs q.coeffs j) e in
      same_coefficients (get_or a j []) (get_or b j []) (rows_below a j ha) (rows_below b j hb)
      (sym (row_at a j) ∙ sym (trim-coeff Rs Ls Ts (map (λ r. poly_of (prime_elements p) r) a) j)
      ∙ t ∙ trim-coeff Rs Ls Ts (map (λ r. poly_of (prime_elements p) r) b) j ∙ row_at b j) i

-- the elements of the field, as numbers below p
pub elements_below : (p : ℕ) (c : List ℕ) → All (λ a. a < p) c → All (λ a. IsTrue (nat_lt a p)) c
elements_below p c h k d l = lt-ltb _ _ (h k d l)

-- zeros are below p
pub zeros_below : (p : ℕ) → IsTrue (is_in p primes) → (n : ℕ) → All (λ c. c < p) (replicate n 0)
zeros_below p known n k d l = rw
    (get_or-replicate n k 0 d (omega (arith, length-replicate {A = ℕ} n 0, l))) (pos p known)

-- the polynomial of a row has its coefficients
pub row_answers : {E : Type 0} (p : ℕ) → IsTrue (is_in p primes)
    → (result : Result (List ℕ) E) (c want : List ℕ) → All (λ a. IsTrue (nat_lt a p)) c → c ≡ want
    → IfOk result (λ r. IsPoly (prime_elements p) r)
    → IfOk result (λ r. poly_of (prime_elements p) r ≡ poly_of (prime_elements p) c)
    → IfOk result (λ r. (i : ℕ) → get_or r i 0 ≡ get_or want i 0)
row_answers p known (Ok r) c want h e poly value = λ i. same_coefficients p known r c poly.each h
    value i ∙ ap (λ t. get_or t i 0) e
row_answers p known (Err n) c want h e poly value = tt

-- rows of the powers of y below n
pub record HasRows (p : ℕ) (cs : List Monomial) (width n : ℕ) (rows : List (List ℕ)) : Type 0 where
  pub each : ArePolys (prime_elements p) rows
  pub len : length rows ≡ n
  pub same : (j : ℕ) → j < n → (i : ℕ) → get_or (get_or rows j []) i 0
      ≡ get_or (write_all j (replicate width 0) cs) i 0

pub rows_push : (p : ℕ) (cs : List Monomial) (width n : ℕ) (rows : List (List ℕ)) (r : List ℕ)
    → HasRows p cs width n rows → IsPoly (prime_elements p) r
    → ((i : ℕ) → get_or r i 0 ≡ get_or (write_all n (replicate width 0) cs) i 0)
    → HasRows p cs width (n + 1) (rows ++ r ∷ [])
rows_push p cs width n rows r h poly same = record {
  each = All-push (λ r. IsPoly (prime_elements p) r) rows r h.each poly;
  len = omega (arith, length-append rows (r ∷ []), h.len);
  same = below_more _ _
      (λ j l i. ap (λ t. get_or t i 0)
      (get_or_append_left rows (r ∷ []) [] j (omega (arith, h.len))) ∙ h.same j l i)
      (λ i. ap (λ t. get_or t i 0) (get_or_push rows r [] n h.len) ∙ same i);
}

-- no term has a power of y from the height on
none_above : (p : ℕ) (ms cs : List Monomial) (height i j : ℕ) → IsCollected p ms cs
    → All (λ m. m.y < height) cs → height ≤ j → total p ms i j ≡ 0
none_above p ms cs height i j c within le = ⊎_elim
    (λ (lt : 0 < total p ms i j). let a = c.all i j lt in absurd
    (let w : (get_or cs a.0 a.1).y < height = within a.0 a.1 a.2 in
    let e : (get_or cs a.0 a.1).y ≡ j = ap (λ (m : Monomial). m.y) a.3 ∙ a.4.1 in omega arith))
    (λ (z : total p ms i j ≤ 0). omega (arith, z))
    (cases_lt 0 (total p ms i j))

pub plane_answers : {E : Type 0} (p : ℕ) → IsTrue (is_in p primes)
    → (result : Result (List (List ℕ)) E) (cs : List Monomial) (width height n : ℕ)
    (rows built : List (List ℕ))
    → All (λ m. m.x < width) cs → All (λ m. m.y < height) cs → HasRows p cs width n built
    → height ≤ n → rows ≡ built
    → IfOk result (λ r. IsPlane (prime_elements p) r)
    → IfOk result (λ r. plane_of (prime_elements p) r ≡ plane_of (prime_elements p) rows)
    → IfOk result (λ r. (ms : List Monomial) → IsCollected p ms cs → IsSum p ms r)
plane_answers p known (Err x) cs width height n rows built wx wy h le e plane value = tt
plane_answers p known (Ok r) cs width height n rows built wx wy h le e plane value =
    λ ms c. record {
      plane = plane;
      same = λ i j.
          same_rows p known r built plane.each h.each
          (value ∙ ap (λ t. plane_of (prime_elements p) t) e) i j
          ∙ ⊎_elim
          (λ (lt : j < n). h.same j lt i ∙ row_same p j ms cs width c wx i)
          (λ (ge : n ≤ j). ap (λ t. get_or t i 0) (get_or_past built j [] (omega (arith, h.len)))
          ∙ sym (none_above p ms cs height i j c wy (omega arith)))
          (cases_lt j n);
    }

pub polynomial_answers : {E : Type 0} (p : ℕ) (result : Result (List ℕ) E) (cs : List Monomial)
    (width : ℕ) → All (λ m. m.x < width) cs
    → IfOk result (λ r. IsPoly (prime_elements p) r)
    → IfOk result (λ r. (i : ℕ) → get_or r i 0
    ≡ get_or (write_all 0 (replicate width 0) cs) i 0)
    → IfOk result (λ r. (ms : List Monomial) → IsCollected p ms cs → IsSumInX p ms r)
polynomial_answers p (Err x) cs width w poly same = tt
polynomial_answers p (Ok r) cs width w poly same = λ ms c. record
    { poly = poly; same = λ i. same i ∙ row_same p 0 ms cs width c w i }
