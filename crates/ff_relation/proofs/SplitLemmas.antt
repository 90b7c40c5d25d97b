-- Elements that are split into a sum of multiples of powers and a rest, by their coordinates.
use Rattle.std.proofs.Common.{◌≡◌, ℕ, zero, suc, ◌+◌, ◌-◌, ◌*◌, ◌/◌, ◌%◌, ◌<◌, ◌≤◌, ◌⊎◌, inl, inr}
use Rattle.std.proofs.Common.{List, [], ◌∷◌, ◌++◌, length, map, get_or, set, refl, sym, ◌∙◌, ap}
use Rattle.std.proofs.Common.{ap₂, subst, arith, All}
use Rattle.std.specs.Global.{Vec}
use Rattle.std.proofs.lemmas.Bool.{cases_lt}
use Rattle.std.proofs.Math.Nat.{div-add-mod, mod-lt, mul-add, mul-one}
use Rattle.std.proofs.lemmas.List.{length-append, get_or_default}
use Rattle.std.proofs.lemmas.List.Elements.{All-push}
use Rattle.ff_theory.specs.Ring.{RingOps, IsCommRing, IsTested, Elements, IsElement, power}
use Rattle.ff_theory.specs.Lawful.{Lawful, Field, lawful_field}
use Rattle.ff_theory.specs.Monomial.{monomial, raised}
use Rattle.ff_theory.specs.Poly.{coeff, Poly, poly, polynomials}
use Rattle.ff_theory.specs.Span.{unit_at}
use Rattle.ff_theory.specs.Values.{poly_of, polys_over, x_size}
use Rattle.ff_theory.specs.Vector.{vector_of, IsVector}
use Rattle.ff_theory.proofs.Coeffs.{coeff-map, coeff-past, poly_ext}
use Rattle.ff_theory.proofs.Division.{neg_at}
use Rattle.ff_theory.proofs.Monomial.{raised-below, raised-at}
use Rattle.ff_theory.proofs.Poly.{Poly_ext, trim-coeff, polynomial_laws}
use Rattle.ff_theory.proofs.Product.{poly-coeff}
use Rattle.ff_theory.proofs.Solver.{◌⊕◌, ◌⊗◌, neg, nil, unit, ring1, ring2}
use Rattle.ff_theory.proofs.Sums.{sum-ext, sum-zero}
use Rattle.ff_theory.proofs.InPlace.{written-below, written-above, set-same, set-other}
use Rattle.ff_theory.proofs.Span.{unit-same, unit-other}
use Rattle.ff_lin.specs.Space.{rows_of, AreVectors}
use Rattle.ff_table.specs.Coords.{at}
use Rattle.ff_table.specs.Table.{Table}
use Rattle.ff_table.specs.Level.{z_multiple}
use Rattle.ff_table.specs.Powers.{is_reached}
use Rattle.ff_table.specs.Reduce.{IsClear}
use Rattle.ff_table.proofs.Coords.{coords_ext}
use Rattle.ff_table.proofs.Laws.{add_at, neg_at as table_neg_at}
use Rattle.ff_table.proofs.PowerSums.{multiple-zero}
use Rattle.ff_table.proofs.ReduceSteps.{sum-step, reached-below}
use Rattle.ff_table.proofs.Levels.{level-split}
use Rattle.ff_table.proofs.Scalars.{multiple-at}
use Rattle.ff_table.proofs.TableRing.{table_laws}
use Rattle.ff_table.proofs.Weights.{grows}
use Rattle.ff_data.specs.declared.system.System.{System}
use Rattle.ff_data.specs.Systems.{AreCoords, IsWithinWeight, term_weight, weight_at}
use Rattle.ff_ring.specs.Entries.{entry_at}
use Rattle.ff_ring.specs.Ring.{table_in, ring_in, element_in}
use Rattle.ff_ring.proofs.RingElements.{element-at}
use Rattle.ff_poly.proofs.RowLists.{row-value}
use Rattle.ff_relation.specs.declared.bases.PowerBasis.{PowerBasis}
use Rattle.ff_relation.specs.Reduction.{IsPowerBasis, AreRows}
use Rattle.ff_relation.specs.InRing.{PowersOf, IsSplit, sum_in, number_at}
use Rattle.ff_relation.specs.InRing.{coefficient_in}
use Rattle.ff_relation.proofs.Annihilated.{power_sum-ext}
use Rattle.ff_relation.proofs.LevelSteps.{take-power, clear-unreached, clear-no_level}
use Rattle.ff_relation.proofs.LevelSteps.{clear-zero_at}

-- numbers of coefficients
pub sizes-below : (c : List (List ℕ)) (n : ℕ)
    → ((l : ℕ) → l < length c → length (get_or c l []) ≤ n) → x_size c ≤ n
sizes-below [] n h = omega arith
sizes-below (p ∷ c) n h = omega (
  arith,
  h zero (omega arith),
  sizes-below c n (λ l q. h (suc l) (omega (arith, q))),
)

-- quotients
quotient-below : (e k b : ℕ) → 0 < e → e * k ≤ b → k ≤ b / e
quotient-below e k b pos h = go (cases_lt (b / e) k)
  where
    go : (b / e < k) ⊎ (k ≤ b / e) → k ≤ b / e
    go (inr l) = l
    go (inl l) = let m : b % e < e = mod-lt b pos in
        absurd (omega (arith, grows e (b / e) k l, div-add-mod b e, m, h))

pub level-below : (e t m n : ℕ) → t < e * n → ¬ (n ≤ (t - m) / e)
level-below e t m n h l = go (cases_lt n ((t - m) / e)) (cases_lt 0 e)
  where
    go : (n < (t - m) / e) ⊎ ((t - m) / e ≤ n) → (0 < e) ⊎ (e ≤ 0) → ⊥
    go (inl q) o = absurd (omega (arith, grows e n ((t - m) / e) q, div-add-mod (t - m) e, h))
    go (inr q) o = let f : n ≡ (t - m) / e = omega (arith, q, l) in
        let g : e * n ≡ e * ((t - m) / e) = ap (λ i. e * i) f in
        absurd (omega (arith, g, div-add-mod (t - m) e, h))

pub number-read : (list : List ℕ) (l x : ℕ) → l < length list → x ≡ get_or list l x
    → x ≡ number_at list l
number-read list l x q h = h ∙ get_or_default list l x 0 q

pub levels-enough : (e b n : ℕ) → 0 < e → n ≡ b / e + 1 → b < e * n
levels-enough e b n pos h = let m : b % e < e = mod-lt b pos in
    let f : e * n ≡ e * (b / e) + e * 1 = ap (λ i. e * i) h ∙ mul-add e (b / e) 1 in
    let o : e * 1 ≡ e = mul-one e in omega (arith, f, o, m, div-add-mod b e)

pub sizes-within : (s : System) (c : List (List ℕ)) (b n : ℕ) → 0 < s.e → n ≡ b / s.e + 1
    → IsWithinWeight s b c → x_size c ≤ n
sizes-within s c b n pos h within = sizes-below c n (λ l q. at l q (length (get_or c l [])) refl)
  where
    at : (l : ℕ) → l < length c → (m : ℕ) → length (get_or c l []) ≡ m
        → length (get_or c l []) ≤ n
    at l q zero e = omega (arith, e)
    at l q (suc m) e = let w : term_weight s c l ≤ b = within l q (omega (arith, e)) in
        let f : s.e * (length (get_or c l []) - 1) ≡ s.e * m =
        ap (λ i. s.e * i) (let g : length (get_or c l []) - 1 ≡ m = omega (arith, e) in g) in
        let k : m ≤ b / s.e = quotient-below s.e m b pos (omega (arith, w, f)) in
        omega (arith, k, h, e)

module _ (R : RingOps) (laws : IsCommRing R) (tests : IsTested R) where
  -- the negative of a monomial
  pub monomial-neg : (x : R.carrier) (n : ℕ)
      → monomial R (R.neg x) n ≡ (polynomials R).neg (monomial R x n)
  unfolding poly
  monomial-neg x n = Poly_ext R laws tests (monomial R (R.neg x) n)
      ((polynomials R).neg (monomial R x n)) (λ i. at i (cases_lt i n))
    where
      list : (d : ℕ) → coeff R (R.neg x ∷ []) d ≡ R.neg (coeff R (x ∷ []) d)
      list zero = refl
      list (suc d) = ring1 R laws (λ a. nil) (λ a. neg nil) refl x

      at : (i : ℕ) → (i < n) ⊎ (n ≤ i) → coeff R (monomial R (R.neg x) n).coeffs i
          ≡ coeff R ((polynomials R).neg (monomial R x n)).coeffs i
      at i (inl l) = trim-coeff R laws tests (raised R n (R.neg x ∷ [])) i
          ∙ raised-below R n (R.neg x ∷ []) i l
          ∙ ring1 R laws (λ a. nil) (λ a. neg nil) refl x
          ∙ ap R.neg (sym (trim-coeff R laws tests (raised R n (x ∷ [])) i
          ∙ raised-below R n (x ∷ []) i l))
          ∙ sym (neg_at R laws tests (monomial R x n) i)
      at i (inr l) = let e : i ≡ n + (i - n) = omega (arith, l) in
          trim-coeff R laws tests (raised R n (R.neg x ∷ [])) i
          ∙ raised-at R n (R.neg x ∷ []) (i - n) i e ∙ list (i - n)
          ∙ ap R.neg (sym (trim-coeff R laws tests (raised R n (x ∷ [])) i
          ∙ raised-at R n (x ∷ []) (i - n) i e))
          ∙ sym (neg_at R laws tests (monomial R x n) i)

-- Lists of rows.
module _ (F : Elements ℕ) where
  -- a list as long as n with the coefficients of another
  pub padded-whole : Lawful F → (list r : List ℕ) (n : ℕ) → length r ≡ n → length list ≤ n
      → ((j : ℕ) → j < n → vector_of F r j ≡ vector_of F list j)
      → poly_of F r ≡ poly_of F list
  padded-whole L list r n e l h = poly_ext F.ring L.laws L.tests (map F.value r) (map F.value list)
      (λ j. at j (cases_lt j n))
    where
      at : (j : ℕ) → (j < n) ⊎ (n ≤ j) → vector_of F r j ≡ vector_of F list j
      at j (inl q) = h j q
      at j (inr q) = coeff-past F.ring F.value r j (omega (arith, e, q))
          ∙ sym (coeff-past F.ring F.value list j (omega (arith, l, q)))

  -- lists that grow by one entry
  pub vector-push : (xs new : List ℕ) (x n m : ℕ) → new ≡ xs ++ x ∷ [] → m ≡ n + 1
      → IsVector F n xs → IsElement F x → IsVector F m new
  vector-push xs new x n m e f h k = record {
    each = subst (All (IsElement F)) (sym e) (All-push (IsElement F) xs x h.each k);
    len = omega (arith, ap length e, length-append xs (x ∷ []), h.len, f);
  }

  pub rows-form-push : (rows new : List (Vec ℕ)) (v : Vec ℕ) (i j n : ℕ) → new ≡ rows ++ v ∷ []
      → j ≡ i + 1 → AreRows F i n rows → IsVector F n v.items → AreRows F j n new
  rows-form-push rows new v i j n e f h k = record {
    each = subst (AreVectors F n) (sym e)
        (All-push (λ (v : Vec ℕ). IsVector F n v.items) rows v h.each k);
    count = omega (arith, ap length e, length-append rows (v ∷ []), h.count, f);
  }

  -- a place in a row that the code read
  pub row-room : (rows : List (Vec ℕ)) (l d : ℕ) (v : Vec ℕ) (n m : ℕ) → l < length rows
      → d < n → v ≡ get_or rows l v → AreVectors F (n + m) rows → d < length v.items
  row-room rows l d v n m q h e k = let x : IsVector F (n + m) (get_or rows l v).items = k l v q in
      omega (arith, h, x.len, ap (λ (t : Vec ℕ). length t.items) e)

  -- the entries of rows
  pub rows-at : (rows : List (Vec ℕ)) (l : ℕ) (d : Vec ℕ) → l < length rows
      → entry_at F (rows_of rows) l ≡ poly_of F (get_or rows l d).items
  rows-at [] l d q = absurd (omega (arith, q))
  rows-at (v ∷ rows) zero d q = refl
  rows-at (v ∷ rows) (suc l) d q = rows-at rows l d (omega (arith, q))

  rows-before : (rows : List (Vec ℕ)) (v : Vec ℕ) (l : ℕ) → l < length rows
      → entry_at F (rows_of (rows ++ v ∷ [])) l ≡ entry_at F (rows_of rows) l
  rows-before [] v l q = absurd (omega (arith, q))
  rows-before (x ∷ rows) v zero q = refl
  rows-before (x ∷ rows) v (suc l) q = rows-before rows v l (omega (arith, q))

  rows-last : (rows : List (Vec ℕ)) (v : Vec ℕ) (l : ℕ) → length rows ≡ l
      → entry_at F (rows_of (rows ++ v ∷ [])) l ≡ poly_of F v.items
  rows-last [] v zero q = refl
  rows-last [] v (suc l) q = absurd (omega (arith, q))
  rows-last (x ∷ rows) v zero q = absurd (omega (arith, q))
  rows-last (x ∷ rows) v (suc l) q = rows-last rows v l (omega (arith, q))

  -- rows that are changed in place
  rows-entry : (rows : List (Vec ℕ)) (l : ℕ) → entry_at F (rows_of rows) l
      ≡ coeff (polys_over F) (map (λ (v : Vec ℕ). poly_of F v.items) rows) l
  rows-entry [] l = refl
  rows-entry (v ∷ rows) zero = refl
  rows-entry (v ∷ rows) (suc l) = rows-entry rows l

  pub rows-below : (rows : List (Vec ℕ)) (i m : ℕ) (v : Vec ℕ) (A : ℕ → Poly F.ring)
      → i < length rows → m ≡ i + 1
      → ((j : ℕ) → j < i → entry_at F (rows_of rows) j ≡ A j) → poly_of F v.items ≡ A i
      → (j : ℕ) → j < m → entry_at F (rows_of (set rows i v)) j ≡ A j
  rows-below rows i m v A l e h k j q = rows-entry (set rows i v) j
      ∙ written-below (polys_over F) (λ (v : Vec ℕ). poly_of F v.items) rows i m v A l e
      (λ j o. sym (rows-entry rows j) ∙ h j o) k j q

  pub rows-above : (rows : List (Vec ℕ)) (i m : ℕ) (v : Vec ℕ) (B : ℕ → Poly F.ring) → m ≡ i + 1
      → ((j : ℕ) → i ≤ j → entry_at F (rows_of rows) j ≡ B j)
      → (j : ℕ) → m ≤ j → entry_at F (rows_of (set rows i v)) j ≡ B j
  rows-above rows i m v B e h j q = rows-entry (set rows i v) j
      ∙ written-above (polys_over F) (λ (v : Vec ℕ). poly_of F v.items) rows i m v B e
      (λ j o. sym (rows-entry rows j) ∙ h j o) j q

  pub rows-one : (laws : IsCommRing (polys_over F)) (rows : List (Vec ℕ)) (j : ℕ) (v : Vec ℕ)
      (m : Poly F.ring) → j < length rows
      → poly_of F v.items ≡ (polys_over F).add (entry_at F (rows_of rows) j) m → (i : ℕ)
      → entry_at F (rows_of (set rows j v)) i ≡ (polys_over F).add (entry_at F (rows_of rows) i)
      ((polys_over F).mul m (unit_at (polys_over F) j i))
  rows-one laws rows j v m l h i = rows-entry (set rows j v) i
      ∙ go (cases_lt i j) (cases_lt j i)
    where
      other : ¬ (i ≡ j)
          → coeff (polys_over F) (map (λ (v : Vec ℕ). poly_of F v.items) (set rows j v)) i
          ≡ (polys_over F).add (entry_at F (rows_of rows) i)
          ((polys_over F).mul m (unit_at (polys_over F) j i))
      other n = set-other (polys_over F) (λ (v : Vec ℕ). poly_of F v.items) rows j i v n
          ∙ sym (rows-entry rows i)
          ∙ ring2 (polys_over F) laws (λ a b. a) (λ a b. a ⊕ b ⊗ nil) refl
          (entry_at F (rows_of rows) i) m
          ∙ ap (λ t. (polys_over F).add (entry_at F (rows_of rows) i) ((polys_over F).mul m t))
          (sym (unit-other (polys_over F) j i n))

      go : (i < j) ⊎ (j ≤ i) → (j < i) ⊎ (i ≤ j)
          → coeff (polys_over F) (map (λ (v : Vec ℕ). poly_of F v.items) (set rows j v)) i
          ≡ (polys_over F).add (entry_at F (rows_of rows) i)
          ((polys_over F).mul m (unit_at (polys_over F) j i))
      go (inl a) b = other (λ z. absurd (omega (arith, a, z)))
      go (inr a) (inl b) = other (λ z. absurd (omega (arith, b, z)))
      go (inr a) (inr b) = let e : i ≡ j = omega (arith, a, b) in
          ap (coeff (polys_over F) (map (λ (v : Vec ℕ). poly_of F v.items) (set rows j v))) e
          ∙ set-same (polys_over F) (λ (v : Vec ℕ). poly_of F v.items) rows j v l ∙ h
          ∙ ap₂ (λ x y. (polys_over F).add (entry_at F (rows_of rows) x) y) (sym e)
          (ring1 (polys_over F) laws (λ a. a) (λ a. a ⊗ unit) refl m
          ∙ ap ((polys_over F).mul m) (sym (ap (unit_at (polys_over F) j) e
          ∙ unit-same (polys_over F) j)))

  -- one row more
  pub rows-push : (rows new : List (Vec ℕ)) (v : Vec ℕ) (A : ℕ → Poly F.ring) (i j : ℕ)
      → new ≡ rows ++ v ∷ [] → length rows ≡ i → j ≡ i + 1
      → ((l : ℕ) → l < i → entry_at F (rows_of rows) l ≡ A l) → poly_of F v.items ≡ A i
      → (l : ℕ) → l < j → entry_at F (rows_of new) l ≡ A l
  rows-push rows new v A i j e n m h k l q = ap (λ t. entry_at F (rows_of t) l) e
      ∙ go (cases_lt l i)
    where
      go : (l < i) ⊎ (i ≤ l) → entry_at F (rows_of (rows ++ v ∷ [])) l ≡ A l
      go (inl o) = rows-before rows v l (omega (arith, o, n)) ∙ h l o
      go (inr o) = let f : l ≡ i = omega (arith, o, q, m) in
          rows-last rows v l (omega (arith, f, n)) ∙ k ∙ ap A (sym f)

module _ (F : Elements ℕ) (L : Lawful F) (s : System) where
  abbrev P : RingOps
  P = polys_over F

  PL : IsCommRing (polys_over F)
  PL = polynomial_laws F.ring L.laws L.tests

  abbrev K : Field
  K = lawful_field L

  abbrev T : RingOps
  T = ring_in F s

  abbrev S : Table F.ring
  S = table_in F s

  abbrev e : ℕ
  e = length s.weights

  -- elements with the same coordinates
  pub element-same : (a c : List (List ℕ))
      → ((l : ℕ) → l < length s.weights → entry_at F a l ≡ entry_at F c l)
      → element_in F s a ≡ element_in F s c
  element-same a c h = coords_ext P e _ _ (λ l q. element-at F L s a l q ∙ h l q
      ∙ sym (element-at F L s c l q))

  -- less a multiple by a monomial
  less-multiple : (r0 r1 g : List (List ℕ)) (x y : ℕ) (n : ℕ) → F.value y ≡ F.neg (F.value x)
      → ((l : ℕ) → l < length s.weights → entry_at F r1 l ≡ (polys_over F).add (entry_at F r0 l)
      ((polys_over F).mul (monomial F.ring (F.value y) n) (entry_at F g l)))
      → element_in F s r1 ≡ (ring_in F s).add (element_in F s r0) ((ring_in F s).neg
      (z_multiple F.ring (table_in F s) (monomial F.ring (F.value x) n) (element_in F s g)))
  less-multiple r0 r1 g x y n f h = coords_ext P e _ _ (λ l q. element-at F L s r1 l q ∙ h l q
      ∙ ap₂ P.add (sym (element-at F L s r0 l q))
      (ap₂ P.mul (ap (λ v. monomial F.ring v n) f
      ∙ monomial-neg F.ring L.laws L.tests (F.value x) n)
      (sym (element-at F L s g l q))
      ∙ ring2 P PL (λ a b. neg a ⊗ b) (λ a b. neg (a ⊗ b)) refl (monomial F.ring (F.value x) n)
      (at P e (element_in F s g) l)
      ∙ ap P.neg (sym (multiple-at K S (monomial F.ring (F.value x) n) (element_in F s g) l q))
      ∙ sym (table_neg_at P PL e S.product
      (z_multiple F.ring S (monomial F.ring (F.value x) n) (element_in F s g)) l q))
      ∙ sym (add_at P PL e S.product (element_in F s r0) (T.neg
      (z_multiple F.ring S (monomial F.ring (F.value x) n) (element_in F s g))) l q))

  -- a coefficient that the code read
  pub coefficient-entry : (c : List (List ℕ)) (l d : ℕ) → l < length s.weights
      → coefficient_in F s c l d ≡ vector_of F (get_or c l []) d
  coefficient-entry c l d q = ap (λ (t : Poly F.ring). coeff F.ring t.coeffs d)
      (element-at F L s c l q ∙ sym (row-value F c l))
      ∙ poly-coeff F.ring L.laws L.tests (map F.value (get_or c l [])) d

  pub coefficient-read : (rows : List (Vec ℕ)) (l d : ℕ) (v : Vec ℕ) (c : ℕ) → l < length s.weights
      → l < length rows → v ≡ get_or rows l v → d < length v.items → c ≡ get_or v.items d c
      → F.value c ≡ coefficient_in F s (rows_of rows) l d
  coefficient-read rows l d v c q r f o g = ap F.value g
      ∙ sym (ap (λ (t : Poly F.ring). coeff F.ring t.coeffs d)
      (element-at F L s (rows_of rows) l q ∙ rows-at F rows l v r
      ∙ ap (λ (t : Vec ℕ). poly_of F t.items) (sym f))
      ∙ poly-coeff F.ring L.laws L.tests (map F.value v.items) d
      ∙ coeff-map F.ring F.value v.items d c o)

  module _ (rank : length s.weights ≡ s.e) {w : (ring_in F s).carrier} {p : PowerBasis}
      (b : PowersOf F s w p) where
    abbrev W : ℕ
    W = b.weight

    -- what was split, by other lists of the same polynomials
    pub split-same : (a : (ring_in F s).carrier) (t : ℕ) (q0 q1 r0 r1 : List (List ℕ))
        → ((l : ℕ) → l < s.e → entry_at F q1 l ≡ entry_at F q0 l)
        → ((l : ℕ) → l < s.e → entry_at F r1 l ≡ entry_at F r0 l)
        → IsSplit F s b a t q0 r0 → IsSplit F s b a t q1 r1
    split-same a t q0 q1 r0 r1 hq hr old = record {
      sum = old.sum ∙ ap₂ T.add (power_sum-ext K S b.rule w W b.weighs b.prime (entry_at F q0)
          (entry_at F q1) (λ j l. sym (hq j (omega (arith, l, rank))))) (sym same);
      clear = subst (IsClear F.ring S (is_reached b.prime) t) (sym same) old.clear;
    }
      where
        same : element_in F s r1 ≡ element_in F s r0
        same = element-same r1 r0 (λ l q. hr l (omega (arith, q, rank)))

    -- the multiple of a power is taken
    pub split-take : (a : (ring_in F s).carrier) (t l d j n c x y : ℕ)
        (q0 q1 r0 r1 : List (List ℕ)) → IsPowerBasis F s p → l < s.e
        → number_at p.limits.items l ≤ d → j ≡ number_at p.exponents.items l
        → n ≡ d - number_at p.limits.items l → t ≡ s.e * d + weight_at s l
        → F.value c ≡ coefficient_in F s r0 l d
        → F.value x ≡ F.mul (F.value c) (F.value (number_at p.inverses.items j))
        → F.value y ≡ F.neg (F.value x)
        → ((i : ℕ) → i < s.e → entry_at F q1 i ≡ (polys_over F).add (entry_at F q0 i)
        ((polys_over F).mul (monomial F.ring (F.value x) n) (unit_at (polys_over F) j i)))
        → ((i : ℕ) → i < s.e → entry_at F r1 i ≡ (polys_over F).add (entry_at F r0 i)
        ((polys_over F).mul (monomial F.ring (F.value y) n)
        (entry_at F (get_or p.list.items j []) i)))
        → IsSplit F s b a (suc t) q0 r0 → IsSplit F s b a t q1 r1
    split-take a t l d j n c x y q0 q1 r0 r1 form ql high fj fn level fc fx fy hq hr old = record {
      sum = sum-step K S b.rule w (entry_at F q0) a (element_in F s r0)
          (monomial F.ring (F.value x) n) j (omega (arith, jl, rank)) old.sum
          ∙ ap₂ T.add (power_sum-ext K S b.rule w W b.weighs b.prime _ (entry_at F q1)
          (λ i q. sym (hq i (omega (arith, q, rank))))) (sym same);
      clear = subst (IsClear F.ring S (is_reached b.prime) t)
          (ap₂ (λ v m. T.add (element_in F s r0) (T.neg
          (z_multiple F.ring S (monomial F.ring v m) (power T w j)))) (sym fx)
          (ap (λ m. d - m) (sym limit) ∙ sym fn) ∙ sym same)
          (take-power K S b.rule w W b.weighs b.prime j l d t
          (F.value (number_at p.inverses.items j)) (F.value c) (element_in F s r0)
          (omega (arith, ql, rank))
          (ap₂ (λ i m. (i * W) % m) fj rank ∙ b.exponents l ql)
          (omega (arith, high, limit))
          (level ∙ ap (λ m. m * d + weight_at s l) (sym rank))
          (b.inverses j (omega (arith, jl, form.inverses.len))) fc old.clear);
    }
      where
        jl : j < s.e
        jl = let h : number_at p.exponents.items l < s.e =
            form.exponents l 0 (omega (arith, ql, form.exponent_count)) in omega (arith, h, fj)

        limit : number_at p.limits.items l ≡ (j * W - S.weight l) / length s.weights
        limit = b.limits l ql ∙ ap₂ (λ i m. (i * W - weight_at s l) / m) (sym fj) (sym rank)

        same : element_in F s r1 ≡ T.add (element_in F s r0) (T.neg
            (z_multiple F.ring S (monomial F.ring (F.value x) n) (power T w j)))
        same = less-multiple r0 r1 (get_or p.list.items j []) x y n fy
            (λ i q. hr i (omega (arith, q, rank)))
            ∙ ap (λ g. T.add (element_in F s r0) (T.neg
            (z_multiple F.ring S (monomial F.ring (F.value x) n) g)))
            (b.powers j (omega (arith, jl, form.list.count)))

    -- nothing is to be taken
    pub split-low : (a : (ring_in F s).carrier) (t l d : ℕ) (q r : List (List ℕ))
        → IsPowerBasis F s p → l < s.e → d < number_at p.limits.items l
        → t ≡ s.e * d + weight_at s l
        → IsSplit F s b a (suc t) q r → IsSplit F s b a t q r
    split-low a t l d q r form ql low level old = record {
      sum = old.sum;
      clear = clear-unreached K S b.rule (is_reached b.prime) t (element_in F s r)
          (ap (is_reached b.prime) (level ∙ ap (λ m. m * d + weight_at s l) (sym rank))
          ∙ reached-below K S b.rule w W b.weighs b.prime (number_at p.exponents.items l) l d
          (omega (arith, ql, rank)) (omega (arith, jl, rank))
          (ap (λ m. (number_at p.exponents.items l * W) % m) rank ∙ b.exponents l ql)
          (omega (arith, low, limit))) old.clear;
    }
      where
        jl : number_at p.exponents.items l < s.e
        jl = form.exponents l 0 (omega (arith, ql, form.exponent_count))

        limit : number_at p.limits.items l
            ≡ (number_at p.exponents.items l * W - S.weight l) / length s.weights
        limit = b.limits l ql
            ∙ ap (λ m. (number_at p.exponents.items l * W - weight_at s l) / m) (sym rank)

    pub split-zero : (a : (ring_in F s).carrier) (t l d c : ℕ) (q r : List (List ℕ)) → l < s.e
        → F.value c ≡ coefficient_in F s r l d → F.value c ≡ F.zero
        → t ≡ s.e * d + weight_at s l
        → IsSplit F s b a (suc t) q r → IsSplit F s b a t q r
    split-zero a t l d c q r ql fc z level old = record {
      sum = old.sum;
      clear = clear-zero_at K S b.rule (is_reached b.prime) t l d (element_in F s r)
          (omega (arith, ql, rank)) (level ∙ ap (λ m. m * d + weight_at s l) (sym rank))
          (sym fc ∙ z) old.clear;
    }

    -- a level by its class and its power
    pub level-parts : (t : ℕ) → weight_at s (t % s.e) ≤ t
        → t ≡ s.e * ((t - weight_at s (t % s.e)) / s.e) + weight_at s (t % s.e)
    level-parts t l = level-split K S b.rule t
        (omega (arith, l, ap (λ n. weight_at s (t % n)) rank))
        ∙ ap (λ n. n * ((t - weight_at s (t % n)) / n) + weight_at s (t % n)) rank

    pub split-no_level : (a : (ring_in F s).carrier) (t : ℕ) (q r : List (List ℕ))
        → t < weight_at s (t % s.e)
        → IsSplit F s b a (suc t) q r → IsSplit F s b a t q r
    split-no_level a t q r low old = record {
      sum = old.sum;
      clear = clear-no_level K S b.rule (is_reached b.prime) t (element_in F s r)
          (omega (arith, low, ap (λ m. weight_at s (t % m)) rank)) old.clear;
    }

    -- an element of which nothing was taken
    pub split-start : (bound : ℕ) (c q r : List (List ℕ)) → AreCoords F s c
        → IsWithinWeight s bound c
        → ((l : ℕ) → l < s.e → entry_at F q l ≡ (polys_over F).zero)
        → ((l : ℕ) → l < s.e → entry_at F r l ≡ entry_at F c l)
        → IsSplit F s b (element_in F s c) (suc bound) q r
    split-start bound c q r form within hq hr = record {
      sum = ring1 T TL (λ a. a) (λ a. nil ⊕ a) refl (element_in F s c)
          ∙ ap₂ T.add (sym empty) (sym same);
      clear = subst (IsClear F.ring S (is_reached b.prime) (suc bound)) (sym same)
          (λ l d o n on. coefficient-entry c l d o ∙ none l d o n);
    }
      where
        TL : IsCommRing (ring_in F s)
        TL = table_laws K S b.rule

        same : element_in F s r ≡ element_in F s c
        same = element-same r c (λ l q. hr l (omega (arith, q, rank)))

        empty : sum_in F s w q ≡ T.zero
        empty = sum-ext T TL (length s.weights) _ (λ j. T.zero)
            (λ j l. ap (λ g. z_multiple F.ring S g (power T w j)) (hq j (omega (arith, l, rank)))
            ∙ multiple-zero K S b.rule (power T w j)) ∙ sum-zero T TL (length s.weights)

        none : (l d : ℕ) → l < length s.weights → suc bound ≤ length s.weights * d + weight_at s l
            → vector_of F (get_or c l []) d ≡ F.zero
        none l d o n = go (cases_lt d (length (get_or c l [])))
          where
            go : (d < length (get_or c l [])) ⊎ (length (get_or c l []) ≤ d)
                → vector_of F (get_or c l []) d ≡ F.zero
            go (inr i) = coeff-past F.ring F.value (get_or c l []) d i
            go (inl i) = let v : term_weight s c l ≤ bound =
                within l (omega (arith, o, rank, form.count)) (omega (arith, i)) in
                let f : s.e * (length (get_or c l []) - 1)
                ≡ s.e * d + s.e * (length (get_or c l []) - 1 - d) =
                ap (λ m. s.e * m) (let g : length (get_or c l []) - 1
                ≡ d + (length (get_or c l []) - 1 - d) = omega (arith, i) in g)
                ∙ mul-add s.e d (length (get_or c l []) - 1 - d) in
                absurd (omega (arith, v, f, n, ap (λ m. m * d) rank))
