-- Lengths as the calls compute them, lists of rows, and what calls of several facts keep.
use Rattle.std.proofs.Common.{◌≡◌, ℕ, zero, suc, pred, ◌+◌, ◌-◌, ◌*◌, ◌<◌, ◌≤◌, ◌⊎◌, inl, inr, List}
use Rattle.std.proofs.Common.{[], ◌∷◌}
use Rattle.std.proofs.Common.{length, map, get_or, Result, Ok, Err, IfOk, sym, ◌∙◌, ap, ap₂, subst}
use Rattle.std.proofs.Common.{arith, All}
use Rattle.std.proofs.lemmas.Bool.{cases_lt, eqb-true}
use Rattle.std.proofs.lemmas.List.{length-map}
use Rattle.ff_theory.specs.Ring.{Elements}
use Rattle.ff_theory.specs.Lawful.{Lawful, lawful_field}
use Rattle.ff_theory.specs.Poly.{coeff, Poly, polynomials}
use Rattle.ff_theory.specs.Division.{size}
use Rattle.ff_theory.specs.Span.{SameSpan}
use Rattle.ff_theory.specs.Vector.{vectors_of, IsVector}
use Rattle.ff_theory.specs.Values.{poly_of, polys_of, IsPoly, ArePolys}
use Rattle.ff_theory.specs.LowestTerms.{IsLowest}
use Rattle.ff_theory.proofs.Coeffs.{coeff-map}
use Rattle.ff_theory.proofs.Product.{poly-coeff}
use Rattle.ff_theory.proofs.Span.{span-same}
use Rattle.ff_poly.proofs.LongDivision.{poly-size}
use Rattle.ff_charts.specs.Lattice.{flat}
use Rattle.ff_charts.proofs.Flat.{flat_ends}
use Rattle.ff_lin.specs.Space.{SpaceParts, SpansFamily, SameSpace}
use Rattle.ff_lin.proofs.InsertRow.{span-family}
use Rattle.ff_lin.proofs.Mirror.{mirror-past}
use Rattle.ff_lin.proofs.Steps.{past}
use Rattle.ff_data.specs.declared.order.Order.{Order}
use Rattle.ff_data.specs.Orders.{y_degree}
use Rattle.ff_basis.specs.Blocks.{AreLowestRows, row_in, entry_in, part_of, reversed_part}
use Rattle.ff_basis.proofs.Pieces.{part_shape, part_entry, times_mono}

pub ok_three : {T E : Type 0} (P Q R W : T → Type 0) (r : Result T E)
    → ((x : T) → P x → Q x → R x → W x) → IfOk r P → IfOk r Q → IfOk r R → IfOk r W
ok_three P Q R W (Ok x) f p q r = f x p q r
ok_three P Q R W (Err e) f p q r = p

pub ok_four : {T E : Type 0} (P Q R S W : T → Type 0) (r : Result T E)
    → ((x : T) → P x → Q x → R x → S x → W x) → IfOk r P → IfOk r Q → IfOk r R → IfOk r S → IfOk r W
ok_four P Q R S W (Ok x) f p q r s = f x p q r s
ok_four P Q R S W (Err e) f p q r s = p

-- the number of coefficients that a call computes
pub len_is : (F : Elements ℕ) (L : Lawful F) (p e : List ℕ) → IsPoly F p → e ≡ p
    → length e - 1 ≡ pred (size F.ring (poly_of F p))
len_is F L p e h same = let s : size F.ring (poly_of F p) ≡ length p =
    poly-size F.ring L.laws L.tests
    F.value p h.canonical in let t : length e ≡ length p = ap length same in
    let z : pred (size F.ring (poly_of F p)) ≡ pred (length p) = ap pred s in omega (arith, z, t)

pub shorter_is : (F : Elements ℕ) (L : Lawful F) (p : List ℕ) → IsPoly F p
    → pred (length p) ≡ pred (size F.ring (poly_of F p))
shorter_is F L p h = ap pred (sym (poly-size F.ring L.laws L.tests F.value p h.canonical))

pub less_one : (p : List ℕ) → length p - 1 ≡ pred (length p)
less_one p = omega arith

-- an entry of a row, as code reads it
pub entry_read : (F : Elements ℕ) (L : Lawful F) (rows : List (List ℕ)) (s t : ℕ) (p : List ℕ)
    → s < length rows → p ≡ get_or rows s p → coeff F.ring (map F.value p) t
    ≡ coeff F.ring (coeff (polynomials F.ring) (polys_of F rows) s).coeffs t
entry_read F L rows s t p l e = sym (poly-coeff F.ring L.laws L.tests (map F.value p) t)
    ∙ ap (λ (q : Poly F.ring). coeff F.ring q.coeffs t) (ap (poly_of F) e
    ∙ sym (coeff-map (polynomials F.ring) (λ p. poly_of F p) rows s p l))

-- a vector of a list of vectors
listed_vector : {V : Type 0} (F : Elements ℕ) (items : V → List ℕ) (vs : List V) (len a : ℕ)
    → All (λ v. IsVector F len (items v)) vs → a < length vs
    → IsVector F len (get_or (map items vs) a [])
listed_vector F items [] len a h t = absurd (omega arith)
listed_vector F items (v ∷ vs) len zero h t = h zero v (omega arith)
listed_vector F items (v ∷ vs) len (suc a) h t = listed_vector F items vs len a
    (λ k d m. h (suc k) d (omega arith)) (omega arith)

-- the rows of an order in lowest terms
pub lowest_rows_are : (F : Elements ℕ) (L : Lawful F) (f : List (List ℕ)) (o : Order)
    (n l count : ℕ)
    (rows old items : List (List ℕ)) (den : List ℕ) → n ≡ y_degree L f → l ≡ pred (length o.d)
    → count ≡ length o.space.basis * n → rows ≡ old → length old ≡ count
    → ((s : ℕ) → s < count → coeff (polynomials F.ring) (polys_of F old) s
    ≡ row_in F.ring (vectors_of F o.space.basis) n l s)
    → IsPoly F den → ArePolys F items
    → IsLowest (lawful_field L) (length rows) (poly_of F den) (polys_of F items)
    → ((i : ℕ) → i < length rows → (polynomials F.ring).mul
    (coeff (polynomials F.ring) (polys_of F items) i) (poly_of F o.d)
    ≡ (polynomials F.ring).mul (coeff (polynomials F.ring) (polys_of F rows) i) (poly_of F den))
    → AreLowestRows L f o den items
lowest_rows_are F L f o n l count rows old items den en el ec er lo value hd hi lowest equal =
    record {
      denominator = hd;
      each = hi;
      count = same ∙ ec ∙ ap (λ t. length o.space.basis * t) en;
      lowest = subst (λ t. IsLowest (lawful_field L) t (poly_of F den) (polys_of F items))
          (sym long) lowest;
      equal = λ s q. equal s (omega (arith, q, long))
          ∙ ap (λ p. (polynomials F.ring).mul p (poly_of F den))
          (ap (λ r. coeff (polynomials F.ring) (polys_of F r) s) er
          ∙ value s (omega (arith, q, same))
          ∙ ap₂ (λ n l. row_in F.ring (vectors_of F o.space.basis) n l s) en el);
    }
  where
    long : length items ≡ length rows
    long = sym (length-map items (λ p. poly_of F p)) ∙ eqb-true _ _ lowest.count

    same : length items ≡ count
    same = long ∙ ap length er ∙ lo

module _ (F : Elements ℕ) (L : Lawful F) (rows : List (List ℕ)) (count n l : ℕ)
    (room : length rows ≡ count * n)
    (few : (s : ℕ) → s < length rows → size F.ring (coeff (polynomials F.ring)
    (polys_of F rows) s) ≤ l)
  where
    below : (a i : ℕ) → a < count → i < n → a * n + i < length rows
    below a i q s = let h : suc a * n ≤ count * n = times_mono (suc a) count n (omega arith) in
        let e : suc a * n ≡ n + a * n = omega arith in omega (arith, h, e, s, room)

    -- the vectors of reversed planes, entry by entry
    family : {V : Type 0} (items : V → List ℕ) (vs : List V) (len : ℕ) → len ≡ n * l
        → length vs ≡ count → All (λ v. IsVector F len (items v)) vs
        → ((a j : ℕ) → a < count → j < len → vectors_of F (map items vs) a j
        ≡ entry_in F.ring (polys_of F rows) (a * n) l (len - 1 - j)) → (a j : ℕ) → a < count
        → vectors_of F (map items vs) a j ≡ reversed_part F.ring (polys_of F rows) n l a j
    family items vs len el long each value a j q = go (cases_lt j len)
      where
        go : (j < len) ⊎ (len ≤ j) → vectors_of F (map items vs) a j
            ≡ reversed_part F.ring (polys_of F rows) n l a j
        go (inl s) = value a j q s
            ∙ ap (λ m. entry_in F.ring (polys_of F rows) (a * n) l (m - 1 - j)) el
            ∙ part_entry (lawful_field L) n l (polys_of F rows) a j (omega (arith, s, el))
        go (inr s) = past F len (get_or (map items vs) a []) j (listed_vector F items vs len a each
            (omega (arith, q, long))) s
            ∙ sym (ap (flat F.ring l (part_of F.ring (polys_of F rows) n a))
            (mirror-past (n * l) j (omega (arith, s, el)))
            ∙ flat_ends (lawful_field L) l n (part_of F.ring (polys_of F rows) n a)
            (part_shape (lawful_field L) n l (polys_of F rows) a
            (λ i t. few (a * n + i) (below a i q t))) j (omega (arith, s, el)))

    -- so their span is that of the family
    pub reversed_spans : {V : Type 0} (items : V → List ℕ) (vs now : List V) (len : ℕ) → now ≡ vs
        → len ≡ n * l → length vs ≡ count → All (λ v. IsVector F len (items v)) vs
        → ((a j : ℕ) → a < count → j < len → vectors_of F (map items vs) a j
        ≡ entry_in F.ring (polys_of F rows) (a * n) l (len - 1 - j)) → (s : SpaceParts)
        → SameSpace F s.basis (map items now)
        → SpansFamily F s.basis count (reversed_part F.ring (polys_of F rows) n l)
    reversed_spans items vs now len en el long each value s h = record {
      into = λ i q. span-family F.ring L.laws count (vectors_of F (map items vs))
          (reversed_part F.ring (polys_of F rows) n l) (vectors_of F s.basis i)
          (λ a j t. sym (family items vs len el long each value a j t)) (g.into i q);
      back = λ i q. span-same F.ring L.laws (length s.basis) (vectors_of F s.basis)
          (vectors_of F (map items vs) i) (reversed_part F.ring (polys_of F rows) n l i)
          (λ j. sym (family items vs len el long each value i j q)) (g.back i q);
    }
      where
        g : SameSpan F.ring (length s.basis) (vectors_of F s.basis) count (vectors_of F
            (map items vs))
        g = subst (λ m. SameSpan F.ring (length s.basis) (vectors_of F s.basis) m
            (vectors_of F (map items vs))) (length-map vs items ∙ long)
            (subst (λ t. SameSpace F s.basis (map items t)) en h)

-- a span of a family, whose numbers and rows are others of the same value
pub spans_as : (F : Elements ℕ) (basis : List (List ℕ)) (rows now : List (List ℕ))
    (count m n k l r : ℕ) → now ≡ rows → m ≡ r → n ≡ k → l ≡ count
    → SpansFamily F basis m (reversed_part F.ring (polys_of F now) n l)
    → SpansFamily F basis r (reversed_part F.ring (polys_of F rows) k count)
spans_as F basis rows now count m n k l r er em en el h =
    subst (λ t. SpansFamily F basis t (reversed_part F.ring (polys_of F rows) k count)) em
    (subst (λ t. SpansFamily F basis m (reversed_part F.ring (polys_of F t) k count)) er
    (subst (λ t. SpansFamily F basis m (reversed_part F.ring (polys_of F now) t count)) en
    (subst (λ t. SpansFamily F basis m (reversed_part F.ring (polys_of F now) n t)) el h)))
