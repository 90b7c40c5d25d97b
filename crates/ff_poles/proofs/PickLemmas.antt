-- Which element of a list is no combination of the first ones, by vectors that have the relations
-- of the elements, for an equation f over a field whose laws are L.
use Rattle.std.proofs.Common.{◌≡◌, ℕ, zero, suc, ◌+◌, ◌-◌, ◌<◌, ◌≤◌, ◌⊎◌, inl, inr, ◌↔◌, List, []}
use Rattle.std.proofs.Common.{◌∷◌, ◌++◌, None, Some, length, get_or, take, refl, sym, ◌∙◌, ap, ap₂}
use Rattle.std.proofs.Common.{subst, arith}
use Rattle.std.specs.Global.{Vec}
use Rattle.std.proofs.lemmas.Bool.{cases_lt}
use Rattle.std.proofs.lemmas.List.{length-map, length-take-le, take-map, length-append}
use Rattle.std.proofs.lemmas.List.{get_or_append_left, get_or-append-add, get_or-map}
use Rattle.ff_theory.specs.Ring.{RingOps, IsCommRing, Elements}
use Rattle.ff_theory.specs.Lawful.{Lawful, lawful_field}
use Rattle.ff_theory.specs.Map.{IsMap}
use Rattle.ff_theory.specs.Sum.{sum_below}
use Rattle.ff_theory.specs.Span.{InSpan, unit_at}
use Rattle.ff_theory.specs.Vector.{vector_of, vectors_of}
use Rattle.ff_theory.specs.Values.{plane_of, IsPlane}
use Rattle.ff_theory.proofs.Solver.{◌⊕◌, ◌⊗◌, neg, nil, unit, ring1, ring2, ring3, zero_mul}
use Rattle.ff_theory.proofs.Span.{span-inside, span-one, unit-same, unit-other}
use Rattle.ff_theory.proofs.Sums.{sum-ext, sum-add, sum-single}
use Rattle.ff_theory.proofs.Constants.{constant_map}
use Rattle.ff_lin.specs.Space.{SameSpace, rows_of, IsRelation}
use Rattle.ff_elem.specs.declared.elem.Elem.{Elem}
use Rattle.ff_elem.specs.Elem.{algebra_in, elem_of}
use Rattle.ff_data.specs.Combinations.{constant_in, elems_of, IsRelationOf, InSpanOf}
use Rattle.ff_data.proofs.ChartLaws.{algebra_laws}
use Rattle.ff_theory.proofs.Coeffs.{coeff-map}
use Rattle.ff_poles.specs.Spaces.{IsFirstOutside, IsPicked}

get_take : {A : Type 0} (n : ℕ) (xs : List A) (i : ℕ) (d : A) → i < n
    → get_or (take n xs) i d ≡ get_or xs i d
get_take zero xs i d l = absurd (omega (arith, l))
get_take (suc n) [] i d l = refl
get_take (suc n) (x ∷ xs) zero d l = refl
get_take (suc n) (x ∷ xs) (suc i) d l = get_take n xs i d (omega (arith, l))

-- a space by the first vectors of a list
module _ (F : Elements ℕ) (L : Lawful F) (vectors : List (Vec ℕ)) (n : ℕ)
    (within : n ≤ length vectors) (basis : List (List ℕ))
    (same : SameSpace F basis (rows_of (take (n - 0) vectors))) where
  abbrev rows : List (List ℕ)
  rows = rows_of vectors

  abbrev part : List (List ℕ)
  part = rows_of (take (n - 0) vectors)

  count : length part ≡ n
  count = length-map (take (n - 0) vectors) (λ v. v.items)
      ∙ length-take-le (n - 0) vectors (omega (arith, within)) ∙ (let e : n - 0 ≡ n = omega arith
      in e)

  row_is : (i : ℕ) → i < n → vectors_of F part i ≡ vectors_of F rows i
  row_is i l = ap (λ t. vectors_of F t i) (sym (take-map (λ v. v.items) (n - 0) vectors))
      ∙ ap (λ t. vector_of F t) (get_take (n - 0) rows i [] (omega (arith, l)))

  pub into_first : (v : ℕ → F.carrier) → InSpan F.ring (length basis) (vectors_of F basis) v
      → InSpan F.ring n (vectors_of F (rows_of vectors)) v
  into_first v h = span-inside F.ring L.laws (length basis) (vectors_of F basis) n
      (vectors_of F rows) v (λ i l. span-inside F.ring L.laws (length part) (vectors_of F part) n
      (vectors_of F rows) _ (λ k q. let r : k < n = omega (arith, q, count) in
      subst (InSpan F.ring n (vectors_of F rows)) (sym (row_is k r))
      (span-one F.ring L.laws n (vectors_of F rows) k r)) (same.into i l)) h

  pub from_first : (v : ℕ → F.carrier) → InSpan F.ring n (vectors_of F (rows_of vectors)) v
      → InSpan F.ring (length basis) (vectors_of F basis) v
  from_first v h = span-inside F.ring L.laws n (vectors_of F rows) (length basis)
      (vectors_of F basis) v (λ i l. subst (InSpan F.ring (length basis) (vectors_of F basis))
      (row_is i l) (same.back i (omega (arith, l, count)))) h

  -- the vector that is looked at
  module _ (i : ℕ) (r : Vec ℕ) (is : r ≡ get_or vectors i r) (l : i < length vectors)
      (v : List ℕ) (same_v : v ≡ r.items) where
    row_at : vector_of F v ≡ vectors_of F (rows_of vectors) i
    row_at = ap (λ v. vector_of F v) (same_v ∙ ap (λ (r : Vec ℕ). r.items) is
        ∙ sym (get_or-map (λ (v : Vec ℕ). v.items) vectors i r [] l))

    pub in_first : InSpan F.ring (length basis) (vectors_of F basis) (vector_of F v)
        → InSpan F.ring n (vectors_of F (rows_of vectors)) (vectors_of F (rows_of vectors) i)
    in_first h = subst (InSpan F.ring n (vectors_of F (rows_of vectors))) row_at (into_first _ h)

    pub first_in : InSpan F.ring n (vectors_of F (rows_of vectors))
        (vectors_of F (rows_of vectors) i)
        → InSpan F.ring (length basis) (vectors_of F basis) (vector_of F v)
    first_in h = from_first _ (subst (InSpan F.ring n (vectors_of F (rows_of vectors)))
        (sym row_at) h)

-- one vector more in the span
pub inside_more : (F : Elements ℕ) (rows : List (List ℕ)) (n i : ℕ)
    → ((j : ℕ) → n ≤ j → j < i → InSpan F.ring n (vectors_of F rows) (vectors_of F rows j))
    → InSpan F.ring n (vectors_of F rows) (vectors_of F rows i)
    → (j : ℕ) → n ≤ j → j < i + 1 → InSpan F.ring n (vectors_of F rows) (vectors_of F rows j)
inside_more F rows n i before here j a l = go (cases_lt j i)
  where
    go : (j < i) ⊎ (i ≤ j) → InSpan F.ring n (vectors_of F rows) (vectors_of F rows j)
    go (inl k) = before j a k
    go (inr k) = let e : i ≡ j = omega (arith, l, k) in
        subst (λ j. InSpan F.ring n (vectors_of F rows) (vectors_of F rows j)) e here

-- the coefficients of the first n, and -1 at the index i
module _ (F : Elements ℕ) (L : Lawful F) (n i : ℕ) (c : ℕ → F.carrier) where
  cut_by : (k : ℕ) → (k < n) ⊎ (n ≤ k) → F.carrier
  cut_by k (inl l) = c k
  cut_by k (inr l) = F.zero

  pub rest : ℕ → F.carrier
  rest k = F.add (cut_by k (cases_lt k n)) (F.mul (F.neg F.one) (unit_at F.ring i k))

  module _ (R : RingOps) (LR : IsCommRing R) (h : ℕ → F.carrier → R.carrier)
      (on_zero : (k : ℕ) → h k F.zero ≡ R.zero)
      (on_add : (k : ℕ) (a b : F.carrier) → h k (F.add a b) ≡ R.add (h k a) (h k b)) (m : ℕ)
      (first : n ≤ m) (inside : i < m) where
    cut_below : (k : ℕ) (b : (k < n) ⊎ (n ≤ k)) → k < n → h k (cut_by k b) ≡ h k (c k)
    unfolding cut_by
    cut_below k (inl l) q = refl
    cut_below k (inr l) q = absurd (omega (arith, l, q))

    cut_above : (k : ℕ) (b : (k < n) ⊎ (n ≤ k)) → n ≤ k → h k (cut_by k b) ≡ R.zero
    unfolding cut_by
    cut_above k (inl l) q = absurd (omega (arith, l, q))
    cut_above k (inr l) q = on_zero k

    cut_sum : (m : ℕ) → n ≤ m → sum_below R m (λ k. h k (cut_by k (cases_lt k n)))
        ≡ sum_below R n (λ k. h k (c k))
    cut_sum zero l = let e : 0 ≡ n = omega (arith, l) in
        ap (λ m. sum_below R m (λ k. h k (c k))) e
    cut_sum (suc m) l = go (cases_lt m n) (λ q. cut_sum m q)
      where
        go : (m < n) ⊎ (n ≤ m) → (n ≤ m → sum_below R m (λ k. h k (cut_by k (cases_lt k n)))
            ≡ sum_below R n (λ k. h k (c k)))
            → sum_below R (suc m) (λ k. h k (cut_by k (cases_lt k n)))
            ≡ sum_below R n (λ k. h k (c k))
        go (inl q) before = let e : suc m ≡ n = omega (arith, l, q) in
            sum-ext R LR (suc m) _ _ (λ k r. cut_below k (cases_lt k n) (omega (arith, r, e)))
            ∙ ap (λ m. sum_below R m (λ k. h k (c k))) e
        go (inr q) before = ap₂ R.add (before q) (cut_above m (cases_lt m n) q)
            ∙ LR.add_zero (sum_below R n (λ k. h k (c k)))

    pub rest_sum : sum_below R m (λ k. h k (rest k))
        ≡ R.add (sum_below R n (λ k. h k (c k))) (h i (F.neg F.one))
    unfolding rest
    rest_sum = sum-ext R LR m _ _ (λ k q. on_add k _ _)
        ∙ sum-add R LR m (λ k. h k (cut_by k (cases_lt k n)))
        (λ k. h k (F.mul (F.neg F.one) (unit_at F.ring i k)))
        ∙ ap₂ R.add (cut_sum m first) (sum-single R LR m i
        (λ k. h k (F.mul (F.neg F.one) (unit_at F.ring i k))) inside (λ k l e.
        ap (h k) (ap (F.mul (F.neg F.one)) (unit-other F.ring i k e)
        ∙ ring1 F.ring L.laws (λ a. a ⊗ nil) (λ a. nil) refl (F.neg F.one)) ∙ on_zero k)
        ∙ ap (h i) (ap (F.mul (F.neg F.one)) (unit-same F.ring i)
        ∙ ring1 F.ring L.laws (λ a. a ⊗ unit) (λ a. a) refl (F.neg F.one)))

module _ (F : Elements ℕ) (L : Lawful F) (f : List (List ℕ)) (hf : IsPlane F f)
    (two : 1 < length f) where
  abbrev A : RingOps
  A = algebra_in L f

  AL : IsCommRing (algebra_in L f)
  AL = algebra_laws F L f hf two

  M : IsMap F.ring (algebra_in L f) (constant_in L f)
  M = constant_map (lawful_field L) (plane_of F f)

  minus_one : constant_in L f (F.neg F.one) ≡ A.neg A.one
  minus_one = M.on_neg F.one ∙ ap A.neg M.on_one

  -- vectors with the relations of elements
  module _ (list : List Elem) (vectors : List (Vec ℕ))
      (exact : (c : ℕ → F.carrier) → IsRelation F (rows_of vectors) c ↔ IsRelationOf L f list c)
      (long : length vectors ≡ length list) (n i : ℕ) (first : n ≤ length list)
      (inside : i < length list) where
    abbrev w : ℕ → ℕ → F.carrier
    w = vectors_of F (rows_of vectors)

    abbrev g : ℕ → A.carrier
    g = elems_of L f list

    rows_long : length (rows_of vectors) ≡ length list
    rows_long = length-map vectors (λ v. v.items) ∙ long

    entry_sum : (c : ℕ → F.carrier) (j : ℕ)
        → sum_below F.ring (length (rows_of vectors)) (λ k. F.mul (rest F L n i c k) (w k j))
        ≡ F.add (sum_below F.ring n (λ k. F.mul (c k) (w k j))) (F.mul (F.neg F.one) (w i j))
    entry_sum c j = rest_sum F L n i c F.ring L.laws (λ k a. F.mul a (w k j))
        (λ k. zero_mul F.ring L.laws (w k j))
        (λ k a b. ring3 F.ring L.laws (λ a b w. (a ⊕ b) ⊗ w) (λ a b w. a ⊗ w ⊕ b ⊗ w) refl a b
        (w k j)) (length (rows_of vectors)) (omega (arith, first, rows_long))
        (omega (arith, inside, rows_long))

    element_sum : (c : ℕ → F.carrier)
        → sum_below A (length list) (λ k. A.mul (constant_in L f (rest F L n i c k)) (g k))
        ≡ A.add (sum_below A n (λ k. A.mul (constant_in L f (c k)) (g k)))
        (A.mul (constant_in L f (F.neg F.one)) (g i))
    element_sum c = rest_sum F L n i c A AL (λ k a. A.mul (constant_in L f a) (g k))
        (λ k. ap (λ t. A.mul t (g k)) M.on_zero ∙ zero_mul A AL (g k))
        (λ k a b. ap (λ t. A.mul t (g k)) (M.on_add a b)
        ∙ ring3 A AL (λ a b w. (a ⊕ b) ⊗ w) (λ a b w. a ⊗ w ⊕ b ⊗ w) refl (constant_in L f a)
        (constant_in L f b) (g k)) (length list) first inside

    pub element_span : InSpan F.ring n (vectors_of F (rows_of vectors))
        (vectors_of F (rows_of vectors) i) → InSpanOf L f n (elems_of L f list) (elems_of L f list
        i)
    element_span h = record {
      coefficients = h.coefficients;
      sum = ring2 A AL (λ s g. g) (λ s g. neg (s ⊕ neg unit ⊗ g) ⊕ s) refl total (g i)
          ∙ ap (λ t. A.add (A.neg t) total) (ap (λ t. A.add total (A.mul t (g i))) (sym minus_one)
          ∙ sym (element_sum h.coefficients) ∙ relation)
          ∙ ring1 A AL (λ s. neg nil ⊕ s) (λ s. s) refl total;
    }
      where
        total : A.carrier
        total = sum_below A n (λ k. A.mul (constant_in L f (h.coefficients k)) (g k))

        relation : IsRelationOf L f list (rest F L n i h.coefficients)
        relation = (exact (rest F L n i h.coefficients)).0 (λ j. entry_sum h.coefficients j
            ∙ ap (λ t. F.add t (F.mul (F.neg F.one) (w i j))) (sym (h.sum j))
            ∙ ring1 F.ring L.laws (λ w. w ⊕ neg unit ⊗ w) (λ w. nil) refl (w i j))

    pub span_element : InSpanOf L f n (elems_of L f list) (elems_of L f list i)
        → InSpan F.ring n (vectors_of F (rows_of vectors)) (vectors_of F (rows_of vectors) i)
    span_element h = record {
      coefficients = h.coefficients;
      sum = λ j. ring2 F.ring L.laws (λ s w. w) (λ s w. neg (s ⊕ neg unit ⊗ w) ⊕ s) refl (total j)
          (w i j) ∙ ap (λ t. F.add (F.neg t) (total j)) (sym (entry_sum h.coefficients j)
          ∙ relation j) ∙ ring1 F.ring L.laws (λ s. neg nil ⊕ s) (λ s. s) refl (total j);
    }
      where
        total : ℕ → F.carrier
        total j = sum_below F.ring n (λ k. F.mul (h.coefficients k) (w k j))

        relation : IsRelation F (rows_of vectors) (rest F L n i h.coefficients)
        relation = (exact (rest F L n i h.coefficients)).1 (element_sum h.coefficients
            ∙ ap₂ A.add (sym h.sum) (ap (λ t. A.mul t (g i)) minus_one)
            ∙ ring1 A AL (λ g. g ⊕ neg unit ⊗ g) (λ g. nil) refl (g i))

  -- lists one after the other
  module _ (lower upper : List Elem) where
    left_is : (i : ℕ) → i < length lower
        → elems_of L f (lower ++ upper) i ≡ elems_of L f lower i
    left_is i l = coeff-map A (elem_of L f) (lower ++ upper) i d
        (let a = length-append lower upper in omega (arith, l, a))
        ∙ ap (elem_of L f) (get_or_append_left lower upper d i l)
        ∙ sym (coeff-map A (elem_of L f) lower i d l)
      where
        d : Elem
        d = record { den = []; num = [] }

    pub right_is : (i : ℕ) → i < length upper
        → elems_of L f (lower ++ upper) (length lower + i) ≡ elems_of L f upper i
    right_is i l = coeff-map A (elem_of L f) (lower ++ upper) (length lower + i) d
        (let a = length-append lower upper in omega (arith, l, a))
        ∙ ap (elem_of L f) (get_or-append-add lower upper i d)
        ∙ sym (coeff-map A (elem_of L f) upper i d l)
      where
        d : Elem
        d = record { den = []; num = [] }

    pub span_left : (w : (algebra_in L f).carrier)
        → InSpanOf L f (length lower) (elems_of L f (lower ++ upper)) w
        → InSpanOf L f (length lower) (elems_of L f lower) w
    span_left w h = record {
      coefficients = h.coefficients;
      sum = h.sum ∙ sum-ext A AL (length lower) _ _
          (λ i l. ap (A.mul (constant_in L f (h.coefficients i))) (left_is i l));
    }

    pub left_span : (w : (algebra_in L f).carrier)
        → InSpanOf L f (length lower) (elems_of L f lower) w
        → InSpanOf L f (length lower) (elems_of L f (lower ++ upper)) w
    left_span w h = record {
      coefficients = h.coefficients;
      sum = h.sum ∙ sum-ext A AL (length lower) _ _
          (λ i l. ap (A.mul (constant_in L f (h.coefficients i))) (sym (left_is i l)));
    }

    -- what the first vector outside the span says
    module _ (vectors : List (Vec ℕ)) (exact : (c : ℕ → F.carrier)
        → IsRelation F (rows_of vectors) c ↔ IsRelationOf L f (lower ++ upper) c)
        (long : length vectors ≡ length (lower ++ upper)) (i : ℕ)
        (outside : IsFirstOutside F (rows_of vectors) (length lower) i) where
      both : length (lower ++ upper) ≡ length lower + length upper
      both = length-append lower upper

      rows_count : length (rows_of vectors) ≡ length lower + length upper
      rows_count = length-map vectors (λ v. v.items) ∙ long ∙ both

      pub none_picked : length (lower ++ upper) ≤ i → IsPicked L f lower upper None
      none_picked l k q = subst (InSpanOf L f (length lower) (elems_of L f lower)) (right_is k q)
          (span_left _ (element_span (lower ++ upper) vectors exact long (length lower)
          (length lower + k) (omega (arith, both)) (omega (arith, both, q))
          (outside.inside (length lower + k) (omega arith) (omega (arith, l, both, q))
          (omega (arith, rows_count, q)))))

      pub one_picked : (w : Elem) → i < length (lower ++ upper)
          → elem_of L f w ≡ elems_of L f (lower ++ upper) i → IsPicked L f lower upper (Some w)
      one_picked w l e = (
        i - length lower,
        (
          omega (arith, after, l, both),
          (
            e ∙ ap (elems_of L f (lower ++ upper)) at
                ∙ right_is (i - length lower) (omega (arith, after, l, both)),
            λ h. outside.outside (omega (arith, l, both, rows_count))
                (span_element (lower ++ upper) vectors exact long (length lower) i
                (omega (arith, both)) l (subst (InSpanOf L f (length lower)
                (elems_of L f (lower ++ upper))) e (left_span (elem_of L f w) h))),
          ),
        ),
      )
        where
          after : length lower ≤ i
          after = outside.after (omega (arith, l, both, rows_count))

          at : i ≡ length lower + (i - length lower)
          at = omega (arith, after)
