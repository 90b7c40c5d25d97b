-- The steps of an elimination: a vector that is cleared at the pivot of one row after another, and
-- a row more.
use Rattle.std.proofs.Common.{◌≡◌, ℕ, zero, suc, ◌+◌ as plus_ℕ, ◌-◌, ◌<◌, ◌≤◌, ◌⊎◌, inl, inr}
use Rattle.std.proofs.Common.{List, []}
use Rattle.std.proofs.Common.{◌∷◌, ◌++◌, map, length, get_or, refl, sym, ◌∙◌, ap, subst, arith}
use Rattle.std.proofs.lemmas.Bool.{cases_lt}
use Rattle.std.proofs.lemmas.List.{get_or-map, length_push}
use Rattle.ff_theory.specs.Ring.{RingOps, IsCommRing, Elements}
use Rattle.ff_theory.specs.Lawful.{Lawful}
use Rattle.ff_theory.specs.Poly.{coeff, Poly, poly, list_scale}
use Rattle.ff_theory.specs.Monomial.{raised, monomial}
use Rattle.ff_theory.specs.Span.{combination}
use Rattle.ff_theory.specs.Values.{poly_of, polys_over}
use Rattle.ff_theory.specs.Vector.{vector_of}
use Rattle.ff_theory.proofs.Coeffs.{coeff-push, coeff-past}
use Rattle.ff_theory.proofs.Division.{add_at}
use Rattle.ff_theory.proofs.Monomial.{monomial-mul, raised-at, raised-below}
use Rattle.ff_theory.proofs.Poly.{trim-coeff, scale-coeff}
use Rattle.ff_theory.proofs.Solver.{◌⊕◌, ◌⊗◌, neg, nil, unit, ring1, ring2, ring3, mul_zero}
use Rattle.ff_theory.proofs.Solver.{zero_mul}
use Rattle.ff_theory.proofs.Sums.{sum-ext, sum-add, sum-zero, sum-single}
use Rattle.ff_lin.proofs.Entries.{entry}
use Rattle.ff_functions.specs.declared.echelon.Row.{Row}
use Rattle.ff_functions.specs.Rows.{vector_list, origin_list, row_vectors, row_origins, pivot_at}
use Rattle.ff_functions.specs.Rows.{AreStepped, IsCleared, IsShifted, IsReduced, InRows, IsExtended}
use Rattle.ff_functions.specs.Rows.{put_last, IsDependent, IsIndependentOf, IsRelated}

pub put-below : {C : Type 0} (r : ℕ) (g : ℕ → C) (f : C) (i : ℕ) → i < r → put_last r g f i ≡ g i
put-below zero g f i l = absurd (omega (arith, l))
put-below (suc r) g f zero l = refl
put-below (suc r) g f (suc i) l = put-below r (λ n. g (suc n)) f i (omega (arith, l))

pub put-at : {C : Type 0} (r : ℕ) (g : ℕ → C) (f : C) → put_last r g f r ≡ f
put-at zero g f = refl
put-at (suc r) g f = put-at r (λ n. g (suc n)) f

module _ {X Y : Type 0} (f : X → Y) where
  pub pushed-below : (xs : List X) (x : X) (i : ℕ) (e : Y) → i < length xs
      → get_or (map f (xs ++ x ∷ [])) i e ≡ get_or (map f xs) i e
  pushed-below [] x i e l = absurd (omega (arith, l))
  pushed-below (y ∷ xs) x zero e l = refl
  pushed-below (y ∷ xs) x (suc i) e l = pushed-below xs x i e (omega (arith, l))

  pub pushed-last : (xs : List X) (x : X) (e : Y)
      → get_or (map f (xs ++ x ∷ [])) (length xs) e ≡ f x
  pushed-last [] x e = refl
  pushed-last (y ∷ xs) x e = pushed-last xs x e

module _ (R : RingOps) (laws : IsCommRing R) where
  pub combination-put : (r : ℕ) (g : ℕ → R.carrier) (f : R.carrier) (w : ℕ → ℕ → R.carrier) (j : ℕ)
      → combination R (suc r) (put_last r g f) w j
      ≡ R.add (combination R r g w j) (R.mul f (w r j))
  combination-put r g f w j =
      ap (λ t. R.add (combination R r (put_last r g f) w j) (R.mul t (w r j))) (put-at r g f)
      ∙ ap (λ t. R.add t (R.mul f (w r j)))
      (sum-ext R laws r (λ i. R.mul (put_last r g f i) (w i j)) (λ i. R.mul (g i) (w i j))
      (λ i l. ap (λ t. R.mul t (w i j)) (put-below r g f i l)))

module _ (F : Elements ℕ) (L : Lawful F) where
  raised-scale : (n : ℕ) (c : F.carrier) (p : List F.carrier) (i : ℕ)
      → coeff F.ring (raised F.ring n (list_scale F.ring c p)) i
      ≡ F.mul c (coeff F.ring (raised F.ring n p) i)
  raised-scale zero c p i = scale-coeff F.ring L.laws L.tests c p i
  raised-scale (suc n) c p zero = sym (mul_zero F.ring L.laws c)
  raised-scale (suc n) c p (suc i) = raised-scale n c p i

  poly-entry : (v : List ℕ) (j : ℕ) → coeff F.ring (poly_of F v).coeffs j ≡ vector_of F v j
  unfolding poly
  poly-entry v j = trim-coeff F.ring L.laws L.tests (map F.value v) j

  -- the entries of what a multiple of a list was added to
  pub scaled_entries : (new old b : List ℕ) (c : F.carrier) (at : ℕ) → poly_of F new
      ≡ (polys_over F).add (poly_of F old)
      ((polys_over F).mul (monomial F.ring c at) (poly_of F b))
      → (j : ℕ) → vector_of F new j ≡ F.add (vector_of F old j)
      (F.mul c (coeff F.ring (raised F.ring at (map F.value b)) j))
  unfolding poly
  scaled_entries new old b c at e j = sym (poly-entry new j)
      ∙ ap (λ (p : Poly F.ring). coeff F.ring p.coeffs j) e
      ∙ add_at F.ring L.laws L.tests (poly_of F old)
      ((polys_over F).mul (monomial F.ring c at) (poly_of F b)) j
      ∙ ap (λ t. F.add t (coeff F.ring ((polys_over F).mul (monomial F.ring c at)
      (poly_of F b)).coeffs j)) (poly-entry old j)
      ∙ ap (F.add (vector_of F old j))
      (ap (λ (p : Poly F.ring). coeff F.ring p.coeffs j)
      (monomial-mul F.ring L.laws L.tests at c (map F.value b))
      ∙ trim-coeff F.ring L.laws L.tests (raised F.ring at (list_scale F.ring c (map F.value b))) j
      ∙ raised-scale at c (map F.value b) j)

  module _ (rows : List Row) (r : ℕ) (row : Row) (l : r < length rows) (e : row ≡ get_or rows r row)
    where
      pub vector_at : (j : ℕ) → row_vectors F rows r j ≡ coeff F.ring (vector_list F row) j
      vector_at j = ap (λ t. coeff F.ring t j) (get_or-map (vector_list F) rows r row [] l
          ∙ ap (vector_list F) (sym e))

      pub origin_at : (j : ℕ) → row_origins F rows r j ≡ vector_of F row.origin.items j
      origin_at j = ap (λ t. coeff F.ring t j) (get_or-map (origin_list F) rows r row [] l
          ∙ ap (origin_list F) (sym e))

      pub pivot_is : pivot_at F rows r ≡ row.pivot
      pivot_is = get_or-map (λ (r : Row). r.pivot) rows r row 0 l
          ∙ ap (λ (r : Row). r.pivot) (sym e)

  module _ (rows : List Row) where
    pub reduced_none : (v c : ℕ → F.carrier) → IsReduced F rows 0 v c v c
    reduced_none v c = record {
      shifted = record {
        factors = λ i. F.zero;
        vector = λ j. sym (L.laws.add_zero (v j));
        origin = λ j. sym (L.laws.add_zero (c j));
      };
      cleared = λ i l. absurd (omega (arith, l));
    }

    -- with a multiple of the next row
    pub shifted_step : (r : ℕ) (v c w d w2 d2 : ℕ → F.carrier) (f : F.carrier)
        → IsShifted F rows r v c w d
        → ((j : ℕ) → w2 j ≡ F.add (w j) (F.mul f (row_vectors F rows r j)))
        → ((j : ℕ) → d2 j ≡ F.add (d j) (F.mul f (row_origins F rows r j)))
        → IsShifted F rows (suc r) v c w2 d2
    shifted_step r v c w d w2 d2 f h hw hd = record {
      factors = put_last r h.factors f;
      vector = λ j. go (row_vectors F rows) (v j) (w j) (w2 j) j (h.vector j) (hw j);
      origin = λ j. go (row_origins F rows) (c j) (d j) (d2 j) j (h.origin j) (hd j);
    }
      where
        go : (b : ℕ → ℕ → F.carrier) (x y z : F.carrier) (j : ℕ)
            → y ≡ F.add x (combination F.ring r h.factors b j)
            → z ≡ F.add y (F.mul f (b r j))
            → z ≡ F.add x (combination F.ring (suc r) (put_last r h.factors f) b j)
        go b x y z j e k = k ∙ ap (λ t. F.add t (F.mul f (b r j))) e
            ∙ L.laws.add_assoc x (combination F.ring r h.factors b j) (F.mul f (b r j))
            ∙ ap (F.add x) (sym (combination-put F.ring L.laws r h.factors f b j))

    pub reduced_step : AreStepped F rows → (r : ℕ) → r < length rows
        → (v c w d w2 d2 : ℕ → F.carrier) (f : F.carrier) → IsReduced F rows r v c w d
        → f ≡ F.neg (w (pivot_at F rows r))
        → ((j : ℕ) → w2 j ≡ F.add (w j) (F.mul f (row_vectors F rows r j)))
        → ((j : ℕ) → d2 j ≡ F.add (d j) (F.mul f (row_origins F rows r j)))
        → IsReduced F rows (suc r) v c w2 d2
    reduced_step steps r l v c w d w2 d2 f h hf hw hd = record {
      shifted = shifted_step r v c w d w2 d2 f h.shifted hw hd;
      cleared = λ i q. go i (cases_lt i r) q;
    }
      where
        go : (i : ℕ) → (i < r) ⊎ (r ≤ i) → i < suc r → w2 (pivot_at F rows i) ≡ F.zero
        go i (inl q) k = hw (pivot_at F rows i)
            ∙ ap (λ t. F.add t (F.mul f (row_vectors F rows r (pivot_at F rows i))))
            (h.cleared i q)
            ∙ ap (λ t. F.add F.zero (F.mul f t)) (steps.zero_at i r q l)
            ∙ ring1 F.ring L.laws (λ f. nil ⊕ f ⊗ nil) (λ f. nil) refl f
        go i (inr q) k = let e : i ≡ r = omega (arith, q, k) in
            ap (λ i. w2 (pivot_at F rows i)) e ∙ hw (pivot_at F rows r)
            ∙ ap (λ t. F.add (w (pivot_at F rows r)) (F.mul t (row_vectors F rows r (pivot_at F rows
            r)))) hf
            ∙ ap (λ t. F.add (w (pivot_at F rows r)) (F.mul (F.neg (w (pivot_at F rows r))) t))
            (steps.one_at r l)
            ∙ ring1 F.ring L.laws (λ a. a ⊕ neg a ⊗ unit) (λ a. nil) refl (w (pivot_at F rows r))

  -- clearing at the pivot of one row
  pub clear_value : (row : Row) (v w : List ℕ) (factor : ℕ) (c d : List ℕ)
      → row.pivot < length v → F.value factor ≡ F.neg (F.value (get_or v row.pivot 0))
      → poly_of F w ≡ (polys_over F).add (poly_of F v)
      ((polys_over F).mul (monomial F.ring (F.value factor) row.pivot)
      (poly_of F row.tail.items))
      → poly_of F d ≡ (polys_over F).add (poly_of F c)
      ((polys_over F).mul (monomial F.ring (F.value factor) 0) (poly_of F row.origin.items))
      → IsCleared F row (vector_of F v) (vector_of F c) (vector_of F w) (vector_of F d)
  clear_value row v w factor c d l hf hw hd = record {
    vector = λ j. scaled_entries w v row.tail.items (F.value factor) row.pivot hw j
        ∙ ap (λ t. F.add (vector_of F v j) (F.mul t (coeff F.ring (vector_list F row) j))) at;
    origin = λ j. scaled_entries d c row.origin.items (F.value factor) 0 hd j
        ∙ ap (λ t. F.add (vector_of F c j) (F.mul t (coeff F.ring (origin_list F row) j))) at;
  }
    where
      at : F.value factor ≡ F.neg (vector_of F v row.pivot)
      at = hf ∙ ap F.neg (sym (entry F v row.pivot l))

  pub clear_nothing : (row : Row) (v : List ℕ) (factor : ℕ) (c : List ℕ)
      → row.pivot < length v → F.value factor ≡ F.neg (F.value (get_or v row.pivot 0))
      → F.value factor ≡ F.zero
      → IsCleared F row (vector_of F v) (vector_of F c) (vector_of F v) (vector_of F c)
  clear_nothing row v factor c l hf z = record {
    vector = λ j. none (vector_of F v j) (coeff F.ring (vector_list F row) j);
    origin = λ j. none (vector_of F c j) (coeff F.ring (origin_list F row) j);
  }
    where
      at : F.neg (vector_of F v row.pivot) ≡ F.zero
      at = ap F.neg (entry F v row.pivot l) ∙ sym hf ∙ z

      none : (x b : F.carrier) → x ≡ F.add x (F.mul (F.neg (vector_of F v row.pivot)) b)
      none x b = ring2 F.ring L.laws (λ x b. x) (λ x b. x ⊕ nil ⊗ b) refl x b
          ∙ ap (λ t. F.add x (F.mul t b)) (sym at)

  pub reduced_clear : (rows : List Row) → AreStepped F rows → (r m : ℕ) → r < length rows
      → m ≡ suc r → (row : Row) → row ≡ get_or rows r row → (v c w d w2 d2 : ℕ → F.carrier)
      → IsReduced F rows r v c w d → IsCleared F row w d w2 d2 → IsReduced F rows m v c w2 d2
  reduced_clear rows steps r m l e row hr v c w d w2 d2 h k =
      subst (λ n. IsReduced F rows n v c w2 d2) (sym e)
      (reduced_step rows steps r l v c w d w2 d2 (F.neg (w row.pivot)) h
      (ap (λ i. F.neg (w i)) (sym (pivot_is rows r row l hr)))
      (λ j. k.vector j ∙ ap (λ t. F.add (w j) (F.mul (F.neg (w row.pivot)) t))
      (sym (vector_at rows r row l hr j)))
      (λ j. k.origin j ∙ ap (λ t. F.add (d j) (F.mul (F.neg (w row.pivot)) t))
      (sym (origin_at rows r row l hr j))))

  -- a row more, of which the entries from the pivot on are those of v times the inverse of the
  -- first
  module _ (rows : List Row) (row : Row) (v c : ℕ → F.carrier) (x : F.carrier)
      (tail : (i : ℕ) → vector_of F row.tail.items i ≡ F.mul x (v (plus_ℕ row.pivot i)))
      (origin : (i : ℕ) → vector_of F row.origin.items i ≡ F.mul x (c (plus_ℕ 0 i)))
      (before : (j : ℕ) → j < row.pivot → v j ≡ F.zero)
      (inverse : F.mul (v row.pivot) x ≡ F.one) where
    entries : (j : ℕ) → coeff F.ring (vector_list F row) j ≡ F.mul x (v j)
    entries j = go (cases_lt j row.pivot)
      where
        go : (j < row.pivot) ⊎ (row.pivot ≤ j) → coeff F.ring (vector_list F row) j ≡ F.mul x (v j)
        go (inl l) = raised-below F.ring row.pivot (map F.value row.tail.items) j l
            ∙ sym (ap (F.mul x) (before j l) ∙ mul_zero F.ring L.laws x)
        go (inr l) = let e : j ≡ plus_ℕ row.pivot (j - row.pivot) = omega (arith, l) in
            raised-at F.ring row.pivot (map F.value row.tail.items) (j - row.pivot) j e
            ∙ tail (j - row.pivot) ∙ ap (λ i. F.mul x (v i)) (sym e)

    last_vector : (j : ℕ) → row_vectors F (rows ++ row ∷ []) (length rows) j ≡ F.mul x (v j)
    last_vector j = ap (λ t. coeff F.ring t j) (pushed-last (vector_list F) rows row []) ∙ entries j

    pub extended : IsExtended F rows v c (rows ++ row ∷ [])
    extended = record {
      count = length_push rows row;
      same_vectors = λ i j l. ap (λ t. coeff F.ring t j)
          (pushed-below (vector_list F) rows row i [] l);
      same_origins = λ i j l. ap (λ t. coeff F.ring t j)
          (pushed-below (origin_list F) rows row i [] l);
      factor = x;
      nonzero = λ e. L.finite.field.one_not_zero
          (sym inverse ∙ ap (F.mul (v row.pivot)) e ∙ mul_zero F.ring L.laws (v row.pivot));
      vector = last_vector;
      origin = λ j. ap (λ t. coeff F.ring t j) (pushed-last (origin_list F) rows row [])
          ∙ origin j ∙ (let e : plus_ℕ 0 j ≡ j = omega arith in ap (λ i. F.mul x (c i)) e);
    }

    pub extended_stepped : AreStepped F rows
        → ((i : ℕ) → i < length rows → v (pivot_at F rows i) ≡ F.zero)
        → AreStepped F (rows ++ row ∷ [])
    extended_stepped h cleared = record {
      one_at = λ i l. one i (cases_lt i (length rows)) l;
      zero_at = λ i l a b. none i l (cases_lt l (length rows)) a b;
    }
      where
        new : List Row
        new = rows ++ row ∷ []

        old : (i : ℕ) → i < length rows → pivot_at F (rows ++ row ∷ []) i ≡ pivot_at F rows i
        old i l = pushed-below (λ (r : Row). r.pivot) rows row i 0 l

        one : (i : ℕ) → (i < length rows) ⊎ (length rows ≤ i) → i < length (rows ++ row ∷ [])
            → row_vectors F (rows ++ row ∷ []) i (pivot_at F (rows ++ row ∷ []) i) ≡ F.one
        one i (inl q) l = ap (λ t. coeff F.ring t (pivot_at F new i))
            (pushed-below (vector_list F) rows row i [] q)
            ∙ ap (row_vectors F rows i) (old i q) ∙ h.one_at i q
        one i (inr q) l = let e : i ≡ length rows = omega (arith, q, l, length_push rows row) in
            ap (λ i. row_vectors F new i (pivot_at F new i)) e
            ∙ last_vector (pivot_at F new (length rows))
            ∙ ap (λ i. F.mul x (v i)) (pushed-last (λ (r : Row). r.pivot) rows row 0)
            ∙ L.laws.mul_comm x (v row.pivot) ∙ inverse

        none : (i l : ℕ) → (l < length rows) ⊎ (length rows ≤ l) → i < l
            → l < length (rows ++ row ∷ [])
            → row_vectors F (rows ++ row ∷ []) l (pivot_at F (rows ++ row ∷ []) i) ≡ F.zero
        none i l (inl q) a b = ap (λ t. coeff F.ring t (pivot_at F new i))
            (pushed-below (vector_list F) rows row l [] q)
            ∙ ap (row_vectors F rows l) (old i (omega (arith, a, q))) ∙ h.zero_at i l a q
        none i l (inr q) a b = let e : l ≡ length rows = omega (arith, q, b, length_push rows row)
            in let k : i < length rows = omega (arith, a, e) in
            ap (λ l. row_vectors F new l (pivot_at F new i)) e
            ∙ last_vector (pivot_at F new i)
            ∙ ap (λ i. F.mul x (v i)) (old i k) ∙ ap (F.mul x) (cleared i k)
            ∙ mul_zero F.ring L.laws x

  -- a combination of stepped rows that is zero at all pivots has no coefficients
  module _ (rows : List Row) (steps : AreStepped F rows) (h : ℕ → F.carrier)
      (none : (i : ℕ) → i < length rows → combination F.ring (length rows) h (row_vectors F rows)
      (pivot_at F rows i) ≡ F.zero) where
    -- the one at index n, after those before it
    next : (n : ℕ) → n < length rows → ((i : ℕ) → i < n → h i ≡ F.zero) → h n ≡ F.zero
    next n l rest = sym (L.laws.mul_one (h n)) ∙ ap (F.mul (h n)) (sym (steps.one_at n l))
        ∙ sym (sum-single F.ring L.laws (length rows) n
        (λ i. F.mul (h i) (row_vectors F rows i (pivot_at F rows n))) l others) ∙ none n l
      where
        others : (k : ℕ) → k < length rows → ¬ (k ≡ n)
            → F.mul (h k) (row_vectors F rows k (pivot_at F rows n)) ≡ F.zero
        others k r d = at (cases_lt k n)
          where
            at : (k < n) ⊎ (n ≤ k) → F.mul (h k) (row_vectors F rows k (pivot_at F rows n)) ≡ F.zero
            at (inl s) = ap (λ t. F.mul t (row_vectors F rows k (pivot_at F rows n))) (rest k s)
                ∙ zero_mul F.ring L.laws (row_vectors F rows k (pivot_at F rows n))
            at (inr s) = let e : n < k = omega (arith, s, d) in
                ap (F.mul (h k)) (steps.zero_at n k e r) ∙ mul_zero F.ring L.laws (h k)

    with_next : (n : ℕ) → n < length rows → ((i : ℕ) → i < n → h i ≡ F.zero)
        → (i : ℕ) → i < suc n → h i ≡ F.zero
    with_next n l rest i q = go (cases_lt i n)
      where
        go : (i < n) ⊎ (n ≤ i) → h i ≡ F.zero
        go (inl k) = rest i k
        go (inr k) = let e : i ≡ n = omega (arith, q, k) in ap h e ∙ next n l rest

    below : (n : ℕ) → n ≤ length rows → (i : ℕ) → i < n → h i ≡ F.zero
    below zero l = λ i q. absurd (omega (arith, q))
    below (suc n) l = with_next n (omega (arith, l)) (below n (omega (arith, l)))

    pub no_coefficients : (i : ℕ) → i < length rows → h i ≡ F.zero
    no_coefficients = let n : length rows ≤ length rows = omega arith in below (length rows) n

    pub no_combination : (j : ℕ)
        → combination F.ring (length rows) h (row_vectors F rows) j ≡ F.zero
    no_combination j = sum-ext F.ring L.laws (length rows)
        (λ i. F.mul (h i) (row_vectors F rows i j)) (λ i. F.zero)
        (λ i l. ap (λ t. F.mul t (row_vectors F rows i j)) (no_coefficients i l)
        ∙ zero_mul F.ring L.laws (row_vectors F rows i j)) ∙ sum-zero F.ring L.laws (length rows)

  -- a vector that is not zero after it was reduced is no combination of the rows
  pub reduced_outside : (rows : List Row) → AreStepped F rows → (v c w d : ℕ → F.carrier) (p : ℕ)
      → IsReduced F rows (length rows) v c w d → ¬ (w p ≡ F.zero) → ¬ InRows F rows v
  reduced_outside rows steps v c w d p h n k = n (sum p
      ∙ no_combination rows steps (λ i. F.add (k.coefficients i) (h.shifted.factors i))
      (λ i l. sym (sum (pivot_at F rows i)) ∙ h.cleared i l) p)
    where
      sum : (j : ℕ) → w j ≡ combination F.ring (length rows)
          (λ i. F.add (k.coefficients i) (h.shifted.factors i)) (row_vectors F rows) j
      sum j = h.shifted.vector j ∙ ap (λ t. F.add t (combination F.ring (length rows)
          h.shifted.factors (row_vectors F rows) j)) (k.sum j)
          ∙ sym (sum-add F.ring L.laws (length rows)
          (λ i. F.mul (k.coefficients i) (row_vectors F rows i j))
          (λ i. F.mul (h.shifted.factors i) (row_vectors F rows i j)))
          ∙ sum-ext F.ring L.laws (length rows) _ _ (λ i l. ring3 F.ring L.laws
          (λ a b w. a ⊗ w ⊕ b ⊗ w) (λ a b w. (a ⊕ b) ⊗ w) refl (k.coefficients i)
          (h.shifted.factors i) (row_vectors F rows i j))

  -- a vector that is zero after it was reduced is one, with a relation
  pub reduced_dependent : (rows : List Row) (v c w d : ℕ → F.carrier)
      → IsReduced F rows (length rows) v c w d → ((j : ℕ) → w j ≡ F.zero)
      → IsDependent F rows v c d
  reduced_dependent rows v c w d h z = record {
    factors = h.shifted.factors;
    vector = λ j. sym (z j) ∙ h.shifted.vector j;
    origin = h.shifted.origin;
  }

  -- the list of the products with c of the entries of v from an index on
  pub scaled_push : (c x start j : ℕ) (v list new : List ℕ) → new ≡ list ++ x ∷ []
      → plus_ℕ start (length list) ≡ j → j < length v
      → F.value x ≡ F.mul (F.value c) (F.value (get_or v j 0))
      → ((i : ℕ) → i < length list → vector_of F list i
      ≡ F.mul (F.value c) (vector_of F v (plus_ℕ start i)))
      → (i : ℕ) → i < length new → vector_of F new i
      ≡ F.mul (F.value c) (vector_of F v (plus_ℕ start i))
  scaled_push c x start j v list new e n l hx rest i q = ap (λ t. vector_of F t i) e
      ∙ coeff-push F.ring F.value list x (λ i. F.mul (F.value c) (vector_of F v (plus_ℕ start i)))
      (length list) refl rest
      (hx ∙ ap (F.mul (F.value c)) (sym (entry F v j l) ∙ ap (vector_of F v) (sym n))) i
      (omega (arith, q, ap length e, length_push list x))

  pub scaled_end : (c start : ℕ) (v list : List ℕ) → plus_ℕ start (length list) ≡ length v
      → ((i : ℕ) → i < length list → vector_of F list i
      ≡ F.mul (F.value c) (vector_of F v (plus_ℕ start i)))
      → (i : ℕ) → vector_of F list i ≡ F.mul (F.value c) (vector_of F v (plus_ℕ start i))
  scaled_end c start v list n h i = go (cases_lt i (length list))
    where
      go : (i < length list) ⊎ (length list ≤ i) → vector_of F list i
          ≡ F.mul (F.value c) (vector_of F v (plus_ℕ start i))
      go (inl l) = h i l
      go (inr l) = coeff-past F.ring F.value list i l
          ∙ sym (ap (F.mul (F.value c)) (coeff-past F.ring F.value v (plus_ℕ start i)
          (omega (arith, l, n))) ∙ mul_zero F.ring L.laws (F.value c))

  pub reduced_lists : (rows : List Row) (n : ℕ) (v v2 c c2 w w2 d d2 : List ℕ) → v ≡ v2 → c ≡ c2
      → w2 ≡ w → d2 ≡ d
      → IsReduced F rows n (vector_of F v) (vector_of F c) (vector_of F w) (vector_of F d)
      → IsReduced F rows n (vector_of F v2) (vector_of F c2) (vector_of F w2) (vector_of F d2)
  reduced_lists rows n v v2 c c2 w w2 d d2 hv hc hw hd h =
      subst (λ x. IsReduced F rows n (vector_of F x) (vector_of F c2) (vector_of F w2)
      (vector_of F d2)) hv
      (subst (λ x. IsReduced F rows n (vector_of F v) (vector_of F x) (vector_of F w2)
      (vector_of F d2)) hc
      (subst (λ x. IsReduced F rows n (vector_of F v) (vector_of F c) (vector_of F x)
      (vector_of F d2)) (sym hw)
      (subst (λ x. IsReduced F rows n (vector_of F v) (vector_of F c) (vector_of F w)
      (vector_of F x)) (sym hd) h)))

  -- the inverse of the entry of a list that is not 0
  pub entry_inverse : (v : List ℕ) (p x : ℕ) → p < length v → ¬ (vector_of F v p ≡ F.zero)
      → F.value x ≡ F.inverse (F.value (get_or v p 0))
      → F.mul (vector_of F v p) (F.value x) ≡ F.one
  entry_inverse v p x l n e = ap (F.mul (vector_of F v p)) (e ∙ ap F.inverse (sym (entry F v p l)))
      ∙ L.finite.field.mul_inverse (vector_of F v p) n

  -- what inserting makes, as the code has it
  pub inserted_row : (rows new : List Row) (v c : ℕ → F.carrier) (w w2 d d2 : List ℕ) (p : ℕ)
      → AreStepped F rows → IsReduced F rows (length rows) v c (vector_of F w) (vector_of F d)
      → ¬ (vector_of F w p ≡ F.zero) → w2 ≡ w → d2 ≡ d
      → IsExtended F rows (vector_of F w2) (vector_of F d2) new → IsIndependentOf F rows v c new
  inserted_row rows new v c w w2 d d2 p steps h n ew ed k = record {
    outside = reduced_outside rows steps v c (vector_of F w) (vector_of F d) p h n;
    w = vector_of F w;
    d = vector_of F d;
    shifted = h.shifted;
    extended = subst (λ x. IsExtended F rows (vector_of F x) (vector_of F d) new) ew
        (subst (λ x. IsExtended F rows (vector_of F w2) (vector_of F x) new) ed k);
  }

  pub inserted_none : (rows : List Row) (v c : ℕ → F.carrier) (w d : List ℕ) (p : ℕ)
      → IsReduced F rows (length rows) v c (vector_of F w) (vector_of F d) → length w ≤ p
      → ((j : ℕ) → j < p → vector_of F w j ≡ F.zero) → IsRelated F rows v c rows d
  inserted_none rows v c w d p h l z = record {
    same = refl;
    dependent = reduced_dependent rows v c (vector_of F w) (vector_of F d) h
        (λ j. go j (cases_lt j p));
  }
    where
      go : (j : ℕ) → (j < p) ⊎ (p ≤ j) → vector_of F w j ≡ F.zero
      go j (inl q) = z j q
      go j (inr q) = coeff-past F.ring F.value w j (omega (arith, l, q))
