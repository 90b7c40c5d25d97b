-- Rows that hold the images of numerators: a combination of them is the image of a combination.
use Rattle.std.proofs.Common.{◌≡◌, ℕ, zero, suc, ◌<◌, ◌≤◌, ◌⊎◌, inl, inr, List, []}
use Rattle.std.proofs.Common.{◌∷◌, ◌++◌, length, refl, sym, ◌∙◌, ap, subst, arith}
use Rattle.std.proofs.Common.{Option, None, Some, Vec, Global}
use Rattle.std.proofs.lemmas.Bool.{cases_lt}
use Rattle.ff_theory.specs.Ring.{Elements}
use Rattle.ff_theory.specs.Lawful.{Lawful}
use Rattle.ff_theory.specs.Span.{combination, InSpan, unit_at}
use Rattle.ff_theory.proofs.Solver.{◌⊕◌, ◌⊗◌, neg, nil, unit, ring1, ring2, ring3, ring4}
use Rattle.ff_theory.proofs.Solver.{mul_zero, zero_mul}
use Rattle.ff_theory.proofs.Span.{span-same, span-zero, span-more, span-one, span-combination}
use Rattle.ff_theory.proofs.Span.{span-inside, unit-same, unit-other}
use Rattle.ff_theory.proofs.Linear.{by_sums}
use Rattle.ff_theory.proofs.Sums.{sum-ext, sum-mul, sum-zero, sum-single}
use Rattle.ff_theory.specs.Vector.{vector_of, vectors_of}
use Rattle.ff_lin.specs.Space.{SpaceParts}
use Rattle.ff_functions.specs.declared.echelon.Row.{Row}
use Rattle.ff_functions.specs.Rows.{row_vectors, row_origins, IsShifted, InRows, IsExtended}
use Rattle.ff_functions.specs.Rows.{IsIndependentOf, IsDependent, IsSpannedWith, put_last}
use Rattle.ff_functions.specs.Rows.{HoldBasis, IsImageBy, IsSpanned, HoldImages, IsInserted}
use Rattle.ff_functions.proofs.RowLemmas.{put-below, put-at}

module _ (F : Elements ℕ) (L : Lawful F) where
  -- what a row more spans
  extended_old : (rows new : List Row) (w d : ℕ → F.carrier) → IsExtended F rows w d new
      → (v : ℕ → F.carrier) → InRows F rows v → InRows F new v
  extended_old rows new w d h v k = span-inside F.ring L.laws (length rows) (row_vectors F rows)
      (length new) (row_vectors F new) v
      (λ i l. span-same F.ring L.laws (length new) (row_vectors F new) (row_vectors F new i)
      (row_vectors F rows i) (λ j. sym (h.same_vectors i j l))
      (span-one F.ring L.laws (length new) (row_vectors F new) i (omega (arith, l, h.count)))) k

  extended_one : (rows new : List Row) (w d : ℕ → F.carrier) → IsExtended F rows w d new
      → InRows F new w
  extended_one rows new w d h = span-same F.ring L.laws (length new) (row_vectors F new)
      (λ j. F.add (F.mul (F.inverse h.factor) (row_vectors F new (length rows) j)) F.zero) w
      (λ j. sym (ap (λ t. F.add (F.mul (F.inverse h.factor) t) F.zero) (h.vector j)
      ∙ ring3 F.ring L.laws (λ i x w. i ⊗ (x ⊗ w) ⊕ nil) (λ i x w. (x ⊗ i) ⊗ w) refl
      (F.inverse h.factor) h.factor (w j)
      ∙ ap (λ t. F.mul t (w j)) (L.finite.field.mul_inverse h.factor h.nonzero)
      ∙ ring1 F.ring L.laws (λ w. unit ⊗ w) (λ w. w) refl (w j)))
      (span-more F.ring L.laws (length new) (row_vectors F new) (F.inverse h.factor)
      (row_vectors F new (length rows)) (λ j. F.zero)
      (span-one F.ring L.laws (length new) (row_vectors F new) (length rows)
      (omega (arith, h.count))) (span-zero F.ring L.laws (length new) (row_vectors F new)))

  -- v is what it was shifted to, without the combination of the rows
  shifted_back : (s : ℕ) (u : ℕ → ℕ → F.carrier) (rows : List Row) (r : ℕ)
      (v c w d : ℕ → F.carrier) → IsShifted F rows r v c w d
      → ((i : ℕ) → i < r → InSpan F.ring s u (row_vectors F rows i)) → InSpan F.ring s u w
      → InSpan F.ring s u v
  shifted_back s u rows r v c w d h each k = span-same F.ring L.laws s u
      (λ j. F.add (F.mul (F.neg F.one) (combination F.ring r h.factors (row_vectors F rows) j))
      (w j)) v
      (λ j. sym (ap (F.add (F.mul (F.neg F.one) (combination F.ring r h.factors
      (row_vectors F rows) j))) (h.vector j)
      ∙ ring2 F.ring L.laws (λ v b. neg unit ⊗ b ⊕ (v ⊕ b)) (λ v b. v) refl (v j)
      (combination F.ring r h.factors (row_vectors F rows) j)))
      (span-more F.ring L.laws s u (F.neg F.one)
      (combination F.ring r h.factors (row_vectors F rows)) w
      (span-combination F.ring L.laws r (row_vectors F rows) s u h.factors each) k)

  shifted_on : (s : ℕ) (u : ℕ → ℕ → F.carrier) (rows : List Row) (r : ℕ)
      (v c w d : ℕ → F.carrier) → IsShifted F rows r v c w d
      → ((i : ℕ) → i < r → InSpan F.ring s u (row_vectors F rows i)) → InSpan F.ring s u v
      → InSpan F.ring s u w
  shifted_on s u rows r v c w d h each k = span-same F.ring L.laws s u
      (λ j. F.add (F.mul F.one (combination F.ring r h.factors (row_vectors F rows) j)) (v j)) w
      (λ j. h.vector j ∙ ring2 F.ring L.laws (λ v b. v ⊕ b) (λ v b. unit ⊗ b ⊕ v) refl (v j)
      (combination F.ring r h.factors (row_vectors F rows) j))
      (span-more F.ring L.laws s u F.one
      (combination F.ring r h.factors (row_vectors F rows)) v
      (span-combination F.ring L.laws r (row_vectors F rows) s u h.factors each) k)

  pub independent_spans : (rows new : List Row) (v c : ℕ → F.carrier)
      → IsIndependentOf F rows v c new → IsSpannedWith F rows v new
  independent_spans rows new v c h = record {
    old = extended_old rows new h.w h.d h.extended;
    one = shifted_back (length new) (row_vectors F new) rows (length rows) v c h.w h.d h.shifted
        (λ i l. extended_old rows new h.w h.d h.extended (row_vectors F rows i)
        (span-one F.ring L.laws (length rows) (row_vectors F rows) i l))
        (extended_one rows new h.w h.d h.extended);
    only = λ s u each k i l. go s u each k i (cases_lt i (length rows)) l;
  }
    where
      go : (s : ℕ) (u : ℕ → ℕ → F.carrier)
          → ((i : ℕ) → i < length rows → InSpan F.ring s u (row_vectors F rows i))
          → InSpan F.ring s u v → (i : ℕ) → (i < length rows) ⊎ (length rows ≤ i)
          → i < length new → InSpan F.ring s u (row_vectors F new i)
      go s u each k i (inl q) l = span-same F.ring L.laws s u (row_vectors F rows i)
          (row_vectors F new i) (λ j. h.extended.same_vectors i j q) (each i q)
      go s u each k i (inr q) l = let e : i ≡ length rows = omega (arith, q, l, h.extended.count) in
          span-same F.ring L.laws s u
          (λ j. F.add (F.mul h.extended.factor (h.w j)) F.zero) (row_vectors F new i)
          (λ j. ap (λ i. row_vectors F new i j) e ∙ h.extended.vector j
          ∙ sym (L.laws.add_zero (F.mul h.extended.factor (h.w j))))
          (span-more F.ring L.laws s u h.extended.factor h.w (λ j. F.zero)
          (shifted_on s u rows (length rows) v c h.w h.d h.shifted each k)
          (span-zero F.ring L.laws s u))

  -- a vector with a relation is a combination of the rows
  pub dependent_inside : (rows : List Row) (v c d : ℕ → F.carrier) → IsDependent F rows v c d
      → InRows F rows v
  dependent_inside rows v c d h = shifted_back (length rows) (row_vectors F rows) rows
      (length rows) v c (λ j. F.zero) d h
      (span-one F.ring L.laws (length rows) (row_vectors F rows))
      (span-zero F.ring L.laws (length rows) (row_vectors F rows))

  pub dependent_spans : (rows : List Row) (v c d : ℕ → F.carrier) → IsDependent F rows v c d
      → IsSpannedWith F rows v rows
  dependent_spans rows v c d h = record {
    old = λ w k. k;
    one = dependent_inside rows v c d h;
    only = λ s u each k. each;
  }

  pub inserted_spans : (rows new : List Row) (v c : ℕ → F.carrier) (o : Option (Vec ℕ Global))
      → IsInserted F rows v c new o → IsSpannedWith F rows v new
  inserted_spans rows new v c None h = independent_spans rows new v c h
  inserted_spans rows new v c (Some d) h = subst (IsSpannedWith F rows v) (sym h.same)
      (dependent_spans rows v c (vector_of F d.items) h.dependent)

  -- images of combinations
  module _ (t : SpaceParts) (n : ℕ) (g : ℕ → ℕ → F.carrier) where
    pub image_zero : IsImageBy F t n g (λ i. F.zero) (λ j. F.zero)
    image_zero = record {
      rest = λ j. F.zero;
      in_target = span-zero F.ring L.laws (length t.basis) (vectors_of F t.basis);
      sum = λ j. sym (ap (F.add F.zero) (sum-ext F.ring L.laws n (λ i. F.mul F.zero (g i j))
          (λ i. F.zero) (λ i l. zero_mul F.ring L.laws (g i j)) ∙ sum-zero F.ring L.laws n)
          ∙ L.laws.add_zero F.zero);
    }

    pub image_more : (x : F.carrier) (c d v w : ℕ → F.carrier) → IsImageBy F t n g c v
        → IsImageBy F t n g d w
        → IsImageBy F t n g (λ i. F.add (F.mul x (c i)) (d i)) (λ j. F.add (F.mul x (v j)) (w j))
    image_more x c d v w h k = record {
      rest = λ j. F.add (F.mul x (h.rest j)) (k.rest j);
      in_target = span-more F.ring L.laws (length t.basis) (vectors_of F t.basis) x h.rest k.rest
          h.in_target k.in_target;
      sum = λ j. ap (λ a. F.add (F.mul x a) (w j)) (h.sum j)
          ∙ ap (F.add (F.mul x (F.add (h.rest j) (combination F.ring n c g j)))) (k.sum j)
          ∙ ap (λ a. F.add a (F.add (k.rest j) (combination F.ring n d g j)))
          (L.laws.mul_add x (h.rest j) (combination F.ring n c g j))
          ∙ ring4 F.ring L.laws (λ r a s b. (r ⊕ a) ⊕ (s ⊕ b)) (λ r a s b. (r ⊕ s) ⊕ (a ⊕ b)) refl
          (F.mul x (h.rest j)) (F.mul x (combination F.ring n c g j)) (k.rest j)
          (combination F.ring n d g j)
          ∙ ap (F.add (F.add (F.mul x (h.rest j)) (k.rest j)))
          (sym (by_sums F.ring L.laws n x (λ i. F.mul (c i) (g i j)) (λ i. F.mul (d i) (g i j)))
          ∙ sum-ext F.ring L.laws n _ _ (λ i l. ring4 F.ring L.laws
          (λ x c d w. x ⊗ (c ⊗ w) ⊕ d ⊗ w) (λ x c d w. (x ⊗ c ⊕ d) ⊗ w) refl x (c i) (d i)
          (g i j)));
    }

    pub image_same : (c d v w : ℕ → F.carrier) → ((i : ℕ) → d i ≡ c i) → ((j : ℕ) → w j ≡ v j)
        → IsImageBy F t n g c v → IsImageBy F t n g d w
    image_same c d v w e k h = record {
      rest = h.rest;
      in_target = h.in_target;
      sum = λ j. k j ∙ h.sum j ∙ ap (F.add (h.rest j)) (sym (sum-ext F.ring L.laws n
          (λ i. F.mul (d i) (g i j)) (λ i. F.mul (c i) (g i j))
          (λ i l. ap (λ a. F.mul a (g i j)) (e i))));
    }

    -- of rows and their origins
    pub image_combination : (r : ℕ) (f : ℕ → F.carrier) (b o : ℕ → ℕ → F.carrier)
        → ((i : ℕ) → i < r → IsImageBy F t n g (o i) (b i))
        → IsImageBy F t n g (combination F.ring r f o) (combination F.ring r f b)
    image_combination zero f b o h = image_zero
    image_combination (suc r) f b o h = image_same
        (λ i. F.add (F.mul (f r) (o r i)) (combination F.ring r f o i))
        (combination F.ring (suc r) f o)
        (λ j. F.add (F.mul (f r) (b r j)) (combination F.ring r f b j))
        (combination F.ring (suc r) f b)
        (λ i. L.laws.add_comm (combination F.ring r f o i) (F.mul (f r) (o r i)))
        (λ j. L.laws.add_comm (combination F.ring r f b j) (F.mul (f r) (b r j)))
        (image_more (f r) (o r) (combination F.ring r f o) (b r) (combination F.ring r f b)
        (h r (omega arith)) (image_combination r f b o (λ i l. h i (omega (arith, l)))))

    pub image_shifted : (rows : List Row) (r : ℕ) (v c w d : ℕ → F.carrier)
        → IsShifted F rows r v c w d
        → ((i : ℕ) → i < r → IsImageBy F t n g (row_origins F rows i) (row_vectors F rows i))
        → IsImageBy F t n g c v → IsImageBy F t n g d w
    image_shifted rows r v c w d h each k = image_same
        (λ i. F.add (F.mul F.one (c i)) (combination F.ring r h.factors (row_origins F rows) i)) d
        (λ j. F.add (F.mul F.one (v j)) (combination F.ring r h.factors (row_vectors F rows) j)) w
        (λ i. h.origin i ∙ ring2 F.ring L.laws (λ a b. a ⊕ b) (λ a b. unit ⊗ a ⊕ b) refl (c i)
        (combination F.ring r h.factors (row_origins F rows) i))
        (λ j. h.vector j ∙ ring2 F.ring L.laws (λ a b. a ⊕ b) (λ a b. unit ⊗ a ⊕ b) refl (v j)
        (combination F.ring r h.factors (row_vectors F rows) j))
        (image_more F.one c (combination F.ring r h.factors (row_origins F rows)) v
        (combination F.ring r h.factors (row_vectors F rows)) k
        (image_combination r h.factors (row_vectors F rows) (row_origins F rows) each))

    -- the combinations of rows that hold images are the images of combinations
    module _ (rows : List Row) (h : HoldImages F t n g rows) where
      pub spanned_into : (v : ℕ → F.carrier) → InRows F rows v → IsSpanned F t n g v
      spanned_into v k = (
        combination F.ring (length rows) k.coefficients (row_origins F rows),
        image_same (combination F.ring (length rows) k.coefficients (row_origins F rows))
            (combination F.ring (length rows) k.coefficients (row_origins F rows))
            (combination F.ring (length rows) k.coefficients (row_vectors F rows)) v
            (λ i. refl) k.sum
            (image_combination (length rows) k.coefficients (row_vectors F rows)
            (row_origins F rows) h.each),
      )

      pub spanned_back : (v : ℕ → F.carrier) → IsSpanned F t n g v → InRows F rows v
      spanned_back v k = span-same F.ring L.laws (length rows) (row_vectors F rows)
          (λ j. F.add (F.mul F.one (k.1.rest j)) (combination F.ring n k.0 g j)) v
          (λ j. k.1.sum j ∙ ring2 F.ring L.laws (λ a b. a ⊕ b) (λ a b. unit ⊗ a ⊕ b) refl
          (k.1.rest j) (combination F.ring n k.0 g j))
          (span-more F.ring L.laws (length rows) (row_vectors F rows) F.one k.1.rest
          (combination F.ring n k.0 g) (h.target k.1.rest k.1.in_target)
          (span-combination F.ring L.laws n g (length rows) (row_vectors F rows) k.0 h.spanned))

  -- an image more
  module _ (t : SpaceParts) (n : ℕ) (g : ℕ → ℕ → F.carrier) (v : ℕ → F.carrier) where
    pub image_put : (c w : ℕ → F.carrier) → c n ≡ F.zero → IsImageBy F t n g c w
        → IsImageBy F t (suc n) (put_last n g v) c w
    image_put c w z h = record {
      rest = h.rest;
      in_target = h.in_target;
      sum = λ j. h.sum j ∙ ap (F.add (h.rest j)) (sym (combined c j
          ∙ ap (λ a. F.add (combination F.ring n c g j) (F.mul a (v j))) z
          ∙ ring2 F.ring L.laws (λ a v. a ⊕ nil ⊗ v) (λ a v. a) refl (combination F.ring n c g j)
          (v j)));
    }
      where
        combined : (c : ℕ → F.carrier) (j : ℕ) → combination F.ring (suc n) c (put_last n g v) j
            ≡ F.add (combination F.ring n c g j) (F.mul (c n) (v j))
        combined c j = ap (λ (a : ℕ → F.carrier). F.add (combination F.ring n c (put_last n g v) j)
            (F.mul (c n) (a j))) (put-at n g v)
            ∙ ap (λ a. F.add a (F.mul (c n) (v j))) (sum-ext F.ring L.laws n
            (λ i. F.mul (c i) (put_last n g v i j)) (λ i. F.mul (c i) (g i j))
            (λ i l. ap (λ (a : ℕ → F.carrier). F.mul (c i) (a j)) (put-below n g v i l)))

    pub image_last : IsImageBy F t (suc n) (put_last n g v) (unit_at F.ring n) v
    image_last = record {
      rest = λ j. F.zero;
      in_target = span-zero F.ring L.laws (length t.basis) (vectors_of F t.basis);
      sum = λ j. sym (ap (F.add F.zero) (one j)
          ∙ ring1 F.ring L.laws (λ a. nil ⊕ a) (λ a. a) refl (v j));
    }
      where
        one : (j : ℕ) → combination F.ring (suc n) (unit_at F.ring n) (put_last n g v) j ≡ v j
        one j = sum-single F.ring L.laws (suc n) n
            (λ i. F.mul (unit_at F.ring n i) (put_last n g v i j)) (omega arith)
            (λ k q d. ap (λ a. F.mul a (put_last n g v k j)) (unit-other F.ring n k d)
            ∙ zero_mul F.ring L.laws (put_last n g v k j))
            ∙ ap (λ a. F.mul a (put_last n g v n j)) (unit-same F.ring n)
            ∙ ap (λ (a : ℕ → F.carrier). F.mul F.one (a j)) (put-at n g v)
            ∙ ring1 F.ring L.laws (λ a. unit ⊗ a) (λ a. a) refl (v j)

    module _ (rows new : List Row) (c : ℕ → F.carrier) (h : HoldImages F t n g rows)
        (few : (i : ℕ) → i < length rows → row_origins F rows i n ≡ F.zero)
        (unit : (i : ℕ) → c i ≡ unit_at F.ring n i) where
      old_rows : (i : ℕ) → i < length rows → IsImageBy F t (suc n) (put_last n g v)
          (row_origins F rows i) (row_vectors F rows i)
      old_rows i l = image_put (row_origins F rows i) (row_vectors F rows i) (few i l) (h.each i l)

      this : IsImageBy F t (suc n) (put_last n g v) c v
      this = image_same t (suc n) (put_last n g v) (unit_at F.ring n) c v v unit (λ j. refl)
          image_last

      images_spanned : (all : List Row) → IsSpannedWith F rows v all → (l : ℕ) → l < suc n
          → InRows F all (put_last n g v l)
      images_spanned all k l q = go (cases_lt l n)
        where
          go : (l < n) ⊎ (n ≤ l) → InRows F all (put_last n g v l)
          go (inl r) = subst (InRows F all) (sym (put-below n g v l r))
              (k.old (g l) (h.spanned l r))
          go (inr r) = let e : n ≡ l = omega (arith, q, r) in
              subst (λ l. InRows F all (put_last n g v l)) e
              (subst (InRows F all) (sym (put-at n g v)) k.one)

      pub hold_independent : IsIndependentOf F rows v c new
          → HoldImages F t (suc n) (put_last n g v) new
      hold_independent k = record {
        each = λ i l. go i (cases_lt i (length rows)) l;
        target = λ w q. spans.old w (h.target w q);
        spanned = images_spanned new spans;
      }
        where
          spans : IsSpannedWith F rows v new
          spans = independent_spans rows new v c k

          go : (i : ℕ) → (i < length rows) ⊎ (length rows ≤ i) → i < length new
              → IsImageBy F t (suc n) (put_last n g v) (row_origins F new i) (row_vectors F new i)
          go i (inl q) l = image_same t (suc n) (put_last n g v) (row_origins F rows i)
              (row_origins F new i) (row_vectors F rows i) (row_vectors F new i)
              (λ j. k.extended.same_origins i j q) (λ j. k.extended.same_vectors i j q)
              (old_rows i q)
          go i (inr q) l = let e : length rows ≡ i = omega (arith, q, l, k.extended.count) in
              subst (λ i. IsImageBy F t (suc n) (put_last n g v) (row_origins F new i)
              (row_vectors F new i)) e
              (image_same t (suc n) (put_last n g v)
              (λ i. F.add (F.mul k.extended.factor (k.d i)) F.zero)
              (row_origins F new (length rows))
              (λ j. F.add (F.mul k.extended.factor (k.w j)) F.zero)
              (row_vectors F new (length rows))
              (λ i. k.extended.origin i ∙ sym (L.laws.add_zero (F.mul k.extended.factor (k.d i))))
              (λ j. k.extended.vector j ∙ sym (L.laws.add_zero (F.mul k.extended.factor (k.w j))))
              (image_more t (suc n) (put_last n g v) k.extended.factor k.d (λ i. F.zero) k.w
              (λ j. F.zero) (image_shifted t (suc n) (put_last n g v) rows (length rows) v c k.w
              k.d k.shifted old_rows this) (image_zero t (suc n) (put_last n g v))))

      pub hold_dependent : (d : ℕ → F.carrier) → IsDependent F rows v c d
          → HoldImages F t (suc n) (put_last n g v) rows
      hold_dependent d k = record {
        each = old_rows;
        target = h.target;
        spanned = images_spanned rows (dependent_spans rows v c d k);
      }

      -- the relation is that of a combination whose image is 0
      pub relation_image : (d : ℕ → F.carrier) → IsDependent F rows v c d
          → IsImageBy F t (suc n) (put_last n g v) d (λ j. F.zero)
      relation_image d k = image_shifted t (suc n) (put_last n g v) rows (length rows) v c
          (λ j. F.zero) d k old_rows this

  -- the rows of a basis
  pub basis_none : (t : SpaceParts) (rows : List Row) → length rows ≡ 0 → HoldBasis F t 0 rows
  basis_none t rows e = record {
    each = λ i l. absurd (omega (arith, l, e));
    spanned = λ l q. absurd (omega (arith, q));
  }

  pub basis_step : (t : SpaceParts) (rows new : List Row) (l m : ℕ) (v : ℕ → F.carrier) → m ≡ suc l
      → l < length t.basis → ((j : ℕ) → v j ≡ vectors_of F t.basis l j)
      → IsSpannedWith F rows v new → HoldBasis F t l rows → HoldBasis F t m new
  basis_step t rows new l m v e q same spans h = record {
    each = spans.only (length t.basis) (vectors_of F t.basis) h.each
        (span-same F.ring L.laws (length t.basis) (vectors_of F t.basis) (vectors_of F t.basis l) v
        same (span-one F.ring L.laws (length t.basis) (vectors_of F t.basis) l q));
    spanned = λ k r. go k (cases_lt k l) r;
  }
    where
      go : (k : ℕ) → (k < l) ⊎ (l ≤ k) → k < m → InRows F new (vectors_of F t.basis k)
      go k (inl s) r = spans.old (vectors_of F t.basis k) (h.spanned k s)
      go k (inr s) r = let z : l ≡ k = omega (arith, s, r, e) in
          subst (λ k. InRows F new (vectors_of F t.basis k)) z
          (span-same F.ring L.laws (length new) (row_vectors F new) v (vectors_of F t.basis l)
          (λ j. sym (same j)) spans.one)

  pub basis_held : (t : SpaceParts) (rows : List Row) (n : ℕ) → length t.basis ≤ n
      → HoldBasis F t n rows → (images : ℕ → ℕ → F.carrier) → HoldImages F t 0 images rows
  basis_held t rows n e h images = record {
    each = λ i l. record {
      rest = row_vectors F rows i;
      in_target = h.each i l;
      sum = λ j. sym (L.laws.add_zero (row_vectors F rows i j));
    };
    target = λ v k. span-inside F.ring L.laws (length t.basis) (vectors_of F t.basis) (length rows)
        (row_vectors F rows) v (λ i l. h.spanned i (omega (arith, l, e))) k;
    spanned = λ l q. absurd (omega (arith, q));
  }

  -- zeros, and a one after them
  pub zero_push : (xs : List ℕ) (y : ℕ) → ((i : ℕ) → vector_of F xs i ≡ F.zero)
      → F.value y ≡ F.zero → (i : ℕ) → vector_of F (xs ++ y ∷ []) i ≡ F.zero
  zero_push [] y h e zero = e
  zero_push [] y h e (suc i) = refl
  zero_push (x ∷ xs) y h e zero = h zero
  zero_push (x ∷ xs) y h e (suc i) = zero_push xs y (λ i. h (suc i)) e i

  pub unit_push : (xs : List ℕ) (y n : ℕ) → length xs ≡ n → ((i : ℕ) → vector_of F xs i ≡ F.zero)
      → F.value y ≡ F.one → (i : ℕ) → vector_of F (xs ++ y ∷ []) i ≡ unit_at F.ring n i
  unit_push [] y zero l h e zero = e
  unit_push [] y zero l h e (suc i) = refl
  unit_push [] y (suc n) l h e i = absurd (omega (arith, l))
  unit_push (x ∷ xs) y zero l h e i = absurd (omega (arith, l))
  unit_push (x ∷ xs) y (suc n) l h e zero = h zero
  unit_push (x ∷ xs) y (suc n) l h e (suc i) = unit_push xs y n (omega (arith, l))
      (λ i. h (suc i)) e i

  -- a relation that has the coefficient 1 at the last image writes that one by those before it
  pub relation_spans : (t : SpaceParts) (n : ℕ) (g : ℕ → ℕ → F.carrier) (d : ℕ → F.carrier)
      → IsImageBy F t (suc n) g d (λ j. F.zero) → d n ≡ F.one → IsSpanned F t n g (g n)
  relation_spans t n g d h one = (
    λ l. F.mul (F.neg F.one) (d l),
    record {
      rest = λ j. F.add (F.mul (F.neg F.one) (h.rest j)) F.zero;
      in_target = span-more F.ring L.laws (length t.basis) (vectors_of F t.basis) (F.neg F.one)
          h.rest (λ j. F.zero) h.in_target
          (span-zero F.ring L.laws (length t.basis) (vectors_of F t.basis));
      sum = λ j. ring3 F.ring L.laws (λ g r s. g)
          (λ g r s. ((neg unit ⊗ r ⊕ nil) ⊕ neg unit ⊗ s) ⊕ (r ⊕ (s ⊕ unit ⊗ g))) refl (g n j)
          (h.rest j) (combination F.ring n d g j)
          ∙ ap (F.add (F.add (F.add (F.mul (F.neg F.one) (h.rest j)) F.zero)
          (F.mul (F.neg F.one) (combination F.ring n d g j))))
          (ap (λ x. F.add (h.rest j) (F.add (combination F.ring n d g j) (F.mul x (g n j))))
          (sym one)
          ∙ sym (h.sum j))
          ∙ L.laws.add_zero (F.add (F.add (F.mul (F.neg F.one) (h.rest j)) F.zero)
          (F.mul (F.neg F.one) (combination F.ring n d g j)))
          ∙ ap (F.add (F.add (F.mul (F.neg F.one) (h.rest j)) F.zero))
          (sym (sum-mul F.ring L.laws n (F.neg F.one) (λ l. F.mul (d l) (g l j)))
          ∙ sum-ext F.ring L.laws n _ _
          (λ l q. sym (L.laws.mul_assoc (F.neg F.one) (d l) (g l j))));
    },
  )

  -- what an insertion says of the image that it inserts
  module _ (t : SpaceParts) (n : ℕ) (g : ℕ → ℕ → F.carrier) (v : ℕ → F.carrier)
      (rows new : List Row) (c : ℕ → F.carrier) (h : HoldImages F t n g rows)
      (few : (i : ℕ) → i < length rows → row_origins F rows i n ≡ F.zero)
      (unit : (i : ℕ) → c i ≡ unit_at F.ring n i) where
    pub not_spanned : IsIndependentOf F rows v c new
        → ¬ IsSpanned F t n (put_last n g v) (put_last n g v n)
    not_spanned k s = k.outside (spanned_back t n g rows h v (
      s.0,
      record {
        rest = s.1.rest;
        in_target = s.1.in_target;
        sum = λ j. ap (λ (a : ℕ → F.carrier). a j) (sym (put-at n g v)) ∙ s.1.sum j
            ∙ ap (F.add (s.1.rest j)) (sum-ext F.ring L.laws n _ _
            (λ l q. ap (λ (a : ℕ → F.carrier). F.mul (s.0 l) (a j)) (put-below n g v l q)));
      },
    ))

    pub relation_last : (d : ℕ → F.carrier) → IsDependent F rows v c d → d n ≡ F.one
    relation_last d k = k.origin n
        ∙ ap (λ x. F.add x (combination F.ring (length rows) k.factors (row_origins F rows) n))
        (unit n ∙ unit-same F.ring n)
        ∙ ap (F.add F.one) (sum-ext F.ring L.laws (length rows)
        (λ i. F.mul (k.factors i) (row_origins F rows i n)) (λ i. F.zero)
        (λ i l. ap (F.mul (k.factors i)) (few i l) ∙ mul_zero F.ring L.laws (k.factors i))
        ∙ sum-zero F.ring L.laws (length rows)) ∙ L.laws.add_zero F.one
