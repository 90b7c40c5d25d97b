-- Combinations of vectors modulo a space: bases that grow, and the relation that has coordinates.
use Rattle.std.proofs.Common.{◌≡◌, ℕ, zero, suc, ◌+◌, ◌-◌, ◌<◌, ◌≤◌, ◌⊎◌, inl, inr, Bool, true}
use Rattle.std.proofs.Common.{false}
use Rattle.std.proofs.Common.{List, [], ◌∷◌, ◌++◌, length, get_or, refl, sym, ◌∙◌, ap, ap₂, subst}
use Rattle.std.proofs.Common.{arith, All, below_more, Option, Some, None, IfSome, IfNone}
use Rattle.std.proofs.lemmas.List.Elements.{All-push}
use Rattle.std.proofs.lemmas.Bool.{cases_lt}
use Rattle.std.proofs.lemmas.List.{get_or_append_left, get_or_push, length_push, length-map}
use Rattle.std.proofs.lemmas.List.{get_or-map}
use Rattle.std.specs.Global.{Vec}
use Rattle.ff_theory.specs.Ring.{Elements, IsCommRing}
use Rattle.ff_theory.specs.Span.{combination, InSpan, EndsAt}
use Rattle.ff_theory.specs.Vector.{vector_of, vectors_of, IsVector, combination_of}
use Rattle.ff_theory.specs.Lawful.{Lawful}
use Rattle.ff_theory.proofs.Solver.{◌⊕◌, ◌⊗◌, neg, nil, unit, ring1, ring2, ring3, ring4}
use Rattle.ff_theory.proofs.Solver.{zero_mul}
use Rattle.ff_theory.proofs.Sums.{sum-ext, sum-zero, sum-mul, sum-front}
use Rattle.ff_theory.proofs.Span.{span-same, span-zero, span-more, span-one, span-inside}
use Rattle.ff_lin.specs.Space.{SpaceParts, IsSpaceOf, InSpace, SameSpace, HasExactly, pivot}
use Rattle.ff_lin.specs.Space.{rows_of}
use Rattle.ff_modulo.specs.Modulo.{IsCombinationModulo, IsSpannedModulo, IsIndependentModulo}
use Rattle.ff_modulo.specs.Modulo.{IsRowOf, IsNegativeTail, IsTailOfOne, BeginsWithZero}
use Rattle.ff_lin.proofs.Dimension.{before}
use Rattle.ff_lin.proofs.MeetSum.{cut, cut-below, cut-ends}

-- the first r values of c, and a at r
abbrev pub with_at : {A : Type 0} → ℕ → (ℕ → A) → A → ℕ → A
with_at zero c a i = a
with_at (suc r) c a zero = c zero
with_at (suc r) c a (suc i) = with_at r (λ j. c (suc j)) a i

-- what holds of an answer that is passed on
pub some-map : {T : Type 0} (o : Option T) (P Q : T → Type 0) → ((x : T) → P x → Q x) → IfSome o P
    → IfSome o Q
some-map None P Q k h = tt
some-map (Some x) P Q k h = k x h

pub none-map : {T : Type 0} (o : Option T) (P Q : Type 0) → (P → Q) → IfNone o P → IfNone o Q
none-map None P Q k h = k h
none-map (Some x) P Q k h = tt

-- all of a list with one more in front
pub all-cons : {A : Type 0} (P : A → Type 0) (x : A) (xs : List A) → P x → All P xs
    → All P (x ∷ xs)
all-cons P x xs h k zero d l = h
all-cons P x xs h k (suc i) d l = k i d (omega (arith, l))

-- the first vector of a basis, as the code reads it
pub first-row : (F : Elements ℕ) (n : ℕ) (s : SpaceParts) → IsSpaceOf F n s → 0 < length s.basis
    → (basis : List (Vec ℕ)) (v : Vec ℕ) → rows_of basis ≡ s.basis → v ≡ get_or basis 0 v
    → (get_or s.basis 0 [] ≡ v.items) × IsVector F n v.items
first-row F n s h some basis v e is = (
  same,
  subst (λ m. IsVector F m v.items) h.len
      (subst (IsVector F s.len) same (h.space.rows 0 [] some)),
)
  where
    same : get_or s.basis 0 [] ≡ v.items
    same = ap (λ t. get_or t 0 []) (sym e) ∙ get_or-map (λ (r : Vec ℕ). r.items) basis 0 v []
        (omega (arith, some, ap length e, length-map basis (λ (r : Vec ℕ). r.items)))
        ∙ ap (λ (r : Vec ℕ). r.items) (sym is)

with-below : {A : Type 0} (r : ℕ) (c : ℕ → A) (a : A) (i : ℕ) → i < r → with_at r c a i ≡ c i
with-below zero c a i l = absurd (omega (arith, l))
with-below (suc r) c a zero l = refl
with-below (suc r) c a (suc i) l = with-below r (λ j. c (suc j)) a i (omega (arith, l))

with-same : {A : Type 0} (r : ℕ) (c : ℕ → A) (a : A) → with_at r c a r ≡ a
with-same zero c a = refl
with-same (suc r) c a = with-same r (λ j. c (suc j)) a

module _ {F : Elements ℕ} (L : Lawful F) where
  open L use {laws, tests}
  open L.finite use {field}

  is-zero : (a : F.carrier) → (a ≡ F.zero) ⊎ ¬ (a ≡ F.zero)
  is-zero a = go (F.same a F.zero) refl
    where
      go : (b : Bool) → F.same a F.zero ≡ b → (a ≡ F.zero) ⊎ ¬ (a ≡ F.zero)
      go true e = inl (tests.same_true a F.zero e)
      go false e = inr (λ z. absurd (let t = sym e ∙ ap (λ x. F.same x F.zero) z
          ∙ tests.same_refl F.zero in cc))

  -- the combination of a list with one row more
  pub last-term : (xs : List (List ℕ)) (x : List ℕ) (c : ℕ → F.carrier) (j : ℕ)
      → combination_of F (xs ++ x ∷ []) c j
      ≡ F.add (combination_of F xs c j) (F.mul (c (length xs)) (vector_of F x j))
  last-term xs x c j = (let e = length_push xs x in
      let more : length (xs ++ x ∷ []) ≡ suc (length xs) = omega (arith, e) in
      ap (λ n. combination F.ring n c (vectors_of F (xs ++ x ∷ [])) j) more)
      ∙ ap₂ F.add (sum-ext F.ring laws (length xs) _ _ (λ i l. ap (λ r. F.mul (c i)
      (vector_of F r j)) (get_or_append_left xs (x ∷ []) [] i l)))
      (ap (λ r. F.mul (c (length xs)) (vector_of F r j)) (get_or_push xs x [] (length xs) refl))

  pub with-last : (xs : List (List ℕ)) (x : List ℕ) (c : ℕ → F.carrier) (a : F.carrier) (j : ℕ)
      → combination_of F (xs ++ x ∷ []) (with_at (length xs) c a) j
      ≡ F.add (combination_of F xs c j) (F.mul a (vector_of F x j))
  with-last xs x c a j = last-term xs x (with_at (length xs) c a) j
      ∙ ap₂ F.add (sum-ext F.ring laws (length xs) _ _ (λ i l. ap (λ t. F.mul t
      (vectors_of F xs i j)) (with-below (length xs) c a i l)))
      (ap (λ t. F.mul t (vector_of F x j)) (with-same (length xs) c a))

  combination-scale : (xs : List (List ℕ)) (a : F.carrier) (c : ℕ → F.carrier) (j : ℕ)
      → combination_of F xs (λ i. F.mul a (c i)) j ≡ F.mul a (combination_of F xs c j)
  combination-scale xs a c j = sum-ext F.ring laws (length xs) _ _ (λ i l. laws.mul_assoc a (c i)
      (vectors_of F xs i j)) ∙ sum-mul F.ring laws (length xs) a
      (λ i. F.mul (c i) (vectors_of F xs i j))

  combination-nothing : (xs : List (List ℕ)) (c : ℕ → F.carrier)
      → ((i : ℕ) → i < length xs → c i ≡ F.zero) → (j : ℕ) → combination_of F xs c j ≡ F.zero
  combination-nothing xs c h j = sum-ext F.ring laws (length xs) _ (λ i. F.zero) (λ i l.
      ap (λ t. F.mul t (vectors_of F xs i j)) (h i l)
      ∙ zero_mul F.ring laws (vectors_of F xs i j)) ∙ sum-zero F.ring laws (length xs)

  -- multiples of vectors of a space
  in-scaled : (s : SpaceParts) (a : F.carrier) (u : ℕ → F.carrier) → InSpace F s u
      → InSpace F s (λ j. F.mul a (u j))
  in-scaled s a u h = span-same F.ring laws (length s.basis) (vectors_of F s.basis)
      (λ j. F.add (F.mul a (u j)) F.zero) (λ j. F.mul a (u j)) (λ j. sym (laws.add_zero _))
      (span-more F.ring laws (length s.basis) (vectors_of F s.basis) a u (λ j. F.zero) h
      (span-zero F.ring laws (length s.basis) (vectors_of F s.basis)))

  in-same : (s : SpaceParts) (u v : ℕ → F.carrier) → ((j : ℕ) → v j ≡ u j) → InSpace F s u
      → InSpace F s v
  in-same s u v = span-same F.ring laws (length s.basis) (vectors_of F s.basis) u v

  same-both : (b t : List (List ℕ)) → SameSpace F b t → (v : ℕ → F.carrier)
      → (InSpan F.ring (length b) (vectors_of F b) v → InSpan F.ring (length t) (vectors_of F t) v)
      × (InSpan F.ring (length t) (vectors_of F t) v → InSpan F.ring (length b) (vectors_of F b) v)
  same-both b t h v = (
    span-inside F.ring laws (length b) (vectors_of F b) (length t) (vectors_of F t) v h.into,
    span-inside F.ring laws (length t) (vectors_of F t) (length b) (vectors_of F b) v h.back,
  )

  -- a space and one vector more
  cons-out : (b : List (List ℕ)) (x : List ℕ) (v : ℕ → F.carrier)
      → InSpan F.ring (suc (length b)) (vectors_of F (x ∷ b)) v → (a : F.carrier)
      × InSpan F.ring (length b) (vectors_of F b)
      (λ j. F.add (v j) (F.neg (F.mul a (vector_of F x j))))
  cons-out b x v h = (
    h.coefficients 0,
    record {
      coefficients = λ i. h.coefficients (suc i);
      sum = λ j. ap (λ t. F.add t (F.neg (F.mul (h.coefficients 0) (vector_of F x j)))) (h.sum j
          ∙ sum-front F.ring laws (length b) (λ i. F.mul (h.coefficients i)
          (vectors_of F (x ∷ b) i j)))
          ∙ ring2 F.ring laws (λ a s. (a ⊕ s) ⊕ neg a) (λ a s. s) refl
          (F.mul (h.coefficients 0) (vector_of F x j))
          (combination F.ring (length b) (λ i. h.coefficients (suc i)) (vectors_of F b) j);
    },
  )

  cons-in : (b : List (List ℕ)) (x : List ℕ) (v : ℕ → F.carrier) (a : F.carrier)
      → InSpan F.ring (length b) (vectors_of F b)
      (λ j. F.add (v j) (F.neg (F.mul a (vector_of F x j))))
      → InSpan F.ring (suc (length b)) (vectors_of F (x ∷ b)) v
  cons-in b x v a h = record {
    coefficients = before a h.coefficients;
    sum = λ j. ring2 F.ring laws (λ v a. v) (λ v a. a ⊕ (v ⊕ neg a)) refl (v j)
        (F.mul a (vector_of F x j))
        ∙ ap (F.add (F.mul a (vector_of F x j))) (h.sum j)
        ∙ sym (sum-front F.ring laws (length b) (λ i. F.mul (before a h.coefficients i)
        (vectors_of F (x ∷ b) i j)));
  }

  module _ (s : SpaceParts) where
    -- the space of the combinations of the rows up to a vector of s
    pub record IsGrown (sum : SpaceParts) (xs : List (List ℕ)) : Type 0 where
      pub into : (v : ℕ → F.carrier) → InSpace F sum v → IsSpannedModulo F s xs v
      pub back : (c v : ℕ → F.carrier) → IsCombinationModulo F s xs c v → InSpace F sum v

    pub grown-first : (sum : SpaceParts) → SameSpace F sum.basis s.basis → IsGrown sum []
    grown-first sum h = record {
      into = λ v k. (
        λ i. F.zero,
        in-same s v (λ j. F.add (v j) (F.neg F.zero)) (λ j.
            ring1 F.ring laws (λ v. v ⊕ neg nil) (λ v. v) refl (v j))
            ((same-both sum.basis s.basis h v).0 k),
      );
      back = λ c v k. (same-both sum.basis s.basis h v).1 (in-same s
          (λ j. F.add (v j) (F.neg F.zero)) v (λ j.
          ring1 F.ring laws (λ v. v) (λ v. v ⊕ neg nil) refl (v j)) k);
    }

    more-modulo : (xs : List (List ℕ)) (x : List ℕ) (c v : ℕ → F.carrier) (a : F.carrier)
        → IsCombinationModulo F s xs c (λ j. F.add (v j) (F.neg (F.mul a (vector_of F x j))))
        → IsCombinationModulo F s (xs ++ x ∷ []) (with_at (length xs) c a) v
    more-modulo xs x c v a = in-same s _ _ (λ j. ap (λ t. F.add (v j) (F.neg t))
        (with-last xs x c a j)
        ∙ ring3 F.ring laws (λ v b a. v ⊕ neg (b ⊕ a)) (λ v b a. (v ⊕ neg a) ⊕ neg b) refl (v j)
        (combination_of F xs c j) (F.mul a (vector_of F x j)))

    less-modulo : (xs : List (List ℕ)) (x : List ℕ) (c v : ℕ → F.carrier)
        → IsCombinationModulo F s (xs ++ x ∷ []) c v
        → IsCombinationModulo F s xs c (λ j. F.add (v j)
        (F.neg (F.mul (c (length xs)) (vector_of F x j))))
    less-modulo xs x c v = in-same s _ _ (λ j.
        ring3 F.ring laws (λ v b a. (v ⊕ neg a) ⊕ neg b) (λ v b a. v ⊕ neg (b ⊕ a)) refl (v j)
        (combination_of F xs c j) (F.mul (c (length xs)) (vector_of F x j))
        ∙ ap (λ t. F.add (v j) (F.neg t)) (sym (last-term xs x c j)))

    pub still-spanned : (xs : List (List ℕ)) (x : List ℕ) (v : ℕ → F.carrier)
        → IsSpannedModulo F s xs v → IsSpannedModulo F s (xs ++ x ∷ []) v
    still-spanned xs x v h = (
      with_at (length xs) h.0 F.zero,
      more-modulo xs x h.0 v F.zero
          (in-same s _ _ (λ j. ring3 F.ring laws (λ v b x. (v ⊕ neg (nil ⊗ x)) ⊕ neg b)
          (λ v b x. v ⊕ neg b) refl (v j) (combination_of F xs h.0 j) (vector_of F x j)) h.1),
    )

    module _ (sum next : SpaceParts) (xs : List (List ℕ)) (x : List ℕ)
        (grown : IsGrown sum xs) where
      pub last-spanned : IsSpannedModulo F s (xs ++ x ∷ []) (vector_of F x)
      last-spanned = (
        with_at (length xs) (λ i. F.zero) F.one,
        more-modulo xs x (λ i. F.zero) (vector_of F x) F.one (in-same s (λ j. F.zero) _ (λ j.
            ap (λ t. F.add (F.add (vector_of F x j) (F.neg (F.mul F.one (vector_of F x j))))
            (F.neg t)) (combination-nothing xs (λ i. F.zero) (λ i l. refl) j)
            ∙ ring1 F.ring laws (λ x. (x ⊕ neg (unit ⊗ x)) ⊕ neg nil) (λ x. nil) refl
            (vector_of F x j))
            (span-zero F.ring laws (length s.basis) (vectors_of F s.basis))),
      )

      pub grown-next : SameSpace F next.basis (x ∷ sum.basis) → IsGrown next (xs ++ x ∷ [])
      grown-next h = record {
        into = λ v k.
            let o = cons-out sum.basis x v ((same-both next.basis (x ∷ sum.basis) h v).0 k) in
            let g = grown.into _ o.1 in
            (with_at (length xs) g.0 o.0, more-modulo xs x g.0 v o.0 g.1);
        back = λ c v k. (same-both next.basis (x ∷ sum.basis) h v).1
            (cons-in sum.basis x v (c (length xs)) (grown.back c _ (less-modulo xs x c v k)));
      }

      pub independent-next : IsIndependentModulo F s xs → ¬ (InSpace F sum (vector_of F x))
          → IsIndependentModulo F s (xs ++ x ∷ [])
      independent-next free outside c h i l = go (is-zero (c (length xs)))
        where
          a : F.carrier
          a = c (length xs)

          parts : (j : ℕ) → combination_of F (xs ++ x ∷ []) c j
              ≡ F.add (combination_of F xs c j) (F.mul a (vector_of F x j))
          parts j = last-term xs x c j

          go : (a ≡ F.zero) ⊎ ¬ (a ≡ F.zero) → c i ≡ F.zero
          go (inr n) = absurd (outside (grown.back (λ i. F.mul (F.neg (F.inverse a)) (c i))
              (vector_of F x) (in-same s _ _ (λ j. ap (λ t. F.add (vector_of F x j) (F.neg t))
              (combination-scale xs (F.neg (F.inverse a)) c j)
              ∙ ring3 F.ring laws (λ x i b. x ⊕ neg (neg i ⊗ b)) (λ x i b. i ⊗ b ⊕ unit ⊗ x) refl
              (vector_of F x j) (F.inverse a) (combination_of F xs c j)
              ∙ ap (λ t. F.add (F.mul (F.inverse a) (combination_of F xs c j))
              (F.mul t (vector_of F x j))) (sym (field.mul_inverse a n))
              ∙ ring4 F.ring laws (λ i b a x. i ⊗ b ⊕ a ⊗ i ⊗ x) (λ i b a x. i ⊗ (b ⊕ a ⊗ x)) refl
              (F.inverse a) (combination_of F xs c j) a (vector_of F x j)
              ∙ ap (F.mul (F.inverse a)) (sym (parts j)))
              (in-scaled s (F.inverse a) _ h))))
          go (inl e) = pick (cases_lt i (length xs))
            where
              inside : InSpace F s (combination_of F xs c)
              inside = in-same s _ _ (λ j. ring2 F.ring laws (λ b x. b) (λ b x. b ⊕ nil ⊗ x) refl
                  (combination_of F xs c j) (vector_of F x j)
                  ∙ ap (λ t. F.add (combination_of F xs c j) (F.mul t (vector_of F x j))) (sym e)
                  ∙ sym (parts j)) h

              pick : (i < length xs) ⊎ (length xs ≤ i) → c i ≡ F.zero
              pick (inl q) = free c inside i q
              pick (inr q) = let n = length_push xs x in
                  let same : i ≡ length xs = omega (arith, q, l, n) in ap c same ∙ e

    -- the basis of the first i vectors, and the space of s and these
    pub record IsStage (vs : List (List ℕ)) (sum : SpaceParts) (xs : List (List ℕ)) (i : ℕ)
        : Type 0 where
      pub space : IsSpaceOf F s.len sum
      pub each : All (IsVector F s.len) xs
      pub grown : IsGrown sum xs
      pub chosen : (j : ℕ) → j < length xs → IsRowOf vs (get_or xs j [])
      pub independent : IsIndependentModulo F s xs
      pub spans : (t : ℕ) → t < i → IsSpannedModulo F s xs (vectors_of F vs t)

    pub stage-first : (vs : List (List ℕ)) (sum : SpaceParts) → IsSpaceOf F s.len sum
        → SameSpace F sum.basis s.basis → IsStage vs sum [] 0
    stage-first vs sum h k = record {
      space = h;
      each = λ j d l. absurd (omega (arith, l));
      grown = grown-first sum k;
      chosen = λ j l. absurd (omega (arith, l));
      independent = λ c h j l. absurd (omega (arith, l));
      spans = λ t l. absurd (omega (arith, l));
    }

    pub stage-same : (vs : List (List ℕ)) (sum : SpaceParts) (xs : List (List ℕ)) (i : ℕ)
        (x : List ℕ) → IsStage vs sum xs i → get_or vs i [] ≡ x → InSpace F sum (vector_of F x)
        → IsStage vs sum xs (i + 1)
    stage-same vs sum xs i x h e k = record {
      space = h.space;
      each = h.each;
      grown = h.grown;
      chosen = h.chosen;
      independent = h.independent;
      spans = below_more (λ t. IsSpannedModulo F s xs (vectors_of F vs t)) i h.spans
          (subst (λ r. IsSpannedModulo F s xs (vector_of F r)) (sym e) (h.grown.into _ k));
    }

    pub stage-more : (vs : List (List ℕ)) (sum next : SpaceParts) (xs : List (List ℕ)) (i : ℕ)
        (x : List ℕ) → IsStage vs sum xs i → i < length vs → get_or vs i [] ≡ x
        → ¬ (InSpace F sum (vector_of F x)) → IsVector F s.len x → IsSpaceOf F s.len next
        → SameSpace F next.basis (x ∷ sum.basis) → IsStage vs next (xs ++ x ∷ []) (i + 1)
    stage-more vs sum next xs i x h l e out v space same = record {
      space = space;
      each = All-push (IsVector F s.len) xs x h.each v;
      grown = grown-next sum next xs x h.grown same;
      chosen = λ j q. pick j q (cases_lt j (length xs));
      independent = independent-next sum next xs x h.grown h.independent out;
      spans = below_more (λ t. IsSpannedModulo F s (xs ++ x ∷ []) (vectors_of F vs t)) i
          (λ t q. still-spanned xs x (vectors_of F vs t) (h.spans t q))
          (subst (λ r. IsSpannedModulo F s (xs ++ x ∷ []) (vector_of F r)) (sym e)
          (last-spanned sum next xs x h.grown));
    }
      where
        pick : (j : ℕ) → j < length (xs ++ x ∷ []) → (j < length xs) ⊎ (length xs ≤ j)
            → IsRowOf vs (get_or (xs ++ x ∷ []) j [])
        pick j q (inl r) = subst (IsRowOf vs) (sym (get_or_append_left xs (x ∷ []) [] j r))
            (h.chosen j r)
        pick j q (inr r) = let n = length_push xs x in
            let same : length xs ≡ j = omega (arith, q, r, n) in
            (i, (l, get_or_push xs x [] j same ∙ sym e))

    -- the relations of a vector and rows
    module _ (rows : List (List ℕ)) (v : List ℕ) (R : SpaceParts)
        (space : IsSpaceOf F (suc (length rows)) R)
        (exact : HasExactly F R (λ c. InSpace F s (combination_of F (v ∷ rows) c))) where
      front : (c : ℕ → F.carrier) (j : ℕ) → combination_of F (v ∷ rows) c j
          ≡ F.add (F.mul (c 0) (vector_of F v j)) (combination_of F rows (λ i. c (suc i)) j)
      front c j = sum-front F.ring laws (length rows) (λ i. F.mul (c i)
          (vectors_of F (v ∷ rows) i j))

      abbrev whole : (ℕ → F.carrier) → ℕ → F.carrier
      whole c = before F.one (λ i. F.neg (cut F.ring laws (length rows) c i))

      whole-ends : (c : ℕ → F.carrier) → EndsAt F.ring R.len (whole c)
      whole-ends c zero q = absurd (let e = space.len in omega (arith, q, e))
      whole-ends c (suc i) q = ap F.neg (cut-ends F.ring laws (length rows) c i
          (let e = space.len in omega (arith, q, e)))
          ∙ ring1 F.ring laws (λ a. neg nil) (λ a. nil) refl F.zero

      -- the combination that the vector is gives one that begins with 1
      pub whole-in : (c : ℕ → F.carrier) → IsCombinationModulo F s rows c (vector_of F v)
          → InSpace F R (whole c)
      whole-in c h = (exact (whole c)).1 (
        whole-ends c,
        in-same s _ _ (λ j. front (whole c) j
            ∙ ap₂ F.add (ring1 F.ring laws (λ x. unit ⊗ x) (λ x. x) refl (vector_of F v j))
            (sum-ext F.ring laws (length rows) _ _ (λ i l. ap (λ t. F.mul (F.neg t)
            (vectors_of F rows i j)) (cut-below F.ring laws (length rows) c i l)
            ∙ ring2 F.ring laws (λ c x. neg c ⊗ x) (λ c x. neg unit ⊗ (c ⊗ x)) refl (c i)
            (vectors_of F rows i j)) ∙ sum-mul F.ring laws (length rows) (F.neg F.one)
            (λ i. F.mul (c i) (vectors_of F rows i j))
            ∙ ring1 F.ring laws (λ x. neg unit ⊗ x) (λ x. neg x) refl
            (combination_of F rows c j))) h,
      )

      -- one that begins with 1 gives a combination
      pub relation-solves : (b : ℕ → F.carrier) → InSpace F R b → b 0 ≡ F.one
          → (c : ℕ → F.carrier) → ((i : ℕ) → i < length rows → c i ≡ F.neg (b (suc i)))
          → IsCombinationModulo F s rows c (vector_of F v)
      relation-solves b b-in b-first c h = in-same s _ _ (λ j.
          ap (λ t. F.add (vector_of F v j) (F.neg t)) (sum-ext F.ring laws (length rows) _ _
          (λ i l. ap (λ t. F.mul t (vectors_of F rows i j)) (h i l)
          ∙ ring2 F.ring laws (λ c x. neg c ⊗ x) (λ c x. neg unit ⊗ (c ⊗ x)) refl (b (suc i))
          (vectors_of F rows i j)) ∙ sum-mul F.ring laws (length rows) (F.neg F.one)
          (λ i. F.mul (b (suc i)) (vectors_of F rows i j)))
          ∙ ring2 F.ring laws (λ v x. v ⊕ neg (neg unit ⊗ x)) (λ v x. unit ⊗ v ⊕ x) refl
          (vector_of F v j) (combination_of F rows (λ i. b (suc i)) j)
          ∙ ap (λ t. F.add (F.mul t (vector_of F v j))
          (combination_of F rows (λ i. b (suc i)) j)) (sym b-first)
          ∙ sym (front b j)) ((exact b).0 b-in).1

      -- where none begins with 1 there is no combination
      pub no-relation : ((b : ℕ → F.carrier) → InSpace F R b → b 0 ≡ F.zero)
          → ¬ IsSpannedModulo F s rows (vector_of F v)
      no-relation none h = absurd (field.one_not_zero (none (whole h.0) (whole-in h.0 h.1)))

    -- the relations of a vector and independent rows: one that begins with 1
    module _ (rows : List (List ℕ)) (v : List ℕ) (free : IsIndependentModulo F s rows)
        (spanned : IsSpannedModulo F s rows (vector_of F v)) (R : SpaceParts)
        (space : IsSpaceOf F (suc (length rows)) R)
        (exact : HasExactly F R (λ c. InSpace F s (combination_of F (v ∷ rows) c))) where
      pub some-relation : 0 < length R.basis
      some-relation = go (cases_lt 0 (length R.basis))
        where
          in-whole : InSpace F R (whole rows v R space exact spanned.0)
          in-whole = whole-in rows v R space exact spanned.0 spanned.1

          go : (0 < length R.basis) ⊎ (length R.basis ≤ 0) → 0 < length R.basis
          go (inl l) = l
          go (inr l) = absurd (field.one_not_zero (in-whole.sum 0
              ∙ ap (λ n. combination F.ring n in-whole.coefficients (vectors_of F R.basis) 0)
              (let e : length R.basis ≡ 0 = omega (arith, l) in e)))

      abbrev b : ℕ → F.carrier
      b = vectors_of F R.basis 0

      b-in : InSpace F R b
      b-in = span-one F.ring laws (length R.basis) (vectors_of F R.basis) 0 some-relation

      b-first : b 0 ≡ F.one
      b-first = go (pivot R 0) refl
        where
          go : (p : ℕ) → pivot R 0 ≡ p → b 0 ≡ F.one
          go zero e = ap b (sym e) ∙ space.space.echelon.one_at 0 some-relation
          go (suc q) e = absurd (field.one_not_zero (sym (space.space.echelon.one_at 0
              some-relation) ∙ ap b e ∙ free (λ i. b (suc i)) (in-same s _ _ (λ j.
              ring2 F.ring laws (λ x y. y) (λ x y. nil ⊗ x ⊕ y) refl (vector_of F v j)
              (combination_of F rows (λ i. b (suc i)) j)
              ∙ ap (λ t. F.add (F.mul t (vector_of F v j))
              (combination_of F rows (λ i. b (suc i)) j)) (sym begins)
              ∙ sym (front rows v R space exact b j)) ((exact b).0 b-in).1) q
              (omega (arith, inside, e))))
            where
              begins : b 0 ≡ F.zero
              begins = space.space.echelon.begins 0 0 some-relation (omega (arith, e))

              inside : pivot R 0 < suc (length rows)
              inside = let l : pivot R 0 < R.len = space.space.inside 0 0
                  (let n = space.space.count in let m = some-relation in omega (arith, n, m)) in
                  let k = space.len in omega (arith, l, k)

      pub relation-coordinates : (c : ℕ → F.carrier)
          → ((i : ℕ) → i < length rows → c i ≡ F.neg (vectors_of F R.basis 0 (suc i)))
          → IsCombinationModulo F s rows c (vector_of F v)
      relation-coordinates c h = relation-solves rows v R space exact b b-in b-first c h

-- the first of the vectors of an echelon form
module _ (F : Elements ℕ) (laws : IsCommRing F.ring) (n : ℕ) (R : SpaceParts)
    (space : IsSpaceOf F n R) where
  -- it begins with 1 where its first entry is not 0
  pub first-one : 0 < length R.basis → ¬ (vectors_of F R.basis 0 0 ≡ F.zero)
      → vectors_of F R.basis 0 0 ≡ F.one
  first-one some h = go (pivot R 0) refl
    where
      go : (p : ℕ) → pivot R 0 ≡ p → vectors_of F R.basis 0 0 ≡ F.one
      go zero e = ap (vectors_of F R.basis 0) (sym e) ∙ space.space.echelon.one_at 0 some
      go (suc q) e = absurd (h (space.space.echelon.begins 0 0 some (omega (arith, e))))

  -- where it is 0, or there is no vector, all vectors of the space begin with 0
  pub all-zero : (0 < length R.basis → vectors_of F R.basis 0 0 ≡ F.zero) → (v : ℕ → F.carrier)
      → InSpace F R v → v 0 ≡ F.zero
  all-zero h v k = k.sum 0 ∙ sum-ext F.ring laws (length R.basis) _ (λ i. F.zero) (λ i l.
      ap (F.mul (k.coefficients i)) (zeros i l)
      ∙ ring1 F.ring laws (λ c. c ⊗ nil) (λ c. nil) refl (k.coefficients i))
      ∙ sum-zero F.ring laws (length R.basis)
    where
      zeros : (i : ℕ) → i < length R.basis → vectors_of F R.basis i 0 ≡ F.zero
      zeros zero l = h l
      zeros (suc i) l = space.space.echelon.begins (suc i) 0 l
          (let r = space.space.echelon.rises 0 (suc i) (omega arith) l in omega (arith, r))

  -- a row that is the first
  module _ (row : List ℕ) (same : get_or R.basis 0 [] ≡ row) (some : 0 < length R.basis) where
    pub tail-of-one : (c : ℕ → F.carrier) → length row ≡ n → IsNegativeTail F row c
        → IsTailOfOne F R c
    tail-of-one c len h = record {
      whole = vectors_of F R.basis 0;
      inside = span-one F.ring laws (length R.basis) (vectors_of F R.basis) 0 some;
      first = first-one some (λ z. h.nonzero (ap (λ r. vector_of F r 0) (sym same) ∙ z));
      rest = λ i l. h.rest i (let e = space.len in omega (arith, l, e, len))
          ∙ ap (λ r. F.neg (vector_of F r (suc i))) (sym same);
    }

    pub begins-with-zero : vector_of F row 0 ≡ F.zero → BeginsWithZero F R
    begins-with-zero z = all-zero (λ l. ap (λ r. vector_of F r 0) same ∙ z)
