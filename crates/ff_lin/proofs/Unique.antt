-- A space has one echelon basis.
use Rattle.std.proofs.Common.{◌≡◌, ℕ, zero, suc, ◌<◌, ◌≤◌, ◌⊎◌, inl, inr, Bool, true, false, List}
use Rattle.std.proofs.Common.{[], ◌∷◌, length, get_or, refl, sym, ◌∙◌, ap, ap₂, arith, subst}
use Rattle.std.proofs.lemmas.Bool.{cases_lt, cases_order}
use Rattle.ff_theory.specs.Ring.{RingOps, IsCommRing, IsTested, Elements, IsElement}
use Rattle.ff_theory.proofs.Sums.{sum-ext, sum-zero, sum-single}
use Rattle.ff_theory.proofs.Solver.{◌⊗◌, unit, ring1, mul_zero, zero_mul}
use Rattle.std.proofs.lemmas.List.{ext_get_or}
use Rattle.std.proofs.lemmas.List.Elements.{All-tail}
use Rattle.ff_theory.specs.Span.{InSpan, SameSpan, IsEchelon}
use Rattle.ff_theory.specs.Vector.{vector_of, vectors_of, IsVector}
use Rattle.ff_lin.specs.Space.{SpaceParts, IsSpace, SameSpace, pivot}
use Rattle.ff_lin.proofs.Echelon.{coordinates}
use Rattle.ff_theory.proofs.Dependence.{differs}

-- the first place where f is not zero
record First (R : RingOps) (n : ℕ) (f : ℕ → R.carrier) : Type 0 where
  place : ℕ
  below : place < n
  nonzero : ¬ (f place ≡ R.zero)
  zeros : (i : ℕ) → i < place → f i ≡ R.zero

-- a pivot at place p
record PivotAt (s : ℕ) (q : ℕ → ℕ) (p : ℕ) : Type 0 where
  number : ℕ
  below : number < s
  is : q number ≡ p

module _ (R : RingOps) (laws : IsCommRing R) (tests : IsTested R)
    (one_not_zero : ¬ (R.one ≡ R.zero)) where
  infixl 70 ◌*◌
  open R use {mul as ◌*◌, carrier as C}

  first : (n : ℕ) (f : ℕ → C) → First R n f ⊎ ((i : ℕ) → i < n → f i ≡ R.zero)
  first zero f = inr (λ i l. absurd (omega arith))
  first (suc n) f = go (first n f) (R.same (f n) R.zero) refl
    where
      go : First R n f ⊎ ((i : ℕ) → i < n → f i ≡ R.zero) → (b : Bool) → R.same (f n) R.zero ≡ b
          → First R (suc n) f ⊎ ((i : ℕ) → i < suc n → f i ≡ R.zero)
      go (inl p) b e = inl (record {
        place = p.place;
        below = omega (arith, p.below);
        nonzero = p.nonzero;
        zeros = p.zeros;
      })
      go (inr z) false e = inl (record {
        place = n;
        below = omega arith;
        nonzero = differs R laws
            tests (f n) e;
        zeros = z;
      })
      go (inr z) true e = inr (λ i l. last i l (cases_lt i n))
        where
          last : (i : ℕ) → i < suc n → (i < n) ⊎ (n ≤ i) → f i ≡ R.zero
          last i l (inl q) = z i q
          last i l (inr q) = let k : i ≡ n = omega arith in ap f k ∙ tests.same_true (f n) R.zero e

  -- a vector of the span that is not zero begins at a pivot
  begins_at : (s : ℕ) (c : ℕ → ℕ → C) (q : ℕ → ℕ) → IsEchelon R s c q → (v : ℕ → C) (p : ℕ)
      → InSpan R s c v → ((j : ℕ) → j < p → v j ≡ R.zero) → ¬ (v p ≡ R.zero) → PivotAt s q p
  begins_at s c q echelon v p h zeros nonzero = go (first s (λ l. v (q l)))
    where
      zero_when : ((i : ℕ) → i < s → h.coefficients i * c i p ≡ R.zero) → v p ≡ R.zero
      zero_when z = h.sum p ∙ sum-ext R laws s (λ i. h.coefficients i * c i p) (λ i. R.zero) z
          ∙ sum-zero R laws s

      without : (i : ℕ) → i < s → v (q i) ≡ R.zero → h.coefficients i * c i p ≡ R.zero
      without i l e = ap (λ t. t * c i p) (coordinates R laws s c q echelon v h i l ∙ e)
          ∙ zero_mul R laws (c i p)

      go : First R s (λ l. v (q l)) ⊎ ((i : ℕ) → i < s → v (q i) ≡ R.zero) → PivotAt s q p
      go (inr z) = absurd (nonzero (zero_when (λ i l. without i l (z i l))))
      go (inl f) = order (cases_order (q f.place) p)
        where
          term : (i : ℕ) → i < s → p < q f.place → (i < f.place) ⊎ (f.place ≤ i)
              → h.coefficients i * c i p ≡ R.zero
          term i l m (inl k) = without i l (f.zeros i k)
          term i l m (inr k) = ap (λ t. h.coefficients i * t)
              (echelon.begins i p l (later (cases_lt f.place i)))
              ∙ mul_zero R laws (h.coefficients i)
            where
              later : (f.place < i) ⊎ (i ≤ f.place) → p < q i
              later (inl o) = omega (arith, m, echelon.rises f.place i o l)
              later (inr o) = let e : f.place ≡ i = omega (arith, k, o) in subst (λ t. p < q t) e m

          order : (q f.place ≡ p) ⊎ ((q f.place < p) ⊎ (p < q f.place)) → PivotAt s q p
          order (inl e) = record { number = f.place; below = f.below; is = e }
          order (inr (inl m)) = absurd (f.nonzero (zeros (q f.place) m))
          order (inr (inr m)) = absurd (nonzero (zero_when (λ i l. term i l m (cases_lt i
              f.place))))

  among : (r : ℕ) (b : ℕ → ℕ → C) (p : ℕ → ℕ) → IsEchelon R r b p
      → (s : ℕ) (c : ℕ → ℕ → C) (q : ℕ → ℕ) → IsEchelon R s c q
      → ((i : ℕ) → i < r → InSpan R s c (b i)) → (i : ℕ) → i < r → PivotAt s q (p i)
  among r b p left s c q right into i l = begins_at s c q right (b i) (p i) (into i l)
      (λ j m. left.begins i j l m) (λ e. one_not_zero (sym (left.one_at i l) ∙ e))

  module _ (r : ℕ) (b : ℕ → ℕ → C) (p : ℕ → ℕ) (left : IsEchelon R r b p) (s : ℕ) (c : ℕ → ℕ → C)
      (q : ℕ → ℕ) (right : IsEchelon R s c q) (same : SameSpan R r b s c) where
    step : (i : ℕ) → ((k : ℕ) → k < i → k < r → q k ≡ p k) → i < r → (i < s) × (q i ≡ p i)
    step i before l = (within, equal)
      where
        here : PivotAt s q (p i)
        here = among r b p left s c q right same.into i l

        not_before : (here.number < i) ⊎ (i ≤ here.number) → i ≤ here.number
        not_before (inr m) = m
        not_before (inl m) = let e : q here.number
            ≡ p here.number = before here.number m (omega (arith, m, l)) in absurd
            (omega (arith, e, here.is, left.rises here.number i m l))

        at : i ≤ here.number
        at = not_before (cases_lt here.number i)

        within : i < s
        within = omega (arith, at, here.below)

        there : PivotAt r p (q i)
        there = among s c q right r b p left same.back i within

        not_behind : (there.number < i) ⊎ (i ≤ there.number) → i ≤ there.number
        not_behind (inr m) = m
        not_behind (inl m) = let e : q there.number
            ≡ p there.number = before there.number m (omega (arith, m, l)) in absurd
            (omega (arith, e, there.is, right.rises there.number i m within))

        rise : (f : ℕ → ℕ) (n : ℕ) → ((k m : ℕ) → k < m → m < n → f k < f m) → (k m : ℕ) → k ≤ m
            → m < n → (k < m) ⊎ (m ≤ k) → f k ≤ f m
        rise f n h k m a b (inl o) = omega (arith, h k m o b)
        rise f n h k m a b (inr o) = let e : k ≡ m = omega (arith, a, o) in omega (arith, ap f e)

        equal : q i ≡ p i
        equal = omega (
          arith,
          here.is,
          there.is,
          rise q s right.rises i here.number at here.below
              (cases_lt i here.number),
          rise p r left.rises i there.number
              (not_behind (cases_lt there.number i)) there.below (cases_lt i there.number),
        )

    agree : (n i : ℕ) → i < n → i < r → (i < s) × (q i ≡ p i)
    agree zero i l m = absurd (omega arith)
    agree (suc n) i l m = step i (λ k o u. (agree n k (omega arith) u).1) m

    -- the pivots are the same
    pub same-pivots : (i : ℕ) → i < r → q i ≡ p i
    same-pivots i l = (agree (suc i) i (omega arith) l).1

    pub count-most : r ≤ s
    count-most = go (cases_lt s r)
      where
        go : (s < r) ⊎ (r ≤ s) → r ≤ s
        go (inl l) = omega (arith, (agree (suc s) s (omega arith) l).0)
        go (inr l) = l

    -- the vectors are the same
    pub same-vectors : s ≤ r → (i : ℕ) → i < r → (j : ℕ) → b i j ≡ c i j
    same-vectors few i l j = h.sum j
        ∙ sum-single R laws s i (λ k. h.coefficients k * c k j) within
        (λ k m n. ap (λ t. t * c k j) (coordinates R laws s c q right (b i) h k m ∙ entry k m n
        (cases_lt k r)) ∙ zero_mul R laws (c k j))
        ∙ ap (λ t. t * c i j) (coordinates R laws s c q right (b i) h i within ∙ ap (b i)
        (same-pivots i l) ∙ left.one_at i l)
        ∙ ring1 R laws (λ a. unit ⊗ a) (λ a. a) refl (c i j)
      where
        h : InSpan R s c (b i)
        h = same.into i l

        within : i < s
        within = (agree (suc i) i (omega arith) l).0

        entry : (k : ℕ) → k < s → ¬ (k ≡ i) → (k < r) ⊎ (r ≤ k) → b i (q k) ≡ R.zero
        entry k m n (inl o) = ap (b i) (same-pivots k o) ∙ left.zero_at k i o l (λ e. n (sym e))
        entry k m n (inr o) = absurd (omega (arith, few, m, o))

module _ (K : Elements ℕ) (laws : IsCommRing K.ring) (tests : IsTested K.ring)
    (one_not_zero : ¬ (K.one ≡ K.zero))
    (one_value : (a b : ℕ) → IsElement K a → IsElement K b → K.value a ≡ K.value b → a ≡ b) where
  -- equal vectors are equal lists
  pub one_list : (v w : List ℕ) (n : ℕ) → IsVector K n v → IsVector K n w
      → ((j : ℕ) → vector_of K v j ≡ vector_of K w j) → v ≡ w
  one_list [] [] n hv hw h = refl
  one_list [] (y ∷ w) n hv hw h = absurd (omega (arith, hv.len, hw.len))
  one_list (x ∷ v) [] n hv hw h = absurd (omega (arith, hv.len, hw.len))
  one_list (x ∷ v) (y ∷ w) n hv hw h = ap₂ (λ a t. a ∷ t)
      (one_value x y (hv.each 0 x (omega arith)) (hw.each 0 y (omega arith)) (h 0))
      (one_list v w (length v) (record { each = All-tail (IsElement K) x v hv.each; len = refl })
      (record {
        each = All-tail (IsElement K) y w hw.each;
        len = omega (arith, hv.len, hw.len);
      }) (λ j. h (suc j)))

  -- equal spaces have equal data
  pub one_space : (s t : SpaceParts) → IsSpace K s → IsSpace K t → s.len ≡ t.len
      → SameSpace K s.basis t.basis → s ≡ t
  one_space s t hs ht len same = λ i. record { len = len i; basis = basis i; pivots = pivots i }
    where
      back : SameSpace K t.basis s.basis
      back = record { into = same.back; back = same.into }

      most : length s.basis ≤ length t.basis
      most = count-most K.ring laws tests one_not_zero (length s.basis) (vectors_of K s.basis)
          (pivot s) hs.echelon (length t.basis) (vectors_of K t.basis) (pivot t) ht.echelon same

      least : length t.basis ≤ length s.basis
      least = count-most K.ring laws tests one_not_zero (length t.basis) (vectors_of K t.basis)
          (pivot t) ht.echelon (length s.basis) (vectors_of K s.basis) (pivot s) hs.echelon back

      pivots : s.pivots ≡ t.pivots
      pivots = ext_get_or 0 s.pivots t.pivots (omega (arith, hs.count, ht.count, most, least))
          (λ i l. sym (same-pivots K.ring laws tests one_not_zero (length s.basis)
          (vectors_of K s.basis) (pivot s) hs.echelon (length t.basis) (vectors_of K t.basis)
          (pivot t) ht.echelon same i (omega (arith, l, hs.count))))

      basis : s.basis ≡ t.basis
      basis = ext_get_or [] s.basis t.basis (omega (arith, most, least))
          (λ i l. one_list (get_or s.basis i []) (get_or t.basis i []) s.len (hs.rows i [] l)
          (subst (λ n. IsVector K n (get_or t.basis i [])) (sym len)
          (ht.rows i [] (omega (arith, l, most))))
          (same-vectors K.ring laws tests one_not_zero (length s.basis) (vectors_of K s.basis)
          (pivot s) hs.echelon (length t.basis) (vectors_of K t.basis) (pivot t) ht.echelon same
          least i l))
