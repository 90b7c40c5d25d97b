-- Echelon bases of spaces in which n vectors begin as the unit vectors do, and only zeros begin
-- with n zeros: these vectors are the basis.
use Rattle.std.proofs.Common.{◌≡◌, ℕ, zero, suc, ◌<◌, ◌≤◌, ◌⊎◌, inl, inr, length, sym, ◌∙◌}
use Rattle.std.proofs.Common.{ap, subst, arith}
use Rattle.std.proofs.lemmas.Bool.{cases_lt}
use Rattle.ff_theory.specs.Ring.{Elements}
use Rattle.ff_theory.specs.Lawful.{Lawful}
use Rattle.ff_theory.specs.Span.{combination, unit_at, IsEchelon}
use Rattle.ff_theory.specs.Vector.{vectors_of}
use Rattle.ff_theory.proofs.Solver.{mul_zero, zero_mul}
use Rattle.ff_theory.proofs.Span.{unit-same, unit-other, span-one}
use Rattle.ff_theory.proofs.Sums.{sum-ext, sum-zero, sum-single}
use Rattle.ff_lin.specs.Space.{SpaceParts, IsSpace, InSpace, pivot}
use Rattle.ff_lin.proofs.Echelon.{coordinates}
use Rattle.ff_describe.specs.Readings.{AreZero, IsUnit}

module _ (F : Elements ℕ) (L : Lawful F) (s : SpaceParts) (space : IsSpace F s) (n : ℕ)
    (v : ℕ → ℕ → F.carrier) (inside : (r : ℕ) → r < n → InSpace F s (v r))
    (units : (r : ℕ) → r < n → IsUnit F n r (v r))
    (none : (u : ℕ → F.carrier) → InSpace F s u → AreZero F n u → (j : ℕ) → u j ≡ F.zero) where
  abbrev w : ℕ → ℕ → F.carrier
  w = vectors_of F s.basis

  abbrev d : ℕ
  d = length s.basis

  abbrev E : IsEchelon F.ring (length s.basis) (vectors_of F s.basis) (pivot s)
  E = space.echelon

  -- all pivots are among the first n entries
  early : (i : ℕ) → i < length s.basis → pivot s i < n
  early i l = go (cases_lt (pivot s i) n)
    where
      go : (pivot s i < n) ⊎ (n ≤ pivot s i) → pivot s i < n
      go (inl q) = q
      go (inr q) = absurd (L.finite.field.one_not_zero (sym (E.one_at i l)
          ∙ none (w i) (span-one F.ring L.laws d w i l)
          (λ j k. E.begins i j l (omega (arith, k, q))) (pivot s i)))

  -- a vector is the combination with its entries at the pivots
  by-pivots : (r : ℕ) → r < n → (j : ℕ) → v r j
      ≡ combination F.ring (length s.basis) (λ i. v r (pivot s i)) (vectors_of F s.basis) j
  by-pivots r q j = (inside r q).sum j ∙ sum-ext F.ring L.laws d _ _ (λ i l.
      ap (λ t. F.mul t (w i j)) (coordinates F.ring L.laws d w (pivot s) E (v r) (inside r q) i l))

  -- each index below n is a pivot
  find-pivot : (r m : ℕ) → m ≤ length s.basis
      → ((i : ℕ) × ((i < m) × (pivot s i ≡ r))) ⊎ ((i : ℕ) → i < m → ¬ (pivot s i ≡ r))
  find-pivot r zero l = inr (λ i q. absurd (omega (arith, q)))
  find-pivot r (suc m) l = go (find-pivot r m (omega (arith, l))) (cases_lt (pivot s m) r)
      (cases_lt r (pivot s m))
    where
      differ : ((i : ℕ) → i < m → ¬ (pivot s i ≡ r)) → ¬ (pivot s m ≡ r) → (i : ℕ) → i < suc m
          → ¬ (pivot s i ≡ r)
      differ h k i q = pick (cases_lt i m)
        where
          pick : (i < m) ⊎ (m ≤ i) → ¬ (pivot s i ≡ r)
          pick (inl o) = h i o
          pick (inr o) = let e : m ≡ i = omega (arith, o, q) in
              subst (λ i. ¬ (pivot s i ≡ r)) e k

      go : ((i : ℕ) × ((i < m) × (pivot s i ≡ r))) ⊎ ((i : ℕ) → i < m → ¬ (pivot s i ≡ r))
          → (pivot s m < r) ⊎ (r ≤ pivot s m) → (r < pivot s m) ⊎ (pivot s m ≤ r)
          → ((i : ℕ) × ((i < suc m) × (pivot s i ≡ r)))
          ⊎ ((i : ℕ) → i < suc m → ¬ (pivot s i ≡ r))
      go (inl f) a b = inl (f.0, (omega (arith, f.1.0), f.1.1))
      go (inr h) (inl a) b = inr (differ h (λ e. absurd (omega (arith, a, e))))
      go (inr h) (inr a) (inl b) = inr (differ h (λ e. absurd (omega (arith, b, e))))
      go (inr h) (inr a) (inr b) = inl (m, (omega arith, omega (arith, a, b)))

  is-pivot : (r : ℕ) → r < n → (i : ℕ) × ((i < length s.basis) × (pivot s i ≡ r))
  is-pivot r q = go (find-pivot r d (omega arith))
    where
      go : ((i : ℕ) × ((i < length s.basis) × (pivot s i ≡ r)))
          ⊎ ((i : ℕ) → i < length s.basis → ¬ (pivot s i ≡ r))
          → (i : ℕ) × ((i < length s.basis) × (pivot s i ≡ r))
      go (inl f) = f
      go (inr h) = absurd (L.finite.field.one_not_zero (sym (unit-same F.ring r)
          ∙ sym (units r q r q) ∙ by-pivots r q r
          ∙ sum-ext F.ring L.laws d _ (λ i. F.zero) (λ i l.
          ap (λ t. F.mul t (w i r)) (units r q (pivot s i) (early i l)
          ∙ unit-other F.ring r (pivot s i) (h i l)) ∙ zero_mul F.ring L.laws (w i r))
          ∙ sum-zero F.ring L.laws d))

  -- pivots rise, so that pivot r is r
  pub pivot-is : (r : ℕ) → r < n → (r < length s.basis) × (pivot s r ≡ r)
  pivot-is r q = all (suc r) r (omega arith) q
    where
      above : (i : ℕ) → i < length s.basis → i ≤ pivot s i
      above zero l = omega arith
      above (suc i) l = let a : i ≤ pivot s i = above i (omega (arith, l)) in
          let b : pivot s i < pivot s (suc i) = E.rises i (suc i) (omega arith) l in
          omega (arith, a, b)

      all : (m r : ℕ) → r < m → r < n → (r < length s.basis) × (pivot s r ≡ r)
      all zero r l q = absurd (omega (arith, l))
      all (suc m) r l q = go (is-pivot r q) (λ i k o. all m i k o)
        where
          go : (i : ℕ) × ((i < length s.basis) × (pivot s i ≡ r))
              → ((i : ℕ) → i < m → i < n → (i < length s.basis) × (pivot s i ≡ i))
              → (r < length s.basis) × (pivot s r ≡ r)
          go f before = pick (cases_lt f.0 r)
            where
              a : f.0 ≤ pivot s f.0
              a = above f.0 f.1.0

              pick : (f.0 < r) ⊎ (r ≤ f.0) → (r < length s.basis) × (pivot s r ≡ r)
              pick (inl o) = absurd (let b : pivot s f.0 ≡ f.0 = (before f.0 (omega (arith, o, l))
                  (omega (arith, o, q))).1 in omega (arith, b, f.1.1, o))
              pick (inr o) = let e : f.0 ≡ r = omega (arith, o, a, f.1.1) in
                  subst (λ i. (i < length s.basis) × (pivot s i ≡ r)) e f.1

  -- row r is vector r
  pub row-is : (r : ℕ) → r < n → (j : ℕ) → vectors_of F s.basis r j ≡ v r j
  row-is r q j = sym (by-pivots r q j ∙ sum-single F.ring L.laws d r
      (λ i. F.mul (v r (pivot s i)) (w i j)) (pivot-is r q).0 (λ i l k.
      ap (λ t. F.mul t (w i j)) (units r q (pivot s i) (early i l)
      ∙ unit-other F.ring r (pivot s i) (λ e. k (only i l e)))
      ∙ zero_mul F.ring L.laws (w i j))
      ∙ ap (λ t. F.mul t (w r j)) (ap (v r) (pivot-is r q).1 ∙ units r q r q
      ∙ unit-same F.ring r)
      ∙ L.laws.mul_comm F.one (w r j) ∙ L.laws.mul_one (w r j))
    where
      only : (i : ℕ) → i < length s.basis → pivot s i ≡ r → i ≡ r
      only i l e = let a : pivot s i < n = early i l in
          go (cases_lt i r) (cases_lt r i)
        where
          go : (i < r) ⊎ (r ≤ i) → (r < i) ⊎ (i ≤ r) → i ≡ r
          go (inl k) b = absurd (let t : pivot s i < pivot s r = E.rises i r k (pivot-is r q).0 in
              omega (arith, t, e, (pivot-is r q).1))
          go (inr k) (inl b) = absurd (let t : pivot s r < pivot s i = E.rises r i b l in
              omega (arith, t, e, (pivot-is r q).1))
          go (inr k) (inr b) = omega (arith, k, b)
