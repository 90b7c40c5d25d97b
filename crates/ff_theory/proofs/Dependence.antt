-- More vectors than entries are dependent, over any domain; independent vectors in a span are no
-- more than those that span it.
use Rattle.std.proofs.Common.{◌≡◌, ℕ, zero, suc, ◌<◌, ◌≤◌, ◌⊎◌, inl, inr, Bool, true, false, refl}
use Rattle.std.proofs.Common.{sym, ◌∙◌, ap, arith}
use Rattle.std.proofs.lemmas.Bool.{cases_lt}
use Rattle.ff_theory.specs.Ring.{RingOps, IsCommRing, IsTested}
use Rattle.ff_theory.specs.Sum.{sum_below}
use Rattle.ff_theory.proofs.Solver.{◌⊕◌, ◌⊗◌, neg, nil, ring3, ring6, mul_zero}
use Rattle.ff_theory.proofs.Sums.{sum-ext, sum-zero, sum-add, sum-mul, sum-swap}
use Rattle.ff_theory.specs.Span.{combination, InSpan, IsIndependent, Dependence}
use Rattle.ff_theory.specs.Lawful.{Domain}
use Rattle.ff_theory.proofs.Insert.{insert_at, skip, skip-below, insert-skip, sum-insert_mul}
use Rattle.ff_theory.proofs.PolyMap.{not_same}
use Rattle.ff_theory.proofs.Domains.{no_divisors}

-- an index below n where f is not zero
pub record Found (R : RingOps) (n : ℕ) (f : ℕ → R.carrier) : Type 0 where
  pub index : ℕ
  pub below : index < n
  pub nonzero : ¬ (f index ≡ R.zero)

module _ (R : RingOps) (laws : IsCommRing R) (tests : IsTested R) where
  pub differs : (a : R.carrier) → R.same a R.zero ≡ false → ¬ (a ≡ R.zero)
  differs a h e = absurd (true-is-false (sym (tests.same_refl R.zero)
      ∙ ap (λ t. R.same t R.zero) (sym e) ∙ h))
    where
      true-is-false : ¬ (true ≡ false)
      true-is-false e = cc

  pub find : (n : ℕ) (f : ℕ → R.carrier) → Found R n f ⊎ ((i : ℕ) → i < n → f i ≡ R.zero)
  find zero f = inr (λ i l. absurd (omega arith))
  find (suc n) f = go (R.same (f n) R.zero) refl (find n f)
    where
      go : (b : Bool) → R.same (f n) R.zero ≡ b → Found R n f ⊎ ((i : ℕ) → i < n → f i ≡ R.zero)
          → Found R (suc n) f ⊎ ((i : ℕ) → i < suc n → f i ≡ R.zero)
      go false e rest = inl (record { index = n; below = omega arith; nonzero = differs (f n) e })
      go true e (inl p) = inl (record {
        index = p.index;
        below = omega (arith, p.below);
        nonzero =
            p.nonzero;
      })
      go true e (inr h) = inr (λ i l. last i l (cases_lt i n))
        where
          last : (i : ℕ) → i < suc n → (i < n) ⊎ (n ≤ i) → f i ≡ R.zero
          last i l (inl q) = h i q
          last i l (inr q) = let k : i ≡ n = omega arith in ap f k ∙ tests.same_true (f n) R.zero e

module _ (D : Domain) where
  infixl 60 ◌+◌
  infixl 70 ◌*◌
  open D use {ring as R, laws, tests, proper}
  open D.ring use {add as ◌+◌, mul as ◌*◌, neg as minus, carrier as C}

  -- the vectors but number p, made zero in column m by vector p
  abbrev pub cleared : (p m : ℕ) → (ℕ → ℕ → C) → ℕ → ℕ → C
  cleared p m w i j = w p m * w (skip p i) j + minus (w (skip p i) m) * w p j

  none : (n m : ℕ) (w : ℕ → ℕ → C) → ((i : ℕ) → i < n → w i m ≡ R.zero) → Dependence R n m w
      → Dependence R n (suc m) w
  none n m w h d = record {
    coefficients = d.coefficients;
    index = d.index;
    below = d.below;
    nonzero = d.nonzero;
    sum = λ j l. go j l (cases_lt j m);
  }
    where
      go : (j : ℕ) → j < suc m → (j < m) ⊎ (m ≤ j) → combination R n d.coefficients w j ≡ R.zero
      go j l (inl q) = d.sum j q
      go j l (inr q) = let k : j ≡ m = omega arith in
          ap (combination R n d.coefficients w) k ∙ sum-ext R laws n (λ i. d.coefficients i * w i m)
          (λ i. R.zero) (λ i r. ap (λ t. d.coefficients i * t) (h i r)
          ∙ mul_zero R laws (d.coefficients i)) ∙ sum-zero R laws n

  some : (n m p : ℕ) (w : ℕ → ℕ → C) → p ≤ n → ¬ (w p m ≡ R.zero) → Dependence R n m (cleared p m w)
      → Dependence R (suc n) (suc m) w
  some n m p w l nz d = record {
    coefficients = c;
    index = skip p d.index;
    below = skip-below p d.index n d.below;
    nonzero = λ e. d.nonzero (no_divisors D (d.coefficients d.index) (w p m)
        (sym (insert-skip p d.index x (λ i. d.coefficients i * w p m)) ∙ e) nz);
    sum = λ j q. same j ∙ go j q (cases_lt j m);
  }
    where
      x : C
      x = minus (sum_below R n (λ i. d.coefficients i * w (skip p i) m))

      c : ℕ → C
      c = insert_at p x (λ i. d.coefficients i * w p m)

      same : (j : ℕ) → combination R (suc n) c w j ≡ combination R n d.coefficients (cleared p m w)
          j
      same j = sum-insert_mul R laws p n x (λ i. d.coefficients i * w p m) (λ i. w i j) l
          ∙ ring3 R laws (λ s b t. neg s ⊗ b ⊕ t) (λ s b t. neg b ⊗ s ⊕ t) refl
          (sum_below R n (λ i. d.coefficients i * w (skip p i) m)) (w p j)
          (sum_below R n (λ i. d.coefficients i * w p m * w (skip p i) j))
          ∙ ap (λ t. t + sum_below R n (λ i. d.coefficients i * w p m * w (skip p i) j))
          (sym (sum-mul R laws n (minus (w p j)) (λ i. d.coefficients i * w (skip p i) m)))
          ∙ sym (sum-add R laws n (λ i. minus (w p j) * (d.coefficients i * w (skip p i) m))
          (λ i. d.coefficients i * w p m * w (skip p i) j))
          ∙ sum-ext R laws n (λ i. minus (w p j) * (d.coefficients i * w (skip p i) m) +
          d.coefficients i * w p m * w (skip p i) j) (λ i. d.coefficients i * cleared p m w i j)
          (λ i q. ring6 R laws (λ b c s a t z. neg b ⊗ (c ⊗ s) ⊕ c ⊗ a ⊗ t)
          (λ b c s a t z. c ⊗ (a ⊗ t ⊕ neg s ⊗ b)) refl (w p j) (d.coefficients i)
          (w (skip p i) m) (w p m) (w (skip p i) j) R.zero)

      go : (j : ℕ) → j < suc m → (j < m) ⊎ (m ≤ j) → combination R n d.coefficients (cleared p m w)
          j ≡ R.zero
      go j q (inl k) = d.sum j k
      go j q (inr k) = let e : j ≡ m = omega arith in
          ap (combination R n d.coefficients (cleared p m w)) e
          ∙ sum-ext R laws n (λ i. d.coefficients i * cleared p m w i m) (λ i. R.zero)
          (λ i r. ring3 R laws (λ c a s. c ⊗ (a ⊗ s ⊕ neg s ⊗ a)) (λ c a s. nil) refl
          (d.coefficients i) (w p m) (w (skip p i) m))
          ∙ sum-zero R laws n

  -- more vectors than entries have a relation
  pub dependence : (m n : ℕ) (w : ℕ → ℕ → C) → m < n → Dependence R n m w
  dependence zero n w l = record {
    coefficients = λ i. R.one;
    index = 0;
    below = l;
    nonzero = not_same R tests R.one R.zero proper;
    sum = λ j q. absurd (omega arith);
  }
  dependence (suc m) zero w l = absurd (omega arith)
  dependence (suc m) (suc n) w l = go (find R laws tests (suc n) (λ i. w i m))
      (dependence m (suc n) w (omega arith)) (λ p. dependence m n (cleared p m w) (omega arith))
    where
      go : Found R (suc n) (λ i. w i m) ⊎ ((i : ℕ) → i < suc n → w i m ≡ R.zero)
          → Dependence R (suc n) m w → ((p : ℕ) → Dependence R n m (cleared p m w))
          → Dependence R (suc n) (suc m) w
      go (inl f) d h = some n m f.index w (omega (arith, f.below)) f.nonzero (h f.index)
      go (inr z) d h = none (suc n) m w z d

  -- independent vectors in the span of s vectors are at most s
  pub exchange : (r : ℕ) (w : ℕ → ℕ → C) (s : ℕ) (u : ℕ → ℕ → C) → IsIndependent R r w
      → ((i : ℕ) → i < r → InSpan R s u (w i)) → r ≤ s
  exchange r w s u free h = go (cases_lt s r)
    where
      pick : (i : ℕ) → (i < r) ⊎ (r ≤ i) → ℕ → C
      pick i (inl l) = (h i l).coefficients
      pick i (inr l) = λ j. R.zero

      a : ℕ → ℕ → C
      a i = pick i (cases_lt i r)

      picked : (i : ℕ) (b : (i < r) ⊎ (r ≤ i)) → i < r → (j : ℕ) → w i j
          ≡ combination R s (pick i b) u j
      picked i (inl l) q j = (h i l).sum j
      picked i (inr l) q j = absurd (omega arith)

      go : (s < r) ⊎ (r ≤ s) → r ≤ s
      go (inr l) = l
      go (inl l) = absurd (d.nonzero (free d.coefficients zeros d.index d.below))
        where
          d : Dependence R r s a
          d = dependence s r a l

          zeros : (j : ℕ) → combination R r d.coefficients w j ≡ R.zero
          zeros j =
              sum-ext R laws r (λ i. d.coefficients i * w i j)
              (λ i. sum_below R s (λ k. d.coefficients i * (a i k * u k j)))
              (λ i q. ap (λ t. d.coefficients i * t) (picked i (cases_lt i r) q j)
              ∙ sym (sum-mul R laws s (d.coefficients i) (λ k. a i k * u k j)))
              ∙ sum-swap R laws r s (λ i k. d.coefficients i * (a i k * u k j))
              ∙ sum-ext R laws s (λ k. sum_below R r (λ i. d.coefficients i * (a i k * u k j)))
              (λ k. R.zero)
              (λ k q. sum-ext R laws r (λ i. d.coefficients i * (a i k * u k j))
              (λ i. u k j * (d.coefficients i * a i k))
              (λ i p. ring3 R laws (λ d a u. d ⊗ (a ⊗ u)) (λ d a u. u ⊗ (d ⊗ a)) refl
              (d.coefficients i) (a i k) (u k j))
              ∙ sum-mul R laws r (u k j) (λ i. d.coefficients i * a i k)
              ∙ ap (λ t. u k j * t) (d.sum k q) ∙ mul_zero R laws (u k j))
              ∙ sum-zero R laws s
