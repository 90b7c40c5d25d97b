-- The kernel of vectors of length n, by a basis of their span with pivots.
use Rattle.std.proofs.Common.{◌≡◌, ℕ, zero, suc, ◌<◌, ◌≤◌, ◌⊎◌, inl, inr, refl, sym, ◌∙◌, ap, arith}
use Rattle.std.proofs.lemmas.Bool.{cases_lt}
use Rattle.ff_theory.specs.Ring.{RingOps, IsCommRing}
use Rattle.ff_theory.specs.Sum.{sum_below}
use Rattle.ff_theory.proofs.Solver.{◌⊕◌, ◌⊗◌, neg, nil, unit, ring1, ring3, ring6, zero_mul}
use Rattle.ff_theory.proofs.Solver.{mul_zero}
use Rattle.ff_theory.proofs.Sums.{sum-ext, sum-zero, sum-single, sum-mul, sum-swap}
use Rattle.ff_theory.specs.Span.{combination, product, EndsAt, InSpan, less, unit_at}
use Rattle.ff_lin.specs.Kernel.{null_vector}
use Rattle.ff_theory.proofs.Span.{unit-same, unit-other}

module _ (R : RingOps) (laws : IsCommRing R) where
  infixl 60 ◌+◌
  infixl 70 ◌*◌
  open R use {add as ◌+◌, mul as ◌*◌, neg as minus, carrier as C}

  -- a sum with a unit vector
  pub product-unit : (n f : ℕ) (g : ℕ → C) → f < n → product R n (unit_at R f) g ≡ g f
  product-unit n f g l = sum-single R laws n f (λ j. unit_at R f j * g j) l
      (λ j q d. ap (λ t. t * g j) (unit-other R f j d) ∙ zero_mul R laws (g j))
      ∙ ap (λ t. t * g f) (unit-same R f) ∙ ring1 R laws (λ a. unit ⊗ a) (λ a. a) refl (g f)

  pub combination-unit : (n : ℕ) (c : ℕ → C) (j : ℕ) → j < n → combination R n c (unit_at R) j ≡ c j
  combination-unit n c j l = sum-single R laws n j (λ f. c f * unit_at R f j) l
      (λ f q d. ap (λ t. c f * t) (unit-other R f j (λ e. d (sym e))) ∙ mul_zero R laws (c f))
      ∙ ap (λ t. c j * t) (unit-same R j) ∙ laws.mul_one (c j)

  pub combination-unit_past : (n : ℕ) (c : ℕ → C) (j : ℕ) → n ≤ j → combination R n c (unit_at R) j
      ≡ R.zero
  combination-unit_past n c j l = sum-ext R laws n (λ f. c f * unit_at R f j) (λ f. R.zero)
      (λ f q. ap (λ t. c f * t) (unit-other R f j (λ e. absurd (omega (arith, e))))
      ∙ mul_zero R laws (c f)) ∙ sum-zero R laws n

  pub sum-less : (n : ℕ) (c : C) (f g : ℕ → C) → sum_below R n (less R f c g)
      ≡ sum_below R n f + minus (c * sum_below R n g)
  sum-less zero c f g = ring1 R laws (λ c. nil) (λ c. nil ⊕ neg (c ⊗ nil)) refl c
  sum-less (suc n) c f g = ap (λ t. t + (f n + minus (c * g n))) (sum-less n c f g)
      ∙ ring6 R laws (λ s t a b c z. (s ⊕ neg (c ⊗ t)) ⊕ (a ⊕ neg (c ⊗ b)))
      (λ s t a b c z. (s ⊕ a) ⊕ neg (c ⊗ (t ⊕ b))) refl (sum_below R n f) (sum_below R n g)
      (f n) (g n) c R.zero

  -- products are linear
  pub product-combination : (n r : ℕ) (c : ℕ → C) (w : ℕ → ℕ → C) (x : ℕ → C)
      → product R n (combination R r c w) x ≡ sum_below R r (λ i. c i * product R n (w i) x)
  product-combination n r c w x =
      sum-ext R laws n (λ j. combination R r c w j * x j)
      (λ j. sum_below R r (λ i. c i * (w i j * x j)))
      (λ j l. laws.mul_comm (combination R r c w j) (x j)
      ∙ sym (sum-mul R laws r (x j) (λ i. c i * w i j))
      ∙ sum-ext R laws r (λ i. x j * (c i * w i j)) (λ i. c i * (w i j * x j))
      (λ i q. ring3 R laws (λ x c w. x ⊗ (c ⊗ w)) (λ x c w. c ⊗ (w ⊗ x)) refl (x j) (c i)
      (w i j)))
      ∙ sum-swap R laws n r (λ j i. c i * (w i j * x j))
      ∙ sum-ext R laws r (λ i. sum_below R n (λ j. c i * (w i j * x j)))
      (λ i. c i * product R n (w i) x) (λ i q. sum-mul R laws n (c i) (λ j. w i j * x j))

  pub product-comm : (n : ℕ) (v w : ℕ → C) → product R n v w ≡ product R n w v
  product-comm n v w = sum-ext R laws n (λ j. v j * w j) (λ j. w j * v j)
      (λ j l. laws.mul_comm (v j) (w j))

  pub combination-zero : (r : ℕ) (c : ℕ → C) (w : ℕ → ℕ → C) (j : ℕ)
      → ((i : ℕ) → i < r → c i ≡ R.zero) → combination R r c w j ≡ R.zero
  combination-zero r c w j h = sum-ext R laws r (λ i. c i * w i j) (λ i. R.zero)
      (λ i l. ap (λ t. t * w i j) (h i l) ∙ zero_mul R laws (w i j)) ∙ sum-zero R laws r

  -- what has product zero with vectors has product zero with their span
  pub product-span : (n r : ℕ) (w : ℕ → ℕ → C) (v u : ℕ → C)
      → ((i : ℕ) → i < r → product R n v (w i) ≡ R.zero) → InSpan R r w u → product R n v u ≡ R.zero
  product-span n r w v u h k =
      sum-ext R laws n (λ j. v j * u j) (λ j. v j * combination R r k.coefficients w j)
      (λ j l. ap (λ t. v j * t) (k.sum j))
      ∙ product-comm n v (combination R r k.coefficients w)
      ∙ product-combination n r k.coefficients w v
      ∙ sum-ext R laws r (λ i. k.coefficients i * product R n (w i) v) (λ i. R.zero)
      (λ i l. ap (λ t. k.coefficients i * t) (product-comm n (w i) v ∙ h i l)
      ∙ mul_zero R laws (k.coefficients i))
      ∙ sum-zero R laws r

  module _ (n r : ℕ) (b : ℕ → ℕ → C) (pivot : ℕ → ℕ)
      (one_at : (i : ℕ) → i < r → b i (pivot i) ≡ R.one)
      (zero_at : (i l : ℕ) → i < r → l < r → ¬ (l ≡ i) → b l (pivot i) ≡ R.zero)
      (inside : (i : ℕ) → i < r → pivot i < n) where
    null-product : (f l : ℕ) → f < n → l < r → product R n (null_vector R r b pivot f) (b l)
        ≡ R.zero
    null-product f l q k =
        sum-ext R laws n (λ j. null_vector R r b pivot f j * b l j)
        (less R (λ j. unit_at R f j * b l j) R.one
        (λ j. combination R r (λ i. b i f) (λ i. unit_at R (pivot i)) j * b l j))
        (λ j m. ring3 R laws (λ u s b. (u ⊕ neg (unit ⊗ s)) ⊗ b)
        (λ u s b. u ⊗ b ⊕ neg (unit ⊗ (s ⊗ b))) refl (unit_at R f j)
        (combination R r (λ i. b i f) (λ i. unit_at R (pivot i)) j) (b l j))
        ∙ sum-less n R.one (λ j. unit_at R f j * b l j)
        (λ j. combination R r (λ i. b i f) (λ i. unit_at R (pivot i)) j * b l j)
        ∙ ap (λ t. t + minus (R.one * product R n
        (combination R r (λ i. b i f) (λ i. unit_at R (pivot i))) (b l)))
        (product-unit n f (b l) q)
        ∙ ap (λ t. b l f + minus (R.one * t))
        (product-combination n r (λ i. b i f) (λ i. unit_at R (pivot i)) (b l)
        ∙ sum-single R laws r l (λ i. b i f * product R n (unit_at R (pivot i)) (b l)) k
        (λ i m d. ap (λ t. b i f * t) (product-unit n (pivot i) (b l) (inside i m) ∙ zero_at i l m k
        (λ e. d (sym e))) ∙ mul_zero R laws (b i f))
        ∙ ap (λ t. b l f * t) (product-unit n (pivot l) (b l) (inside l k) ∙ one_at l k))
        ∙ ring1 R laws (λ a. a ⊕ neg (unit ⊗ (a ⊗ unit))) (λ a. nil) refl (b l f)

    null-ends : (f : ℕ) → f < n → EndsAt R n (null_vector R r b pivot f)
    null-ends f q j l =
        ap (λ t. t + minus (R.one * combination R r (λ i. b i f) (λ i. unit_at R (pivot i)) j))
        (unit-other R f j (λ e. absurd (omega (arith, e))))
        ∙ ap (λ t. R.zero + minus (R.one * t))
        (sum-ext R laws r (λ i. b i f * unit_at R (pivot i) j) (λ i. R.zero)
        (λ i m. let p : pivot i < n = inside i m in ap (λ t. b i f * t)
        (unit-other R (pivot i) j (λ e. absurd (omega (arith, e, p))))
        ∙ mul_zero R laws (b i f)) ∙ sum-zero R laws r)
        ∙ ring1 R laws (λ a. nil ⊕ neg (unit ⊗ nil)) (λ a. nil) refl R.one

    null-sum : (v : ℕ → C) (j : ℕ) → combination R n v (null_vector R r b pivot) j
        ≡ combination R n v (unit_at R) j + minus
        (R.one * combination R r (λ i. product R n v (b i)) (λ i. unit_at R (pivot i)) j)
    null-sum v j =
        sum-ext R laws n (λ f. v f * null_vector R r b pivot f j)
        (less R (λ f. v f * unit_at R f j) R.one
        (λ f. v f * combination R r (λ i. b i f) (λ i. unit_at R (pivot i)) j))
        (λ f l. ring3 R laws (λ v u s. v ⊗ (u ⊕ neg (unit ⊗ s)))
        (λ v u s. v ⊗ u ⊕ neg (unit ⊗ (v ⊗ s))) refl (v f) (unit_at R f j)
        (combination R r (λ i. b i f) (λ i. unit_at R (pivot i)) j))
        ∙ sum-less n R.one (λ f. v f * unit_at R f j)
        (λ f. v f * combination R r (λ i. b i f) (λ i. unit_at R (pivot i)) j)
        ∙ ap (λ t. combination R n v (unit_at R) j + minus (R.one * t))
        (sum-ext R laws n (λ f. v f * combination R r (λ i. b i f) (λ i. unit_at R (pivot i)) j)
        (λ f. sum_below R r (λ i. unit_at R (pivot i) j * (v f * b i f)))
        (λ f l. sym (sum-mul R laws r (v f) (λ i. b i f * unit_at R (pivot i) j))
        ∙ sum-ext R laws r (λ i. v f * (b i f * unit_at R (pivot i) j))
        (λ i. unit_at R (pivot i) j * (v f * b i f))
        (λ i q. ring3 R laws (λ v b u. v ⊗ (b ⊗ u)) (λ v b u. u ⊗ (v ⊗ b)) refl (v f) (b i f)
        (unit_at R (pivot i) j)))
        ∙ sum-swap R laws n r (λ f i. unit_at R (pivot i) j * (v f * b i f))
        ∙ sum-ext R laws r (λ i. sum_below R n (λ f. unit_at R (pivot i) j * (v f * b i f)))
        (λ i. product R n v (b i) * unit_at R (pivot i) j)
        (λ i q. sum-mul R laws n (unit_at R (pivot i) j) (λ f. v f * b i f)
        ∙ laws.mul_comm (unit_at R (pivot i) j) (product R n v (b i))))

    -- a vector is in the span of the null vectors exactly where its products with b are zero
    pub kernel-in : (v : ℕ → C) → EndsAt R n v → ((l : ℕ) → l < r → product R n v (b l) ≡ R.zero)
        → InSpan R n (null_vector R r b pivot) v
    kernel-in v ends h = record {
      coefficients = v;
      sum = λ j. sym (null-sum v j
          ∙ ap (λ t. combination R n v (unit_at R) j + minus (R.one * t))
          (combination-zero r (λ i. product R n v (b i)) (λ i. unit_at R (pivot i)) j h)
          ∙ ring1 R laws (λ a. a ⊕ neg (unit ⊗ nil)) (λ a. a) refl (combination R n v (unit_at R) j)
          ∙ go j (cases_lt j n));
    }
      where
        go : (j : ℕ) → (j < n) ⊎ (n ≤ j) → combination R n v (unit_at R) j ≡ v j
        go j (inl l) = combination-unit n v j l
        go j (inr l) = combination-unit_past n v j l ∙ sym (ends j l)

    pub kernel-ends : (v : ℕ → C) → InSpan R n (null_vector R r b pivot) v → EndsAt R n v
    kernel-ends v h j l = h.sum j ∙ sum-ext R laws n (λ f. h.coefficients f * null_vector R r b
        pivot f j) (λ f. R.zero) (λ f q. ap (λ t. h.coefficients f * t) (null-ends f q j l)
        ∙ mul_zero R laws (h.coefficients f)) ∙ sum-zero R laws n

    pub kernel-product : (v : ℕ → C) → InSpan R n (null_vector R r b pivot) v → (l : ℕ) → l < r
        → product R n v (b l) ≡ R.zero
    kernel-product v h l q = product-comm n v (b l)
        ∙ product-span n n (null_vector R r b pivot) (b l) v
        (λ f k. product-comm n (b l) (null_vector R r b pivot f) ∙ null-product f l k q) h
