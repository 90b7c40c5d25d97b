-- Combinations and spans.
use Rattle.std.proofs.Common.{◌≡◌, ℕ, zero, suc, ◌<◌, refl, sym, ◌∙◌, ap, arith}
use Rattle.ff_theory.specs.Ring.{RingOps, IsCommRing}
use Rattle.ff_theory.proofs.Solver.{◌⊕◌, ◌⊗◌, unit, ring1, ring4, zero_mul}
use Rattle.ff_theory.proofs.Sums.{sum-ext, sum-zero, sum-single}
use Rattle.ff_theory.proofs.Linear.{by_sums}
use Rattle.ff_theory.specs.Span.{combination, InSpan, unit_at}

pub unit-same : (R : RingOps) (i : ℕ) → unit_at R i i ≡ R.one
unit-same R zero = refl
unit-same R (suc i) = unit-same R i

pub unit-other : (R : RingOps) (i l : ℕ) → ¬ (l ≡ i) → unit_at R i l ≡ R.zero
unit-other R zero zero h = absurd (h refl)
unit-other R zero (suc l) h = refl
unit-other R (suc i) zero h = refl
unit-other R (suc i) (suc l) h = unit-other R i l (λ e. h (ap suc e))

module _ (R : RingOps) (laws : IsCommRing R) where
  infixl 60 ◌+◌
  infixl 70 ◌*◌
  open R use {add as ◌+◌, mul as ◌*◌, neg as minus, carrier as C}

  pub span-same : (r : ℕ) (w : ℕ → ℕ → C) (u v : ℕ → C) → ((j : ℕ) → v j ≡ u j) → InSpan R r w u
      → InSpan R r w v
  span-same r w u v e h = record { coefficients = h.coefficients; sum = λ j. e j ∙ h.sum j }

  pub span-zero : (r : ℕ) (w : ℕ → ℕ → C) → InSpan R r w (λ j. R.zero)
  span-zero r w = record {
    coefficients = λ i. R.zero;
    sum = λ j. sym (sum-ext R laws r (λ i. R.zero * w i j) (λ i. R.zero)
        (λ i l. zero_mul R laws (w i j)) ∙ sum-zero R laws r);
  }

  -- sums and multiples stay in the span
  pub span-more : (r : ℕ) (w : ℕ → ℕ → C) (c : C) (u v : ℕ → C) → InSpan R r w u → InSpan R r w v
      → InSpan R r w (λ j. c * u j + v j)
  span-more r w c u v hu hv = record {
    coefficients = λ i. c * hu.coefficients i + hv.coefficients i;
    sum = λ j. ap (λ t. c * t + v j) (hu.sum j)
        ∙ ap (λ t. c * combination R r hu.coefficients w j + t) (hv.sum j)
        ∙ sym (by_sums R laws r c (λ i. hu.coefficients i * w i j) (λ i. hv.coefficients i * w i j))
        ∙ sum-ext R laws r (λ i. c * (hu.coefficients i * w i j) + hv.coefficients i * w i j)
        (λ i. (c * hu.coefficients i + hv.coefficients i) * w i j)
        (λ i l. ring4 R laws (λ c a b w. c ⊗ (a ⊗ w) ⊕ b ⊗ w) (λ c a b w. (c ⊗ a ⊕ b) ⊗ w) refl c
        (hu.coefficients i) (hv.coefficients i) (w i j));
  }

  -- each of the vectors is in their span
  pub span-one : (r : ℕ) (w : ℕ → ℕ → C) (i : ℕ) → i < r → InSpan R r w (w i)
  span-one r w i l = record {
    coefficients = unit_at R i;
    sum = λ j. sym (sum-single R laws r i (λ k. unit_at R i k * w k j) l
        (λ k q n. ap (λ t. t * w k j) (unit-other R i k n) ∙ zero_mul R laws (w k j))
        ∙ ap (λ t. t * w i j) (unit-same R i) ∙ ring1 R laws (λ a. unit ⊗ a) (λ a. a) refl (w i j));
  }

  pub span-combination : (r : ℕ) (w : ℕ → ℕ → C) (s : ℕ) (u : ℕ → ℕ → C) (c : ℕ → C)
      → ((i : ℕ) → i < r → InSpan R s u (w i)) → InSpan R s u (combination R r c w)
  span-combination zero w s u c h = span-zero s u
  span-combination (suc r) w s u c h =
      span-same s u (λ j. c r * w r j + combination R r c w j) (combination R (suc r) c w)
      (λ j. laws.add_comm (combination R r c w j) (c r * w r j))
      (span-more s u (c r) (w r) (combination R r c w) (h r (omega arith))
      (span-combination r w s u c (λ i l. h i (omega arith))))

  -- the span of vectors in a span lies in that span
  pub span-inside : (r : ℕ) (w : ℕ → ℕ → C) (s : ℕ) (u : ℕ → ℕ → C) (v : ℕ → C)
      → ((i : ℕ) → i < r → InSpan R s u (w i)) → InSpan R r w v → InSpan R s u v
  span-inside r w s u v h k = span-same s u (combination R r k.coefficients w) v k.sum
      (span-combination r w s u k.coefficients h)
