-- Combinations of vectors, one vector after another.
use Rattle.std.proofs.Common.{◌≡◌, ℕ, suc, ◌+◌, ◌<◌, ◌≤◌, ◌⊎◌, inl, inr, sym, ◌∙◌, ap, arith}
use Rattle.std.proofs.lemmas.Bool.{cases_lt}
use Rattle.ff_theory.specs.Ring.{RingOps, IsCommRing}
use Rattle.ff_theory.specs.Span.{combination}
use Rattle.ff_theory.proofs.Solver.{mul_zero}

module _ (R : RingOps) (laws : IsCommRing R) (c : ℕ → R.carrier) (w : ℕ → ℕ → R.carrier) where
  -- one vector more
  pub combination-step : (o : R.carrier) (i n : ℕ)
      → R.add (R.add o (combination R i c w n)) (R.mul (c i) (w i n))
      ≡ R.add o (combination R (i + 1) c w n)
  combination-step o i n = laws.add_assoc o (combination R i c w n) (R.mul (c i) (w i n))
      ∙ ap (λ m. R.add o (combination R m c w n)) (let e : suc i ≡ i + 1 = omega arith in e)

  -- at an index where it is zero
  pub combination-past : (o : R.carrier) (i n : ℕ) → w i n ≡ R.zero
      → R.add o (combination R i c w n) ≡ R.add o (combination R (i + 1) c w n)
  combination-past o i n h = sym (laws.add_zero (R.add o (combination R i c w n)))
      ∙ ap (R.add (R.add o (combination R i c w n)))
      (sym (ap (R.mul (c i)) h ∙ mul_zero R laws (c i)))
      ∙ combination-step o i n

  -- a loop that added the vector below m, where it ends
  pub combination-row : (v old : ℕ → R.carrier) (i m : ℕ)
      → ((n : ℕ) → n < m → v n ≡ R.add (old n) (combination R (i + 1) c w n))
      → ((n : ℕ) → m ≤ n → v n ≡ R.add (old n) (combination R i c w n))
      → ((n : ℕ) → m ≤ n → w i n ≡ R.zero)
      → (n : ℕ) → v n ≡ R.add (old n) (combination R (i + 1) c w n)
  combination-row v old i m below above past n = go (cases_lt n m)
    where
      go : (n < m) ⊎ (m ≤ n) → v n ≡ R.add (old n) (combination R (i + 1) c w n)
      go (inl l) = below n l
      go (inr l) = above n l ∙ combination-past (old n) i n (past n l)
