-- Two sequences, one after the other, and sums over them.
use Rattle.std.proofs.Common.{◌≡◌, ℕ, zero, suc, ◌+◌ as plus_ℕ, ◌-◌, ◌<◌, ◌≤◌, ◌⊎◌, inl, inr}
use Rattle.std.proofs.Common.{refl, sym, ◌∙◌, ap, ap₂, arith}
use Rattle.std.proofs.lemmas.Bool.{cases_lt}
use Rattle.ff_theory.specs.Ring.{RingOps, IsCommRing}
use Rattle.ff_theory.specs.Sum.{sum_below}
use Rattle.ff_theory.proofs.Sums.{sum-ext}

-- two sequences, the second from index n on
abbrev pub joined_by : {X : Type 0} (n : ℕ) → (ℕ → X) → (ℕ → X) → (i : ℕ) → (i < n) ⊎ (n ≤ i) → X
joined_by n f g i (inl q) = f i
joined_by n f g i (inr q) = g (i - n)

abbrev pub joined : {X : Type 0} → ℕ → (ℕ → X) → (ℕ → X) → ℕ → X
joined n f g i = joined_by n f g i (cases_lt i n)

pub joined-below : {X : Type 0} (n : ℕ) (f g : ℕ → X) (i : ℕ) → i < n → joined n f g i ≡ f i
joined-below n f g i l = go (cases_lt i n)
  where
    go : (b : (i < n) ⊎ (n ≤ i)) → joined_by n f g i b ≡ f i
    go (inl q) = refl
    go (inr q) = absurd (omega arith)

pub joined-above : {X : Type 0} (n : ℕ) (f g : ℕ → X) (i : ℕ) → joined n f g (plus_ℕ n i) ≡ g i
joined-above n f g i = go (cases_lt (plus_ℕ n i) n)
  where
    go : (b : (plus_ℕ n i < n) ⊎ (n ≤ plus_ℕ n i)) → joined_by n f g (plus_ℕ n i) b ≡ g i
    go (inl q) = absurd (omega arith)
    go (inr q) = let e : plus_ℕ n i - n ≡ i = omega arith in ap g e

module _ (R : RingOps) (laws : IsCommRing R) where
  -- the terms up to m and those after it
  pub sum-split : (m n : ℕ) (f : ℕ → R.carrier) → sum_below R (plus_ℕ m n) f
      ≡ R.add (sum_below R m f) (sum_below R n (λ i. f (plus_ℕ m i)))
  sum-split m zero f = let e : plus_ℕ m zero ≡ m = omega arith in ap (λ k. sum_below R k f) e
      ∙ sym (laws.add_zero (sum_below R m f))
  sum-split m (suc n) f = let e : plus_ℕ m (suc n) ≡ suc (plus_ℕ m n) = omega arith in
      ap (λ k. sum_below R k f) e ∙ ap (λ t. R.add t (f (plus_ℕ m n))) (sum-split m n f)
      ∙ laws.add_assoc (sum_below R m f) (sum_below R n (λ i. f (plus_ℕ m i))) (f (plus_ℕ m n))

  -- a sum over two sequences, one after the other
  pub sum-joined : {X Y : Type 0} (m n : ℕ) (c d : ℕ → X) (w u : ℕ → Y) (g : X → Y → R.carrier)
      → sum_below R (plus_ℕ m n) (λ i. g (joined m c d i) (joined m w u i))
      ≡ R.add (sum_below R m (λ i. g (c i) (w i))) (sum_below R n (λ i. g (d i) (u i)))
  sum-joined m n c d w u g = sum-split m n (λ i. g (joined m c d i) (joined m w u i))
      ∙ ap₂ R.add (sum-ext R laws m _ _ (λ i l. ap₂ g (joined-below m c d i l)
      (joined-below m w u i l)))
      (sum-ext R laws n _ _ (λ i l. ap₂ g (joined-above m c d i) (joined-above m w u i)))
