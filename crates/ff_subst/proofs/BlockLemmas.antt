-- Horner's rule by blocks of coefficients.
use Rattle.std.proofs.Common.{◌≡◌, ℕ, zero, suc, ◌+◌, ◌-◌, ◌*◌, ◌/◌, ◌<◌, ◌≤◌, refl, sym}
use Rattle.std.proofs.Common.{◌∙◌, ap, ap₂, arith}
use Rattle.std.proofs.Math.Nat.{div-mul-le_self, mod-lt, mul-le-mul_right, suc-mul, zero-mul}
use Rattle.std.proofs.lemmas.Nat.{div-add-mod'}
use Rattle.ff_theory.specs.Ring.{RingOps, IsCommRing, power}
use Rattle.ff_theory.specs.Sum.{sum_below}
use Rattle.ff_theory.proofs.Series.{tail}
use Rattle.ff_theory.proofs.Solver.{◌⊕◌, ◌⊗◌, nil, unit, ring1, ring6}
use Rattle.ff_theory.proofs.Horner.{horner, from_index, horner-ext, horner-sum, horner-longer}

module _ (R : RingOps) (laws : IsCommRing R) where
  split : (y : R.carrier) (c : ℕ → R.carrier) (k m : ℕ) → horner R y c (k + m)
      ≡ R.add (horner R y c k) (R.mul (power R y k) (horner R y (from_index k c) m))
  split y c zero m =
      let e : zero + m ≡ m = omega arith in
      ap (horner R y c) e ∙ horner-ext R laws y c (from_index zero c) m
      (λ i l. let q : i ≡ zero + i = omega arith in ap c q)
      ∙ ring1 R laws (λ h. h) (λ h. nil ⊕ unit ⊗ h) refl (horner R y (from_index zero c) m)
  split y c (suc k) m =
      let e : suc k + m ≡ suc (k + m) = omega arith in
      ap (horner R y c) e ∙ ap (λ t. R.add (c zero) (R.mul y t)) (split y (tail c) k m
      ∙ ap (λ t. R.add (horner R y (tail c) k) (R.mul (power R y k) t))
      (horner-ext R laws y (from_index k (tail c)) (from_index (suc k) c) m
      (λ i l. let q : suc (k + i) ≡ suc k + i = omega arith in ap c q)))
      ∙ ring6 R laws (λ a y h p t z. a ⊕ y ⊗ (h ⊕ p ⊗ t)) (λ a y h p t z. (a ⊕ y ⊗ h) ⊕ (y ⊗ p) ⊗ t)
      refl (c zero) y (horner R y (tail c) k) (power R y k) (horner R y (from_index (suc k) c) m)
      y

  -- a block of k terms from index i on, and what stands above it
  pub horner-block : (y : R.carrier) (c : ℕ → R.carrier) (n i k : ℕ)
      → ((j : ℕ) → n ≤ j → c j ≡ R.zero) → horner R y (from_index i c) n
      ≡ R.add (sum_below R k (λ j. R.mul (c (i + j)) (power R y j)))
      (R.mul (power R y k) (horner R y (from_index (i + k) c) n))
  horner-block y c n i k past =
      let e : n + k ≡ k + n = omega arith in
      sym (horner-longer R laws y (from_index i c) n k (λ j l. past (i + j) (omega (arith, l))))
      ∙ ap (horner R y (from_index i c)) e ∙ split y (from_index i c) k n
      ∙ ap₂ (λ s t. R.add s (R.mul (power R y k) t)) (horner-sum R laws y (from_index i c) k)
      (horner-ext R laws y (from_index k (from_index i c)) (from_index (i + k) c) n
      (λ j l. let q : i + (k + j) ≡ i + k + j = omega arith in ap c q))

  -- no terms
  pub horner-past : (y : R.carrier) (c : ℕ → R.carrier) (n i : ℕ)
      → ((j : ℕ) → n ≤ j → c j ≡ R.zero) → n ≤ i → horner R y (from_index i c) n ≡ R.zero
  horner-past y c n i past h = let e : n ≡ zero + n = omega arith in
      ap (horner R y (from_index i c)) e ∙ horner-longer R laws y (from_index i c) zero n
      (λ j l. past (i + j) (omega (arith, h)))

  pub horner-all : (y : R.carrier) (c : ℕ → R.carrier) (n i : ℕ) → i ≡ 0
      → horner R y (from_index i c) n ≡ horner R y c n
  horner-all y c n i z = horner-ext R laws y (from_index i c) c n
      (λ j l. let e : i + j ≡ j = omega (arith, z) in ap c e)

-- block b of k numbers among n
pub block-within : (n k b : ℕ) → b < n / k + 1 → b * k ≤ n
block-within n k b l = let h : b ≤ n / k = omega (arith, l) in
    omega (arith, mul-le-mul_right k h, div-mul-le_self n k)

pub block-above : (n k : ℕ) → 0 < k → n ≤ (n / k + 1) * k
block-above n k pos =
    let e : n / k + 1 ≡ suc (n / k) = omega arith in
    let m : (n / k + 1) * k ≡ n / k * k + k = ap (λ q. q * k) e ∙ suc-mul (n / k) k in
    omega (arith, m, div-add-mod' n k, mod-lt n pos)

pub block-next : (k b : ℕ) → 0 < b → (b - 1) * k + k ≡ b * k
block-next k b pos =
    let e : suc (b - 1) ≡ b = omega (arith, pos) in sym (suc-mul (b - 1) k) ∙ ap (λ q. q * k) e

pub block-none : (k b : ℕ) → b ≡ 0 → b * k ≡ 0
block-none k b z = ap (λ q. q * k) z ∙ zero-mul k
