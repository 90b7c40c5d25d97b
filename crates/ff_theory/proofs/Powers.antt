-- Powers in a commutative ring.
use Rattle.std.proofs.Common.{◌≡◌, ℕ, zero, suc, ◌+◌, ◌*◌, ◌/◌, ◌%◌, ◌<◌, lit<, refl, sym, ◌∙◌, ap}
use Rattle.std.proofs.Common.{arith}
use Rattle.std.proofs.Math.Nat.{div-add-mod, mod-lt}
use Rattle.ff_theory.specs.Ring.{RingOps, IsCommRing, power}
use Rattle.ff_theory.proofs.Solver.{◌⊗◌, unit, ring1, ring4}

module _ (R : RingOps) (laws : IsCommRing R) where
  pub power-add : (a : R.carrier) (m n : ℕ) → power R a (m + n) ≡ R.mul (power R a m) (power R a n)
  power-add a zero n = let e : zero + n ≡ n = omega arith in ap (power R a) e
      ∙ ring1 R laws (λ t. t) (λ t. unit ⊗ t) refl (power R a n)
  power-add a (suc m) n = let e : suc m + n ≡ suc (m + n) = omega arith in
      ap (power R a) e ∙ ap (R.mul a) (power-add a m n)
      ∙ sym (laws.mul_assoc a (power R a m) (power R a n))

  pub power-mul : (a b : R.carrier) (n : ℕ) → power R (R.mul a b) n
      ≡ R.mul (power R a n) (power R b n)
  power-mul a b zero = sym (laws.mul_one R.one)
  power-mul a b (suc n) = ap (R.mul (R.mul a b)) (power-mul a b n)
      ∙ ring4 R laws (λ a b s t. (a ⊗ b) ⊗ (s ⊗ t)) (λ a b s t. (a ⊗ s) ⊗ (b ⊗ t)) refl a b
      (power R a n) (power R b n)

  -- the powers of a square
  pub power-square : (a : R.carrier) (n : ℕ) → power R (R.mul a a) n ≡ power R a (2 * n)
  power-square a n = let e : n + n ≡ 2 * n = omega arith in power-mul a a n ∙ sym (power-add a n n)
      ∙ ap (power R a) e

  pub power-one : (n : ℕ) → power R R.one n ≡ R.one
  power-one zero = refl
  power-one (suc n) = ap (R.mul R.one) (power-one n) ∙ laws.mul_one R.one

  -- a power from the power to half of the exponent
  pub power-even : (a : R.carrier) (n : ℕ) → n % 2 ≡ 0 → power R (R.mul a a) (n / 2) ≡ power R a n
  power-even a n h = let e : 2 * (n / 2) ≡ n = omega (arith, div-add-mod n 2, h) in power-square a
      (n / 2) ∙ ap (power R a) e

  pub power-odd : (a : R.carrier) (n : ℕ) → ¬ (n % 2 ≡ 0) → R.mul a (power R (R.mul a a) (n / 2))
      ≡ power R a n
  power-odd a n h = let small : n % 2 < 2 = mod-lt n (lit< tt) in let e : suc (2 * (n / 2))
      ≡ n = omega (arith, div-add-mod n 2, h, small) in
      ap (R.mul a) (power-square a (n / 2)) ∙ ap (power R a) e
