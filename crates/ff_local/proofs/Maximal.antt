-- An order that contains the elements integral over it, in the sense of one common denominator, is
-- maximal at each point.
use Rattle.std.proofs.Common.{ℕ, zero, suc, refl, sym, subst}
use Rattle.ff_theory.specs.Ring.{power}
use Rattle.ff_theory.proofs.Solver.{◌⊗◌, unit, ring1}
use Rattle.ff_local.specs.Point.{OrderAt, InKernel, IsMaximalAt}
use Rattle.ff_local.proofs.Basics.{v_kernel}

module _ (P : OrderAt) where
  -- s takes the kernel into itself: then the powers of s times v are in the kernel
  powers_kernel : (s : P.carrier) → ((r : P.carrier) → InKernel P r → InKernel P (P.mul s r))
      → (j : ℕ) → InKernel P (P.mul (power P.ring s j) P.v)
  powers_kernel s h zero = subst (InKernel P)
      (ring1 P.ring P.laws (λ v. v) (λ v. unit ⊗ v) refl P.v) (v_kernel P)
  powers_kernel s h (suc j) = subst (InKernel P) (sym (P.laws.mul_assoc s (power P.ring s j) P.v))
      (h _ (powers_kernel s h j))

  -- A holds of d times each element of O, and s with d * (s^j * v) in A for all j is in O
  pub integral_maximal : (A : P.carrier → Type 0) (d : P.carrier)
      → ((a : P.carrier) → P.In a → A (P.mul d a))
      → ((s : P.carrier) → ((j : ℕ) → A (P.mul d (P.mul (power P.ring s j) P.v))) → P.In s)
      → IsMaximalAt P
  integral_maximal A d denominator closed s h =
      closed s (λ j. denominator _ (powers_kernel s h j).inside)
