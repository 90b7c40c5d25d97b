-- An element of an order at a point whose powers depend on each other is a constant, where the ring
-- has no divisors of zero.
use Rattle.std.proofs.Common.{◌≡◌, ℕ, zero, suc, ◌<◌, Bool, true, false, refl, sym, ◌∙◌, ap, ap₂}
use Rattle.std.proofs.Common.{subst, arith}
use Rattle.ff_theory.specs.Ring.{IsTested}
use Rattle.ff_theory.proofs.Solver.{◌⊕◌, neg, nil, ring1, ring2}
use Rattle.ff_theory.proofs.Series.{tail}
use Rattle.ff_theory.proofs.Horner.{horner, horner-sum}
use Rattle.ff_theory.proofs.PolyMap.{not_same}
use Rattle.ff_local.specs.Point.{OrderAt, InKernel}
use Rattle.ff_local.proofs.Orders.{in_zero, in_neg}
use Rattle.ff_local.proofs.Basics.{kernel_mul}
use Rattle.ff_systems.proofs.DependentPowers.{DependentPowers}

module _ (P : OrderAt) (tests : IsTested P.ring)
    (domain : (a b : P.carrier) → P.mul a b ≡ P.zero → ¬ (a ≡ P.zero) → b ≡ P.zero) where
  abbrev at : P.carrier → (ℕ → P.field.carrier) → ℕ → P.carrier
  at u c n = horner P.ring u (λ i. P.constant (c i)) n

  horner-in : (u : P.carrier) → P.In u → (n : ℕ) (c : ℕ → P.field.carrier) → P.In (at u c n)
  horner-in u h zero c = in_zero P.order
  horner-in u h (suc n) c = P.in_add _ _ (P.in_constant (c zero))
      (P.in_mul u (at u (tail c) n) h (horner-in u h n (tail c)))

  -- a relation of the powers of an element of value 0 that is not 0 has only zeros
  only-zeros : (u : P.carrier) → InKernel P u → ¬ (u ≡ P.zero) → (n : ℕ)
      (c : ℕ → P.field.carrier) → at u c n ≡ P.zero → (i : ℕ) → i < n → c i ≡ P.field.zero
  only-zeros u k some zero c e = λ i q. absurd (omega (arith, q))
  only-zeros u k some (suc n) c e = go (only-zeros u k some n (tail c) rest)
    where
      product : InKernel P (P.mul u (at u (tail c) n))
      product = subst (InKernel P) (P.laws.mul_comm (at u (tail c) n) u)
          (kernel_mul P (at u (tail c) n) u (horner-in u k.inside n (tail c)) k)

      first : c zero ≡ P.field.zero
      first = ring1 P.field.ring P.field.laws (λ c. c) (λ c. c ⊕ nil) refl (c zero)
          ∙ sym (ap₂ P.field.add (P.value_constant (c zero)) product.vanishes)
          ∙ sym (P.value_add _ _ (P.in_constant (c zero)) product.inside)
          ∙ ap P.value (e ∙ sym P.constants.on_zero) ∙ P.value_constant P.field.zero

      rest : at u (tail c) n ≡ P.zero
      rest = domain u (at u (tail c) n) (ring1 P.ring P.laws (λ a. a) (λ a. nil ⊕ a) refl _
          ∙ ap (λ t. P.add t (P.mul u (at u (tail c) n))) (sym (ap P.constant first
          ∙ P.constants.on_zero)) ∙ e) some

      go : ((i : ℕ) → i < n → tail c i ≡ P.field.zero) → (i : ℕ) → i < suc n
          → c i ≡ P.field.zero
      go others zero q = first
      go others (suc i) q = others i (omega (arith, q))

  pub kernel_zero : (u : P.carrier) → InKernel P u
      → DependentPowers P.field.ring P.ring P.constant u → u ≡ P.zero
  kernel_zero u k d = go (P.ring.same u P.zero) refl
    where
      go : (b : Bool) → P.ring.same u P.zero ≡ b → u ≡ P.zero
      go true e = tests.same_true u P.zero e
      go false e = absurd (d.nonzero (only-zeros u k (not_same P.ring tests u P.zero e) d.count
          d.coefficients (horner-sum P.ring P.laws u (λ i. P.constant (d.coefficients i)) d.count
          ∙ d.sum) d.index d.below))

  -- so an element is its value, where it less its value is such an element
  pub is_value : (a : P.carrier) → P.In a
      → DependentPowers P.field.ring P.ring P.constant
      (P.add a (P.neg (P.constant (P.value a)))) → a ≡ P.constant (P.value a)
  is_value a h d = ring2 P.ring P.laws (λ a c. a) (λ a c. (a ⊕ neg c) ⊕ c) refl a c
      ∙ ap (λ t. P.add t c) (kernel_zero (P.add a (P.neg c)) kernel d)
      ∙ ring1 P.ring P.laws (λ c. nil ⊕ c) (λ c. c) refl c
    where
      c : P.carrier
      c = P.constant (P.value a)

      inside : P.In (P.neg c)
      inside = in_neg P.order c (P.in_constant (P.value a))

      kernel : InKernel P (P.add a (P.neg c))
      kernel = record {
        inside = P.in_add a (P.neg c) h inside;
        vanishes = P.value_add a (P.neg c) h inside
            ∙ ap (P.field.add (P.value a)) (ap P.value (sym (P.constants.on_neg (P.value a)))
            ∙ P.value_constant (P.field.neg (P.value a))) ∙ P.field.laws.add_neg (P.value a);
      }
