-- An order, and v*O: sums, negatives and products.
use Rattle.std.proofs.Common.{◌≡◌, ℕ, zero, suc, refl, sym, ◌∙◌, ap, subst}
use Rattle.ff_theory.specs.Ring.{power}
use Rattle.ff_theory.proofs.Solver.{◌⊕◌, ◌⊗◌, neg, unit, ring1, ring3}
use Rattle.ff_theory.proofs.Solver.{add_mul}
use Rattle.ff_local.specs.Point.{OrderIn, IsMultiple}

module _ (O : OrderIn) where
  infixl 60 ◌+◌
  infixl 70 ◌*◌
  open O use {add as ◌+◌, mul as ◌*◌, neg as minus, carrier as C}

  pub in_zero : O.In O.zero
  in_zero = subst O.In O.constants.on_zero (O.in_constant O.field.zero)

  pub in_one : O.In O.one
  in_one = subst O.In O.constants.on_one (O.in_constant O.field.one)

  pub neg_one : (a : C) → O.constant (O.field.neg O.field.one) * a ≡ minus a
  neg_one a = ap (λ t. t * a) (O.constants.on_neg O.field.one ∙ ap minus O.constants.on_one)
      ∙ ring1 O.ring O.laws (λ a. neg unit ⊗ a) (λ a. neg a) refl a

  pub in_neg : (a : C) → O.In a → O.In (minus a)
  in_neg a h = subst O.In (neg_one a) (O.in_mul _ a (O.in_constant (O.field.neg O.field.one)) h)

  pub in_power : (a : C) (n : ℕ) → O.In a → O.In (power O.ring a n)
  in_power a zero h = in_one
  in_power a (suc n) h = O.in_mul a (power O.ring a n) h (in_power a n h)

  -- v * y is in v*O
  pub v_multiple : (y : C) → O.In y → IsMultiple O (O.v * y)
  v_multiple y m = subst O.In (sym
      (ring3 O.ring O.laws (λ v y o. v ⊗ y ⊗ o) (λ v y o. v ⊗ o ⊗ y) refl O.v y O.over_v
      ∙ ap (λ t. t * y) O.v_inverse ∙ ring1 O.ring O.laws (λ y. unit ⊗ y) (λ y. y) refl y)) m

  pub multiple_scale : (a g : C) → O.In a → IsMultiple O g → IsMultiple O (a * g)
  multiple_scale a g h m = subst O.In (sym (O.laws.mul_assoc a g O.over_v)) (O.in_mul a _ h m)

  pub multiple_add : (a b : C) → IsMultiple O a → IsMultiple O b → IsMultiple O (a + b)
  multiple_add a b h g = subst O.In (sym (add_mul O.ring O.laws a b O.over_v)) (O.in_add _ _ h g)

  -- a sum in v*O with one term there
  pub multiple_left : (a b : C) → IsMultiple O (a + b) → IsMultiple O b → IsMultiple O a
  multiple_left a b h g = subst O.In
      (ring3 O.ring O.laws (λ a b o. (a ⊕ b) ⊗ o ⊕ neg (b ⊗ o)) (λ a b o. a ⊗ o) refl a b O.over_v)
      (O.in_add _ _ h (in_neg _ g))

  -- a is v times the element that shows that it is in v*O
  pub multiple_is : (a : C) → a ≡ O.v * (a * O.over_v)
  multiple_is a = ring1 O.ring O.laws (λ a. a) (λ a. unit ⊗ a) refl a
      ∙ ap (λ t. t * a) (sym O.v_inverse)
      ∙ ring3 O.ring O.laws (λ v o a. v ⊗ o ⊗ a) (λ v o a. v ⊗ (a ⊗ o)) refl O.v O.over_v a
