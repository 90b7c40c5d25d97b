-- The order, its kernel and v*O: sums, negatives and products.
use Rattle.std.proofs.Common.{◌≡◌, refl, sym, ◌∙◌, ap, ap₂}
use Rattle.ff_theory.specs.Ring.{RingOps}
use Rattle.ff_theory.proofs.Solver.{◌⊗◌, neg, unit, ring1, ring3, mul_zero, zero_mul}
use Rattle.ff_local.proofs.Orders.{neg_one, in_neg}
use Rattle.ff_local.specs.Point.{OrderAt, InKernel, IsMultiple}

module _ (P : OrderAt) where
  infixl 60 ◌+◌
  infixl 70 ◌*◌
  open P use {add as ◌+◌, mul as ◌*◌, neg as minus, carrier as C}

  abbrev k : RingOps
  k = P.field.ring

  pub value_zero : P.value P.zero ≡ P.field.zero
  value_zero = ap P.value (sym P.constants.on_zero) ∙ P.value_constant P.field.zero

  pub value_one : P.value P.one ≡ P.field.one
  value_one = ap P.value (sym P.constants.on_one) ∙ P.value_constant P.field.one

  pub value_neg : (a : C) → P.In a → P.value (minus a) ≡ P.field.neg (P.value a)
  value_neg a h = ap P.value (sym (neg_one P.order a))
      ∙ P.value_mul _ a (P.in_constant (P.field.neg P.field.one)) h
      ∙ ap (λ t. P.field.mul t (P.value a)) (P.value_constant (P.field.neg P.field.one))
      ∙ ring1 k P.field.laws (λ a. neg unit ⊗ a) (λ a. neg a) refl (P.value a)

  -- a product with a factor in the kernel is in the kernel
  pub kernel_mul : (a r : C) → P.In a → InKernel P r → InKernel P (a * r)
  kernel_mul a r h m = record {
    inside = P.in_mul a r h m.inside;
    vanishes = P.value_mul a r h m.inside ∙ ap (P.field.mul (P.value a)) m.vanishes
        ∙ mul_zero k P.field.laws (P.value a);
  }

  pub kernel_add : (a b : C) → InKernel P a → InKernel P b → InKernel P (a + b)
  kernel_add a b m n = record {
    inside = P.in_add a b m.inside n.inside;
    vanishes = P.value_add a b m.inside n.inside ∙ ap₂ P.field.add m.vanishes n.vanishes
        ∙ P.field.laws.add_zero P.field.zero;
  }

  -- an element without its value
  pub without : (a : C) → P.In a → InKernel P (a + minus (P.constant (P.value a)))
  without a h = record {
    inside = P.in_add a _ h (in_neg P.order _ (P.in_constant (P.value a)));
    vanishes = P.value_add a _ h (in_neg P.order _ (P.in_constant (P.value a)))
        ∙ ap (P.field.add (P.value a)) (value_neg _ (P.in_constant (P.value a))
        ∙ ap P.field.neg (P.value_constant (P.value a)))
        ∙ P.field.laws.add_neg (P.value a);
  }

  pub v_kernel : InKernel P P.v
  v_kernel = record { inside = P.in_v; vanishes = P.value_v }

  -- no element of v*O has the value 1
  pub unit_outside : (a : C) → P.value a ≡ P.field.one → ¬ (IsMultiple P.order a)
  unit_outside a e m = P.field.is_field.one_not_zero (sym e
      ∙ ap P.value (sym (ring3 P.ring P.laws (λ v a o. v ⊗ (a ⊗ o))
      (λ v a o. v ⊗ o ⊗ a) refl P.v a P.over_v ∙ ap (λ t. t * a) P.v_inverse
      ∙ ring1 P.ring P.laws (λ a. unit ⊗ a) (λ a. a) refl a))
      ∙ P.value_mul _ _ v_kernel.inside m
      ∙ ap (λ t. P.field.mul t (P.value (a * P.over_v))) v_kernel.vanishes
      ∙ zero_mul P.field.ring P.field.laws _)
