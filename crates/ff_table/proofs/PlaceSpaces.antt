-- The spaces of an order at a point, within a second subring, are pole spaces where the elements of
-- L_0 are the constants.
use Rattle.std.proofs.Common.{◌≡◌, ℕ, zero, suc, ◌+◌, ◌-◌, ◌⊎◌, inl, inr, Bool, true, false}
use Rattle.std.proofs.Common.{refl, sym, ◌∙◌, ap, subst, arith}
use Rattle.ff_theory.proofs.PolyMap.{not_same}
use Rattle.ff_local.specs.Point.{OrderAt}
use Rattle.ff_local.specs.Module.{IsLocalPair, lead}
use Rattle.ff_local.specs.Weight.{IsSubring, InL, IsBelow, HasWeight}
use Rattle.ff_local.proofs.Modules.{module_add}
use Rattle.ff_local.proofs.Weight.{space_up, space_products, weights_add, space_step, below_leads}
use Rattle.ff_local.proofs.Weight.{leads_below}
use Rattle.ff_table.specs.PoleOrders.{IsLess, HasOrderOf, ArePoleSpaces, AreSteps}

module _ (P : OrderAt) (Other : P.carrier → Type 0) (sub : IsSubring P Other) (s h : P.carrier)
    (pair : IsLocalPair P s h)
    (only : (a : P.carrier) → InL P Other 0 a → (c : P.field.carrier) × (a ≡ P.constant c)) where
  abbrev L : ℕ → P.carrier → Type 0
  L j a = InL P Other j a

  abbrev Has : ℕ → P.carrier → Type 0
  Has j a = HasOrderOf P.field.ring P.ring P.constant (λ j a. InL P Other j a) j a

  constant-first : (c : P.field.carrier) → L 0 (P.constant c)
  constant-first c = record { in_module = P.in_constant c; in_other = sub.on_constant c }

  -- the two words for an element that is lower
  below_of_less : (j : ℕ) (a : P.carrier)
      → IsLess P.field.ring P.ring P.constant (λ j a. InL P Other j a) j a → IsBelow P Other j a
  below_of_less zero a e = record {
    inside = subst P.In (sym (e ∙ sym P.constants.on_zero)) (P.in_constant P.field.zero);
    vanishes = ap P.value (e ∙ sym P.constants.on_zero) ∙ P.value_constant P.field.zero;
  }
  below_of_less (suc j) a m = m

  less_of_below : (j : ℕ) (a : P.carrier) → L j a → IsBelow P Other j a
      → IsLess P.field.ring P.ring P.constant (λ j a. InL P Other j a) j a
  less_of_below zero a m b = (only a m).1 ∙ ap P.constant (sym (P.value_constant (only a m).0)
      ∙ ap P.value (sym (only a m).1) ∙ b.vanishes) ∙ P.constants.on_zero
  less_of_below (suc j) a m b = b

  -- orders are weights
  pub order_of_weight : (j : ℕ) (a : P.carrier) → HasWeight P Other j a
      → HasOrderOf P.field.ring P.ring P.constant (λ j a. InL P Other j a) j a
  order_of_weight j a w = record {
    up_to = w.inside;
    not_less = λ m. w.not_below (below_of_less j a m);
  }

  pub weight_of_order : (j : ℕ) (a : P.carrier)
      → HasOrderOf P.field.ring P.ring P.constant (λ j a. InL P Other j a) j a
      → HasWeight P Other j a
  weight_of_order j a w = record {
    inside = w.up_to;
    not_below = λ b. w.not_less (less_of_below j a w.up_to b);
  }

  pub pole_spaces : ArePoleSpaces P.field.ring P.ring P.constant (λ j a. InL P Other j a)
  pole_spaces = record {
    constants = P.constants;
    proper = λ e. P.field.is_field.one_not_zero (sym (P.value_constant P.field.one)
        ∙ ap P.value (P.constants.on_one ∙ e ∙ sym P.constants.on_zero)
        ∙ P.value_constant P.field.zero);
    in_first = constant-first;
    more = λ i j a q m. let e : (j - i) + i ≡ j = omega (arith, q) in
        subst (λ n. InL P Other n a) e (space_up P Other sub (j - i) i a m);
    add = λ j a b m n. record {
      in_module = module_add P j a b m.in_module n.in_module;
      in_other = sub.on_add a b m.in_other n.in_other;
    };
    mul = λ i j a b m n. space_products P Other sub i j a b m n;
    exact = λ i j a b m n. order_of_weight (i + j) (P.mul a b)
        (weights_add P Other sub s h pair i j a b (weight_of_order i a m) (weight_of_order j b n));
  }

  pub pole_steps : AreSteps P.field.ring P.ring P.constant (λ j a. InL P Other j a)
  pole_steps = record {
    only = only;
    next = λ j a b m n. space_step P Other sub s h pair j a b m (weight_of_order (suc j) b n);
    decide = λ j a m. go j a m (P.field.same (lead P h (suc j) a) P.field.zero) refl;
  }
    where
      go : (j : ℕ) (a : P.carrier) → L (suc j) a → (o : Bool)
          → P.field.same (lead P h (suc j) a) P.field.zero ≡ o → L j a ⊎ ¬ (L j a)
      go j a m true e = inl (leads_below P Other sub s h pair (suc j) a m
          (P.field.tests.same_true (lead P h (suc j) a) P.field.zero e))
      go j a m false e = inr (λ n. not_same P.field.ring P.field.tests (lead P h (suc j) a)
          P.field.zero e (below_leads P Other sub s h pair (suc j) a n))
