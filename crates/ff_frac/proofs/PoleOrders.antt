-- Elements with a pole of a given order at a point: products, elements that are near, and the pole
-- module after one.
use Rattle.std.proofs.Common.{◌≡◌, ℕ, zero, suc, ◌+◌ as plus_ℕ, refl, sym, ◌∙◌, ap, ap₂}
use Rattle.std.proofs.Common.{subst, arith}
use Rattle.ff_theory.proofs.Solver.{◌⊕◌, ◌⊗◌, neg, nil, unit, ring1, ring2, ring3}
use Rattle.ff_local.specs.Point.{OrderAt}
use Rattle.ff_local.specs.Module.{InModule, IsLocalPair, lead}
use Rattle.ff_local.proofs.Orders.{in_neg}
use Rattle.ff_local.proofs.Modules.{module_order, module_add, module_scale, module_products}
use Rattle.ff_local.proofs.Leading.{leading_kernel, leading_vanishes, leading_mul, less_leading}

module _ (P : OrderAt) where
  infixl 60 ◌+◌
  infixl 70 ◌*◌
  open P use {add as ◌+◌, mul as ◌*◌, neg as minus, carrier as C}

  -- w is in M_(i+1) and not in M_i
  abbrev pub IsAbove : ℕ → P.carrier → Type 0
  IsAbove i w = InModule P (suc i) w × ¬ InModule P i w

  -- a difference that is in the order
  pub near_module : (i : ℕ) (v w : P.carrier) → P.In (P.add v (P.neg w)) → InModule P i w
      → InModule P i v
  near_module i v w d h = subst (InModule P i)
      (ring2 P.ring P.laws (λ v w. (v ⊕ neg w) ⊕ w) (λ v w. v) refl v w)
      (module_add P i _ w (module_order P i _ d) h)

  near_back : (v w : C) → P.In (v + minus w) → P.In (w + minus v)
  near_back v w d = subst P.In
      (ring2 P.ring P.laws (λ v w. neg (v ⊕ neg w)) (λ v w. w ⊕ neg v) refl v w)
      (in_neg P.order _ d)

  pub near_above : (i : ℕ) (v w : P.carrier) → P.In (P.add v (P.neg w)) → IsAbove i w
      → IsAbove i v
  near_above i v w d h = (
    near_module (suc i) v w d h.0,
    λ m. h.1 (near_module i w v (near_back v w d) m),
  )

  module _ (s h : P.carrier) (l : IsLocalPair P s h) where
    -- the leading value is not 0
    lead_nonzero : (i : ℕ) (w : C) → IsAbove i w → ¬ (lead P h (suc i) w ≡ P.field.zero)
    lead_nonzero i w k e = k.1 (leading_kernel P s h l i w k.0 e)

    nonzero_product : (a b : P.field.carrier) → ¬ (b ≡ P.field.zero)
        → P.field.mul a b ≡ P.field.zero → a ≡ P.field.zero
    nonzero_product a b n e = ring1 P.field.ring P.field.laws (λ a. a) (λ a. a ⊗ unit) refl a
        ∙ ap (P.field.mul a) (sym (P.field.is_field.mul_inverse b n))
        ∙ sym (P.field.laws.mul_assoc a b (P.field.inverse b))
        ∙ ap (λ t. P.field.mul t (P.field.inverse b)) e
        ∙ ring1 P.field.ring P.field.laws (λ i. nil ⊗ i) (λ i. nil) refl (P.field.inverse b)

    -- one order more
    pub product_above : (i : ℕ) (w u : P.carrier) → IsAbove i w → IsAbove 0 u
        → IsAbove (suc i) (P.mul w u)
    product_above i w u hw hu = (
      subst (λ n. InModule P n (w * u)) n (module_products P (suc i) 1 w u hw.0 hu.0),
      λ m. lead_nonzero i w hw (nonzero_product _ _ (lead_nonzero 0 u hu)
          (sym (leading_mul P s h l (suc i) 1 w u hw.0 hu.0)
          ∙ ap (λ n. lead P h n (w * u)) n ∙ leading_vanishes P s h l (suc i) (w * u) m)),
    )
      where
        n : plus_ℕ (suc i) 1 ≡ suc (suc i)
        n = omega arith

    -- M_(i+1) is M_i and the multiples of one element
    pub next_module : (i : ℕ) (w u : P.carrier) → InModule P (suc i) w → IsAbove i u
        → (c : P.field.carrier) × InModule P i (P.add w (P.neg (P.mul (P.constant c) u)))
    next_module i w u m k = (
      P.field.mul (lead P h (suc i) w) (P.field.inverse (lead P h (suc i) u)),
      less_leading P s h l i w u m k.0 k.1,
    )
