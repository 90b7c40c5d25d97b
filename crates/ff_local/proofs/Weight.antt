-- Weights add, elements of one weight differ by a constant factor up to lower ones, and the spaces
-- L_j grow by one element at most.
use Rattle.std.proofs.Common.{◌≡◌, ℕ, zero, suc, ◌+◌ as plus_ℕ, ◌⊎◌, inl, inr, Bool, true, false}
use Rattle.std.proofs.Common.{refl, sym, ◌∙◌, ap, subst}
use Rattle.std.proofs.Common.{◌-◌, ◌<◌, ◌≤◌, arith}
use Rattle.std.proofs.lemmas.Bool.{cases_lt}
use Rattle.ff_theory.proofs.Solver.{◌⊕◌, ◌⊗◌, neg, unit, ring1, ring2}
use Rattle.ff_theory.proofs.PolyMap.{not_same}
use Rattle.ff_theory.proofs.Domains.{field_domain, no_divisors}
use Rattle.ff_local.specs.Point.{OrderAt, InKernel}
use Rattle.ff_local.specs.Module.{InModule, IsLocalPair, lead}
use Rattle.ff_local.specs.Weight.{IsSubring, InL, IsBelow, HasWeight, IsPoleNumber}
use Rattle.ff_local.proofs.Modules.{module_add, module_scale}
use Rattle.ff_local.proofs.Modules.{module_more, module_products}
use Rattle.ff_local.proofs.Leading.{leading_kernel, leading_vanishes, leading_mul, less_leading}

module _ (P : OrderAt) (Other : P.carrier → Type 0) (sub : IsSubring P Other) where
  infixl 60 ◌+◌
  infixl 70 ◌*◌
  open P use {add as ◌+◌, mul as ◌*◌, neg as minus, carrier as C}

  -- L_j is in L_(j+1), and L_i times L_j in L_(i+j)
  pub space_more : (j : ℕ) (w : P.carrier) → InL P Other j w → InL P Other (suc j) w
  space_more j w h = record {
    in_module = module_more P j w h.in_module;
    in_other = h.in_other;
  }

  pub space_products : (i j : ℕ) (w u : P.carrier) → InL P Other i w → InL P Other j u
      → InL P Other (plus_ℕ i j) (P.mul w u)
  space_products i j w u h g = record {
    in_module = module_products P i j w u h.in_module g.in_module;
    in_other = sub.on_mul w u h.in_other g.in_other;
  }

  pub space_up : (n j : ℕ) (w : P.carrier) → InL P Other j w → InL P Other (plus_ℕ n j) w
  space_up zero j w h = let e : j ≡ plus_ℕ zero j = omega arith in
      subst (λ i. InL P Other i w) e h
  space_up (suc n) j w h = let e : suc (plus_ℕ n j) ≡ plus_ℕ (suc n) j = omega arith in
      subst (λ i. InL P Other i w) e (space_more (plus_ℕ n j) w (space_up n j w h))

  pub space_less : (j : ℕ) (w u : P.carrier) → InL P Other j w → InL P Other j u
      → InL P Other j (P.add w (P.neg u))
  space_less j w u h g = record {
    in_module = module_add P j w (minus u) h.in_module
        (subst (InModule P j) same (module_scale P j _ u (P.in_constant _) g.in_module));
    in_other = sub.on_add w (minus u) h.in_other
        (subst Other same (sub.on_mul _ u (sub.on_constant _) g.in_other));
  }
    where
      same : P.constant (P.field.neg P.field.one) * u ≡ minus u
      same = ap (λ t. t * u) (P.constants.on_neg P.field.one ∙ ap minus P.constants.on_one)
          ∙ ring1 P.ring P.laws (λ u. neg unit ⊗ u) (λ u. neg u) refl u

  -- below a greater index
  pub space_below : (i j : ℕ) (w : P.carrier) → i < j → InL P Other i w → IsBelow P Other j w
  space_below i zero w q h = absurd (omega arith)
  space_below i (suc j) w q h = let e : plus_ℕ (j - i) i ≡ j = omega (arith, q) in
      subst (λ n. InL P Other n w) e (space_up (j - i) i w h)

  -- an element has one weight
  pub weight_single : (i j : ℕ) (w : P.carrier) → HasWeight P Other i w → HasWeight P Other j w
      → i ≡ j
  weight_single i j w g k = go (cases_lt i j) (cases_lt j i)
    where
      go : (i < j) ⊎ (j ≤ i) → (j < i) ⊎ (i ≤ j) → i ≡ j
      go (inl q) b = absurd (k.not_below (space_below i j w q g.inside))
      go (inr q) (inl r) = absurd (g.not_below (space_below j i w r k.inside))
      go (inr q) (inr r) = omega arith

  -- and a sum with a term of lower weight has that of the other
  pub weight_of_sum : (i j : ℕ) (w u : P.carrier) → i < j → InL P Other i w
      → HasWeight P Other j u → HasWeight P Other j (P.add w u)
  weight_of_sum i zero w u q h k = absurd (omega arith)
  weight_of_sum i (suc j) w u q h k = record {
    inside = record {
      in_module = module_add P (suc j) w u (space_more j w lower).in_module k.inside.in_module;
      in_other = sub.on_add w u h.in_other k.inside.in_other;
    };
    not_below = λ b. k.not_below (subst (InL P Other j)
        (ring2 P.ring P.laws (λ w u. (w ⊕ u) ⊕ neg w) (λ w u. u) refl w u)
        (space_less j (w + u) w b lower));
  }
    where
      lower : InL P Other j w
      lower = space_below i (suc j) w q h

  module _ (s h : C) (l : IsLocalPair P s h) where
    -- below L_j is what has the leading value 0
    pub below_leads : (j : ℕ) (w : P.carrier) → IsBelow P Other j w
        → lead P h j w ≡ P.field.zero
    below_leads zero w m = ap P.value (P.laws.mul_one w) ∙ m.vanishes
    below_leads (suc j) w m = leading_vanishes P s h l j w m.in_module

    pub leads_below : (j : ℕ) (w : P.carrier) → InL P Other j w → lead P h j w ≡ P.field.zero
        → IsBelow P Other j w
    leads_below zero w m e = record {
      inside = m.in_module;
      vanishes = ap P.value (sym (P.laws.mul_one w)) ∙ e;
    }
    leads_below (suc j) w m e = record {
      in_module = leading_kernel P s h l j w m.in_module e;
      in_other = m.in_other;
    }

    pub weights_add : (i j : ℕ) (w u : P.carrier) → HasWeight P Other i w → HasWeight P Other j u
        → HasWeight P Other (plus_ℕ i j) (P.mul w u)
    weights_add i j w u g k = record {
      inside = space_products i j w u g.inside k.inside;
      not_below = λ b. k.not_below (leads_below j u k.inside
          (no_divisors (field_domain P.field) (lead P h j u) (lead P h i w)
          (P.field.laws.mul_comm _ _
          ∙ sym (leading_mul P s h l i j w u g.inside.in_module k.inside.in_module)
          ∙ below_leads (plus_ℕ i j) (w * u) b)
          (λ e. g.not_below (leads_below i w g.inside e))));
    }

    pub pole_numbers_add : (i j : ℕ) → IsPoleNumber P Other i → IsPoleNumber P Other j
        → IsPoleNumber P Other (plus_ℕ i j)
    pole_numbers_add i j g k = (g.0 * k.0, weights_add i j g.0 k.0 g.1 k.1)

    -- an element of L_(j+1) less a multiple of one of weight j+1 is in L_j
    pub space_step : (j : ℕ) (w u : P.carrier) → InL P Other (suc j) w
        → HasWeight P Other (suc j) u → (c : P.field.carrier)
        × InL P Other j (P.add w (P.neg (P.mul (P.constant c) u)))
    space_step j w u m k = (
      c,
      record {
        in_module = less_leading P s h l j w u m.in_module k.inside.in_module
            (λ n. k.not_below (record { in_module = n; in_other = k.inside.in_other }));
        in_other = sub.on_add w _ m.in_other (subst Other same
            (sub.on_mul _ u (sub.on_constant (P.field.neg c)) k.inside.in_other));
      },
    )
      where
        c : P.field.carrier
        c = P.field.mul (lead P h (suc j) w) (P.field.inverse (lead P h (suc j) u))

        same : P.constant (P.field.neg c) * u ≡ minus (P.constant c * u)
        same = ap (λ t. t * u) (P.constants.on_neg c)
            ∙ ring2 P.ring P.laws (λ c u. neg c ⊗ u) (λ c u. neg (c ⊗ u)) refl (P.constant c) u

    -- an element of L_j has a weight up to j, or the value 0
    pub weight_or_kernel : (j : ℕ) (w : P.carrier) → InL P Other j w
        → ((i : ℕ) × HasWeight P Other i w) ⊎ InKernel P w
    weight_or_kernel zero w m = go (P.field.same (lead P h zero w) P.field.zero) refl
      where
        go : (b : Bool) → P.field.same (lead P h zero w) P.field.zero ≡ b
            → ((i : ℕ) × HasWeight P Other i w) ⊎ InKernel P w
        go false e = inl (
          zero,
          record {
            inside = m;
            not_below = λ b. not_same P.field.ring P.field.tests _ _ e (below_leads zero w b);
          },
        )
        go true e = inr (leads_below zero w m
            (P.field.tests.same_true (lead P h zero w) P.field.zero e))
    weight_or_kernel (suc j) w m = go (P.field.same (lead P h (suc j) w) P.field.zero) refl
        (λ n. weight_or_kernel j w n)
      where
        go : (b : Bool) → P.field.same (lead P h (suc j) w) P.field.zero ≡ b
            → (InL P Other j w → ((i : ℕ) × HasWeight P Other i w) ⊎ InKernel P w)
            → ((i : ℕ) × HasWeight P Other i w) ⊎ InKernel P w
        go false e below = inl (
          suc j,
          record {
            inside = m;
            not_below = λ b. not_same P.field.ring P.field.tests _ _ e (below_leads (suc j) w b);
          },
        )
        go true e below = below (leads_below (suc j) w m
            (P.field.tests.same_true (lead P h (suc j) w) P.field.zero e))
