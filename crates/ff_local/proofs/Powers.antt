-- The pole modules by the powers of one element, each up to an element of the order.
use Rattle.std.proofs.Common.{◌≡◌, ℕ, zero, suc, ◌+◌ as plus_ℕ, ◌<◌, refl, sym, ◌∙◌, ap, ap₂}
use Rattle.std.proofs.Common.{subst, arith}
use Rattle.ff_theory.proofs.Solver.{◌⊕◌, ◌⊗◌, neg, unit, ring2}
use Rattle.ff_local.specs.Point.{OrderAt, Spanning, IsMaximalAt}
use Rattle.ff_local.specs.Module.{InModule, IsLocalPair, lead, IsBuilt, ArePowers}
use Rattle.ff_local.specs.Socle.{IsSocle}
use Rattle.ff_local.proofs.Modules.{module_order, module_add, module_products}
use Rattle.ff_local.proofs.Leading.{leading_add, leading_mul, leading_vanishes, module_exact}
use Rattle.ff_local.proofs.Leading.{module_built}
use Rattle.ff_local.proofs.Socle.{local_element}
use Rattle.ff_local.proofs.LocalPair.{local_unit}

module _ (P : OrderAt) (s h : P.carrier) (l : IsLocalPair P s h) where
  infixl 60 ◌+◌
  infixl 70 ◌*◌
  open P use {add as ◌+◌, mul as ◌*◌, neg as minus, carrier as C}

  -- an element of M_j with the leading value 1
  record IsLeader (j : ℕ) (w : C) : Type 0 where
    pub inside : InModule P j w
    pub leading : lead P h j w ≡ P.field.one

  -- up to an element of the order nothing changes
  up_to_order : (j : ℕ) (w u : C) → IsLeader (suc j) w → P.In (u + minus w) → IsLeader (suc j) u
  up_to_order j w u k d = record {
    inside = subst (InModule P (suc j)) whole (module_add P (suc j) w _ k.inside
        (module_order P (suc j) _ d));
    leading = ap (lead P h (suc j)) (sym whole)
        ∙ leading_add P s h l (suc j) w _ k.inside (module_order P (suc j) _ d)
        ∙ ap₂ P.field.add k.leading (leading_vanishes P s h l j _ (module_order P j _ d))
        ∙ P.field.laws.add_zero P.field.one;
  }
    where
      whole : w + (u + minus w) ≡ u
      whole = ring2 P.ring P.laws (λ w u. w ⊕ (u ⊕ neg w)) (λ w u. u) refl w u

  leads : IsLeader 1 s
  leads = record {
    inside = l.into;
    leading = ap P.value (ring2 P.ring P.laws (λ s h. s ⊗ (h ⊗ unit)) (λ s h. s ⊗ h) refl s h)
        ∙ l.unit;
  }

  times : (j : ℕ) (w : C) → IsLeader j w → IsLeader (suc j) (w * s)
  times j w k = let e : plus_ℕ j 1 ≡ suc j = omega arith in
      subst (λ n. IsLeader n (w * s)) e (record {
        inside = module_products P j 1 w s k.inside l.into;
        leading = leading_mul P s h l j 1 w s k.inside l.into
            ∙ ap₂ P.field.mul k.leading leads.leading ∙ P.field.laws.mul_one P.field.one;
      })

  leader : (j : ℕ) (u : ℕ → C) → ArePowers P s j u → (i : ℕ) → i < j → IsLeader (suc i) (u (suc i))
  leader j u a zero q = up_to_order zero s (u 1) leads (a.first q)
  leader j u a (suc i) q = up_to_order (suc i) (u (suc i) * s) (u (suc (suc i)))
      (times (suc i) (u (suc i)) (leader j u a i (omega arith))) (a.next i q)

  -- u i is in M_i, has the leading value 1, and so is not in M_(i-1)
  pub powers_in : (j : ℕ) (u : ℕ → P.carrier) → ArePowers P s j u → (i : ℕ) → i < j
      → InModule P (suc i) (u (suc i))
  powers_in j u a i q = (leader j u a i q).inside

  pub powers_lead : (j : ℕ) (u : ℕ → P.carrier) → ArePowers P s j u → (i : ℕ) → i < j
      → lead P h (suc i) (u (suc i)) ≡ P.field.one
  powers_lead j u a i q = (leader j u a i q).leading

  pub powers_above : (j : ℕ) (u : ℕ → P.carrier) → ArePowers P s j u → (i : ℕ) → i < j
      → ¬ InModule P i (u (suc i))
  powers_above j u a i q m = P.field.is_field.one_not_zero
      (sym (powers_lead j u a i q) ∙ leading_vanishes P s h l i (u (suc i)) m)

  -- M_j = O + k*u 1 + .. + k*u j
  pub powers_into : (j : ℕ) (u : ℕ → P.carrier) → ArePowers P s j u → (w : P.carrier)
      → IsBuilt P j u w → InModule P j w
  powers_into j u a = module_built P s h l u j (powers_in j u a)

  pub powers_back : (j : ℕ) (u : ℕ → P.carrier) → ArePowers P s j u → (w : P.carrier)
      → InModule P j w → IsBuilt P j u w
  powers_back j u a = module_exact P s h l u j (powers_in j u a) (powers_above j u a)

-- an element of the socle over v has a partner h, where the order is maximal at the point
pub socle_pair : (P : OrderAt) (S : Spanning P.order) → IsMaximalAt P → (g : P.carrier)
    → IsSocle P g
    → (h : P.carrier) × IsLocalPair P (P.mul g P.over_v) h
socle_pair P S maximal g k =
    local_unit P S (P.mul g P.over_v) maximal (local_element P S g k) k.outside
