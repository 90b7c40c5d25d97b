-- Leading values, and what the pole modules are.
use Rattle.std.proofs.Common.{◌≡◌, ℕ, zero, suc, ◌+◌ as plus_ℕ, ◌-◌, ◌<◌, ◌≤◌, ◌⊎◌, inl, inr, refl}
use Rattle.std.proofs.Common.{sym, ◌∙◌, ap, ap₂, subst, arith}
use Rattle.std.proofs.lemmas.Bool.{cases_lt}
use Rattle.ff_theory.specs.Ring.{power}
use Rattle.ff_theory.proofs.Solver.{◌⊕◌, ◌⊗◌, neg, nil, unit, ring1, ring2, ring3, ring4, add_mul}
use Rattle.ff_theory.proofs.Sums.{sum-ext}
use Rattle.ff_theory.proofs.Powers.{power-add}
use Rattle.ff_local.specs.Point.{OrderAt, InKernel, combined}
use Rattle.ff_local.specs.Module.{InModule, IsLocalPair, lead, IsBuilt}
use Rattle.ff_local.proofs.Orders.{in_zero, in_one, in_neg}
use Rattle.ff_local.proofs.Basics.{value_one, value_neg, kernel_mul}
use Rattle.ff_local.proofs.Modules.{module_order}
use Rattle.ff_local.proofs.Modules.{module_more, module_add, module_scale, module_down}
use Rattle.ff_local.proofs.Modules.{module_first, module_power}

module _ (P : OrderAt) (s h : P.carrier) (l : IsLocalPair P s h) where
  infixl 60 ◌+◌
  infixl 70 ◌*◌
  open P use {add as ◌+◌, mul as ◌*◌, neg as minus, carrier as C}

  inside : P.In (s * h)
  inside = l.into h l.kernel

  complement : InKernel P (P.one + minus (s * h))
  complement = record {
    inside = P.in_add _ _ (in_one P.order) (in_neg P.order _ inside);
    vanishes = P.value_add _ _ (in_one P.order) (in_neg P.order _ inside)
        ∙ ap₂ P.field.add (value_one P) (value_neg P _ inside ∙ ap P.field.neg l.unit)
        ∙ P.field.laws.add_neg P.field.one;
  }

  -- x in M_1 with x*h in the kernel is in O
  pub first_step : (x : C) → InModule P 1 x → P.value (x * h) ≡ P.field.zero → P.In x
  first_step x m e = subst P.In
      (ring3 P.ring P.laws (λ s h x. s ⊗ (x ⊗ h) ⊕ x ⊗ (unit ⊕ neg (s ⊗ h)))
      (λ s h x. x) refl s h x)
      (P.in_add _ _ (l.into (x * h) (record { inside = m h l.kernel; vanishes = e }))
      (m _ complement))

  -- the elements of M_(j+1) with leading value 0 are those of M_j
  pub leading_kernel : (j : ℕ) (w : C) → InModule P (suc j) w → lead P h (suc j) w ≡ P.field.zero
      → InModule P j w
  leading_kernel zero w m e = first_step w m
      (ap P.value (ring2 P.ring P.laws (λ w h. w ⊗ h) (λ w h. w ⊗ (h ⊗ unit)) refl w h) ∙ e)
  leading_kernel (suc j) w m e = λ r n. leading_kernel j (w * r) (m r n)
      (ap P.value (ring3 P.ring P.laws (λ w r t. w ⊗ r ⊗ t) (λ w r t. w ⊗ t ⊗ r) refl w r
      (power P.ring h (suc j)))
      ∙ (kernel_mul P _ r whole n).vanishes)
    where
      whole : P.In (w * power P.ring h (suc j))
      whole = first_step (w * power P.ring h (suc j)) (module_first P h l.kernel (suc j) w m)
          (ap P.value (ring3 P.ring P.laws (λ w h t. w ⊗ t ⊗ h) (λ w h t. w ⊗ (h ⊗ t)) refl w h
          (power P.ring h (suc j))) ∙ e)

  pub leading_vanishes : (j : ℕ) (w : C) → InModule P j w → lead P h (suc j) w ≡ P.field.zero
  leading_vanishes j w m =
      ap P.value (ring3 P.ring P.laws (λ w h t. w ⊗ (h ⊗ t)) (λ w h t. w ⊗ t ⊗ h) refl w h
      (power P.ring h j))
      ∙ (kernel_mul P _ h (module_down P h l.kernel j w m) l.kernel).vanishes

  -- leading values are k-linear, and multiply
  pub leading_add : (j : ℕ) (w u : C) → InModule P j w → InModule P j u
      → lead P h j (w + u) ≡ P.field.add (lead P h j w) (lead P h j u)
  leading_add j w u m n = ap P.value (add_mul P.ring P.laws w u (power P.ring h j))
      ∙ P.value_add _ _ (module_down P h l.kernel j w m) (module_down P h l.kernel j u n)

  pub leading_scale : (j : ℕ) (c : P.field.carrier) (w : C) → InModule P j w
      → lead P h j (P.constant c * w) ≡ P.field.mul c (lead P h j w)
  leading_scale j c w m = ap P.value (P.laws.mul_assoc (P.constant c) w (power P.ring h j))
      ∙ P.value_mul _ _ (P.in_constant c) (module_down P h l.kernel j w m)
      ∙ ap (λ t. P.field.mul t (lead P h j w)) (P.value_constant c)

  pub leading_mul : (i j : ℕ) (w u : C) → InModule P i w → InModule P j u
      → lead P h (plus_ℕ i j) (w * u) ≡ P.field.mul (lead P h i w) (lead P h j u)
  leading_mul i j w u m n = ap (λ t. P.value (w * u * t)) (power-add P.ring P.laws h i j)
      ∙ ap P.value (ring4 P.ring P.laws (λ w u a b. w ⊗ u ⊗ (a ⊗ b))
      (λ w u a b. w ⊗ a ⊗ (u ⊗ b)) refl w u (power P.ring h i) (power P.ring h j))
      ∙ P.value_mul _ _ (module_down P h l.kernel i w m) (module_down P h l.kernel j u n)

  -- the powers of s
  pub local_power : (j : ℕ) → InModule P j (power P.ring s j)
  local_power j = module_power P s l.into j

  pub leading_onto : (j : ℕ) → lead P h j (power P.ring s j) ≡ P.field.one
  leading_onto zero = ap P.value (P.laws.mul_one P.one) ∙ value_one P
  leading_onto (suc j) =
      ap P.value (ring4 P.ring P.laws (λ s a h b. s ⊗ a ⊗ (h ⊗ b))
      (λ s a h b. s ⊗ h ⊗ (a ⊗ b)) refl s (power P.ring s j) h (power P.ring h j))
      ∙ P.value_mul _ _ inside (module_down P h l.kernel j (power P.ring s j) (local_power j))
      ∙ ap₂ P.field.mul l.unit (leading_onto j) ∙ P.field.laws.mul_one P.field.one

  pub power_not_below : (j : ℕ) → ¬ (InModule P j (power P.ring s (suc j)))
  power_not_below j m = P.field.is_field.one_not_zero
      (sym (leading_onto (suc j)) ∙ leading_vanishes j _ m)

  -- an element of M_(j+1) less the multiple of u with its leading value
  pub less_leading : (j : ℕ) (w u : C) → InModule P (suc j) w → InModule P (suc j) u
      → ¬ (InModule P j u)
      → InModule P j (w + minus (P.constant
      (P.field.mul (lead P h (suc j) w) (P.field.inverse (lead P h (suc j) u))) * u))
  less_leading j w u m n not_below = leading_kernel j _ all zero_lead
    where
      a : P.field.carrier
      a = lead P h (suc j) w

      b : P.field.carrier
      b = lead P h (suc j) u

      c : P.field.carrier
      c = P.field.mul a (P.field.inverse b)

      b_not_zero : ¬ (b ≡ P.field.zero)
      b_not_zero e = not_below (leading_kernel j u n e)

      same : w + P.constant (P.field.neg c) * u ≡ w + minus (P.constant c * u)
      same = ap (λ t. w + t * u) (P.constants.on_neg c)
          ∙ ring3 P.ring P.laws (λ w c u. w ⊕ neg c ⊗ u) (λ w c u. w ⊕ neg (c ⊗ u)) refl w
          (P.constant c) u

      multiple : InModule P (suc j) (P.constant (P.field.neg c) * u)
      multiple = module_scale P (suc j) _ u (P.in_constant _) n

      all : InModule P (suc j) (w + minus (P.constant c * u))
      all = subst (InModule P (suc j)) same (module_add P (suc j) w _ m multiple)

      zero_lead : lead P h (suc j) (w + minus (P.constant c * u)) ≡ P.field.zero
      zero_lead = ap (lead P h (suc j)) (sym same) ∙ leading_add (suc j) w _ m multiple
          ∙ ap (P.field.add a) (leading_scale (suc j) (P.field.neg c) u n)
          ∙ ring3 P.field.ring P.field.laws (λ a i b. a ⊕ neg (a ⊗ i) ⊗ b)
          (λ a i b. a ⊕ neg (a ⊗ (b ⊗ i))) refl a (P.field.inverse b) b
          ∙ ap (λ t. P.field.add a (P.field.neg (P.field.mul a t)))
          (P.field.is_field.mul_inverse b b_not_zero)
          ∙ ring1 P.field.ring P.field.laws (λ a. a ⊕ neg (a ⊗ unit)) (λ a. nil) refl a

  -- M_j = O + k*u 1 + .. + k*u j, for any u i in M_i that is not in M_(i-1)
  pub module_exact : (u : ℕ → C) (j : ℕ) → ((i : ℕ) → i < j → InModule P (suc i) (u (suc i)))
      → ((i : ℕ) → i < j → ¬ (InModule P i (u (suc i)))) → (w : C) → InModule P j w
      → IsBuilt P j u w
  module_exact u zero up low w m =
      record {
        coefficients = λ i. P.field.zero;
        rest = w;
        inside = m;
        sum =
            sym (P.laws.add_zero w);
      }
  module_exact u (suc j) up low w m =
      step (module_exact u j (λ i q. up i (omega arith)) (λ i q. low i (omega arith)) _
      (less_leading j w (u (suc j)) m (up j (omega arith)) (low j (omega arith))))
    where
      c : P.field.carrier
      c = P.field.mul (lead P h (suc j) w) (P.field.inverse (lead P h (suc j) (u (suc j))))

      pick : (ℕ → P.field.carrier) → (i : ℕ) → (i < j) ⊎ (j ≤ i) → P.field.carrier
      pick d i (inl q) = d i
      pick d i (inr q) = c

      picked : (d : ℕ → P.field.carrier) (i : ℕ) (b : (i < j) ⊎ (j ≤ i)) → i < j → pick d i b ≡ d i
      picked d i (inl q) k = refl
      picked d i (inr q) k = absurd (omega arith)

      last : (d : ℕ → P.field.carrier) (b : (j < j) ⊎ (j ≤ j)) → pick d j b ≡ c
      last d (inl q) = absurd (omega arith)
      last d (inr q) = refl

      step : IsBuilt P j u (w + minus (P.constant c * u (suc j))) → IsBuilt P (suc j) u w
      step b = record {
        coefficients = λ i. pick b.coefficients i (cases_lt i j);
        rest = b.rest;
        inside = b.inside;
        sum = ring2 P.ring P.laws (λ w t. w) (λ w t. (w ⊕ neg t) ⊕ t) refl w
            (P.constant c * u (suc j))
            ∙ ap (λ t. t + P.constant c * u (suc j)) b.sum ∙ P.laws.add_assoc b.rest _ _
            ∙ ap (λ t. b.rest + t) (ap₂ P.add
            (sum-ext P.ring P.laws j _ _ (λ i q. ap (λ t. P.constant t * u (suc i))
            (sym (picked b.coefficients i (cases_lt i j) q))))
            (ap (λ t. P.constant t * u (suc j)) (sym (last b.coefficients (cases_lt j j)))));
      }

  -- and such elements are in M_j
  pub module_built : (u : ℕ → C) (j : ℕ) → ((i : ℕ) → i < j → InModule P (suc i) (u (suc i)))
      → (w : C) → IsBuilt P j u w → InModule P j w
  module_built u j up w b = subst (InModule P j) (sym b.sum)
      (module_add P j b.rest _ (module_order P j b.rest b.inside) (terms j (λ i q. raise i q)))
    where
      climb : (n i : ℕ) (x : C) → InModule P i x → InModule P (plus_ℕ n i) x
      climb zero i x h = let e : i ≡ plus_ℕ zero i = omega arith in subst (λ n. InModule P n x) e h
      climb (suc n) i x h = let e : suc (plus_ℕ n i) ≡ plus_ℕ (suc n) i = omega arith in
          subst (λ n. InModule P n x) e (module_more P (plus_ℕ n i) x (climb n i x h))

      raise : (i : ℕ) → i < j → InModule P j (u (suc i))
      raise i q = let e : plus_ℕ (j - suc i) (suc i) ≡ j = omega (arith, q) in
          subst (λ n. InModule P n (u (suc i))) e (climb (j - suc i) (suc i) (u (suc i)) (up i q))

      terms : (n : ℕ) → ((i : ℕ) → i < n → InModule P j (u (suc i)))
          → InModule P j (combined P.order n b.coefficients (λ i. u (suc i)))
      terms zero h = module_order P j P.zero (in_zero P.order)
      terms (suc n) h = module_add P j _ _ (terms n (λ i q. h i (omega arith)))
          (module_scale P j _ _ (P.in_constant _) (h n (omega arith)))
