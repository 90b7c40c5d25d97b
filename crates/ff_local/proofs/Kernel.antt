-- The values of combinations; the elements of a spanning list without their values span the kernel
-- modulo v*O.
use Rattle.std.proofs.Common.{◌≡◌, ℕ, zero, suc, ◌<◌, refl, sym, ◌∙◌, ap, ap₂, arith}
use Rattle.ff_theory.specs.Sum.{sum_below}
use Rattle.ff_theory.proofs.Solver.{◌⊕◌, ◌⊗◌, neg, ring6, zero_mul}
use Rattle.ff_local.specs.Point.{OrderAt, InKernel, IsSpanned, Spanning, combined}
use Rattle.ff_local.proofs.Basics.{without, v_kernel}
use Rattle.ff_local.proofs.Combined.{combined_in}
use Rattle.ff_local.proofs.Basics.{value_zero}

module _ (P : OrderAt) where
  infixl 60 ◌+◌
  infixl 70 ◌*◌
  open P use {add as ◌+◌, mul as ◌*◌, neg as minus, carrier as C}

  pub combined_value : (n : ℕ) (c : ℕ → P.field.carrier) (w : ℕ → C)
      → ((i : ℕ) → i < n → P.In (w i))
      → P.value (combined P.order n c w) ≡ sum_below P.field.ring n
      (λ i. P.field.mul (c i) (P.value (w i)))
  combined_value zero c w h = value_zero P
  combined_value (suc n) c w h =
      P.value_add _ _ (combined_in P.order n c w (λ i l. h i (omega arith)))
      (P.in_mul _ _ (P.in_constant (c n)) (h n (omega arith)))
      ∙ ap₂ P.field.add (combined_value n c w (λ i l. h i (omega arith)))
      (P.value_mul _ _ (P.in_constant (c n)) (h n (omega arith))
      ∙ ap (λ t. P.field.mul t (P.value (w n))) (P.value_constant (c n)))

  -- with the values taken off: what is left is the combination of the values
  pub shifted : (n : ℕ) (c : ℕ → P.field.carrier) (w : ℕ → C)
      → combined P.order n c w ≡ combined P.order n c (λ i. w i + minus (P.constant (P.value
      (w i))))
      + P.constant (sum_below P.field.ring n (λ i. P.field.mul (c i) (P.value (w i))))
  shifted zero c w = sym (ap (λ t. P.zero + t) P.constants.on_zero ∙ P.laws.add_zero P.zero)
  shifted (suc n) c w =
      ap (λ t. t + P.constant (c n) * w n) (shifted n c w)
      ∙ ring6 P.ring P.laws (λ s k c w v z. (s ⊕ k) ⊕ c ⊗ w)
      (λ s k c w v z. (s ⊕ c ⊗ (w ⊕ neg v)) ⊕ (k ⊕ c ⊗ v)) refl
      (combined P.order n c (λ i. w i + minus (P.constant (P.value (w i)))))
      (P.constant (sum_below P.field.ring n (λ i. P.field.mul (c i) (P.value (w i)))))
      (P.constant (c n)) (w n) (P.constant (P.value (w n))) P.zero
      ∙ ap (λ t. combined P.order (suc n) c (λ i. w i + minus (P.constant (P.value (w i)))) + t)
      (ap (λ t. P.constant (sum_below P.field.ring n (λ i. P.field.mul (c i) (P.value (w i)))) + t)
      (sym (P.constants.on_mul (c n) (P.value (w n))))
      ∙ sym (P.constants.on_add _ _))

module _ (P : OrderAt) (S : Spanning P.order) where
  infixl 60 ◌+◌
  infixl 70 ◌*◌
  open P use {add as ◌+◌, mul as ◌*◌, neg as minus, carrier as C}

  -- a spanning element without its value
  abbrev pub kernel_element : ℕ → C
  kernel_element i = S.element i + minus (P.constant (P.value (S.element i)))

  pub kernel_element_in : (i : ℕ) → i < S.count → InKernel P (kernel_element i)
  kernel_element_in i l = without P (S.element i) (S.inside i l)

  -- these span the kernel modulo v*O
  pub kernel_spans : (r : C) (m : InKernel P r)
      → r ≡ combined P.order S.count (S.spans r m.inside).coefficients kernel_element + P.v *
      (S.spans r m.inside).rest
  kernel_spans r m = d.sum ∙ ap (λ t. t + P.v * d.rest) (shifted P S.count d.coefficients S.element
      ∙ ap (λ t. combined P.order S.count d.coefficients kernel_element + t)
      (ap P.constant none ∙ P.constants.on_zero) ∙ P.laws.add_zero _)
    where
      d : IsSpanned P.order S.count S.element r
      d = S.spans r m.inside

      none : sum_below P.field.ring S.count
          (λ i. P.field.mul (d.coefficients i) (P.value (S.element i))) ≡ P.field.zero
      none = sym (ap P.value d.sum
          ∙ P.value_add _ _ (combined_in P.order S.count d.coefficients S.element S.inside)
          (P.in_mul _ _ (v_kernel P).inside d.inside)
          ∙ ap₂ P.field.add (combined_value P S.count d.coefficients S.element S.inside)
          (P.value_mul _ _ (v_kernel P).inside d.inside
          ∙ ap (λ t. P.field.mul t (P.value d.rest)) (v_kernel P).vanishes
          ∙ zero_mul P.field.ring P.field.laws (P.value d.rest))
          ∙ P.field.laws.add_zero _) ∙ m.vanishes
