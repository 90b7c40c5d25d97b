-- Combinations with coefficients in k.
use Rattle.std.proofs.Common.{◌≡◌, ℕ, zero, suc, ◌+◌ as plus_ℕ, ◌<◌}
use Rattle.std.proofs.Common.{refl, sym, ◌∙◌, ap, arith}
use Rattle.ff_theory.specs.Span.{combination}
use Rattle.ff_theory.proofs.Solver.{◌⊕◌, ◌⊗◌, nil, ring1, ring4, ring6, zero_mul}
use Rattle.ff_theory.proofs.Sums.{sum-ext, sum-zero, sum-add, sum-mul}
use Rattle.ff_local.specs.Point.{OrderIn, combined}
use Rattle.ff_local.proofs.Orders.{in_zero}
use Rattle.ff_local.proofs.Joined.{joined, sum-joined}

module _ (O : OrderIn) where
  infixl 60 ◌+◌
  infixl 70 ◌*◌
  open O use {add as ◌+◌, mul as ◌*◌, neg as minus, carrier as C}

  pub combined_in : (n : ℕ) (c : ℕ → O.field.carrier) (w : ℕ → C) → ((i : ℕ) → i < n → O.In (w i))
      → O.In (combined O n c w)
  combined_in zero c w h = in_zero O
  combined_in (suc n) c w h = O.in_add _ _ (combined_in n c w (λ i l. h i (omega arith)))
      (O.in_mul _ _ (O.in_constant (c n)) (h n (omega arith)))

  pub combined_mul : (n : ℕ) (c : ℕ → O.field.carrier) (w : ℕ → C) (t : C)
      → combined O n c w * t ≡ combined O n c (λ i. w i * t)
  combined_mul zero c w t = zero_mul O.ring O.laws t
  combined_mul (suc n) c w t =
      ring4 O.ring O.laws (λ s c w t. (s ⊕ c ⊗ w) ⊗ t) (λ s c w t. s ⊗ t ⊕ c ⊗ (w ⊗ t)) refl
      (combined O n c w) (O.constant (c n)) (w n) t
      ∙ ap (λ z. z + O.constant (c n) * (w n * t)) (combined_mul n c w t)

  -- a combination of elements that are combinations of e 0, e 1, .. up to v*O
  pub spread : (m : ℕ) (e : ℕ → C) (c : ℕ → ℕ → O.field.carrier) (y w : ℕ → C) (n : ℕ)
      (d : ℕ → O.field.carrier)
      → ((i : ℕ) → i < n → w i ≡ combined O m (c i) e + O.v * y i)
      → combined O n d w ≡ combined O m (combination O.field.ring n d c) e
      + O.v * combined O n d y
  spread m e c y w zero d h = sym (ap (λ t. t + O.v * O.zero)
      (sum-ext O.ring O.laws m _ (λ i. O.zero)
      (λ i l. ap (λ t. t * e i) O.constants.on_zero
      ∙ zero_mul O.ring O.laws (e i)) ∙ sum-zero O.ring O.laws m)
      ∙ ring1 O.ring O.laws (λ v. nil ⊕ v ⊗ nil) (λ v. nil) refl O.v)
  spread m e c y w (suc n) d h =
      ap (λ t. t + O.constant (d n) * w n) (spread m e c y w n d (λ i l. h i (omega arith)))
      ∙ ap (λ t. combined O m before e + O.v * combined O n d y + O.constant (d n) * t)
      (h n (omega arith))
      ∙ ring6 O.ring O.laws (λ a v b c x y. (a ⊕ v ⊗ b) ⊕ c ⊗ (x ⊕ v ⊗ y))
      (λ a v b c x y. (a ⊕ c ⊗ x) ⊕ v ⊗ (b ⊕ c ⊗ y)) refl (combined O m before e) O.v
      (combined O n d y) (O.constant (d n)) (combined O m (c n) e) (y n)
      ∙ ap (λ t. t + O.v * combined O (suc n) d y)
      (ap (λ t. combined O m before e + t)
      (sym (sum-mul O.ring O.laws m (O.constant (d n)) (λ i. O.constant (c n i) * e i)))
      ∙ sym (sum-add O.ring O.laws m _ _)
      ∙ sum-ext O.ring O.laws m _ _ (λ i l. together i))
    where
      before : ℕ → O.field.carrier
      before = combination O.field.ring n d c

      together : (i : ℕ) → O.constant (before i) * e i + O.constant (d n) *
          (O.constant (c n i) * e i)
          ≡ O.constant (O.field.add (before i) (O.field.mul (d n) (c n i))) * e i
      together i = ring4 O.ring O.laws (λ b d c s. b ⊗ s ⊕ d ⊗ (c ⊗ s))
          (λ b d c s. (b ⊕ d ⊗ c) ⊗ s) refl (O.constant (before i)) (O.constant (d n))
          (O.constant (c n i)) (e i)
          ∙ ap (λ t. t * e i) (ap (λ t. O.constant (before i) + t)
          (sym (O.constants.on_mul _ _)) ∙ sym (O.constants.on_add _ _))

  -- a combination of m elements, and one of n others
  pub combined_joined : (m n : ℕ) (c d : ℕ → O.field.carrier) (w u : ℕ → C)
      → combined O (plus_ℕ m n) (joined m c d) (joined m w u)
      ≡ combined O m c w + combined O n d u
  combined_joined m n c d w u = sum-joined O.ring O.laws m n c d w u
      (λ a b. O.constant a * b)
