-- Where O is maximal at the point, each element that takes the kernel into O and is not in O has
-- its partner h.
use Rattle.std.proofs.Common.{◌≡◌, ℕ, ◌<◌, ◌⊎◌, inl, inr, Bool, true, false, refl, ◌∙◌, ap, ap₂}
use Rattle.std.proofs.Common.{subst}
use Rattle.ff_theory.proofs.Solver.{◌⊕◌, ◌⊗◌, ring3, ring4, mul_zero}
use Rattle.ff_theory.proofs.Sums.{sum-ext, sum-zero}
use Rattle.ff_theory.proofs.PolyMap.{not_same}
use Rattle.ff_theory.proofs.Dependence.{Found, find}
use Rattle.ff_local.specs.Point.{OrderAt, InKernel, IsSpanned, Spanning, IsMaximalAt}
use Rattle.ff_local.specs.Point.{combined}
use Rattle.ff_local.specs.Module.{IsLocalPair}
use Rattle.ff_local.specs.Socle.{IsSocle}
use Rattle.ff_local.proofs.Basics.{kernel_mul, v_kernel}
use Rattle.ff_local.proofs.Combined.{combined_in, combined_mul}
use Rattle.ff_local.proofs.Kernel.{combined_value, kernel_element, kernel_element_in, kernel_spans}
use Rattle.ff_local.proofs.Socle.{socle, local_element}

module _ (P : OrderAt) (S : Spanning P.order) where
  infixl 60 ◌+◌
  infixl 70 ◌*◌
  open P use {add as ◌+◌, mul as ◌*◌, carrier as C}

  -- r divided by the value of s * r
  scaled : (s r : C) → ((r : C) → InKernel P r → P.In (s * r)) → InKernel P r
      → ¬ (P.value (s * r) ≡ P.field.zero) → (h : C) × IsLocalPair P s h
  scaled s r into m n = (
    P.constant i * r,
    record {
      into = into;
      kernel = kernel_mul P (P.constant i) r (P.in_constant i) m;
      unit = ap P.value (ring3 P.ring P.laws (λ s i r. s ⊗ (i ⊗ r)) (λ s i r. i ⊗ (s ⊗ r)) refl s
          (P.constant i) r)
          ∙ P.value_mul _ _ (P.in_constant i) (into r m)
          ∙ ap (λ t. P.field.mul t (P.value (s * r))) (P.value_constant i)
          ∙ P.field.laws.mul_comm _ _ ∙ P.field.is_field.mul_inverse _ n;
    },
  )
    where
      i : P.field.carrier
      i = P.field.inverse (P.value (s * r))

  -- where the values of s * v and of s times the kernel elements are 0, s takes the kernel into
  -- itself
  into_itself : (s : C) → ((r : C) → InKernel P r → P.In (s * r)) → P.value (s * P.v) ≡ P.field.zero
      → ((i : ℕ) → i < S.count → P.value (s * kernel_element P S i) ≡ P.field.zero) → (r : C)
      → InKernel P r → InKernel P (s * r)
  into_itself s into at_v at_each r m =
      record { inside = into r m; vanishes = ap P.value same ∙ zero_value }
    where
      d : IsSpanned P.order S.count S.element r
      d = S.spans r m.inside

      first : C
      first = combined P.order S.count d.coefficients (λ i. kernel_element P S i * s)

      each_in : (i : ℕ) → i < S.count → P.In (kernel_element P S i * s)
      each_in i l = subst P.In (P.laws.mul_comm _ _) (into _ (kernel_element_in P S i l))

      same : s * r ≡ first + d.rest * (s * P.v)
      same = ap (λ t. s * t) (kernel_spans P S r m)
          ∙ ring4 P.ring P.laws (λ s a v y. s ⊗ (a ⊕ v ⊗ y)) (λ s a v y. a ⊗ s ⊕ y ⊗ (s ⊗ v)) refl s
          (combined P.order S.count d.coefficients (kernel_element P S)) P.v d.rest
          ∙ ap (λ t. t + d.rest * (s * P.v))
          (combined_mul P.order S.count d.coefficients (kernel_element P S) s)

      zero_value : P.value (first + d.rest * (s * P.v)) ≡ P.field.zero
      zero_value =
          P.value_add _ _ (combined_in P.order S.count d.coefficients _ each_in)
          (P.in_mul _ _ d.inside (into P.v (v_kernel P)))
          ∙ ap₂ P.field.add
          (combined_value P S.count d.coefficients _ each_in
          ∙ sum-ext P.field.ring P.field.laws S.count _ (λ i. P.field.zero)
          (λ i l. ap (P.field.mul (d.coefficients i))
          (ap P.value (P.laws.mul_comm _ s) ∙ at_each i l) ∙ mul_zero P.field.ring P.field.laws _)
          ∙ sum-zero P.field.ring P.field.laws S.count)
          (P.value_mul _ _ d.inside (into P.v (v_kernel P)) ∙ ap (P.field.mul (P.value d.rest)) at_v
          ∙ mul_zero P.field.ring P.field.laws _)
          ∙ P.field.laws.add_zero P.field.zero

  pub local_unit : (s : C) → IsMaximalAt P → ((r : C) → InKernel P r → P.In (s * r)) → ¬ (P.In s)
      → (h : C) × IsLocalPair P s h
  local_unit s maximal into out = at_v (P.field.same (P.value (s * P.v)) P.field.zero) refl
    where
      search_each : P.value (s * P.v) ≡ P.field.zero
          → Found P.field.ring S.count (λ i. P.value (s * kernel_element P S i)) ⊎
          ((i : ℕ) → i < S.count → P.value (s * kernel_element P S i) ≡ P.field.zero)
          → (h : C) × IsLocalPair P s h
      search_each z (inl f) = scaled s (kernel_element P S f.index) into
          (kernel_element_in P S f.index f.below) f.nonzero
      search_each z (inr e) = absurd (out (maximal s (into_itself s into z e)))

      at_v : (b : Bool) → P.field.same (P.value (s * P.v)) P.field.zero ≡ b
          → (h : C) × IsLocalPair P s h
      at_v false e = scaled s P.v into (v_kernel P) (not_same P.field.ring P.field.tests _ _ e)
      at_v true e = search_each (P.field.tests.same_true _ _ e)
          (find P.field.ring P.field.laws P.field.tests S.count _)

  -- every point of a maximal order has a local pair
  pub local_pair : IsMaximalAt P → (s : P.carrier) × (h : P.carrier) × IsLocalPair P s h
  local_pair maximal = (s, unit.0, unit.1)
    where
      g : C
      g = (socle P S).0

      k : IsSocle P g
      k = (socle P S).1

      s : C
      s = g * P.over_v

      unit : (h : C) × IsLocalPair P s h
      unit = local_unit s maximal (local_element P S g k) k.outside
