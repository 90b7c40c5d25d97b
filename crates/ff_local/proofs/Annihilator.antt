-- For each r in the kernel there is an element of value 1 that a power of r carries into v*O.
use Rattle.std.proofs.Common.{◌≡◌, ℕ, zero, suc, ◌<◌, Bool, true, false, refl, sym, ◌∙◌, ap, ap₂}
use Rattle.std.proofs.Common.{subst, arith}
use Rattle.ff_theory.specs.Ring.{power}
use Rattle.ff_theory.proofs.Solver.{◌⊕◌, ◌⊗◌, nil, unit, ring1, ring3, zero_mul}
use Rattle.ff_theory.proofs.Solver.{zero_add}
use Rattle.ff_theory.proofs.Series.{tail}
use Rattle.ff_theory.proofs.Sums.{sum-ext, sum-zero}
use Rattle.ff_theory.proofs.Horner.{horner, horner-sum}
use Rattle.ff_theory.proofs.PolyMap.{not_same}
use Rattle.ff_theory.specs.Span.{Dependence}
use Rattle.ff_theory.proofs.Dependence.{dependence}
use Rattle.ff_theory.proofs.Domains.{field_domain}
use Rattle.ff_local.specs.Point.{OrderAt, InKernel, IsMultiple, IsSpanned, Spanning}
use Rattle.ff_local.specs.Point.{combined}
use Rattle.ff_local.specs.Socle.{IsKilledBy}
use Rattle.ff_local.proofs.Orders.{in_zero, in_power, v_multiple, multiple_scale}
use Rattle.ff_local.proofs.Combined.{combined_in, spread}

-- an element of value 1 that a power of r carries into v*O
pub record Annihilator (P : OrderAt) (r : P.carrier) : Type 0 where
  pub element : P.carrier
  pub inside : P.In element
  pub unit_value : P.value element ≡ P.field.one
  pub killed : IsKilledBy P r element

module _ (P : OrderAt) where
  infixl 60 ◌+◌
  infixl 70 ◌*◌
  open P use {add as ◌+◌, mul as ◌*◌, neg as minus, carrier as C}

  module _ (r : C) (m : InKernel P r) where
    -- c 0 + c 1 * r + .. , n terms
    abbrev at_r : (ℕ → P.field.carrier) → ℕ → C
    at_r c n = horner P.ring r (λ i. P.constant (c i)) n

    at_r_in : (c : ℕ → P.field.carrier) (n : ℕ) → P.In (at_r c n)
    at_r_in c zero = in_zero P.order
    at_r_in c (suc n) = P.in_add _ _ (P.in_constant (c zero))
        (P.in_mul _ _ m.inside (at_r_in (tail c) n))

    at_r_value : (c : ℕ → P.field.carrier) (n : ℕ) → P.value (at_r c (suc n)) ≡ c zero
    at_r_value c n = P.value_add _ _ (P.in_constant (c zero))
        (P.in_mul _ _ m.inside (at_r_in (tail c) n))
        ∙ ap₂ P.field.add (P.value_constant (c zero)) (P.value_mul _ _ m.inside (at_r_in (tail c) n)
        ∙ ap (λ t. P.field.mul t (P.value (at_r (tail c) n))) m.vanishes
        ∙ zero_mul P.field.ring P.field.laws _)
        ∙ P.field.laws.add_zero (c zero)

    -- the lowest term that is not zero, divided out
    divided : (n : ℕ) (c : ℕ → P.field.carrier) (place e : ℕ) → place < n
        → ¬ (c place ≡ P.field.zero)
        → IsMultiple P.order (power P.ring r e * at_r c n) → Annihilator P r
    divided zero c place e l nz h = absurd (omega arith)
    divided (suc n) c place e l nz h =
        go (P.field.same (c zero) P.field.zero) refl place l nz
        (λ q k. divided n (tail c) q (suc e) k)
      where
        lower : c zero ≡ P.field.zero → IsMultiple P.order (power P.ring r (suc e) * at_r
            (tail c) n)
        lower z = subst (IsMultiple P.order) (ap
            (λ t. power P.ring r e * (P.constant t + r * at_r (tail c) n)) z
            ∙ ap (λ t. power P.ring r e * (t + r * at_r (tail c) n)) P.constants.on_zero
            ∙ ring3 P.ring P.laws (λ a r t. a ⊗ (nil ⊕ r ⊗ t)) (λ a r t. r ⊗ a ⊗ t) refl
            (power P.ring r e) r (at_r (tail c) n)) h

        here : ¬ (c zero ≡ P.field.zero) → Annihilator P r
        here nonzero = record {
          element = P.constant (P.field.inverse (c zero)) * at_r c (suc n);
          inside = P.in_mul _ _ (P.in_constant _) (at_r_in c (suc n));
          unit_value = P.value_mul _ _ (P.in_constant _) (at_r_in c (suc n))
              ∙ ap₂ P.field.mul (P.value_constant _) (at_r_value c n)
              ∙ P.field.laws.mul_comm _ _ ∙ P.field.is_field.mul_inverse (c zero) nonzero;
          killed = (
            e,
            subst (IsMultiple P.order)
                (ring3 P.ring P.laws (λ i a t. i ⊗ (a ⊗ t)) (λ i a t. a ⊗ (i ⊗ t)) refl
                (P.constant (P.field.inverse (c zero))) (power P.ring r e) (at_r c (suc n)))
                (multiple_scale P.order (P.constant (P.field.inverse (c zero))) _
                (P.in_constant _) h),
          );
        }

        go : (b : Bool) → P.field.same (c zero) P.field.zero ≡ b → (q : ℕ) → q < suc n
            → ¬ (c q ≡ P.field.zero)
            → ((q : ℕ) → q < n → ¬ (tail c q ≡ P.field.zero)
            → IsMultiple P.order (power P.ring r (suc e) * at_r (tail c) n) → Annihilator P r)
            → Annihilator P r
        go false t q k n0 rest = here (not_same P.field.ring P.field.tests (c zero) P.field.zero t)
        go true t zero k n0 rest = absurd (n0 (P.field.tests.same_true (c zero) P.field.zero t))
        go true t (suc q) k n0 rest = rest q (omega arith) n0
            (lower (P.field.tests.same_true (c zero) P.field.zero t))

    module _ (S : Spanning P.order) where
      powers : (i : ℕ) → IsSpanned P.order S.count S.element (power P.ring r i)
      powers i = S.spans (power P.ring r i) (in_power P.order r i m.inside)

      relation : Dependence P.field.ring (suc S.count) S.count (λ i. (powers i).coefficients)
      relation = dependence (field_domain P.field) S.count (suc S.count) _ (omega arith)

      pub annihilator : Annihilator P r
      annihilator = divided (suc S.count) d.coefficients d.index zero d.below d.nonzero
          (subst (IsMultiple P.order) (sym whole)
          (v_multiple P.order _ (combined_in P.order (suc S.count) d.coefficients (λ i.
          (powers i).rest)
          (λ i l. (powers i).inside))))
        where
          d : Dependence P.field.ring (suc S.count) S.count (λ i. (powers i).coefficients)
          d = relation

          whole : P.one * at_r d.coefficients (suc S.count)
              ≡ P.v * combined P.order (suc S.count) d.coefficients (λ i. (powers i).rest)
          whole = ring1 P.ring P.laws (λ a. unit ⊗ a) (λ a. a) refl _
              ∙ horner-sum P.ring P.laws r (λ i. P.constant (d.coefficients i)) (suc S.count)
              ∙ spread P.order S.count S.element (λ i. (powers i).coefficients) (λ i.
              (powers i).rest)
              (power P.ring r) (suc S.count) d.coefficients (λ i l. (powers i).sum)
              ∙ ap (λ t. t + P.v * combined P.order (suc S.count) d.coefficients (λ i.
              (powers i).rest))
              (sum-ext P.ring P.laws S.count _ (λ i. P.zero)
              (λ i l. ap (λ t. P.constant t * S.element i) (d.sum i l)
              ∙ ap (λ t. t * S.element i) P.constants.on_zero
              ∙ zero_mul P.ring P.laws (S.element i))
              ∙ sum-zero P.ring P.laws S.count)
              ∙ zero_add P.ring P.laws _
