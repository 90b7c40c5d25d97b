-- The socle of O/(v*O) at the point is not zero.
use Rattle.std.proofs.Common.{◌≡◌, ℕ, zero, suc, ◌<◌, ◌≤◌, ◌⊎◌, inl, inr, refl, sym, ◌∙◌, ap, ap₂}
use Rattle.std.proofs.Common.{subst, arith}
use Rattle.std.proofs.lemmas.Bool.{cases_lt}
use Rattle.ff_theory.specs.Ring.{power}
use Rattle.ff_theory.proofs.Solver.{◌⊗◌, unit, ring2, ring3, ring4, add_mul}
use Rattle.ff_local.specs.Point.{OrderAt, InKernel, IsMultiple, IsSpanned, Spanning}
use Rattle.ff_local.specs.Point.{combined}
use Rattle.ff_local.specs.Socle.{IsKilledBy, IsSocle}
use Rattle.ff_local.proofs.Orders.{in_one, multiple_scale}
use Rattle.ff_local.proofs.Basics.{value_one, unit_outside}
use Rattle.ff_local.proofs.Combined.{combined_in, combined_mul}
use Rattle.ff_local.proofs.Kernel.{kernel_element, kernel_element_in, kernel_spans}
use Rattle.ff_local.proofs.Annihilator.{Annihilator, annihilator}

module _ (P : OrderAt) (S : Spanning P.order) where
  infixl 60 ◌+◌
  infixl 70 ◌*◌
  open P use {add as ◌+◌, mul as ◌*◌, carrier as C}

  killed_scale : (t r a : C) → P.In t → IsKilledBy P r a → IsKilledBy P r (t * a)
  killed_scale t r a h k = (
    k.0,
    subst (IsMultiple P.order)
        (ring3 P.ring P.laws (λ t q a. t ⊗ (q ⊗ a)) (λ t q a. q ⊗ (t ⊗ a)) refl t
        (power P.ring r k.0) a)
        (multiple_scale P.order t _ h k.1),
  )

  -- an element of value 1 that powers of the first n of the kernel elements take into v*O
  record Common (n : ℕ) : Type 0 where
    pub element : C
    pub inside : P.In element
    pub unit_value : P.value element ≡ P.field.one
    pub killed : (i : ℕ) → i < n → IsKilledBy P (kernel_element P S i) element

  common : (n : ℕ) → n ≤ S.count → Common n
  common zero l = record {
    element = P.one;
    inside = in_one P.order;
    unit_value =
        value_one P;
    killed = λ i q. absurd (omega arith);
  }
  common (suc n) l = step (common n (omega arith))
      (annihilator P (kernel_element P S n) (kernel_element_in P S n (omega arith)) S)
    where
      step : Common n → Annihilator P (kernel_element P S n) → Common (suc n)
      step d a = record {
        element = a.element * d.element;
        inside = P.in_mul _ _ a.inside d.inside;
        unit_value = P.value_mul _ _ a.inside d.inside ∙ ap₂ P.field.mul a.unit_value d.unit_value
            ∙ P.field.laws.mul_one P.field.one;
        killed = λ i q. pick i q (cases_lt i n);
      }
        where
          pick : (i : ℕ) → i < suc n → (i < n) ⊎ (n ≤ i)
              → IsKilledBy P (kernel_element P S i) (a.element * d.element)
          pick i q (inl k) = killed_scale a.element _ d.element a.inside (d.killed i k)
          pick i q (inr k) = let e : i ≡ n = omega arith in
              subst (λ j. IsKilledBy P (kernel_element P S j) (a.element * d.element)) (sym e)
              (subst (IsKilledBy P (kernel_element P S n)) (P.laws.mul_comm d.element a.element)
              (killed_scale d.element _ a.element d.inside a.killed))

  -- not in v*O, but r times it is: the last of g, r*g, r^2*g, .. that is not in v*O
  record Last (r g : C) : Type 0 where
    pub factor : C
    pub inside : P.In factor
    pub outside : ¬ (IsMultiple P.order (factor * g))
    pub killed : IsMultiple P.order (r * (factor * g))

  last : (r g : C) → P.In r → ¬ (IsMultiple P.order g) → (n : ℕ)
      → IsMultiple P.order (power P.ring r n * g)
      → Last r g
  last r g h out zero m = absurd (out
      (subst (IsMultiple P.order) (ring2 P.ring P.laws (λ g z. unit ⊗ g) (λ g z. g) refl g g) m))
  last r g h out (suc n) m = go (P.decide (power P.ring r n * g * P.over_v))
      (λ k. last r g h out n k)
    where
      power_in : (n : ℕ) → P.In (power P.ring r n)
      power_in zero = in_one P.order
      power_in (suc n) = P.in_mul _ _ h (power_in n)

      go : IsMultiple P.order (power P.ring r n * g) ⊎ ¬ (IsMultiple P.order (power P.ring r n * g))
          → (IsMultiple P.order (power P.ring r n * g) → Last r g) → Last r g
      go (inl k) before = before k
      go (inr k) before = record {
        factor = power P.ring r n;
        inside = power_in n;
        outside = k;
        killed = subst (IsMultiple P.order) (P.laws.mul_assoc r (power P.ring r n) g) m;
      }

  -- not in v*O, but the first n of the kernel elements carry it there, and powers of the others do
  record Below (n : ℕ) : Type 0 where
    pub element : C
    pub inside : P.In element
    pub outside : ¬ (IsMultiple P.order element)
    pub killed : (i : ℕ) → i < n → IsMultiple P.order (kernel_element P S i * element)
    pub powers : (i : ℕ) → i < S.count → IsKilledBy P (kernel_element P S i) element

  below : (n : ℕ) → n ≤ S.count → Below n
  below zero l = start (common S.count (omega arith))
    where
      start : Common S.count → Below zero
      start d = record {
        element = d.element;
        inside = d.inside;
        outside =
            unit_outside P d.element d.unit_value;
        killed = λ i q. absurd (omega arith);
        powers =
            d.killed;
      }
  below (suc n) l = step (below n (omega arith))
    where
      step : Below n → Below (suc n)
      step b = more (last (kernel_element P S n) b.element
          (kernel_element_in P S n (omega arith)).inside b.outside (b.powers n (omega arith)).0
          (b.powers n (omega arith)).1)
        where
          more : Last (kernel_element P S n) b.element → Below (suc n)
          more t = record {
            element = t.factor * b.element;
            inside = P.in_mul _ _ t.inside b.inside;
            outside = t.outside;
            killed = λ i q. pick i q (cases_lt i n);
            powers = λ i q. killed_scale t.factor _ b.element t.inside (b.powers i q);
          }
            where
              pick : (i : ℕ) → i < suc n → (i < n) ⊎ (n ≤ i)
                  → IsMultiple P.order (kernel_element P S i * (t.factor * b.element))
              pick i q (inl k) = subst (IsMultiple P.order)
                  (ring3 P.ring P.laws (λ t r b. t ⊗ (r ⊗ b)) (λ t r b. r ⊗ (t ⊗ b)) refl t.factor
                  (kernel_element P S i) b.element)
                  (multiple_scale P.order t.factor _ t.inside (b.killed i k))
              pick i q (inr k) = let e : i ≡ n = omega arith in
                  subst (λ j. IsMultiple P.order (kernel_element P S j * (t.factor * b.element)))
                  (sym e) t.killed

  -- what the elements of the list without their values carry into v*O, the whole kernel does
  pub killed_by_all : (g : C) → P.In g
      → ((i : ℕ) → i < S.count → IsMultiple P.order (kernel_element P S i * g)) → (r : C)
      → InKernel P r
      → IsMultiple P.order (r * g)
  killed_by_all g h each r m = subst P.In (sym same)
      (P.in_add _ _ (combined_in P.order S.count d.coefficients
      (λ i. kernel_element P S i * (g * P.over_v))
      (λ i l. subst P.In (P.laws.mul_assoc _ _ _) (each i l)))
      (P.in_mul _ _ d.inside h))
    where
      d : IsSpanned P.order S.count S.element r
      d = S.spans r m.inside

      same : r * g * P.over_v
          ≡ combined P.order S.count d.coefficients
          (λ i. kernel_element P S i * (g * P.over_v)) + d.rest * g
      same = P.laws.mul_assoc r g P.over_v
          ∙ ap (λ t. t * (g * P.over_v)) (kernel_spans P S r m)
          ∙ add_mul P.ring P.laws _ _ _
          ∙ ap₂ P.add (combined_mul P.order S.count d.coefficients (kernel_element P S)
          (g * P.over_v))
          (ring4 P.ring P.laws (λ v y g o. v ⊗ y ⊗ (g ⊗ o))
          (λ v y g o. v ⊗ o ⊗ (y ⊗ g)) refl P.v d.rest g P.over_v
          ∙ ap (λ t. t * (d.rest * g)) P.v_inverse
          ∙ ring2 P.ring P.laws (λ y g. unit ⊗ (y ⊗ g)) (λ y g. y ⊗ g) refl d.rest g)

  pub socle : (g : P.carrier) × IsSocle P g
  socle = (
    b.element,
    record {
      inside = b.inside;
      outside = b.outside;
      killed = killed_by_all b.element b.inside b.killed;
    },
  )
    where
      b : Below S.count
      b = below S.count (omega arith)

  -- s is not in O, but takes the kernel into O
  pub local_element : (g : C) → IsSocle P g → (r : C) → InKernel P r → P.In (g * P.over_v * r)
  local_element g k r m = subst P.In
      (ring3 P.ring P.laws (λ r g o. r ⊗ g ⊗ o) (λ r g o. g ⊗ o ⊗ r) refl r g P.over_v)
      (k.killed r m)
