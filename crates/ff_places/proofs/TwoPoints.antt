-- Two points of irreducible f, where the spaces of one lie in those of the other and some function
-- has a pole at the first alone: the spaces are the same.
use Rattle.std.proofs.Common.{◌≡◌, ℕ, zero, suc, pred, ◌+◌ as plus_ℕ, ◌-◌, ◌<◌, ◌≤◌, ◌⊎◌, inl, inr}
use Rattle.std.proofs.Common.{Bool}
use Rattle.std.proofs.Common.{true, false, List, length, refl, sym, ◌∙◌, ap, subst, arith}
use Rattle.std.proofs.lemmas.Bool.{cases_lt}
use Rattle.ff_theory.specs.Ring.{RingOps, IsCommRing, Elements, power}
use Rattle.ff_theory.specs.Lawful.{Lawful, lawful_field}
use Rattle.ff_theory.specs.Algebra.{constant}
use Rattle.ff_theory.specs.Values.{plane_of, IsPlane}
use Rattle.ff_theory.proofs.Solver.{◌⊕◌, ◌⊗◌, neg, nil, unit, ring1, ring3, ring4}
use Rattle.ff_theory.proofs.Solver.{mul_zero}
use Rattle.ff_theory.proofs.Powers.{power-add}
use Rattle.ff_theory.proofs.Dependence.{differs}
use Rattle.ff_local.specs.ChartOrder.{ChartPoint}
use Rattle.ff_local.specs.Module.{IsCarried}
use Rattle.ff_elem.specs.Elem.{algebra_in}
use Rattle.ff_data.specs.declared.order.Order.{Order}
use Rattle.ff_data.specs.declared.point.Point.{Point}
use Rattle.ff_data.specs.Orders.{chart_of, InOrder}
use Rattle.ff_data.specs.Points.{HasValueAt, IsPoint}
use Rattle.ff_data.specs.Poles.{HasPoleUpTo, HasPoleOf}
use Rattle.ff_data.proofs.ChartLaws.{algebra_laws, chart_laws}
use Rattle.ff_data.proofs.LocalMaximal.{maximal_order, maximal_point}
use Rattle.ff_systems.specs.Places.{IsPlace}
use Rattle.ff_systems.proofs.Spaces.{spaces}
use Rattle.ff_places.proofs.ChartRings.{IsChartRing}
use Rattle.ff_places.proofs.CurvePlaces.{curve_field, maximal_ring}

-- fewer elements that carry, more that are carried
carried_by_fewer : (R : RingOps) (M N In : R.carrier → Type 0) → ((r : R.carrier) → M r → N r)
    → (j : ℕ) (w : R.carrier) → IsCarried R N In j w → IsCarried R M In j w
carried_by_fewer R M N In h zero w m = m
carried_by_fewer R M N In h (suc j) w m = λ r k. carried_by_fewer R M N In h j (R.mul w r)
    (m r (h r k))

module _ (F : Elements ℕ) (L : Lawful F) (f : List (List ℕ)) (hf : IsPlane F f)
    (two : 1 < length f) (o : Order) (p : Point) (other : Order) (at : IsPlace L f o p other)
    (e : ℕ) (positive : 0 < e) (z : (algebra_in L f).carrier)
    (pole : HasPoleOf L f o p other e z) where
  infixl 60 ◌⊞◌
  infixl 70 ◌*◌
  open algebra_in L f use {add as ◌⊞◌, mul as ◌*◌, neg as minus}

  abbrev A : RingOps
  A = algebra_in L f

  abbrev AL : IsCommRing (algebra_in L f)
  AL = algebra_laws F L f hf two

  -- z has a pole
  no_constant : ¬ (InOrder L f o z × InOrder L f other z)
  no_constant m = pole.not_less (λ e. absurd (omega (arith, positive, e)))
      ((spaces F L f hf two o p other at).more 0 (pred e) z (omega arith)
      (record { in_module = m.0; in_other = m.1 }))

  -- the other point is not one of the other chart
  pub other_chart : (q : Point)
      → ((j : ℕ) (w : (algebra_in L f).carrier) → HasPoleUpTo L f o p other j w
      → HasPoleUpTo L f other q o j w) → (A : Type 0) → A
  other_chart q within B = absurd (no_constant (
    (within e z pole.up_to).in_other,
    pole.up_to.in_other,
  ))

  module _ (q : Point) (is_point : IsPoint L f o q)
      (within : (j : ℕ) (w : (algebra_in L f).carrier) → HasPoleUpTo L f o p other j w
      → HasPoleUpTo L f o q other j w) where
    abbrev P : ChartPoint (chart_of L f o.chart) (maximal_order F L f hf two o at.maximal)
    P = maximal_point F L f hf two o at.maximal p at.point

    abbrev Q : ChartPoint (chart_of L f o.chart) (maximal_order F L f hf two o at.maximal)
    Q = maximal_point F L f hf two o at.maximal q is_point

    abbrev ring : IsChartRing (lawful_field L) (curve_field F L f hf two at.irreducible)
        (constant (lawful_field L) (plane_of F f)) (InOrder L f o)
    ring = maximal_ring F L f hf two at.irreducible o at.maximal

    abbrev ι : F.carrier → (algebra_in L f).carrier
    ι = (chart_of L f o.chart).constant

    carried_power : (Kernel : (algebra_in L f).carrier → Type 0) (r : (algebra_in L f).carrier)
        → Kernel r → (n : ℕ) (w : (algebra_in L f).carrier)
        → IsCarried A Kernel (InOrder L f o) n w → InOrder L f o (w * power A r n)
    carried_power Kernel r k zero w m = subst (InOrder L f o)
        (ring1 A AL (λ w. w) (λ w. w ⊗ unit) refl w) m
    carried_power Kernel r k (suc n) w m = subst (InOrder L f o)
        (ring3 A AL (λ w r p. (w ⊗ r) ⊗ p) (λ w r p. w ⊗ (r ⊗ p)) refl w r (power A r n))
        (carried_power Kernel r k n (w * r) (m r k))

    -- no element has the value 0 at q and 1 at p
    module _ (b : (algebra_in L f).carrier) (at_q : HasValueAt L f o q b F.zero)
        (at_p : HasValueAt L f o p b F.one) where
      abbrev c : (algebra_in L f).carrier
      c = A.one ⊞ minus b

      one_value : (X : ChartPoint (chart_of L f o.chart)
          (maximal_order F L f hf two o at.maximal)) → X.HasValue A.one F.one
      one_value X = subst (λ w. X.HasValue w F.one)
          (chart_laws F L f hf two o.chart).constants.on_one
          (X.on_constant F.one)

      c_at_p : HasValueAt L f o p c F.zero
      c_at_p = subst (λ w. P.HasValue w F.zero) (ap (λ t. A.one ⊞ t * b)
          ((chart_laws F L f hf two o.chart).constants.on_neg F.one
          ∙ ap minus (chart_laws F L f hf two o.chart).constants.on_one)
          ∙ ring1 A AL (λ b. unit ⊕ neg unit ⊗ b) (λ b. unit ⊕ neg b) refl b)
          (subst (P.HasValue (A.one ⊞ ι (F.neg F.one) * b))
          (ring1 F.ring L.laws (λ o. unit ⊕ neg unit ⊗ unit) (λ o. nil) refl F.one)
          (P.on_add A.one _ F.one _ (one_value P) (P.on_mul (ι (F.neg F.one)) b (F.neg F.one) F.one
          (P.on_constant (F.neg F.one)) at_p)))

      b_in : InOrder L f o b
      b_in = Q.inside b F.zero at_q

      c_in : InOrder L f o c
      c_in = P.inside c F.zero c_at_p

      power_in : (r : (algebra_in L f).carrier) → InOrder L f o r → (n : ℕ)
          → InOrder L f o (power A r n)
      power_in r m zero = P.inside A.one F.one (one_value P)
      power_in r m (suc n) = ring.on_mul r (power A r n) m (power_in r m n)

      -- z times many factors b, or many factors c
      many : (i l : ℕ) → (e ≤ i) ⊎ (e ≤ l) → InOrder L f o (z * (power A b i * power A c l))
      many i l (inl k) = subst (InOrder L f o) (ring4 A AL (λ z p q c. (z ⊗ p) ⊗ (q ⊗ c))
          (λ z p q c. z ⊗ ((p ⊗ q) ⊗ c)) refl z (power A b e) (power A b (i - e)) (power A c l)
          ∙ ap (λ t. z * (t * power A c l)) (sym (power-add A AL b e (i - e))
          ∙ ap (power A b) (let q : plus_ℕ e (i - e) ≡ i = omega (arith, k) in q)))
          (ring.on_mul _ _ (carried_power (λ r. HasValueAt L f o q r F.zero) b at_q e z
          (within e z pole.up_to).in_module)
          (ring.on_mul _ _ (power_in b b_in (i - e)) (power_in c c_in l)))
      many i l (inr k) = subst (InOrder L f o) (ring4 A AL (λ z p q b. (z ⊗ p) ⊗ (q ⊗ b))
          (λ z p q b. z ⊗ (b ⊗ (p ⊗ q))) refl z (power A c e) (power A c (l - e)) (power A b i)
          ∙ ap (λ t. z * (power A b i * t)) (sym (power-add A AL c e (l - e))
          ∙ ap (power A c) (let q : plus_ℕ e (l - e) ≡ l = omega (arith, k) in q)))
          (ring.on_mul _ _ (carried_power (λ r. HasValueAt L f o p r F.zero) c c_at_p e z
          pole.up_to.in_module)
          (ring.on_mul _ _ (power_in c c_in (l - e)) (power_in b b_in i)))

      few : (n i l : ℕ) → plus_ℕ e e ≤ plus_ℕ n (plus_ℕ i l)
          → InOrder L f o (z * (power A b i * power A c l))
      few zero i l m = many i l (go (cases_lt i e))
        where
          go : (i < e) ⊎ (e ≤ i) → (e ≤ i) ⊎ (e ≤ l)
          go (inl k) = inr (omega (arith, k, m))
          go (inr k) = inl k
      few (suc n) i l m = subst (InOrder L f o) (ring4 A AL
          (λ z b p q. z ⊗ ((b ⊗ p) ⊗ q) ⊕ z ⊗ (p ⊗ ((unit ⊕ neg b) ⊗ q)))
          (λ z b p q. z ⊗ (p ⊗ q)) refl z b (power A b i) (power A c l))
          (ring.on_add _ _ (few n (suc i) l (omega (arith, m)))
          (few n i (suc l) (omega (arith, m))))

      pub no_difference : (B : Type 0) → B
      no_difference B = absurd (no_constant (
        subst (InOrder L f o)
            (ring1 A AL (λ z. z ⊗ (unit ⊗ unit)) (λ z. z) refl z)
            (few (plus_ℕ e e) 0 0 (omega arith)),
        pole.up_to.in_other,
      ))

    -- what has the value 0 at q has it at p
    kernel_into : (r : (algebra_in L f).carrier) → HasValueAt L f o q r F.zero
        → HasValueAt L f o p r F.zero
    kernel_into r at_q = go (F.same s F.zero) refl
      where
        v : (s : F.carrier) × HasValueAt L f o p r s
        v = P.total r (Q.inside r F.zero at_q)

        s : F.carrier
        s = v.0

        go : (b : Bool) → F.same s F.zero ≡ b → HasValueAt L f o p r F.zero
        go true e = subst (P.HasValue r) (L.tests.same_true s F.zero e) v.1
        go false e = no_difference (ι (F.inverse s) * r)
            (subst (Q.HasValue (ι (F.inverse s) * r)) (mul_zero F.ring L.laws (F.inverse s))
            (Q.on_mul _ r (F.inverse s) F.zero (Q.on_constant (F.inverse s)) at_q))
            (subst (P.HasValue (ι (F.inverse s) * r)) (L.laws.mul_comm _ _
            ∙ L.finite.field.mul_inverse s (differs F.ring L.laws L.tests s e))
            (P.on_mul _ r (F.inverse s) s (P.on_constant (F.inverse s)) v.1))
            (HasValueAt L f o p r F.zero)

    -- and the other way
    kernel_back : (r : (algebra_in L f).carrier) → HasValueAt L f o p r F.zero
        → HasValueAt L f o q r F.zero
    kernel_back r at_p = subst (Q.HasValue r) (sym zero ∙ refl) v.1
      where
        v : (s : F.carrier) × HasValueAt L f o q r s
        v = Q.total r (P.inside r F.zero at_p)

        shifted : HasValueAt L f o q (r ⊞ ι (F.neg v.0)) F.zero
        shifted = subst (Q.HasValue (r ⊞ ι (F.neg v.0))) (L.laws.add_neg v.0)
            (Q.on_add r _ v.0 (F.neg v.0) v.1 (Q.on_constant (F.neg v.0)))

        zero : F.zero ≡ v.0
        zero = ring1 F.ring L.laws (λ o. nil) (λ o. neg nil) refl F.zero
            ∙ ap F.neg (P.single _ F.zero (F.add F.zero (F.neg v.0))
            (kernel_into (r ⊞ ι (F.neg v.0)) shifted)
            (P.on_add r _ F.zero (F.neg v.0) at_p (P.on_constant (F.neg v.0))))
            ∙ ring1 F.ring L.laws (λ s. neg (nil ⊕ neg s)) (λ s. s) refl v.0

    -- the spaces of q lie in those of p
    pub same_spaces : (j : ℕ) (w : (algebra_in L f).carrier) → HasPoleUpTo L f o q other j w
        → HasPoleUpTo L f o p other j w
    same_spaces j w m = record {
      in_module = carried_by_fewer A (λ r. HasValueAt L f o p r F.zero)
          (λ r. HasValueAt L f o q r F.zero) (InOrder L f o) kernel_back j w m.in_module;
      in_other = m.in_other;
    }
