-- The spaces L_j of a point of a maximal order, where the other order is the maximal one of the
-- other chart and E(f) has no divisors of zero: they are pole spaces, whose orders are those of the
-- data.
use Rattle.std.proofs.Common.{◌≡◌, ℕ, zero, suc, ◌+◌, ◌-◌, ◌<◌, ◌⊎◌, inl, inr, List, length}
use Rattle.std.proofs.Common.{refl, sym, subst}
use Rattle.ff_theory.specs.Ring.{RingOps, IsCommRing, Elements}
use Rattle.ff_theory.specs.Lawful.{Field, Lawful, lawful_field}
use Rattle.ff_theory.specs.Algebra.{constant}
use Rattle.ff_theory.specs.Values.{plane_of, IsPlane}
use Rattle.ff_theory.proofs.Element.{algebra_is_tested}
use Rattle.ff_theory.proofs.Constants.{constant_map}
use Rattle.ff_charts.specs.Chart.{Chart as ChartOf, IsChart}
use Rattle.ff_charts.specs.Integral.{IsFiniteIntegral, IsInfinityIntegral}
use Rattle.ff_local.specs.Point.{OrderAt}
use Rattle.ff_local.specs.Module.{IsLocalPair}
use Rattle.ff_local.specs.Weight.{IsSubring, InL}
use Rattle.ff_local.proofs.ChartOrder.{constant_in as in_chart_order}
use Rattle.ff_charts.proofs.Closure.{lat_add}
use Rattle.ff_local.proofs.ChartPoint.{order_at, module_into, module_back}
use Rattle.ff_local.proofs.ChartMaximal.{order_pair}
use Rattle.ff_local.proofs.Orders.{in_neg}
use Rattle.ff_table.specs.PoleOrders.{HasOrderOf, ArePoleSpaces, AreSteps}
use Rattle.ff_table.proofs.PlaceSpaces.{pole_spaces, pole_steps}
use Rattle.ff_table.proofs.PoleOrders.{constant-order}
use Rattle.ff_elem.specs.Elem.{algebra_in}
use Rattle.ff_data.specs.declared.order.Chart.{Chart}
use Rattle.ff_data.specs.declared.order.Chart.TheVariants.{Finite, Infinite}
use Rattle.ff_data.specs.declared.order.Order.{Order}
use Rattle.ff_data.specs.declared.point.Point.{Point}
use Rattle.ff_data.specs.Orders.{chart_of, IsIntegral, InOrder}
use Rattle.ff_data.specs.Poles.{HasPoleUpTo, HasPoleOf, IsPoleNumber}
use Rattle.ff_data.proofs.ChartLaws.{has, algebra_laws, chart_laws}
use Rattle.ff_data.proofs.LocalOrder.{root_modulus}
use Rattle.ff_data.proofs.LocalMaximal.{all_integral, maximal_closed, maximal_order, maximal_point}
use Rattle.ff_systems.proofs.DependentPowers.{DependentPowers, dependent_powers}
use Rattle.ff_systems.proofs.Constants.{is_value}
use Rattle.ff_systems.proofs.Domains.{HasNoDivisors, algebra_domain}
use Rattle.ff_systems.specs.Places.{IsPlace}

-- pole spaces by another property that says the same
module _ (k A : RingOps) (constant : k.carrier → A.carrier) (L M : ℕ → A.carrier → Type 0)
    (into : (j : ℕ) (a : A.carrier) → L j a → M j a)
    (back : (j : ℕ) (a : A.carrier) → M j a → L j a) where
  order_into : (j : ℕ) (a : A.carrier) → HasOrderOf k A constant L j a
      → HasOrderOf k A constant M j a
  order_into zero a h = record { up_to = into 0 a h.up_to; not_less = h.not_less }
  order_into (suc j) a h = record {
    up_to = into (suc j) a h.up_to;
    not_less = λ m. h.not_less (back j a m);
  }

  order_back : (j : ℕ) (a : A.carrier) → HasOrderOf k A constant M j a
      → HasOrderOf k A constant L j a
  order_back zero a h = record { up_to = back 0 a h.up_to; not_less = h.not_less }
  order_back (suc j) a h = record {
    up_to = back (suc j) a h.up_to;
    not_less = λ m. h.not_less (into j a m);
  }

  pub same_spaces : ArePoleSpaces k A constant L → ArePoleSpaces k A constant M
  same_spaces s = record {
    constants = s.constants;
    proper = s.proper;
    in_first = λ c. into 0 (constant c) (s.in_first c);
    more = λ i j a l h. into j a (s.more i j a l (back i a h));
    add = λ j a b g h. into j (A.add a b) (s.add j a b (back j a g) (back j b h));
    mul = λ i j a b g h. into (i + j) (A.mul a b) (s.mul i j a b (back i a g) (back j b h));
    exact = λ i j a b g h. order_into (i + j) (A.mul a b)
        (s.exact i j a b (order_back i a g) (order_back j b h));
  }

  pub same_steps : AreSteps k A constant L → AreSteps k A constant M
  same_steps s = record {
    only = λ a h. s.only a (back 0 a h);
    next = λ j a b g h. let n = s.next j a b (back (suc j) a g) (order_back (suc j) b h) in
        (n.0, into j _ n.1);
    decide = λ j a h. decided j a (s.decide j a (back (suc j) a h));
  }
    where
      decided : (j : ℕ) (a : A.carrier) → L j a ⊎ ¬ (L j a) → M j a ⊎ ¬ (M j a)
      decided j a (inl h) = inl (into j a h)
      decided j a (inr n) = inr (λ m. n (back j a m))

module _ (F : Elements ℕ) (L : Lawful F) (f : List (List ℕ)) (hf : IsPlane F f)
    (two : 1 < length f) where
  abbrev K : Field
  K = lawful_field L

  abbrev A : RingOps
  A = algebra_in L f

  abbrev AL : IsCommRing (algebra_in L f)
  AL = algebra_laws F L f hf two

  abbrev ι : F.carrier → (algebra_in L f).carrier
  ι = constant (lawful_field L) (plane_of F f)

  -- the constants of both charts are those of E(f)
  pub constant_same : (chart : Chart) → (chart_of L f chart).constant
      ≡ constant (lawful_field L) (plane_of F f)
  constant_same Finite = refl
  constant_same Infinite = refl

  module _ (o : Order) (p : Point) (other : Order) (at : IsPlace L f o p other) where
    no_divisors : HasNoDivisors (algebra_in L f)
    no_divisors = algebra_domain F L f hf two at.irreducible

    abbrev C : ChartOf F.ring (algebra_in L f)
    C = chart_of L f o.chart

    abbrev CL : IsChart F.ring (algebra_in L f) (chart_of L f o.chart)
    CL = chart_laws F L f hf two o.chart

    -- the order at the point
    abbrev place : OrderAt
    place = order_at (lawful_field L) (algebra_in L f) (algebra_laws F L f hf two)
        (chart_of L f o.chart) (chart_laws F L f hf two o.chart)
        (maximal_order F L f hf two o at.maximal)
        (maximal_point F L f hf two o at.maximal p at.point)

    constants-of-other : (c : F.carrier) → InOrder L f other (ι c)
    constants-of-other c = subst (λ (g : F.carrier → (algebra_in L f).carrier).
        InOrder L f other (g c)) (constant_same other.chart)
        (in_chart_order K A AL (chart_of L f other.chart) (chart_laws F L f hf two other.chart)
        (maximal_order F L f hf two other at.opposite) F.zero
        (root_modulus F L f other.chart F.zero (λ e. refl)) c)

    sub : IsSubring place (InOrder L f other)
    sub = record {
      on_constant = λ c. subst (λ (g : F.carrier → (algebra_in L f).carrier).
          InOrder L f other (g c)) (sym (constant_same o.chart)) (constants-of-other c);
      on_add = lat_add K A AL (chart_of L f other.chart) (chart_laws F L f hf two other.chart)
          (maximal_order F L f hf two other at.opposite).modulus
          (maximal_order F L f hf two other at.opposite).is_modulus
          (maximal_order F L f hf two other at.opposite).space.In
          (maximal_order F L f hf two other at.opposite).space.linear;
      on_mul = maximal_closed F L f hf two other at.opposite;
    }

    pair : (s : (algebra_in L f).carrier) × (h : (algebra_in L f).carrier) × IsLocalPair place s h
    pair = order_pair K A AL (chart_of L f o.chart) CL (maximal_order F L f hf two o at.maximal)
        (maximal_point F L f hf two o at.maximal p at.point)
        (all_integral F L f hf two o at.maximal)

    -- integral in both charts
    both : (c d : Chart) → ¬ (d ≡ c) → (w : (algebra_in L f).carrier) → IsIntegral L f c w
        → IsIntegral L f d w → IsFiniteIntegral (lawful_field L) (plane_of F f) w
        × IsInfinityIntegral (lawful_field L) (plane_of F f) w
    both Finite Finite n w g h = absurd (n refl)
    both Finite Infinite n w g h = (g, h)
    both Infinite Finite n w g h = (h, g)
    both Infinite Infinite n w g h = absurd (n refl)

    dependent : (w : (algebra_in L f).carrier) → InOrder L f o w → InOrder L f other w
        → DependentPowers F.ring (algebra_in L f) (chart_of L f o.chart).constant w
    dependent w g h = subst (λ i. DependentPowers F.ring A i w) (sym (constant_same o.chart))
        (dependent_powers K (plane_of F f) (length f - 1) (has F L f hf two) w b.0 b.1)
      where
        b : IsFiniteIntegral (lawful_field L) (plane_of F f) w
            × IsInfinityIntegral (lawful_field L) (plane_of F f) w
        b = both o.chart other.chart at.charts w ((at.maximal.exact w).0 g)
            ((at.opposite.exact w).0 h)

    -- L_0 has the constants alone
    only_constants : (a : (algebra_in L f).carrier) → InL place (InOrder L f other) 0 a
        → (c : F.carrier) × (a ≡ place.constant c)
    only_constants a m = (
      place.value a,
      is_value place (algebra_is_tested K (plane_of F f)) no_divisors a m.in_module
          (dependent less (place.in_add a minus m.in_module inside)
          (sub.on_add a minus m.in_other other-inside)),
    )
      where
        c : (algebra_in L f).carrier
        c = place.constant (place.value a)

        minus : (algebra_in L f).carrier
        minus = (algebra_in L f).neg (place.constant (place.value a))

        less : (algebra_in L f).carrier
        less = (algebra_in L f).add a ((algebra_in L f).neg (place.constant (place.value a)))

        inside : place.In ((algebra_in L f).neg (place.constant (place.value a)))
        inside = in_neg place.order c (place.in_constant (place.value a))

        other-inside : InOrder L f other ((algebra_in L f).neg (place.constant (place.value a)))
        other-inside = subst (InOrder L f other) (place.constants.on_neg (place.value a))
            (sub.on_constant (F.neg (place.value a)))

    -- L_j by the words of the data
    space_into : (j : ℕ) (w : (algebra_in L f).carrier) → HasPoleUpTo L f o p other j w
        → InL place (InOrder L f other) j w
    space_into j w h = record {
      in_module = module_into K A AL (chart_of L f o.chart) CL
          (maximal_order F L f hf two o at.maximal)
          (maximal_point F L f hf two o at.maximal p at.point) j w h.in_module;
      in_other = h.in_other;
    }

    space_back : (j : ℕ) (w : (algebra_in L f).carrier) → InL place (InOrder L f other) j w
        → HasPoleUpTo L f o p other j w
    space_back j w h = record {
      in_module = module_back K A AL (chart_of L f o.chart) CL
          (maximal_order F L f hf two o at.maximal)
          (maximal_point F L f hf two o at.maximal p at.point) j w h.in_module;
      in_other = h.in_other;
    }

    -- the spaces are pole spaces
    pub spaces : ArePoleSpaces F.ring (algebra_in L f) (constant (lawful_field L) (plane_of F f))
        (HasPoleUpTo L f o p other)
    spaces = same_spaces F.ring A ι (InL place (InOrder L f other)) (HasPoleUpTo L f o p other)
        space_back space_into (subst (λ i. ArePoleSpaces F.ring A i (InL place (InOrder L f other)))
        (constant_same o.chart)
        (pole_spaces place (InOrder L f other) sub pair.0 pair.1 pair.2 only_constants))

    pub steps : AreSteps F.ring (algebra_in L f) (constant (lawful_field L) (plane_of F f))
        (HasPoleUpTo L f o p other)
    steps = same_steps F.ring A ι (InL place (InOrder L f other)) (HasPoleUpTo L f o p other)
        space_back space_into (subst (λ i. AreSteps F.ring A i (InL place (InOrder L f other)))
        (constant_same o.chart)
        (pole_steps place (InOrder L f other) sub pair.0 pair.1 pair.2 only_constants))

    -- in L_j and not in L_(j-1), where L_(-1) has 0 alone
    abbrev pub OrderIs : ℕ → (algebra_in L f).carrier → Type 0
    OrderIs j a = HasOrderOf F.ring (algebra_in L f) (constant (lawful_field L) (plane_of F f))
        (HasPoleUpTo L f o p other) j a

    -- the poles of an order by the words of the data; those of order 0 are not 0
    pub pole_into : (j : ℕ) (w : (algebra_in L f).carrier) → HasPoleOf L f o p other (suc j) w
        → OrderIs (suc j) w
    pole_into j w h = record {
      up_to = h.up_to;
      not_less = h.not_less (λ e. absurd (let z : suc j ≡ 0 = e in cc));
    }

    pub pole_back : (j : ℕ) (w : (algebra_in L f).carrier) → OrderIs j w
        → HasPoleOf L f o p other j w
    pole_back zero w h = record { up_to = h.up_to; not_less = λ n. absurd (n refl) }
    pole_back (suc j) w h = record { up_to = h.up_to; not_less = λ n. h.not_less }

    pub one_order : OrderIs 0 (algebra_in L f).one
    one_order = subst (OrderIs 0) (constant_map K (plane_of F f)).on_one
        (constant-order K A AL ι (HasPoleUpTo L f o p other) spaces F.one
        K.is_field.one_not_zero)

    -- orders are pole numbers
    pub number_of : (j : ℕ) (w : (algebra_in L f).carrier) → OrderIs j w
        → IsPoleNumber L f o p other j
    number_of zero w h = tt
    number_of (suc j) w h = (w, pole_back (suc j) w h)
