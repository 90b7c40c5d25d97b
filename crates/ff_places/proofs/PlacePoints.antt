-- The spaces of some point of E(f), for irreducible f, lie in those of a point of the maximal order
-- of one chart: of the finite one where x is regular, and else of the infinite one.
use Rattle.std.proofs.Common.{◌≡◌, ℕ, ◌-◌, ◌<◌, ◌⊎◌, inl, inr, List, [], ◌∷◌, length, refl, sym}
use Rattle.std.proofs.Common.{◌∙◌, ap, ap₂, subst}
use Rattle.ff_theory.specs.Ring.{RingOps, IsCommRing, Elements, IsElement}
use Rattle.ff_theory.specs.Lawful.{Field, Lawful, lawful_field}
use Rattle.ff_theory.specs.Algebra.{constant, x_of}
use Rattle.ff_theory.specs.Poly.{Poly, poly, polynomials}
use Rattle.ff_theory.specs.Eval.{eval}
use Rattle.ff_theory.specs.Values.{plane_of, IsPlane}
use Rattle.ff_theory.proofs.Solver.{◌⊕◌, ◌⊗◌, neg, nil, unit, ring1, ring4}
use Rattle.ff_theory.proofs.Evaluate.{at_trim}
use Rattle.ff_theory.proofs.PolyMap.{same_false}
use Rattle.ff_theory.proofs.Product.{poly-coeff}
use Rattle.ff_factors.specs.Factors.{IsFactored}
use Rattle.ff_charts.specs.Chart.{Chart as ChartOf, IsChart, InPowers, at_u}
use Rattle.ff_charts.specs.FieldCharts.{t_of}
use Rattle.ff_charts.proofs.Chart.{powers_at, powers_u, powers_over}
use Rattle.ff_charts.proofs.InfiniteChart.{t_inverts}
use Rattle.ff_conductor.proofs.Integral.{integral_powers}
use Rattle.ff_local.specs.ChartOrder.{root_at}
use Rattle.ff_local.proofs.Quotients.{root_value}
use Rattle.ff_elem.specs.Elem.{algebra_in}
use Rattle.ff_data.specs.declared.order.Chart.TheVariants.{Finite, Infinite}
use Rattle.ff_data.specs.declared.order.Order.{Order}
use Rattle.ff_data.specs.declared.point.Point.{Point}
use Rattle.ff_data.specs.Orders.{chart_of, InOrder, IsMaximal}
use Rattle.ff_data.specs.Points.{HasValueAt, IsPoint}
use Rattle.ff_data.specs.Poles.{HasPoleUpTo}
use Rattle.ff_data.proofs.ChartLaws.{has, algebra_laws, chart_laws}
use Rattle.ff_data.proofs.LocalOrder.{root_modulus}
use Rattle.ff_data.proofs.LocalMaximal.{all_integral}
use Rattle.ff_places.proofs.FieldSpaces.{AreFieldSpaces, FieldSpaces}
use Rattle.ff_places.proofs.Regular.{AtLeast, HasPole, value_at, regular_or_pole, inverse_pole}
use Rattle.ff_places.proofs.Values.{HasValue}
use Rattle.ff_places.proofs.RegularCharts.{pole_inverse, pole_proper}
use Rattle.ff_places.proofs.ChartOrders.{at_u_proper}
use Rattle.ff_places.proofs.SpacesWithin.{within}
use Rattle.ff_places.proofs.CurvePlaces.{curve_field, maximal_ring, curve_spaces, place_point}
use Rattle.ff_places.proofs.CurvePlaces.{is_point, kernel_vanishes, kernel_inside}

module _ {F : Elements ℕ} (L : Lawful F) (f : List (List ℕ)) where
  -- a point of an order, in whose spaces the V_j lie
  pub record IsWithinPoint (V : ℕ → (algebra_in L f).carrier → Type 0) (o other : Order)
      : Type 0 where
    pub point : Point
    pub is_point : IsPoint L f o point
    pub within : (j : ℕ) (w : (algebra_in L f).carrier) → V j w
        → HasPoleUpTo L f o point other j w

module _ (F : Elements ℕ) (L : Lawful F) (f : List (List ℕ)) (hf : IsPlane F f)
    (two : 1 < length f)
    (irreducible : (g h : Poly (polynomials F.ring)) → ¬ IsFactored F.ring (plane_of F f) g h)
    (onto : (s : F.carrier) → (n : ℕ) × IsElement F n × (F.value n ≡ s))
    (V : ℕ → (algebra_in L f).carrier → Type 0)
    (are : AreFieldSpaces (lawful_field L) (curve_field F L f hf two irreducible)
    (constant (lawful_field L) (plane_of F f)) V) where
  infixl 60 ◌⊞◌
  infixl 70 ◌*◌
  open algebra_in L f use {add as ◌⊞◌, mul as ◌*◌, neg as minus}

  abbrev A : RingOps
  A = algebra_in L f

  abbrev AL : IsCommRing (algebra_in L f)
  AL = algebra_laws F L f hf two

  abbrev S : FieldSpaces (lawful_field L)
  S = curve_spaces F L f hf two irreducible V are

  abbrev field : Field
  field = curve_field F L f hf two irreducible

  abbrev ι : F.carrier → (algebra_in L f).carrier
  ι = constant (lawful_field L) (plane_of F f)

  -- what is in the power order of a chart is in its maximal order
  powers_in : (o : Order) → IsMaximal L f o → (w : (algebra_in L f).carrier)
      → InPowers (chart_of L f o.chart) w → InOrder L f o w
  powers_in o h w p = all_integral F L f hf two o h w (integral_powers (lawful_field L) A AL
      (chart_of L f o.chart) (chart_laws F L f hf two o.chart) w p)

  module _ (o other : Order) (h : IsMaximal L f o) (g : IsMaximal L f other) (number : ℕ)
      (number_is : IsElement F number) (at_infinity : o.chart ≡ Infinite → F.value number ≡ F.zero)
      (at : HasValue S (chart_of L f o.chart).u (F.value number))
      (high : (algebra_in L f).carrier) (high_in : InOrder L f other high)
      (pole : HasPole S high) where
    within_point : IsWithinPoint L f V o other
    within_point = record {
      point = place_point F L f hf two irreducible V are o h number number_is at_infinity at onto;
      is_point = is_point F L f hf two irreducible V are o h number number_is at_infinity at onto;
      within = λ j w m. let k = within S (InOrder L f o) (InOrder L f other)
          (maximal_ring F L f hf two irreducible o h)
          (maximal_ring F L f hf two irreducible other g)
          (λ r. HasValueAt L f o (place_point F L f hf two irreducible V are o h number number_is
          at_infinity at onto) r F.zero)
          (kernel_inside F L f hf two irreducible V are o h number number_is at_infinity at onto)
          (kernel_vanishes F L f hf two irreducible V are o h number number_is at_infinity at onto)
          high high_in pole j w m in record { in_module = k.0; in_other = k.1 };
    }

  module _ (finite infinite : Order) (h : IsMaximal L f finite) (g : IsMaximal L f infinite)
      (first : finite.chart ≡ Finite) (second : infinite.chart ≡ Infinite) where
    abbrev x : (algebra_in L f).carrier
    x = x_of (lawful_field L) (plane_of F f)

    abbrev t : (algebra_in L f).carrier
    t = t_of (lawful_field L) (plane_of F f)

    t_times : t * x ≡ A.one
    t_times = t_inverts (lawful_field L) (plane_of F f) (length f - 1) (has F L f hf two)

    abbrev CI : ChartOf F.ring (algebra_in L f)
    CI = chart_of L f Infinite

    abbrev CIL : IsChart F.ring (algebra_in L f) (chart_of L f Infinite)
    CIL = chart_laws F L f hf two Infinite

    abbrev CF : ChartOf F.ring (algebra_in L f)
    CF = chart_of L f Finite

    abbrev CFL : IsChart F.ring (algebra_in L f) (chart_of L f Finite)
    CFL = chart_laws F L f hf two Finite

    -- x - c is not 0
    shifted_proper : (c : F.carrier) → ¬ (x ⊞ minus (ι c) ≡ A.zero)
    shifted_proper c e = at_u_proper (lawful_field L) field CF CFL (root_at F.ring c)
        (root_modulus F L f Finite c (λ e. absurd (let z : Finite ≡ Infinite = e in cc)))
        (root_value (lawful_field L) A AL CF CFL c
        ∙ ap (λ s. s ⊞ x) (CFL.constants.on_neg c) ∙ AL.add_comm _ _ ∙ e)

    -- u is in the power order of its chart
    variable_in : (c : ChartOf F.ring (algebra_in L f)) → IsChart F.ring (algebra_in L f) c
        → InPowers c c.u
    variable_in c l = powers_at (lawful_field L) A AL c l
        (root_value (lawful_field L) A AL c l F.zero
        ∙ ap (λ s. s ⊞ c.u) (l.constants.on_neg F.zero ∙ ap minus l.constants.on_zero)
        ∙ ring1 A AL (λ u. neg nil ⊕ u) (λ u. u) refl c.u)
        (powers_u (lawful_field L) A AL c l (root_at F.ring F.zero))

    -- the inverse of x - c is infinity-integral: 1 - c * t carries it to t
    inverse_in : (c : F.carrier) → InPowers (chart_of L f Infinite)
        (field.inverse (x ⊞ minus (ι c)))
    unfolding poly eval
    inverse_in c = powers_over (lawful_field L) A AL CI CIL (poly F.ring (F.one ∷ F.neg c ∷ []))
        (ap (λ s. F.same s F.zero) (poly-coeff F.ring L.laws L.tests (F.one ∷ F.neg c ∷ []) 0)
        ∙ same_false F.ring L.tests F.one F.zero L.finite.field.one_not_zero) _
        (powers_at (lawful_field L) A AL CI CIL (sym product) (variable_in CI CIL))
      where
        high : (algebra_in L f).carrier
        high = field.inverse (x ⊞ minus (ι c))

        product : at_u (chart_of L f Infinite) (poly F.ring (F.one ∷ F.neg c ∷ []))
            * field.inverse (x ⊞ minus (ι c)) ≡ t
        product = ap (λ s. s * high) (at_trim F.ring A L.laws L.tests AL ι CIL.constants t
            (F.one ∷ F.neg c ∷ [])
            ∙ ap₂ (λ o m. o ⊞ t * (m ⊞ t * A.zero)) (CIL.constants.on_one ∙ sym t_times)
            (CIL.constants.on_neg c))
            ∙ ring4 A AL (λ t x c h. (t ⊗ x ⊕ t ⊗ (neg c ⊕ t ⊗ nil)) ⊗ h)
            (λ t x c h. t ⊗ ((x ⊕ neg c) ⊗ h)) refl t x (ι c) high
            ∙ ap (λ o. t * o) (field.is_field.mul_inverse (x ⊞ minus (ι c)) (shifted_proper c))
            ∙ AL.mul_one t

    pub place_points : IsWithinPoint L f V finite infinite ⊎ IsWithinPoint L f V infinite finite
    place_points = go (regular_or_pole S x)
      where
        go : AtLeast S 0 x ⊎ HasPole S x
            → IsWithinPoint L f V finite infinite ⊎ IsWithinPoint L f V infinite finite
        go (inl r) = inl (within_point finite infinite h g n.0 n.1
            (λ e. absurd (let z : Finite ≡ Infinite = sym first ∙ e in cc))
            (subst (λ ch. HasValue S (chart_of L f ch).u (F.value n.0)) (sym first)
            (subst (HasValue S x) (sym n.2) v.1)) (field.inverse (x ⊞ minus (ι v.0)))
            (powers_in infinite g _ (subst (λ ch. InPowers (chart_of L f ch)
            (field.inverse (x ⊞ minus (ι v.0)))) (sym second) (inverse_in v.0)))
            (inverse_pole S (x ⊞ minus (ι v.0)) v.1 (shifted_proper v.0)))
          where
            v : (c : F.carrier) × HasValue S x c
            v = value_at S x r

            n : (n : ℕ) × IsElement F n × (F.value n ≡ (value_at S x r).0)
            n = onto (value_at S x r).0
        go (inr p) = inr (within_point infinite finite g h n.0 n.1 (λ e. n.2)
            (subst (λ ch. HasValue S (chart_of L f ch).u (F.value n.0)) (sym second)
            (subst (HasValue S t) (sym n.2) small)) x
            (powers_in finite h x (subst (λ ch. InPowers (chart_of L f ch) x) (sym first)
            (variable_in CF CFL))) p)
          where
            n : (n : ℕ) × IsElement F n × (F.value n ≡ F.zero)
            n = onto F.zero

            inverse : field.inverse x ≡ t
            inverse = ring1 A AL (λ i. i) (λ i. unit ⊗ i) refl (field.inverse x)
                ∙ ap (λ o. o * field.inverse x) (sym t_times) ∙ AL.mul_assoc t x (field.inverse x)
                ∙ ap (λ o. t * o) (field.is_field.mul_inverse x (pole_proper S x p)) ∙ AL.mul_one t

            small : HasValue S t F.zero
            small = subst (AtLeast S 1) (ring1 A AL (λ t. t) (λ t. t ⊕ neg nil) refl t
                ∙ ap (λ o. t ⊞ minus o) (sym are.spaces.constants.on_zero))
                (subst (AtLeast S 1) inverse (pole_inverse S x p (pole_proper S x p)))
