-- E(f) for an irreducible f with the spaces of some point of it: where u of a chart has a value
-- there, the values are those of a point of the maximal order of the chart.
use Rattle.std.proofs.Common.{◌≡◌, ℕ, zero, suc, pred, ◌<◌, ◌≤◌, ◌⊎◌, inl, inr, List, length}
use Rattle.std.proofs.Common.{refl, sym}
use Rattle.std.proofs.lemmas.Bool.{cases_lt}
use Rattle.std.proofs.Common.{◌∙◌, ap, subst, arith, All}
use Rattle.ff_theory.specs.Ring.{Elements, IsElement}
use Rattle.ff_theory.specs.Lawful.{Field, Lawful, lawful_field}
use Rattle.ff_theory.specs.Algebra.{constant}
use Rattle.ff_theory.specs.Lists.{listed}
use Rattle.ff_theory.specs.Poly.{Poly, polynomials}
use Rattle.ff_theory.specs.Values.{plane_of, poly_of, IsPlane}
use Rattle.ff_theory.specs.Vector.{vector_of, vectors_of, IsVector}
use Rattle.ff_theory.proofs.Solver.{◌⊕◌, neg, nil, ring1}
use Rattle.ff_theory.proofs.Element.{algebra_is_tested}
use Rattle.ff_theory.proofs.ElementField.{element_inverse}
use Rattle.ff_theory.proofs.Listed.{listed-length}
use Rattle.ff_factors.specs.Factors.{IsFactored}
use Rattle.ff_charts.specs.Chart.{Chart as ChartOf, IsChart, InPowers, at_theta}
use Rattle.ff_local.specs.ChartOrder.{ChartPoint, root_at}
use Rattle.ff_local.proofs.ChartOrder.{powers_in}
use Rattle.ff_local.proofs.ChartSpanning.{in_over}
use Rattle.ff_local.proofs.Quotients.{root_value}
use Rattle.ff_charts.proofs.Chart.{powers_at, powers_u}
use Rattle.ff_conductor.proofs.Conductor.{powers_theta}
use Rattle.ff_values.proofs.DataValues.{value_into, value_back}
use Rattle.ff_values.proofs.PointValues.{point_root}
use Rattle.ff_elem.specs.Elem.{algebra_in}
use Rattle.ff_data.specs.declared.order.Chart.TheVariants.{Infinite}
use Rattle.ff_data.specs.declared.order.Order.{Order}
use Rattle.ff_data.specs.declared.point.Point.{Point}
use Rattle.ff_data.specs.Orders.{chart_of, InOrder, IsMaximal}
use Rattle.ff_data.specs.Points.{HasValueAt, IsPoint}
use Rattle.ff_data.proofs.ChartLaws.{algebra_laws, chart_laws}
use Rattle.ff_data.proofs.LocalOrder.{root_modulus, order_rows, order_ends}
use Rattle.ff_data.proofs.LocalMaximal.{integral_into, all_integral, maximal_closed, maximal_order}
use Rattle.ff_lin.specs.Space.{pivot}
use Rattle.ff_systems.proofs.Domains.{algebra_field}
use Rattle.ff_systems.proofs.Spaces.{constant_same}
use Rattle.ff_places.proofs.FieldSpaces.{AreFieldSpaces, FieldSpaces}
use Rattle.ff_places.proofs.Regular.{AtLeast, value_at}
use Rattle.ff_places.proofs.Values.{HasValue, one_value, value_constant, value_add, value_mul}
use Rattle.ff_places.proofs.ChartRings.{IsChartRing}
use Rattle.ff_places.proofs.ChartOrders.{order_ring}
use Rattle.ff_places.proofs.RegularCharts.{integral_at}

module _ (F : Elements ℕ) where
  listed-value : (n : ℕ) (g : ℕ → ℕ) (j : ℕ) → j < n → vector_of F (listed n g) j ≡ F.value (g j)
  listed-value zero g j l = absurd (omega (arith, l))
  listed-value (suc n) g zero l = refl
  listed-value (suc n) g (suc j) l = listed-value n (λ i. g (suc i)) j (omega (arith, l))

  listed-elements : (n : ℕ) (g : ℕ → ℕ) → ((j : ℕ) → IsElement F (g j))
      → All (IsElement F) (listed n g)
  listed-elements zero g h i d l = absurd (omega (arith, l))
  listed-elements (suc n) g h zero d l = h 0
  listed-elements (suc n) g h (suc i) d l = listed-elements n (λ i. g (suc i)) (λ j. h (suc j)) i d
      (omega (arith, l))

module _ (F : Elements ℕ) (L : Lawful F) (f : List (List ℕ)) (hf : IsPlane F f)
    (two : 1 < length f)
    (irreducible : (g h : Poly (polynomials F.ring)) → ¬ IsFactored F.ring (plane_of F f) g h) where
  -- E(f) as a field
  abbrev pub curve_field : Field
  curve_field = record {
    ring = algebra_in L f;
    inverse = element_inverse (lawful_field L) (plane_of F f);
    laws = algebra_laws F L f hf two;
    tests = algebra_is_tested (lawful_field L) (plane_of F f);
    is_field = algebra_field F L f hf two irreducible;
  }

  abbrev ι : F.carrier → (algebra_in L f).carrier
  ι = constant (lawful_field L) (plane_of F f)

  -- the order as the ring of its chart
  pub maximal_ring : (o : Order) → IsMaximal L f o
      → IsChartRing (lawful_field L) curve_field (constant (lawful_field L) (plane_of F f))
      (InOrder L f o)
  maximal_ring o h = subst (λ (g : F.carrier → (algebra_in L f).carrier).
      IsChartRing (lawful_field L) curve_field g (InOrder L f o))
      (constant_same F L f hf two o.chart)
      (order_ring (lawful_field L) curve_field (chart_of L f o.chart)
      (chart_laws F L f hf two o.chart) (maximal_order F L f hf two o h)
      (all_integral F L f hf two o h))

  module _ (V : ℕ → (algebra_in L f).carrier → Type 0)
      (are : AreFieldSpaces (lawful_field L) curve_field
      (constant (lawful_field L) (plane_of F f)) V) where
    abbrev pub curve_spaces : FieldSpaces (lawful_field L)
    curve_spaces = record {
      field = curve_field;
      constant = constant (lawful_field L) (plane_of F f);
      L = V;
      are = are;
    }

    module _ (o : Order) (h : IsMaximal L f o) (number : ℕ) (number_is : IsElement F number)
        (at_infinity : o.chart ≡ Infinite → F.value number ≡ F.zero)
        (at : HasValue curve_spaces (chart_of L f o.chart).u (F.value number)) where
      abbrev a : F.carrier
      a = F.value number

      abbrev pub C : ChartOf F.ring (algebra_in L f)
      C = chart_of L f o.chart

      abbrev pub CL : IsChart F.ring (algebra_in L f) (chart_of L f o.chart)
      CL = chart_laws F L f hf two o.chart

      pub modulus : (chart_of L f o.chart).IsModulus (root_at F.ring a)
      modulus = root_modulus F L f o.chart a at_infinity

      -- the elements of the order are regular
      pub order_regular : (w : (algebra_in L f).carrier) → InOrder L f o w
          → AtLeast curve_spaces 0 w
      order_regular w m = integral_at curve_spaces (chart_of L f o.chart)
          (chart_laws F L f hf two o.chart) (constant_same F L f hf two o.chart) a modulus at w
          (integral_into F L f hf two o.chart w ((h.exact w).0 m))

      pub powers : (w : (algebra_in L f).carrier) → InPowers (chart_of L f o.chart) w
          → InOrder L f o w
      powers = powers_in (lawful_field L) (algebra_in L f) (algebra_laws F L f hf two)
          (chart_of L f o.chart) (chart_laws F L f hf two o.chart) (maximal_order F L f hf two o h)
          a modulus

      pub u_in : InOrder L f o (chart_of L f o.chart).u
      u_in = powers _ (powers_at (lawful_field L) (algebra_in L f) (algebra_laws F L f hf two)
          (chart_of L f o.chart) (chart_laws F L f hf two o.chart) (root_value (lawful_field L)
          (algebra_in L f) (algebra_laws F L f hf two) (chart_of L f o.chart)
          (chart_laws F L f hf two o.chart) F.zero
          ∙ ap (λ t. (algebra_in L f).add t C.u) (CL.constants.on_neg F.zero
          ∙ ap (algebra_in L f).neg CL.constants.on_zero)
          ∙ ring1 (algebra_in L f) (algebra_laws F L f hf two) (λ u. neg nil ⊕ u) (λ u. u) refl C.u)
          (powers_u (lawful_field L) (algebra_in L f) (algebra_laws F L f hf two)
          (chart_of L f o.chart) (chart_laws F L f hf two o.chart) (root_at F.ring F.zero)))

      theta_in : InOrder L f o (chart_of L f o.chart).theta
      theta_in = powers _ (powers_theta (lawful_field L) (algebra_in L f)
          (algebra_laws F L f hf two) (chart_of L f o.chart) (chart_laws F L f hf two o.chart))

      -- the value at the point, as a point of the order
      abbrev pub residue : ChartPoint (chart_of L f o.chart) (maximal_order F L f hf two o h)
      residue = record {
        HasValue = λ w s. InOrder L f o w × HasValue curve_spaces w s;
        inside = λ w s v. v.0;
        total = λ w m. let v = value_at curve_spaces w (order_regular w m) in (v.0, (m, v.1));
        single = λ w s t v u. one_value curve_spaces w s t v.1 u.1;
        on_constant = λ s. (
          subst (λ (g : F.carrier → (algebra_in L f).carrier). InOrder L f o (g s))
              (sym (constant_same F L f hf two o.chart)) ((maximal_ring o h).on_constant s),
          subst (λ (g : F.carrier → (algebra_in L f).carrier). HasValue curve_spaces (g s) s)
              (sym (constant_same F L f hf two o.chart)) (value_constant curve_spaces s),
        );
        on_add = λ v w s t x y. (
          (maximal_ring o h).on_add v w x.0 y.0,
          value_add curve_spaces v w s t x.1 y.1,
        );
        on_mul = λ v w s t x y. (
          (maximal_ring o h).on_mul v w x.0 y.0,
          value_mul curve_spaces v w s t x.1 y.1,
        );
        a = a;
        on_u = (u_in, at);
        is_modulus = modulus;
      }

      pub theta_value : (s : F.carrier) × residue.HasValue (chart_of L f o.chart).theta s
      theta_value = residue.total (chart_of L f o.chart).theta theta_in

      -- the elements of the basis of the space, over the modulus
      abbrev pub element : ℕ → (algebra_in L f).carrier
      element j = (algebra_in L f).mul (CL.inverse (poly_of F o.d)) (at_theta C
          ((maximal_order F L f hf two o h).space.basis j))

      pub element_in : (j : ℕ) → j < length o.space.basis → InOrder L f o (element j)
      element_in j q = in_over (lawful_field L) (algebra_in L f) (algebra_laws F L f hf two)
          (chart_of L f o.chart) (chart_laws F L f hf two o.chart) (maximal_order F L f hf two o h)
          _ ((maximal_order F L f hf two o h).space.shape j q)
          ((maximal_order F L f hf two o h).space.is_in j q)

      pub basis_value : (j : ℕ) → (j < length o.space.basis) ⊎ (length o.space.basis ≤ j)
          → F.carrier
      basis_value j (inl q) = (residue.total (element j) (element_in j q)).0
      basis_value j (inr q) = F.zero

      basis_has : (j : ℕ) (b : (j < length o.space.basis) ⊎ (length o.space.basis ≤ j))
          → j < length o.space.basis → residue.HasValue (element j) (basis_value j b)
      unfolding basis_value
      basis_has j (inl q) l = (residue.total (element j) (element_in j q)).1
      basis_has j (inr q) l = absurd (omega (arith, q, l))

      -- the data, where each element of k is the value of a number
      module _ (onto : (s : F.carrier) → (n : ℕ) × IsElement F n × (F.value n ≡ s)) where
        pub numbers : ℕ → ℕ
        numbers j = (onto (basis_value j (cases_lt j (length o.space.basis)))).0

        abbrev pub place_point : Point
        place_point = record {
          chart = o.chart;
          a = number;
          theta = (onto theta_value.0).0;
          values = listed (length o.space.basis) numbers;
        }

        read : (j : ℕ) → j < length o.space.basis → vector_of F place_point.values j
            ≡ basis_value j (cases_lt j (length o.space.basis))
        unfolding numbers
        read j q = listed-value F (length o.space.basis) numbers j q
            ∙ (onto (basis_value j (cases_lt j (length o.space.basis)))).2

        is_vector : IsVector F (length o.space.basis) place_point.values
        unfolding numbers
        is_vector = record {
          each = listed-elements F (length o.space.basis) numbers
              (λ j. (onto (basis_value j (cases_lt j (length o.space.basis)))).1);
          len = listed-length (length o.space.basis) numbers;
        }

        on_theta : residue.HasValue C.theta (F.value place_point.theta)
        on_theta = subst (residue.HasValue C.theta) (sym (onto theta_value.0).2) theta_value.1

        on_basis : (j : ℕ) → j < length o.space.basis → residue.HasValue (element j)
            (vector_of F place_point.values j)
        on_basis j q = subst (residue.HasValue (element j)) (sym (read j q))
            (basis_has j (cases_lt j (length o.space.basis)) q)

        into : (w : (algebra_in L f).carrier) (v : F.carrier) → HasValueAt L f o place_point w v
            → residue.HasValue w v
        into = value_into (lawful_field L) (algebra_in L f) (algebra_laws F L f hf two) C CL
            (poly_of F o.d) h.order.modulus (pred (length o.d)) (length o.space.basis)
            (vectors_of F o.space.basis) (order_rows F L f hf two o h.order) (pivot o.space)
            h.order.space.space.echelon (order_ends F L f hf two o h.order)
            (maximal_closed F L f hf two o h) residue (F.value place_point.theta) on_theta
            (vector_of F place_point.values) on_basis

        back : (w : (algebra_in L f).carrier) (v : F.carrier) → residue.HasValue w v
            → HasValueAt L f o place_point w v
        back = value_back (lawful_field L) (algebra_in L f) (algebra_laws F L f hf two) C CL
            (poly_of F o.d) h.order.modulus (pred (length o.d)) (length o.space.basis)
            (vectors_of F o.space.basis) (order_rows F L f hf two o h.order) (pivot o.space)
            h.order.space.space.echelon (order_ends F L f hf two o h.order)
            (maximal_closed F L f hf two o h) residue (F.value place_point.theta) on_theta
            (vector_of F place_point.values) on_basis

        pub is_point : IsPoint L f o place_point
        is_point = record {
          chart = refl;
          a = number_is;
          theta = (onto theta_value.0).1;
          values = is_vector;
          at_infinity = at_infinity;
          root = point_root (lawful_field L) (algebra_in L f) (algebra_laws F L f hf two) C CL
              (maximal_order F L f hf two o h) residue (F.value place_point.theta) on_theta;
          sums = λ v w s t x y. back _ _ (residue.on_add v w s t (into v s x) (into w t y));
          products = λ v w s t x y. back _ _ (residue.on_mul v w s t (into v s x) (into w t y));
          value_of_u = back C.u (F.value number) residue.on_u;
          value_of_theta = back C.theta _ on_theta;
        }

        -- what has the value 0 there vanishes, and is in the order
        pub kernel_vanishes : (r : (algebra_in L f).carrier)
            → HasValueAt L f o place_point r F.zero → AtLeast curve_spaces 1 r
        kernel_vanishes r v = subst (AtLeast curve_spaces 1) (ap (λ t. (algebra_in L f).add r
            ((algebra_in L f).neg t)) are.spaces.constants.on_zero
            ∙ ring1 (algebra_in L f) (algebra_laws F L f hf two) (λ r. r ⊕ neg nil) (λ r. r) refl r)
            (into r F.zero v).1

        pub kernel_inside : (r : (algebra_in L f).carrier)
            → HasValueAt L f o place_point r F.zero → InOrder L f o r
        kernel_inside r v = (into r F.zero v).0
