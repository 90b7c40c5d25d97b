-- An order with exactly the integral elements: it is closed under products, and as an order of a
-- chart it has all elements that are integral there.
use Rattle.std.proofs.Common.{ℕ, ◌-◌, ◌<◌, List, length}
use Rattle.ff_theory.specs.Ring.{Elements}
use Rattle.ff_theory.specs.Lawful.{Lawful, lawful_field}
use Rattle.ff_theory.specs.Values.{plane_of, IsPlane}
use Rattle.ff_charts.specs.Chart.{IsIntegral as IsIntegralOver}
use Rattle.ff_conductor.proofs.FiniteIntegral.{finite_integral, integral_finite}
use Rattle.ff_conductor.proofs.InfiniteIntegral.{infinity_integral, integral_infinity}
use Rattle.ff_conductor.proofs.Integral.{integral_mul}
use Rattle.ff_local.specs.ChartOrder.{ChartOrder, ChartPoint}
use Rattle.ff_elem.specs.Elem.{algebra_in}
use Rattle.ff_data.specs.declared.order.Chart.{Chart}
use Rattle.ff_data.specs.declared.order.Chart.TheVariants.{Finite, Infinite}
use Rattle.ff_data.specs.declared.order.Order.{Order}
use Rattle.ff_data.specs.declared.point.Point.{Point}
use Rattle.ff_data.specs.Orders.{chart_of, slope_of, IsIntegral, InOrder, IsMaximal}
use Rattle.ff_data.specs.Points.{IsPoint}
use Rattle.ff_data.proofs.ChartLaws.{algebra_laws, chart_laws, has, fits}
use Rattle.ff_data.proofs.LocalOrder.{local_order, local_point}

module _ (F : Elements ℕ) (L : Lawful F) (f : List (List ℕ)) (hf : IsPlane F f)
    (two : 1 < length f) where
  -- integral elements are those that are integral over the chart
  pub integral_into : (chart : Chart) (w : (algebra_in L f).carrier) → IsIntegral L f chart w
      → IsIntegralOver (chart_of L f chart) w
  integral_into Finite w h = integral_finite (lawful_field L) (plane_of F f) (length f - 1)
      (has F L f hf two) w h
  integral_into Infinite w h = infinity_integral (lawful_field L) (plane_of F f) (length f - 1)
      (has F L f hf two) (slope_of L f) (fits F L f hf two) w h

  pub integral_back : (chart : Chart) (w : (algebra_in L f).carrier)
      → IsIntegralOver (chart_of L f chart) w → IsIntegral L f chart w
  integral_back Finite w h = finite_integral (lawful_field L) (plane_of F f) (length f - 1)
      (has F L f hf two) w h
  integral_back Infinite w h = integral_infinity (lawful_field L) (plane_of F f) (length f - 1)
      (has F L f hf two) (slope_of L f) (fits F L f hf two) w h

  module _ (o : Order) (h : IsMaximal L f o) where
    pub all_integral : (w : (algebra_in L f).carrier) → IsIntegralOver (chart_of L f o.chart) w
        → InOrder L f o w
    all_integral w i = (h.exact w).1 (integral_back o.chart w i)

    pub maximal_closed : (v w : (algebra_in L f).carrier) → InOrder L f o v → InOrder L f o w
        → InOrder L f o ((algebra_in L f).mul v w)
    maximal_closed v w i j = all_integral _ (integral_mul (lawful_field L) (algebra_in L f)
        (algebra_laws F L f hf two) (chart_of L f o.chart) (chart_laws F L f hf two o.chart) v w
        (integral_into o.chart v ((h.exact v).0 i)) (integral_into o.chart w ((h.exact w).0 j)))

    -- the order of the chart, and a point of it
    abbrev pub maximal_order : ChartOrder (chart_of L f o.chart)
    maximal_order = local_order F L f hf two o h.order maximal_closed

    abbrev pub maximal_point : (p : Point) → IsPoint L f o p
        → ChartPoint (chart_of L f o.chart) maximal_order
    maximal_point p q = local_point F L f hf two o h.order maximal_closed p q
