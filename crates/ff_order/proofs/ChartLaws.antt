-- Integral elements are those that are integral over the chart that data name.
use Rattle.std.proofs.Common.{ℕ, ◌-◌, ◌<◌, List, length, sym, subst}
use Rattle.ff_theory.specs.Ring.{Elements}
use Rattle.ff_theory.specs.Lawful.{Lawful, lawful_field}
use Rattle.ff_theory.specs.Values.{plane_of, IsPlane}
use Rattle.ff_charts.specs.Chart.{IsIntegral as IsIntegralOver}
use Rattle.ff_conductor.proofs.FiniteIntegral.{finite_integral, integral_finite}
use Rattle.ff_conductor.proofs.InfiniteIntegral.{infinity_integral, integral_infinity}
use Rattle.ff_elem.specs.Elem.{algebra_in}
use Rattle.ff_data.specs.declared.order.Chart.{Chart}
use Rattle.ff_data.specs.declared.order.Chart.TheVariants.{Finite, Infinite}
use Rattle.ff_data.specs.Orders.{chart_of, slope_of, IsIntegral}
use Rattle.ff_data.proofs.ChartLaws.{has, fits}

module _ (F : Elements ℕ) (L : Lawful F) (f : List (List ℕ)) (hf : IsPlane F f) (two : 1 < length f)
  where
    pub integral_into : (chart : Chart) (w : (algebra_in L f).carrier) → IsIntegral L f chart w
        → IsIntegralOver (chart_of L f chart) w
    integral_into Finite w h = integral_finite (lawful_field L) (plane_of F f) (length f - 1) (has
        F L f hf two) w
        h
    integral_into Infinite w h = infinity_integral (lawful_field L) (plane_of F f) (length f - 1)
        (has F L f hf two)
        (slope_of L f) (fits F L f hf two) w h

    pub integral_back : (chart : Chart) (w : (algebra_in L f).carrier)
        → IsIntegralOver (chart_of L f chart) w → IsIntegral L f chart w
    integral_back Finite w h = finite_integral (lawful_field L) (plane_of F f) (length f - 1) (has
        F L f hf two) w
        h
    integral_back Infinite w h = integral_infinity (lawful_field L) (plane_of F f) (length f - 1)
        (has F L f hf two)
        (slope_of L f) (fits F L f hf two) w h
