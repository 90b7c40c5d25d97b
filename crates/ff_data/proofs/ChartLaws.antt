-- The chart that data name is a chart of E(f), and its degree is the y-degree of f.
use Rattle.std.proofs.Common.{◌≡◌, ℕ, suc, ◌-◌, ◌<◌, List, length, sym, subst, arith}
use Rattle.ff_theory.specs.Ring.{IsCommRing, Elements}
use Rattle.ff_theory.specs.Lawful.{Lawful, lawful_field}
use Rattle.ff_theory.specs.Poly.{polynomials}
use Rattle.ff_theory.specs.Division.{size}
use Rattle.ff_theory.specs.Monic.{monic_form}
use Rattle.ff_theory.specs.Reversal.{Fits}
use Rattle.ff_theory.specs.Algebra.{degree}
use Rattle.ff_theory.specs.Values.{plane_of, IsPlane}
use Rattle.ff_theory.proofs.Element.{algebra_is_ring}
use Rattle.ff_charts.specs.Chart.{IsChart}
use Rattle.ff_charts.proofs.FiniteChart.{finite_is_chart, degree_is}
use Rattle.ff_charts.proofs.InfiniteChart.{infinite_is_chart}
use Rattle.ff_charts.proofs.Slope.{slope_is}
use Rattle.ff_elem.specs.Elem.{algebra_in}
use Rattle.ff_elem.proofs.Reduction.{plane-size}
use Rattle.ff_data.specs.declared.order.Chart.{Chart}
use Rattle.ff_data.specs.declared.order.Chart.TheVariants.{Finite, Infinite}
use Rattle.ff_data.specs.Orders.{chart_of, y_degree, slope_of}

module _ (F : Elements ℕ) (L : Lawful F) (f : List (List ℕ)) (hf : IsPlane F f) (two : 1 < length f)
  where
    pub has : size (polynomials F.ring) (plane_of F f) ≡ suc (length f - 1)
    has = let e : size (polynomials F.ring) (plane_of F f) ≡ length f = plane-size F L f hf in
        omega (arith, e, two)

    pub algebra_laws : IsCommRing (algebra_in L f)
    algebra_laws = algebra_is_ring (lawful_field L) (plane_of F f)

    degree_f : degree (lawful_field L) (plane_of F f) ≡ length f - 1
    degree_f = degree_is (lawful_field L) (plane_of F f) (length f - 1) has

    pub fits : Fits F.ring (degree (lawful_field L) (plane_of F f))
        (monic_form (polynomials F.ring) (plane_of F f)) (slope_of L f)
    fits = subst (λ n. Fits F.ring n (monic_form (polynomials F.ring) (plane_of F f))
        (slope_of L f))
        (sym degree_f)
        (slope_is F.ring (monic_form (polynomials F.ring) (plane_of F f)) (length f - 1)).fits

    pub chart_laws : (chart : Chart) → IsChart F.ring (algebra_in L f) (chart_of L f chart)
    chart_laws Finite = finite_is_chart (lawful_field L) (plane_of F f) (length f - 1) has
    chart_laws Infinite = infinite_is_chart (lawful_field L) (plane_of F f) (length f - 1) has
        (slope_of L f) fits

    pub chart_degree : (chart : Chart) → (chart_of L f chart).degree ≡ y_degree L f
    chart_degree Finite = degree_f
    chart_degree Infinite = degree_f
