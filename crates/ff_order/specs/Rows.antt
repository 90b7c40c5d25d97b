-- The rows from which the descent in a chart of E(f) starts, for an equation f over a field whose
-- laws are L.
use Rattle.std.specs.Prelude.{◌≡◌, ℕ, List}
use Rattle.ff_theory.specs.Ring.{Elements}
use Rattle.ff_theory.specs.Lawful.{Lawful}
use Rattle.ff_theory.specs.Values.{poly_of, IsPoly, plane_of, IsPlane}
use Rattle.ff_charts.specs.Chart.{at_u, InPowers}
use Rattle.ff_charts.specs.Lattice.{IsResidue}
use Rattle.ff_elem.specs.Elem.{algebra_in}
use Rattle.ff_data.specs.declared.order.Chart.{Chart}
use Rattle.ff_data.specs.Orders.{chart_of, different_of}
use Rattle.ff_order.specs.declared.chart.ChartRows.{ChartRows}

module _ {F : Elements ℕ} (L : Lawful F) (f : List (List ℕ)) where
  -- the equation of theta; d is a modulus of the chart, and multiple is the residue modulo d of an
  -- element B of the power order whose product with the different is d
  pub record IsChartRows (chart : Chart) (r : ChartRows) : Type 0 where
    pub equation : IsPlane F r.equation
    pub equation_is : plane_of F r.equation ≡ (chart_of L f chart).equation
    pub d : IsPoly F r.d
    pub modulus : (chart_of L f chart).IsModulus (poly_of F r.d)
    pub multiple : IsPlane F r.multiple
    pub factor : (algebra_in L f).carrier
    pub in_powers : InPowers (chart_of L f chart) factor
    pub product : (algebra_in L f).mul factor (different_of L f chart)
        ≡ at_u (chart_of L f chart) (poly_of F r.d)
    pub residue : IsResidue (chart_of L f chart) (poly_of F r.d) factor (plane_of F r.multiple)
