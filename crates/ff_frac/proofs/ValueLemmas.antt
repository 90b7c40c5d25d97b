-- The value of an element of an order at a point by its numerator.
use Rattle.std.proofs.Common.{◌≡◌, ℕ, ◌<◌, ◌≤◌, inl, inr, List, length, ◌∙◌, ap}
use Rattle.ff_theory.specs.Ring.{Elements}
use Rattle.ff_theory.specs.Lawful.{Lawful, lawful_field}
use Rattle.ff_theory.specs.Eval.{plane_at}
use Rattle.ff_theory.specs.Planes.{Plane}
use Rattle.ff_theory.specs.Values.{poly_of, plane_of, IsPlane}
use Rattle.ff_charts.specs.Chart.{at_u, at_theta}
use Rattle.ff_elem.specs.Elem.{algebra_in}
use Rattle.ff_lattice.specs.Residues.{AreResidues}
use Rattle.ff_data.specs.declared.order.Order.{Order}
use Rattle.ff_data.specs.declared.point.Point.{Point}
use Rattle.ff_data.specs.Orders.{chart_of, y_degree, IsOrder, InOrder}
use Rattle.ff_data.specs.Points.{HasValueAt}
use Rattle.ff_data.specs.Numerators.{AreQuotients}
use Rattle.ff_data.proofs.NumeratorLemmas.{numerator_value, numerator_outside}
use Rattle.ff_frac.specs.Places.{IsLowValueIfAny}

module _ (F : Elements ℕ) (L : Lawful F) (f : List (List ℕ)) (hf : IsPlane F f)
    (two : 1 < length f) (o : Order) (h : IsOrder L f o) (rows : List (List ℕ))
    (few : length rows ≤ y_degree L f) (low high : Plane (lawful_field L))
    (r : AreResidues F.ring (poly_of F o.d) (plane_of F rows) low)
    (q : AreQuotients F (poly_of F o.d) (plane_of F rows) high) (w : (algebra_in L f).carrier)
    (over : (algebra_in L f).mul (at_u (chart_of L f o.chart) (poly_of F o.d)) w
    ≡ at_theta (chart_of L f o.chart) (plane_of F rows)) (inside : InOrder L f o w) where
  pub numerator_value_of : (p : Point) (part : ℕ) → IsLowValueIfAny F o p low part
      → (v : F.carrier) → v ≡ F.add (F.value part)
      (plane_at F.ring F.ring (λ s. s) (F.value p.a) (F.value p.theta) high)
      → HasValueAt L f o p w v
  numerator_value_of p part (inl k) v e = numerator_value F L f hf two o h rows few low high r q w
      over p k.coefficients k.residue v (e ∙ ap (λ t. F.add t
      (plane_at F.ring F.ring (λ s. s) (F.value p.a) (F.value p.theta) high)) k.value)
  numerator_value_of p part (inr n) v e = absurd (numerator_outside F L f hf two o h rows few low
      high r q w over n inside)
