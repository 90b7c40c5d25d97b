-- Points of orders, for an equation f over a field whose laws are L. This project's own wording;
-- where f is irreducible the points of the maximal orders are the rational places (Stichtenoth,
-- section 1.1).
use Rattle.std.specs.Prelude.{◌≡◌, ℕ, pred, List, length}
use Rattle.ff_theory.specs.Ring.{Elements, IsElement}
use Rattle.ff_theory.specs.Lawful.{Lawful, lawful_field}
use Rattle.ff_theory.specs.Vector.{vector_of, vectors_of, IsVector}
use Rattle.ff_theory.specs.Values.{poly_of}
use Rattle.ff_local.specs.ChartValue.{IsRoot, HasValueBy}
use Rattle.ff_elem.specs.Elem.{algebra_in}
use Rattle.ff_data.specs.declared.order.Chart.TheVariants.{Infinite}
use Rattle.ff_data.specs.declared.order.Order.{Order}
use Rattle.ff_data.specs.declared.point.Point.{Point}
use Rattle.ff_data.specs.Orders.{chart_of}

module _ {F : Elements ℕ} (L : Lawful F) (f : List (List ℕ)) where
  -- v is the value of an element w of the order by the data of a point: d * w has a residue that is
  -- a combination of the basis of the space; the same combination of the values, and the value of
  -- what is left, an element of the power order, where u is a and theta is its entry. At infinity,
  -- where a is 0, a coordinate of degree below 0 so counts as 0, and one of degree 0 as the
  -- quotient of its leading coefficients.
  abbrev pub HasValueAt : Order → Point → (algebra_in L f).carrier → F.carrier → Type 0
  HasValueAt o p = HasValueBy (lawful_field L) (chart_of L f o.chart) (F.value p.a)
      (F.value p.theta) (poly_of F o.d) (pred (length o.d)) (length o.space.basis)
      (vectors_of F o.space.basis) (vector_of F p.values)

  -- the number v stands for the value of w
  pub record IsValueAt (o : Order) (p : Point) (w : (algebra_in L f).carrier) (v : ℕ)
      : Type 0 where
    pub element : IsElement F v
    pub value : HasValueAt o p w (F.value v)

  -- The data are a point of the order: their value keeps sums and products and fixes the constants,
  -- and a and theta are the values of u and of the chart's theta, which are a root of the chart's
  -- equation. At infinity a is 0.
  pub record IsPoint (o : Order) (p : Point) : Type 0 where
    pub chart : p.chart ≡ o.chart
    pub a : IsElement F p.a
    pub theta : IsElement F p.theta
    pub values : IsVector F (length o.space.basis) p.values
    pub at_infinity : o.chart ≡ Infinite → F.value p.a ≡ F.zero
    pub root : IsRoot (lawful_field L) (chart_of L f o.chart) (F.value p.a) (F.value p.theta)
    pub sums : (v w : (algebra_in L f).carrier) (s t : F.carrier) → HasValueAt o p v s
        → HasValueAt o p w t → HasValueAt o p ((algebra_in L f).add v w) (F.add s t)
    pub products : (v w : (algebra_in L f).carrier) (s t : F.carrier) → HasValueAt o p v s
        → HasValueAt o p w t → HasValueAt o p ((algebra_in L f).mul v w) (F.mul s t)
    pub value_of_u : HasValueAt o p (chart_of L f o.chart).u (F.value p.a)
    pub value_of_theta : HasValueAt o p (chart_of L f o.chart).theta (F.value p.theta)
