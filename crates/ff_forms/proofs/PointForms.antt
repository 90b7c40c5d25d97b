-- A point of an order has the form of one.
use Rattle.std.specs.Prelude.{ℕ, List}
use Rattle.ff_theory.specs.Ring.{Elements}
use Rattle.ff_theory.specs.Lawful.{Lawful}
use Rattle.ff_data.specs.declared.order.Order.{Order}
use Rattle.ff_data.specs.declared.point.Point.{Point}
use Rattle.ff_data.specs.Points.{IsPoint}
use Rattle.ff_forms.specs.Forms.{HasPointForm}

pub point_form : {F : Elements ℕ} (L : Lawful F) (f : List (List ℕ)) (o : Order) (p : Point)
    → IsPoint L f o p → HasPointForm F o p
point_form L f o p point = record {
  chart = point.chart;
  a = point.a;
  theta = point.theta;
  values = point.values;
  at_infinity = point.at_infinity;
}
