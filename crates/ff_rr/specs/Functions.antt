-- What a pole module and an order of the other chart have in common, for an equation f over a field
-- whose laws are L.
use Rattle.std.specs.Prelude.{ℕ, List}
use Rattle.ff_theory.specs.Ring.{Elements}
use Rattle.ff_theory.specs.Lawful.{Lawful}
use Rattle.ff_elem.specs.Elem.{algebra_in}
use Rattle.ff_data.specs.declared.order.Order.{Order}
use Rattle.ff_data.specs.declared.point.Pole.{Pole}
use Rattle.ff_data.specs.Orders.{InOrder}
use Rattle.ff_data.specs.Poles.{InPole}

module _ {F : Elements ℕ} (L : Lawful F) (f : List (List ℕ)) where
  -- w is in the pole module and in the other order
  pub record IsFunctionOf (m : Pole) (other : Order) (w : (algebra_in L f).carrier) : Type 0 where
    pub in_module : InPole L f m w
    pub in_other : InOrder L f other w
