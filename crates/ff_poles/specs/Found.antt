-- Pole systems that were found, for an equation f over a field whose laws are L.
use Rattle.std.specs.Prelude.{ℕ, List, Option, None, Some}
use Rattle.ff_theory.specs.Ring.{Elements}
use Rattle.ff_theory.specs.Lawful.{Lawful}
use Rattle.ff_data.specs.declared.order.Order.{Order}
use Rattle.ff_data.specs.declared.point.Point.{Point}
use Rattle.ff_data.specs.declared.system.System.{System}
use Rattle.ff_data.specs.Systems.{IsSystem}

module _ {F : Elements ℕ} (L : Lawful F) (f : List (List ℕ)) where
  -- there is a pole system of p within J that is alike
  pub record HasSystemLike (o : Order) (p : Point) (other : Order) (J : ℕ)
      (alike : System → Type 0) : Type 0 where
    pub system : System
    pub is_system : IsSystem L f o p other J system
    pub same : alike system

  -- a pole system of p within J, or none that is alike
  abbrev pub IsSystemAt : Order → Point → Order → ℕ → (System → Type 0) → Option System → Type 0
  IsSystemAt o p other J alike (Some s) = IsSystem L f o p other J s
  IsSystemAt o p other J alike None = ¬ HasSystemLike o p other J alike
