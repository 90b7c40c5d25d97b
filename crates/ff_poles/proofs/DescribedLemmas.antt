-- Tables of described systems.
use Rattle.std.proofs.Common.{ℕ, List, Option, Some, None, IfSome}
use Rattle.ff_theory.specs.Ring.{Elements}
use Rattle.ff_theory.specs.Lawful.{Lawful}
use Rattle.ff_data.specs.declared.system.System.{System}
use Rattle.ff_ring.specs.Ring.{HasTable}
use Rattle.ff_describe.specs.Described.{IsDescribed}

module _ {F : Elements ℕ} (L : Lawful F) (f : List (List ℕ)) (limit : ℕ) where
  -- the form of a described system has that of its table
  pub described-table : (s : System) → IsDescribed L f limit s → HasTable F s
  described-table s d = record {
    positive = d.positive;
    weights = d.form.weights;
    rows = d.form.rows;
    row = d.form.row;
    table = d.form.table;
  }

  pub described-tables : (o : Option System) → IfSome o (IsDescribed L f limit)
      → IfSome o (HasTable F)
  described-tables None h = tt
  described-tables (Some s) h = described-table s h
