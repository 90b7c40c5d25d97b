use Rattle.ff_describe.specs.Readings.{AreSides}
use Rattle.ff_describe.proofs.tables.sides.Given as goal

abbrev pub invariant-loop-i : goal.invariant-loop-i
invariant-loop-i l = AreSides l.lists l.i l.rows.items
