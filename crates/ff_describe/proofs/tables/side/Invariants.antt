use Rattle.ff_describe.specs.Readings.{IsSide}
use Rattle.ff_describe.proofs.tables.side.Given as goal

abbrev pub invariant-loop-j : goal.invariant-loop-j
invariant-loop-j l = IsSide l.lists l.i l.j l.items.items
