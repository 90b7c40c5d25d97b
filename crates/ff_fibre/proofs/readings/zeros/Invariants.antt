use Rattle.std.proofs.Common.{◌≡◌, length, All}
use Rattle.ff_theory.specs.Ring.{IsElement}
use Rattle.ff_fibre.proofs.readings.zeros.Given as goal

abbrev pub invariant-loop-j : goal.invariant-loop-j
invariant-loop-j g l = record {
  len : length l.zeros.items ≡ l._j;
  each : All (IsElement (g.K.Ring.elements l.k)) l.zeros.items;
}
