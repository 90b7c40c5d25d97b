use Rattle.std.proofs.Common.{◌≡◌, length, All}
use Rattle.ff_relation.proofs.bases.zeros.Given as goal

abbrev pub invariant-loop-l : goal.invariant-loop-l
invariant-loop-l l = record {
  count : length l.zeros.items ≡ l._l;
  each : All (λ j. j ≡ 0) l.zeros.items;
}
