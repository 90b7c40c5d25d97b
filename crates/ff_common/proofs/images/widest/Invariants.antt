use Rattle.std.proofs.Common.{take, All, ◌≤◌}
use Rattle.ff_theory.specs.Values.{x_size}
use Rattle.ff_common.proofs.images.widest.Given as goal

abbrev pub invariant-loop-rows : goal.invariant-loop-rows
invariant-loop-rows l = record {
  least : l.least ≤ l.h;
  wide : All (λ v. x_size v.items ≤ l.h) (take l.rows-index l.lists);
}
