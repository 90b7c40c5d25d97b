use Rattle.std.proofs.Common.{◌<◌}
use Rattle.ff_functions.proofs.run.first_bound.Given as goal

abbrev pub invariant-loop-m : goal.invariant-loop-m
invariant-loop-m l = 0 < l.bound
