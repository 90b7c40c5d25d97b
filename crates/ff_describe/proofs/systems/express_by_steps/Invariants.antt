use Rattle.std.proofs.Common.{◌-◌, ◌<◌, ◌≤◌}
use Rattle.ff_describe.proofs.systems.express_by_steps.Given as goal

abbrev pub invariant-loop-degree : goal.invariant-loop-degree
invariant-loop-degree g l = record {
  within : l.degree ≤ l.most;
  positive : l.degree < l.most → 0 < l.degree;
}

abbrev pub decreases-loop-degree : goal.decreases-loop-degree
decreases-loop-degree g l = l.most - l.degree
