use Rattle.std.proofs.Common.{◌-◌, ◌<◌}
use Rattle.ff_subst.proofs.blocks.power_count.Given as goal

abbrev pub invariant-loop-count : goal.invariant-loop-count
invariant-loop-count l = record { some : 0 < l.count }

abbrev pub decreases-loop-count : goal.decreases-loop-count
decreases-loop-count l = l.width - l.count
