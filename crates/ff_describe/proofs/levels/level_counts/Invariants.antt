use Rattle.std.proofs.Common.{◌≡◌, ℕ, ◌<◌, length, get_or}
use Rattle.ff_describe.specs.Levels.{IsCount}
use Rattle.ff_describe.proofs.levels.level_counts.Given as goal

abbrev pub invariant-loop-l : goal.invariant-loop-l
invariant-loop-l l = record {
  len : length l.counts.items ≡ l.l;
  each : (i : ℕ) → i < l.l → IsCount l.e (get_or l.weights i 0) l.bound
      (get_or l.counts.items i 0);
}
