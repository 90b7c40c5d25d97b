use Rattle.std.proofs.Common.{ℕ, ◌<◌}
use Rattle.std.specs.Int.{IsGcd}
use Rattle.ff_data.specs.Systems.{weight_at}
use Rattle.ff_relation.specs.Combination.{IsDifference}
use Rattle.ff_relation.proofs.choice.choice.Given as goal

abbrev pub invariant-loop-i : goal.invariant-loop-i
invariant-loop-i l = record {
  below : l.best < l.s.e;
  prime : (j : ℕ) → j < l.i → IsGcd (weight_at l.s j) l.s.e 1
      → IsDifference (weight_at l.s l.best) l.s.e 1;
}
