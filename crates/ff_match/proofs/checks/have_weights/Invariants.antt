use Rattle.std.proofs.Common.{ℕ, ◌<◌, [], get_or}
use Rattle.ff_data.specs.Systems.{HasWeight, weight_at}
use Rattle.ff_match.proofs.checks.have_weights.Given as goal

abbrev pub invariant-loop-i : goal.invariant-loop-i
invariant-loop-i g l = (j : ℕ) → j < l.i → HasWeight l.s2 (weight_at l.s1 j) (get_or l.images j [])
