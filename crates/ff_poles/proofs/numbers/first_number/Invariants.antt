use Rattle.std.proofs.Common.{ℕ, ◌<◌}
use Rattle.ff_poles.specs.Spaces.{RisesAt}
use Rattle.ff_poles.proofs.numbers.first_number.Given as goal

abbrev pub invariant-loop-j : goal.invariant-loop-j
invariant-loop-j l = (i : ℕ) → i < l.j → ¬ RisesAt l.spaces i
