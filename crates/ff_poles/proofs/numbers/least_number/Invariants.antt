use Rattle.std.proofs.Common.{◌≡◌, ℕ, ◌%◌, ◌<◌}
use Rattle.ff_poles.specs.Spaces.{RisesAt}
use Rattle.ff_poles.proofs.numbers.least_number.Given as goal

abbrev pub invariant-loop-j : goal.invariant-loop-j
invariant-loop-j l = (k : ℕ) → k < l.j → k % l.e ≡ l.i → ¬ RisesAt l.spaces k
