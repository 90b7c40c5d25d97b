use Rattle.std.proofs.Common.{◌≡◌, take}
use Rattle.ff_poles.proofs.spaces.narrowed.Given as goal

abbrev pub invariant-loop-i : goal.invariant-loop-i
invariant-loop-i l = l.weights.items ≡ take l.i l.numbers
