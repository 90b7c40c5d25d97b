use Rattle.std.proofs.Common.{◌<◌, ℕ}
use Rattle.ff_functions.specs.Searches.{HasClass}
use Rattle.ff_functions.proofs.numbers.is_complete.Given as goal

abbrev pub invariant-loop-i : goal.invariant-loop-i
invariant-loop-i l = (s : ℕ) → s < l.i → HasClass l.numbers l.e s
