use Rattle.std.proofs.Common.{◌≡◌, ◌%◌, ◌<◌, ℕ, get_or}
use Rattle.ff_functions.specs.declared.numbers.PoleNumber.{PoleNumber}
use Rattle.ff_functions.proofs.numbers.class_index.Given as goal

abbrev pub invariant-loop-t : goal.invariant-loop-t
invariant-loop-t l = (s : ℕ) → s < l.t
    → ¬ ((d : PoleNumber) → (get_or l.numbers s d).j % l.e ≡ l.i)
