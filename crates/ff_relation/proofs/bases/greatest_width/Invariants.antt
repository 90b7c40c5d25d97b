use Rattle.std.proofs.Common.{take, All, ◌≤◌}
use Rattle.ff_theory.specs.Values.{x_size}
use Rattle.ff_relation.proofs.bases.greatest_width.Given as goal

abbrev pub invariant-loop-list : goal.invariant-loop-list
invariant-loop-list l = All (λ a. x_size a ≤ l.n) (take l.list-index l.lists)
