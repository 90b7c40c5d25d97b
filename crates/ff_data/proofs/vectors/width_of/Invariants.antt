use Rattle.std.proofs.Common.{take, All, ◌≤◌}
use Rattle.ff_theory.specs.Values.{x_size}
use Rattle.ff_data.proofs.vectors.width_of.Given as goal

abbrev pub invariant-loop-a : goal.invariant-loop-a
invariant-loop-a l = record { wide : All (λ a. x_size a ≤ l.n) (take l.a-index l.planes) }
