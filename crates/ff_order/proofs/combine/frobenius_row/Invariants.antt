use Rattle.std.proofs.Common.{◌≡◌, ℕ, ◌<◌, length, All}
use Rattle.ff_theory.specs.Ring.{IsElement}
use Rattle.ff_theory.specs.Vector.{vector_of}
use Rattle.ff_lin.specs.Space.{frobenius}
use Rattle.ff_order.proofs.combine.frobenius_row.Given as goal

abbrev pub invariant-loop-j : goal.invariant-loop-j
invariant-loop-j g l = let F = g.K.Ring.elements l.k in record {
  len : length l.powers.items ≡ l.j;
  each : All (IsElement F) l.powers.items;
  value : (j : ℕ) → j < l.j → vector_of F l.powers.items j ≡ frobenius F (vector_of F l.v) j;
}
