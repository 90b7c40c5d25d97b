use Rattle.std.proofs.Common.{◌≡◌, ℕ, ◌<◌, length, All}
use Rattle.ff_theory.specs.Ring.{IsElement}
use Rattle.ff_theory.specs.Span.{unit_at}
use Rattle.ff_theory.specs.Vector.{vector_of}
use Rattle.ff_common.proofs.held.unit.Given as goal

abbrev pub invariant-loop-j : goal.invariant-loop-j
invariant-loop-j g l = let F = g.K.Ring.elements l.k in record {
  len : length l.unit.items ≡ l.j;
  each : All (IsElement F) l.unit.items;
  value : (j : ℕ) → j < l.j → vector_of F l.unit.items j ≡ unit_at F.ring l.s j;
}
