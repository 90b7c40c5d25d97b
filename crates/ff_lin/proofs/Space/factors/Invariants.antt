use Rattle.std.proofs.Common.{◌≡◌, ℕ, ◌<◌, length, All}
use Rattle.ff_theory.specs.Ring.{IsElement}
use Rattle.ff_theory.specs.Vector.{vector_of}
use Rattle.ff_lin.specs.Space.{pivot}
use Rattle.ff_lin.proofs.Space.factors.Given as goal

abbrev pub invariant-loop-i : goal.invariant-loop-i
invariant-loop-i g l = let F = g.K.Ring.elements l.k in record {
  len : length l.factors.items ≡ l.i;
  each : All (IsElement F) l.factors.items;
  value : (j : ℕ) → j < l.i → vector_of F l.factors.items j
      ≡ F.neg (vector_of F l.v (pivot l.self j));
}
