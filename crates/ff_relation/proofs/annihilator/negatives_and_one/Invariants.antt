use Rattle.std.proofs.Common.{◌≡◌, ℕ, ◌<◌, length, All}
use Rattle.ff_theory.specs.Ring.{IsElement}
use Rattle.ff_theory.specs.Vector.{vector_of}
use Rattle.ff_relation.proofs.annihilator.negatives_and_one.Given as goal

abbrev pub invariant-loop-i : goal.invariant-loop-i
invariant-loop-i g l = let F = g.K.Ring.elements l.k in record {
  count : length l.coeffs.items ≡ l.i;
  each : All (IsElement F) l.coeffs.items;
  low : (j : ℕ) → j < l.i → vector_of F l.coeffs.items j ≡ F.neg (vector_of F l.c j);
}
