use Rattle.std.proofs.Common.{◌≡◌, ℕ, suc, ◌<◌, length, All}
use Rattle.ff_theory.specs.Ring.{IsElement}
use Rattle.ff_theory.specs.Vector.{vector_of}
use Rattle.ff_modulo.proofs.bases.negative_tail.Given as goal

abbrev pub invariant-loop-i : goal.invariant-loop-i
invariant-loop-i g l =
    let F = g.K.Ring.elements l.k in
    record {
      len : length l.tail.items ≡ l.i;
      each : All (IsElement F) l.tail.items;
      value : (j : ℕ) → j < l.i → vector_of F l.tail.items j
          ≡ F.neg (vector_of F l.v (suc j));
    }
