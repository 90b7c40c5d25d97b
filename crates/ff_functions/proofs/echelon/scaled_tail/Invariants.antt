use Rattle.std.proofs.Common.{◌≡◌, ℕ, ◌+◌, ◌<◌, length, All}
use Rattle.ff_theory.specs.Ring.{IsElement}
use Rattle.ff_theory.specs.Vector.{vector_of}
use Rattle.ff_functions.proofs.echelon.scaled_tail.Given as goal

abbrev pub invariant-loop-j : goal.invariant-loop-j
invariant-loop-j g l =
    let F = g.K.Ring.elements l.k in
    record {
      len : l.start + length l.list.items ≡ l.j;
      each : All (IsElement F) l.list.items;
      value : (i : ℕ) → i < length l.list.items → vector_of F l.list.items i
          ≡ F.mul (F.value l.c) (vector_of F l.v (l.start + i));
    }
