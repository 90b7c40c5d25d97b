use Rattle.std.proofs.Common.{◌≡◌, ℕ}
use Rattle.ff_theory.specs.Vector.{vector_of, IsVector}
use Rattle.ff_functions.proofs.frame.zeros.Given as goal

abbrev pub invariant-loop-j : goal.invariant-loop-j
invariant-loop-j g l =
    let F = g.K.Ring.elements l.k in
    record {
      vector : IsVector F l._j l.zeros.items;
      value : (i : ℕ) → vector_of F l.zeros.items i ≡ F.zero;
    }
