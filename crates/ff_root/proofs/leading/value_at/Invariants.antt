use Rattle.std.proofs.Common.{◌≡◌, ◌≤◌, length, drop}
use Rattle.ff_theory.specs.Ring.{IsElement}
use Rattle.ff_root.specs.States.{value_of}
use Rattle.ff_root.proofs.leading.value_at.Given as goal

abbrev pub invariant-loop-i : goal.invariant-loop-i
invariant-loop-i g l =
    let F = g.K.Ring.elements l.k in
    record {
      below : l.i ≤ length l.p;
      element : IsElement F l.value;
      value : F.value l.value ≡ value_of F (drop l.i l.p) l.c;
    }

abbrev pub decreases-loop-i : goal.decreases-loop-i
decreases-loop-i g l = l.i
