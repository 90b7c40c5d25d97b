use Rattle.std.proofs.Common.{◌≡◌, ◌≤◌, length, drop}
use Rattle.ff_theory.specs.Values.{poly_of, IsPoly}
use Rattle.ff_ring.specs.Affine.{value_of_list}
use Rattle.ff_ring.proofs.line.value_at_line.Given as goal

abbrev pub invariant-loop-i : goal.invariant-loop-i
invariant-loop-i g l =
    let F = g.K.Ring.elements l.k in
    record {
      below : l.i ≤ length l.c;
      is_poly : IsPoly F l.value;
      value : poly_of F l.value ≡ value_of_list F (poly_of F l.line) (drop l.i l.c);
    }

abbrev pub decreases-loop-i : goal.decreases-loop-i
decreases-loop-i g l = l.i
