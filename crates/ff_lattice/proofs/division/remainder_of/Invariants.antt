use Rattle.std.proofs.Common.{length}
use Rattle.ff_theory.specs.Values.{polys_over, plane_of, IsPlane}
use Rattle.ff_lattice.specs.Remainder.{IsCongruent}
use Rattle.ff_lattice.proofs.division.remainder_of.Given as goal

abbrev pub invariant-reduce : goal.invariant-reduce
invariant-reduce g l =
    let F = g.K.Ring.elements l.k in
    record {
      plane : IsPlane F l.rest;
      value : IsCongruent (polys_over F) (plane_of F l.by) (plane_of F l.fn.a) (plane_of F l.rest);
    }

abbrev pub decreases-reduce : goal.decreases-reduce
decreases-reduce g l = length l.rest
