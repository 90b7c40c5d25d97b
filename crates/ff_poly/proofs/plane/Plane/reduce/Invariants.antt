use Rattle.std.proofs.Common.{◌<◌, length}
use Rattle.ff_theory.specs.Values.{poly_of, plane_of, IsPoly, IsPlane}
use Rattle.ff_theory.specs.Planes.{IsPseudoDivision}
use Rattle.ff_poly.proofs.plane.Plane.reduce.Given as goal

abbrev pub invariant-reduce : goal.invariant-reduce
invariant-reduce g l =
    let K = g.K.Ring.elements l.k in
    record {
      factor : IsPoly K l.factor;
      nonzero : 0 < length l.factor;
      rest : IsPlane K l.rest;
      value : IsPseudoDivision K.ring (poly_of K l.factor) (plane_of K l.self) (plane_of K l.f)
          (plane_of K l.rest);
    }

abbrev pub decreases-reduce : goal.decreases-reduce
decreases-reduce g l = length l.rest
