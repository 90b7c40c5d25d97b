use Rattle.std.proofs.Common.{length}
use Rattle.ff_elem.specs.Euclid.{ArePlanes, IsStep}
use Rattle.ff_elem.proofs.euclid.reduce.Given as goal

abbrev pub invariant-reduce : goal.invariant-reduce
invariant-reduce g l =
    let K = g.K.Ring.elements l.k in
    record {
      planes : ArePlanes K l.rest;
      step : IsStep K l.fn.a l.by l.rest;
    }

abbrev pub decreases-reduce : goal.decreases-reduce
decreases-reduce g l = length l.rest.value
