use Rattle.std.proofs.Common.{ℕ, ◌<◌, [], length, get_or}
use Rattle.ff_theory.specs.Divides.{Divides}
use Rattle.ff_theory.specs.Values.{poly_of, IsPoly, polys_over}
use Rattle.ff_frac.specs.Shrinking.{DividesRows}
use Rattle.ff_frac.proofs.shrink.common_divisor.Given as goal

abbrev pub invariant-loop-plane : goal.invariant-loop-plane
invariant-loop-plane g l =
    let F = g.K.Ring.elements l.alg.k in
    record {
      poly : IsPoly F l.common;
      nonzero : 0 < length l.common;
      divides : Divides (polys_over F) (poly_of F l.common) (poly_of F l.d);
      each : (t : ℕ) → t < l.plane-index
          → DividesRows F (poly_of F l.common) (get_or l.planes t []);
    }
