use Rattle.std.proofs.Common.{ℕ, ◌<◌, [], length, get_or}
use Rattle.ff_theory.specs.Divides.{Divides}
use Rattle.ff_theory.specs.Values.{poly_of, IsPoly, polys_over}
use Rattle.ff_frac.proofs.shrink.divisor.Given as goal

abbrev pub invariant-loop-row : goal.invariant-loop-row
invariant-loop-row g l =
    let F = g.K.Ring.elements l.k in
    record {
      poly : IsPoly F l.divisor;
      nonzero : 0 < length l.divisor;
      divides : Divides (polys_over F) (poly_of F l.divisor) (poly_of F l.fn.d);
      each : (t : ℕ) → t < l.row-index
          → Divides (polys_over F) (poly_of F l.divisor) (poly_of F (get_or l.rows t []));
    }
