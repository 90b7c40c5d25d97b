use Rattle.std.proofs.Common.{◌≡◌}
use Rattle.ff_theory.specs.Ring.{power}
use Rattle.ff_theory.specs.Values.{poly_of, IsPoly, polys_over}
use Rattle.ff_order.proofs.images.poly_power.Given as goal

abbrev pub invariant-loop-i : goal.invariant-loop-i
invariant-loop-i g l =
    let F = g.K.Ring.elements l.k in
    record {
      poly : IsPoly F l.power;
      value : poly_of F l.power ≡ power (polys_over F) (poly_of F l.d) l._i;
    }
