use Rattle.std.proofs.Common.{◌≡◌}
use Rattle.ff_theory.specs.Values.{plane_of}
use Rattle.ff_theory.specs.Reversal.{slope_below}
use Rattle.ff_poly.proofs.infinity.slope_of.Given as goal

abbrev pub invariant-loop-i : goal.invariant-loop-i
invariant-loop-i g l =
    let K = g.K.Ring.elements l.k in
    l.e ≡ slope_below K.ring l.n (plane_of K l.rows) l.i
