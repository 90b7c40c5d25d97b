use Rattle.std.proofs.Common.{◌≡◌, ◌≤◌, length, take}
use Rattle.ff_theory.specs.Values.{poly_of}
use Rattle.ff_poly.proofs.coefficients.significant_len.Given as goal

abbrev pub invariant-loop-n : goal.invariant-loop-n
invariant-loop-n g l = record {
  below : l.n ≤ length l.list;
  value : poly_of (g.K.Ring.elements l.k) (take l.n l.list)
      ≡ poly_of (g.K.Ring.elements l.k) l.list;
}

abbrev pub decreases-loop-n : goal.decreases-loop-n
decreases-loop-n g l = l.n
