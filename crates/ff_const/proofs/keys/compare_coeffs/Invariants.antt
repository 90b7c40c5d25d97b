use Rattle.std.proofs.Common.{◌≡◌, ◌≤◌, length, map, drop, reverse}
use Rattle.ff_const.proofs.keys.compare_coeffs.Given as goal

abbrev pub invariant-loop-i : goal.invariant-loop-i
invariant-loop-i g l =
    let K = g.K.Ring.elements l.k in
    record {
      inside : l.i ≤ length l.a;
      same : reverse (map (λ c. K.index (K.value c)) (drop l.i l.a))
          ≡ reverse (map (λ c. K.index (K.value c)) (drop l.i l.b));
    }

abbrev pub decreases-loop-i : goal.decreases-loop-i
decreases-loop-i g l = l.i
