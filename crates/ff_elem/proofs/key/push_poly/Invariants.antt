use Rattle.std.proofs.Common.{◌≡◌, ◌≤◌, ◌∷◌, ◌++◌, length, map, drop, reverse}
use Rattle.ff_elem.proofs.key.push_poly.Given as goal

abbrev pub invariant-loop-i : goal.invariant-loop-i
invariant-loop-i g l =
    let K = g.K.Ring.elements l.k in
    record {
      inside : l.i ≤ length l.coeffs;
      key : l.key.items ≡ l.fn.key.items ++
          (length l.coeffs ∷ reverse (map (λ c. K.index (K.value c)) (drop l.i l.coeffs)));
    }

abbrev pub decreases-loop-i : goal.decreases-loop-i
decreases-loop-i g l = l.i
