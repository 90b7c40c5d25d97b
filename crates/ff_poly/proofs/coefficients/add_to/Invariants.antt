use Rattle.std.proofs.Common.{◌≡◌, ℕ, ◌<◌, ◌≤◌, length, map, All}
use Rattle.ff_theory.specs.Ring.{IsElement}
use Rattle.ff_theory.specs.Poly.{coeff}
use Rattle.ff_poly.proofs.coefficients.add_to.Given as goal

abbrev pub invariant-loop-i : goal.invariant-loop-i
invariant-loop-i g l =
    let K = g.K.Ring.elements l.k in
    record {
      len : length l.sum ≡ length l.fn.sum;
      each : All (IsElement K) l.sum;
      below : (i : ℕ) → i < l.i → coeff K.ring (map K.value l.sum) i
          ≡ K.add (coeff K.ring (map K.value l.fn.sum) i) (coeff K.ring (map K.value l.b) i);
      above : (i : ℕ) → l.i ≤ i → coeff K.ring (map K.value l.sum) i
          ≡ coeff K.ring (map K.value l.fn.sum) i;
    }
