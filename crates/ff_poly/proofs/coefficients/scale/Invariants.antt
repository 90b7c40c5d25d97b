use Rattle.std.proofs.Common.{◌≡◌, ℕ, ◌<◌, ◌≤◌, length, map, All}
use Rattle.ff_theory.specs.Ring.{IsElement}
use Rattle.ff_theory.specs.Poly.{coeff}
use Rattle.ff_poly.proofs.coefficients.scale.Given as goal

abbrev pub invariant-loop-i : goal.invariant-loop-i
invariant-loop-i g l =
    let K = g.K.Ring.elements l.k in
    record {
      len : length l.list ≡ length l.fn.list;
      each : All (IsElement K) l.list;
      below : (i : ℕ) → i < l.i → coeff K.ring (map K.value l.list) i
          ≡ K.mul (K.value l.c) (coeff K.ring (map K.value l.fn.list) i);
      above : (i : ℕ) → l.i ≤ i → coeff K.ring (map K.value l.list) i
          ≡ coeff K.ring (map K.value l.fn.list) i;
    }
