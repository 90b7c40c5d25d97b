use Rattle.std.proofs.Common.{◌≡◌, ℕ, ◌+◌, ◌<◌, ◌≤◌, length, map, All}
use Rattle.ff_theory.specs.Ring.{IsElement}
use Rattle.ff_theory.specs.Poly.{coeff, list_scale}
use Rattle.ff_theory.specs.Monomial.{raised}
use Rattle.ff_alg.proofs.Ring.add_scaled.Given as goal

abbrev pub invariant-loop-j : goal.invariant-loop-j
invariant-loop-j g l =
    let K = g.Self.Ring.elements l.self in
    record {
      len : length l.sum ≡ length l.fn.sum;
      each : All (IsElement K) l.sum;
      below : (i : ℕ) → i < l.at + l.j → coeff K.ring (map K.value l.sum) i
          ≡ K.add (coeff K.ring (map K.value l.fn.sum) i)
          (coeff K.ring (raised K.ring l.at (list_scale K.ring (K.value l.c) (map K.value l.b))) i);
      above : (i : ℕ) → l.at + l.j ≤ i → coeff K.ring (map K.value l.sum) i
          ≡ coeff K.ring (map K.value l.fn.sum) i;
    }
