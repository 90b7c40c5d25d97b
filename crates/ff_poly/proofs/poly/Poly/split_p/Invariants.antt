use Rattle.std.proofs.Common.{◌≡◌, ℕ, ◌+◌, ◌*◌, ◌<◌, [], length, map, get_or}
use Rattle.ff_theory.specs.Ring.{power}
use Rattle.ff_theory.specs.Poly.{coeff}
use Rattle.ff_theory.specs.Values.{ArePolys}
use Rattle.ff_poly.proofs.poly.Poly.split_p.Given as goal

abbrev pub invariant-loop-i : goal.invariant-loop-i
invariant-loop-i g l =
    let K = g.K.Ring.elements l.k in
    record {
      len : length l.parts.items ≡ l.i;
      each : ArePolys K l.parts.items;
      roots : (i : ℕ) → i < l.i → (j : ℕ) → power K.ring
          (coeff K.ring (map K.value (get_or l.parts.items i [])) j) K.characteristic
          ≡ coeff K.ring (map K.value l.self) (i + j * K.characteristic);
    }
