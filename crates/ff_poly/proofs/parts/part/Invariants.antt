use Rattle.std.proofs.Common.{◌≡◌, ℕ, ◌+◌, ◌-◌, ◌*◌, ◌<◌, length, map, All}
use Rattle.ff_theory.specs.Ring.{IsElement, power}
use Rattle.ff_theory.specs.Poly.{coeff}
use Rattle.ff_poly.proofs.parts.part.Given as goal

abbrev pub invariant-loop-at : goal.invariant-loop-at
invariant-loop-at g l =
    let K = g.K.Ring.elements l.k in
    record {
      at : l.at ≡ l.i + length l.roots.items * l.p;
      each : All (IsElement K) l.roots.items;
      roots : (j : ℕ) → j < length l.roots.items → power K.ring
          (coeff K.ring (map K.value l.roots.items) j) K.characteristic
          ≡ coeff K.ring (map K.value l.c) (l.i + j * l.p);
    }

abbrev pub decreases-loop-at : goal.decreases-loop-at
decreases-loop-at g l = length l.c - l.at
