use Rattle.std.proofs.Common.{ℕ, ◌<◌, [], get_or}
use Rattle.ff_theory.specs.Vector.{IsVector}
use Rattle.ff_frac.specs.Places.{HasNumeratorValue}
use Rattle.ff_frac.proofs.values.values.Given as goal

abbrev pub invariant-loop-plane : goal.invariant-loop-plane
invariant-loop-plane g l =
    let L = g.K.Ring.lawful l.alg.k in
    record {
      vector : IsVector (g.K.Ring.elements l.alg.k) l.plane-index l.values.items;
      value : (i : ℕ) → i < l.plane-index → HasNumeratorValue L l.alg.f l.order l.point
          (get_or l.planes i []) (get_or l.values.items i 0);
    }
