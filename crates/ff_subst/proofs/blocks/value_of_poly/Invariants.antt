use Rattle.std.proofs.Common.{length, ◌*◌, ◌+◌, ◌/◌, ◌≡◌, ◌≤◌}
use Rattle.ff_theory.proofs.Horner.{from_index, horner}
use Rattle.ff_elem.specs.Elem.{IsElem, algebra_in, elem_of}
use Rattle.ff_subst.specs.Cleared.{ArePowers, coefficient_in}
use Rattle.ff_subst.proofs.blocks.value_of_poly.Given as goal

abbrev pub invariant-loop-b : goal.invariant-loop-b
invariant-loop-b g l = record {
  below : l.b ≤ length l.p / length l.at.list.planes + 1;
  element : IsElem (g.K.Ring.lawful l.alg.k) l.alg.f l.value;
  value : (X : (algebra_in (g.K.Ring.lawful l.alg.k) l.alg.f).carrier)
      → ArePowers (g.K.Ring.lawful l.alg.k) l.alg.f X l.at
      → elem_of (g.K.Ring.lawful l.alg.k) l.alg.f l.value
      ≡ horner (algebra_in (g.K.Ring.lawful l.alg.k) l.alg.f) X
      (from_index (l.b * length l.at.list.planes)
      (coefficient_in (g.K.Ring.lawful l.alg.k) l.alg.f l.p)) (length l.p);
}

abbrev pub decreases-loop-b : goal.decreases-loop-b
decreases-loop-b g l = l.b
