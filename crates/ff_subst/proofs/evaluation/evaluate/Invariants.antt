use Rattle.std.proofs.Common.{length, ◌-◌, ◌≤◌}
use Rattle.ff_theory.specs.Lawful.{lawful_field}
use Rattle.ff_theory.specs.Values.{plane_of}
use Rattle.ff_theory.proofs.Horner.{from_index, horner}
use Rattle.ff_elem.specs.Elem.{algebra_in}
use Rattle.ff_subst.specs.Residues.{IsReduced, IsResidue}
use Rattle.ff_subst.specs.Powers.{IsSubstitution}
use Rattle.ff_subst.specs.Columns.{column_of}
use Rattle.ff_subst.proofs.evaluation.evaluate.Given as goal

abbrev pub invariant-loop-i : goal.invariant-loop-i
invariant-loop-i g l = record {
  below : l.i ≤ l.width;
  reduced : IsReduced (g.K.Ring.elements l.alg.k) l.value;
  residue : (X Y : (algebra_in (g.K.Ring.lawful l.alg.k) l.alg.f).carrier)
      → IsSubstitution (g.K.Ring.lawful l.alg.k) l.alg.f l.m X Y l.at
      → IsResidue (g.K.Ring.lawful l.alg.k) l.alg.f l.m
      (horner (algebra_in (g.K.Ring.lawful l.alg.k) l.alg.f) X
      (from_index l.i (column_of (lawful_field (g.K.Ring.lawful l.alg.k))
      (plane_of (g.K.Ring.elements l.alg.k) l.alg.f) Y
      (plane_of (g.K.Ring.elements l.alg.k) l.rows) (length l.rows))) (l.width - l.i)) l.value;
}

abbrev pub decreases-loop-i : goal.decreases-loop-i
decreases-loop-i g l = l.i
