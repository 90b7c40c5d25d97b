use Rattle.std.proofs.Common.{length}
use Rattle.ff_theory.specs.Lawful.{lawful_field}
use Rattle.ff_theory.specs.Values.{plane_of}
use Rattle.ff_theory.proofs.Results.{ok_map}
use Rattle.ff_elem.specs.Elem.{algebra_in}
use Rattle.ff_subst.specs.Residues.{IsResidue}
use Rattle.ff_subst.specs.Powers.{IsSubstitution}
use Rattle.ff_subst.specs.Columns.{column_of}
use Rattle.ff_subst.proofs.evaluation.step.Goals as goal

pub column-requires : goal.column-requires
column-requires g c =
    record { powers = c.requires.at.y; rows = c.requires.rows; enough = c.requires.enough }

pub apply-requires : goal.apply-requires
apply-requires g c =
    record { m = c.requires.m; matrix = c.requires.at.x; r = c.requires.value }

pub add-requires : goal.add-requires
add-requires g c =
    record {
      m = c.requires.m;
      a = c.in_ok-column.ensures.reduced;
      b = c.in_ok-scaled.ensures.reduced;
    }

pub returns-clause-residue : goal.returns-clause-residue
returns-clause-residue g c =
    let K = g.K.Ring.elements c.args.alg.now.k in
    let L = g.K.Ring.lawful c.args.alg.now.k in
    let f = c.args.alg.now.f in
    let A = algebra_in L f in
    let m = c.args.m.now in
    let rows = c.args.rows.now in
    let col : A.carrier → A.carrier = λ Y. column_of (lawful_field L) (plane_of K f) Y
    (plane_of K rows) (length rows) c.args.i in
    ok_map (λ r. (u v : A.carrier) → IsResidue L f m u c.in_ok-column.column
    → IsResidue L f m v c.in_ok-scaled.scaled → IsResidue L f m (A.add u v) r)
    (λ r. (X Y u : A.carrier) → IsSubstitution L f m X Y c.args.at.now
    → IsResidue L f m u c.args.value.now → IsResidue L f m (A.add (col Y) (A.mul X u)) r)
    c.add.result
    (λ r sum X Y u h k. sum (col Y) (A.mul X u) (c.in_ok-column.ensures.residue m Y h.y)
    (c.in_ok-scaled.ensures.residue u X h.x k)) c.add.ensures.residue
