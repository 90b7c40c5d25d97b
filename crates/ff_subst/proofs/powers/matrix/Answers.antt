use Rattle.std.proofs.Common.{ap, arith, length, ◌-◌, ◌≡◌}
use Rattle.ff_elem.specs.Elem.{algebra_in, elem_of, y_in}
use Rattle.ff_subst.specs.Residues.{IsResidue}
use Rattle.ff_subst.specs.Powers.{AreMultiples, IsMatrix}
use Rattle.ff_subst.proofs.Columns.{if_ok2}
use Rattle.ff_subst.proofs.powers.matrix.Goals as goal

pub returns-clause-matrix : goal.returns-clause-matrix
returns-clause-matrix g c =
    let L = g.K.Ring.lawful c.args.alg.now.k in
    let f = c.args.alg.now.f in
    let A = algebra_in L f in
    let m = c.args.m.now in
    let v = elem_of L f c.args.v.now in
    let first = c.in_ok-first.first in
    let n = c.args.alg.now.has_y in
    if_ok2 c.powers.result (λ r. length r.planes ≡ length c.rows.result.now - 1)
    (λ r. (u v : A.carrier) → IsResidue L f m u first → IsMatrix L f m v c.args.by_y.now
    → AreMultiples L f m u v r) (IsMatrix L f m v)
    (λ r count powers. record {
      multiples = powers v (y_in L f) c.in_ok-first.ensures.residue c.requires.matrix;
      whole = omega (arith, count, ap length c.rows.ensures, n);
    }) c.powers.ensures.count c.powers.ensures.powers
