use Rattle.std.proofs.Common.{ap, arith, length, subst, ◌-◌, ◌≡◌}
use Rattle.ff_elem.specs.Elem.{elem_of, y_in}
use Rattle.ff_subst.specs.Powers.{AreMultiples, IsMatrix}
use Rattle.ff_subst.proofs.Columns.{if_ok2}
use Rattle.ff_subst.proofs.powers.matrix_of_y.Goals as goal

pub returns-clause-matrix : goal.returns-clause-matrix
returns-clause-matrix g c =
    let L = g.K.Ring.lawful c.args.alg.now.k in
    let f = c.args.alg.now.f in
    let m = c.args.m.now in
    let n = c.args.alg.now.has_y in
    if_ok2 c.powers_of.result (λ r. length r.planes ≡ length c.rows.result.now - 1)
    (AreMultiples L f m (elem_of L f c.in_ok-y.y) (elem_of L f c.in_ok-y.y))
    (IsMatrix L f m (y_in L f))
    (λ r count powers. record {
      multiples = subst (λ y. AreMultiples L f m y y r) c.in_ok-y.ensures.value powers;
      whole = omega (arith, count, ap length c.rows.ensures, n);
    }) c.powers_of.ensures.count c.powers_of.ensures.powers
