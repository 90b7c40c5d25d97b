use Rattle.std.proofs.Common.{◌≡◌, suc, ◌-◌, length, sym, ap, subst, arith}
use Rattle.ff_theory.specs.Values.{IsPlane}
use Rattle.ff_elem.specs.Factors.{IsPartOf}
use Rattle.ff_elem.proofs.Reduction.{last-row}
use Rattle.ff_elem.proofs.Cofactors.{part-of-lowest}
use Rattle.ff_elem.proofs.factors.normalised_part.Goals as goal

pub lowest-requires-clause-nonzero : goal.lowest-requires-clause-nonzero
lowest-requires-clause-nonzero g c =
    let F = g.K.Ring.elements c.args.k.now in
    let R = c.rows-rows.result.now in
    let long : length R ≡ suc (length R - 1) = omega
    (arith, ap length c.rows-rows.ensures, c.requires.nonzero) in
    (last-row F (g.K.Ring.lawful c.args.k.now) R (length R - 1) c.index-rows-rows.result
    (subst (IsPlane F) (sym c.rows-rows.ensures) c.requires.plane) long c.index-rows-rows.is).1

pub returns-clause-part : goal.returns-clause-part
returns-clause-part g c =
    let F = g.K.Ring.elements c.args.k.now in
    let R = c.rows-rows.result.now in
    let e = c.in_ok-_den.ensures in
    let long : length R ≡ suc (length R - 1) = omega
    (arith, ap length c.rows-rows.ensures, c.requires.nonzero) in
    subst (λ r. IsPartOf F r c.from_vec.result) c.rows-rows.ensures
    (part-of-lowest F (g.K.Ring.lawful c.args.k.now) R c.from_vec.result (length R - 1)
    c.index-rows-rows.result c.in_ok-_den._den c.in_ok-_den.rows.items
    (subst (IsPlane F) (sym c.rows-rows.ensures) c.requires.plane) long c.index-rows-rows.is
    e.lowest e.equal c.from_vec.ensures.value)
