use Rattle.std.proofs.Common.{sym, subst}
use Rattle.ff_theory.proofs.Results.{ok_map}
use Rattle.ff_theory.specs.Values.{plane_of}
use Rattle.ff_common.specs.Common.{IsOver}
use Rattle.ff_common.proofs.ThetaRows.{element_over}
use Rattle.ff_common.proofs.numerators.element.Goals as goal

pub returns-clause-value : goal.returns-clause-value
returns-clause-value g c =
    let F = g.K.Ring.elements c.args.alg.now.k in
    let L = g.K.Ring.lawful c.args.alg.now.k in
    let f = c.args.alg.now.f in
    ok_map _ _ c.from_parts.result
    (λ r h. subst (IsOver L f c.args.den.now (plane_of F c.args.rows.now)) (sym h)
    (element_over F L f c.args.alg.now.plane c.args.alg.now.has_y c.args.rows.now
    c.in_ok-rows_in_y.field-0.items c.from_vec-num.result c.args.den.now c.requires.den
    c.requires.nonzero c.requires.few c.in_ok-rows_in_y.ensures.len
    c.in_ok-rows_in_y.ensures.value c.from_vec-num.ensures.value))
    c.from_parts.ensures.value
