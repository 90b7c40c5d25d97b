use Rattle.std.proofs.Common.{length, sym, ◌∙◌, subst, ◌<◌}
use Rattle.ff_elem.proofs.Inverses.{positive}
use Rattle.ff_sep.proofs.Derivatives.{derivative-some}
use Rattle.ff_sep.proofs.separability.separate.Goals as goal

pub sep_or_square-requires-clause-nonzero : goal.sep_or_square-requires-clause-nonzero
sep_or_square-requires-clause-nonzero g c =
    let d = c.in_ok-derivative.ensures in
    derivative-some (g.K.Ring.elements c.args.alg.now.k) (g.K.Ring.lawful c.args.alg.now.k)
    c.args.alg.now.f c.args.alg.now.plane c.args.alg.now.has_y c.in_ok-derivative.derivative
    d.plane d.value (subst (λ r. 0 < length r) c.rows.ensures
    (positive (length c.rows.result.now) (sym c.is_empty.ensures ∙ c.if-is_empty.false)))
