use Rattle.std.proofs.Common.{◌∙◌, sym, ap, subst, arith, length, get_or}
use Rattle.ff_data.specs.Points.{IsPoint}
use Rattle.ff_data.proofs.LocalMaximal.{maximal_closed}
use Rattle.ff_tests.proofs.values.value_at.Goals as goal

pub value-requires-clause-point : goal.value-requires-clause-point
value-requires-clause-point c =
    let a = c.args.a.now in
    let o = c.args.order.now in
    let p = c.index.result.now in
    let all = c.in_ok-list.ensures.sound
    (maximal_closed _ _ a.f a.plane a.has_y o c.requires.order) in
    subst (IsPoint _ a.f o) (sym (c.index.ensures ∙ ap (λ l. get_or l c.args.i p) c.list.view_is))
    (all c.args.i p (omega (arith, c.if-i-len.true, c.len.ensures, ap length c.list.view_is)))
