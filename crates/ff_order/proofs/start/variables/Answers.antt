use Rattle.std.proofs.Common.{[], ◌∷◌, ◌++◌, ◌∙◌, ap}
use Rattle.ff_order.proofs.Variables.{u_value, theta_value}
use Rattle.ff_order.proofs.start.variables.Goals as goal

pub returns-clause-u_is : goal.returns-clause-u_is
returns-clause-u_is g c =
    u_value (g.K.Ring.elements c.args.alg.now.k) (g.K.Ring.lawful c.args.alg.now.k)
    c.args.alg.now.f c.args.alg.now.plane c.args.alg.now.has_y c.args.chart c.zero.result
    c.one.result c.in_ok-x.x c.in_ok-single.field-0.items c.from_vec-u.result
    c.zero.ensures.value c.one.ensures.value c.in_ok-x.ensures.value c.in_ok-single.ensures
    c.from_vec-u.ensures.value

pub returns-clause-theta_is : goal.returns-clause-theta_is
returns-clause-theta_is g c =
    theta_value (g.K.Ring.elements c.args.alg.now.k) (g.K.Ring.lawful c.args.alg.now.k)
    c.args.alg.now.f c.args.alg.now.plane c.args.alg.now.has_y c.args.chart c.in_ok-one.field-0
    _ c.from_vec.result c.in_ok-one.ensures.value
    (c.in_ok-push.ensures.items ∙ ap (λ t. t ++ c.in_ok-one.field-0 ∷ [])
    (c.in_ok-rows.ensures ∙ ap (λ p. p ∷ []) c.zero-2.ensures)) c.from_vec.ensures.value
