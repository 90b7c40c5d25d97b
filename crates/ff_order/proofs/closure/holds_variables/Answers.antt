use Rattle.std.proofs.Common.{length, subst}
use Rattle.ff_theory.proofs.Results.{ok_map}
use Rattle.ff_order.specs.Closing.{HasMultiples}
use Rattle.ff_order.proofs.closure.holds_variables.Goals as goal

pub returns-clause-u : goal.returns-clause-u
returns-clause-u g c =
    let planes = c.args.planes.now in
    ok_map _ _ c.holds_multiples-2.result
    (λ b h t. subst (HasMultiples (g.K.Ring.lawful c.args.alg.now.k) c.args.alg.now.f c.args.chart
    c.args.rows.now.d c.args.space.now planes (length planes)) c.in_ok-u.ensures.u_is
    (c.in_ok-holds_multiples.ensures c.if-not-branch.false)) c.holds_multiples-2.ensures

pub returns-clause-theta : goal.returns-clause-theta
returns-clause-theta g c =
    let planes = c.args.planes.now in
    ok_map _ _ c.holds_multiples-2.result
    (λ b h t. subst (HasMultiples (g.K.Ring.lawful c.args.alg.now.k) c.args.alg.now.f c.args.chart
    c.args.rows.now.d c.args.space.now planes (length planes)) c.in_ok-u.ensures.theta_is
    (h t)) c.holds_multiples-2.ensures
