use Rattle.ff_order.proofs.Closing.{closed_exact}
use Rattle.ff_order.proofs.LastSpace.{start_holds}
use Rattle.ff_order.proofs.descent.integral_space.Goals as goal

pub narrow-requires-clause-holds : goal.narrow-requires-clause-holds
narrow-requires-clause-holds g c =
    start_holds (g.K.Ring.elements c.args.alg.now.k) (g.K.Ring.lawful c.args.alg.now.k)
    c.args.alg.now.f c.args.alg.now.plane c.args.alg.now.has_y c.args.chart c.args.rows.now
    c.requires c.in_ok-first.first c.in_ok-first.ensures.exact

pub returns-then-closed-clause-exact : goal.returns-then-closed-clause-exact
returns-then-closed-clause-exact g c =
    closed_exact (g.K.Ring.elements c.args.alg.now.k) (g.K.Ring.lawful c.args.alg.now.k)
    c.args.alg.now.f c.args.alg.now.plane c.args.alg.now.has_y c.args.chart c.args.rows.now
    c.requires c.in_ok-space.space c.in_ok-space.ensures.holds
    (c.in_ok-space.ensures.closed c.if-closed.true)
