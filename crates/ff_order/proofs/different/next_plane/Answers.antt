use Rattle.ff_order.proofs.ResidueVectors.{ok_three}
use Rattle.ff_order.proofs.TestPlanes.{next_test}
use Rattle.ff_order.proofs.different.next_plane.Goals as goal

pub returns : goal.returns
returns g c =
    ok_three _ _ _ _ c.times_power.result
    (λ r p s h. next_test (g.K.Ring.elements c.args.alg.now.k) (g.K.Ring.lawful c.args.alg.now.k)
    c.args.alg.now.f c.args.alg.now.plane c.args.alg.now.has_y c.args.chart c.args.i
    c.characteristic.result c.args.a.now c.args.theta.now r c.requires.a c.requires.theta_is
    c.characteristic.ensures p s h) c.times_power.ensures.plane c.times_power.ensures.few
    c.times_power.ensures.value
