use Rattle.ff_theory.proofs.Results.{ok_both}
use Rattle.ff_order.proofs.TestPlanes.{first_test}
use Rattle.ff_order.proofs.different.first_plane.Goals as goal

pub returns : goal.returns
returns g c =
    ok_both _ _ _ c.dy.result
    (λ r p h. first_test (g.K.Ring.elements c.args.alg.now.k) (g.K.Ring.lawful c.args.alg.now.k)
    c.args.alg.now.f c.args.alg.now.plane c.args.alg.now.has_y c.args.chart c.args.rows.now
    c.requires r p h) c.dy.ensures.plane c.dy.ensures.value
