use Rattle.ff_theory.specs.Values.{plane_of}
use Rattle.ff_theory.proofs.Results.{ok_map}
use Rattle.ff_charts.specs.Chart.{at_theta}
use Rattle.ff_data.specs.Orders.{chart_of}
use Rattle.ff_order.proofs.Closing.{residue_of_plane}
use Rattle.ff_order.proofs.closure.holds_multiple.Goals as goal

pub holds-requires-clause-shape : goal.holds-requires-clause-shape
holds-requires-clause-shape g c =
    let F = g.K.Ring.elements c.args.alg.now.k in
    let L = g.K.Ring.lawful c.args.alg.now.k in
    let N = plane_of F c.args.a.now in
    let p = residue_of_plane F L c.args.alg.now.f c.args.alg.now.plane c.args.alg.now.has_y
    c.args.chart c.args.rows.now c.requires.rows N c.requires.shape in
    (c.in_ok-residue.ensures.value (at_theta (chart_of L c.args.alg.now.f c.args.chart) N) p).shape

pub returns : goal.returns
returns g c =
    let F = g.K.Ring.elements c.args.alg.now.k in
    let L = g.K.Ring.lawful c.args.alg.now.k in
    let N = plane_of F c.args.a.now in
    let p = residue_of_plane F L c.args.alg.now.f c.args.alg.now.plane c.args.alg.now.has_y
    c.args.chart c.args.rows.now c.requires.rows N c.requires.shape in
    ok_map _ _ c.holds.result
    (λ b h t. (
      plane_of F c.in_ok-residue.residue,
      (
        c.in_ok-residue.ensures.value
            (at_theta (chart_of L c.args.alg.now.f c.args.chart) N) p,
        h.0 t,
      ),
    )) c.holds.ensures
