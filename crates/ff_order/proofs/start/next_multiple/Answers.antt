use Rattle.ff_theory.specs.Vector.{vector_of}
use Rattle.ff_theory.specs.Values.{plane_of}
use Rattle.ff_theory.proofs.Results.{ok_map}
use Rattle.ff_charts.specs.Chart.{at_theta}
use Rattle.ff_elem.specs.Elem.{algebra_in}
use Rattle.ff_data.specs.Orders.{chart_of}
use Rattle.ff_order.proofs.Closing.{residue_of_plane}
use Rattle.ff_order.proofs.Multiples.{keeps_row}
use Rattle.ff_order.proofs.start.next_multiple.Goals as goal

pub residue_vector-requires-clause-shape : goal.residue_vector-requires-clause-shape
residue_vector-requires-clause-shape g c =
    let F = g.K.Ring.elements c.args.alg.now.k in
    let L = g.K.Ring.lawful c.args.alg.now.k in
    let f = c.args.alg.now.f in
    let N = plane_of F c.in_ok-plane.plane in
    (c.in_ok-product.ensures.value (at_theta (chart_of L f c.args.chart) N)
    (residue_of_plane F L f c.args.alg.now.plane c.args.alg.now.has_y c.args.chart
    c.args.rows.now c.requires.rows N c.in_ok-plane.ensures.shape)).shape

pub returns-clause-value : goal.returns-clause-value
returns-clause-value g c =
    let F = g.K.Ring.elements c.args.alg.now.k in
    let L = g.K.Ring.lawful c.args.alg.now.k in
    let f = c.args.alg.now.f in
    let b = at_theta (chart_of L f c.args.chart) (plane_of F c.args.by.now) in
    ok_map _ _ c.residue_vector.result
    (λ r h. keeps_row F L f c.args.alg.now.plane c.args.alg.now.has_y c.args.chart
    c.args.rows.now c.requires.rows c.in_ok-plane.plane c.in_ok-product.product
    (vector_of F c.args.before.now) (vector_of F r.items) (λ w. (algebra_in L f).mul w b)
    c.in_ok-plane.ensures c.in_ok-product.ensures.value h) c.residue_vector.ensures.value
