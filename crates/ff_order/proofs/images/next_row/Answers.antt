use Rattle.std.proofs.Common.{◌≡◌, length, refl, ap, subst, arith}
use Rattle.ff_theory.specs.Values.{poly_of, plane_of}
use Rattle.ff_theory.specs.Vector.{vector_of}
use Rattle.ff_theory.proofs.Results.{ok_map}
use Rattle.ff_charts.specs.Lattice.{IsResidue}
use Rattle.ff_data.specs.Orders.{chart_of}
use Rattle.ff_order.specs.Steps.{times_power}
use Rattle.ff_order.proofs.Residues.{modulus_positive}
use Rattle.ff_order.proofs.PowerRows.{vector_run, vector_back, next_shape, next_keeps}
use Rattle.ff_order.proofs.images.next_row.Goals as goal

pub overflow_sub-coeffs : goal.overflow_sub-coeffs
overflow_sub-coeffs g c =
    let top = c.args.top.now in
    let positive = modulus_positive (g.K.Ring.elements c.args.alg.now.k)
    (g.K.Ring.lawful c.args.alg.now.k) c.args.alg.now.f c.args.alg.now.plane
    c.args.alg.now.has_y c.args.chart top c.requires.top c.requires.modulus in
    let same : length c.coeffs.result.now ≡ length top = ap length c.coeffs.ensures in
    omega (arith, positive, same)

pub overflow_sub-coeffs-2 : goal.overflow_sub-coeffs-2
overflow_sub-coeffs-2 g c =
    let same : length c.coeffs-2.result.now ≡ length c.args.top.now =
    ap length c.coeffs-2.ensures in
    let positive = modulus_positive (g.K.Ring.elements c.args.alg.now.k)
    (g.K.Ring.lawful c.args.alg.now.k) c.args.alg.now.f c.args.alg.now.plane
    c.args.alg.now.has_y c.args.chart c.args.top.now c.requires.top c.requires.modulus in
    omega (arith, positive, same)

pub plane_of_vector-requires : goal.plane_of_vector-requires
plane_of_vector-requires g c =
    vector_run (g.K.Ring.elements c.args.alg.now.k) (g.K.Ring.lawful c.args.alg.now.k)
    c.args.alg.now.f c.rows.result.now c.args.top.now c.coeffs.result.now c.args.before.now _
    c.rows.ensures c.coeffs.ensures refl c.requires.before

pub vector_of_plane-requires-clause-shape : goal.vector_of_plane-requires-clause-shape
vector_of_plane-requires-clause-shape g c =
    let F = g.K.Ring.elements c.args.alg.now.k in
    let L = g.K.Ring.lawful c.args.alg.now.k in
    let f = c.args.alg.now.f in
    next_shape F L f c.args.alg.now.plane c.args.alg.now.has_y c.args.chart c.args.top.now
    c.requires.top c.rows.result.now c.coeffs.result.now c.rows.ensures c.coeffs.ensures
    (plane_of F c.in_ok-plane.plane) (plane_of F c.in_ok-product.product)
    c.in_ok-plane.ensures.shape (times_power L f c.args.chart c.args.by.now F.characteristic)
    (λ v h. subst (λ n. IsResidue (chart_of L f c.args.chart) (poly_of F c.args.top.now)
    (times_power L f c.args.chart c.args.by.now n v) (plane_of F c.in_ok-product.product))
    c.characteristic-p.ensures (c.in_ok-product.ensures.value v h))
    c.coeffs-2.result.now c.coeffs-2.ensures

pub returns-clause-vector : goal.returns-clause-vector
returns-clause-vector g c =
    ok_map _ _ c.vector_of_plane.result
    (λ r h. vector_back (g.K.Ring.elements c.args.alg.now.k)
    (g.K.Ring.lawful c.args.alg.now.k) c.args.alg.now.f c.rows.result.now c.args.top.now
    c.coeffs-2.result.now r.items c.rows.ensures c.coeffs-2.ensures h)
    c.vector_of_plane.ensures.vector

pub returns-clause-value : goal.returns-clause-value
returns-clause-value g c =
    let F = g.K.Ring.elements c.args.alg.now.k in
    let L = g.K.Ring.lawful c.args.alg.now.k in
    let f = c.args.alg.now.f in
    ok_map _ _ c.vector_of_plane.result
    (λ r h. next_keeps F L f c.args.alg.now.plane c.args.alg.now.has_y c.args.chart c.args.top.now
    c.requires.top c.rows.result.now c.coeffs.result.now c.rows.ensures c.coeffs.ensures
    (plane_of F c.in_ok-plane.plane) (plane_of F c.in_ok-product.product)
    c.in_ok-plane.ensures.shape (times_power L f c.args.chart c.args.by.now F.characteristic)
    (λ v h. subst (λ n. IsResidue (chart_of L f c.args.chart) (poly_of F c.args.top.now)
    (times_power L f c.args.chart c.args.by.now n v) (plane_of F c.in_ok-product.product))
    c.characteristic-p.ensures (c.in_ok-product.ensures.value v h))
    c.coeffs-2.result.now c.coeffs-2.ensures (vector_of F c.args.before.now) (vector_of F r.items)
    c.in_ok-plane.ensures.value h) c.vector_of_plane.ensures.value
