use Rattle.std.proofs.Common.{◌≡◌, length, refl, ap, arith}
use Rattle.ff_theory.specs.Values.{plane_of}
use Rattle.ff_theory.specs.Vector.{vector_of}
use Rattle.ff_theory.proofs.Results.{ok_map}
use Rattle.ff_order.proofs.Residues.{modulus_positive}
use Rattle.ff_order.proofs.PowerRows.{vector_run, vector_back}
use Rattle.ff_order.proofs.ScaledRows.{top_positive, scaled_run, scaled_row_is}
use Rattle.ff_order.proofs.turn.scaled_row.Goals as goal

pub overflow_sub-coeffs : goal.overflow_sub-coeffs
overflow_sub-coeffs g c =
    let positive = modulus_positive (g.K.Ring.elements c.args.alg.now.k)
    (g.K.Ring.lawful c.args.alg.now.k) c.args.alg.now.f c.args.alg.now.plane
    c.args.alg.now.has_y c.args.chart c.args.rows.now.d c.requires.rows.d
    c.requires.rows.modulus in
    let same : length c.coeffs.result.now ≡ length c.args.rows.now.d = ap length c.coeffs.ensures in
    omega (arith, positive, same)

pub overflow_sub-coeffs-2 : goal.overflow_sub-coeffs-2
overflow_sub-coeffs-2 g c =
    let positive = top_positive (g.K.Ring.elements c.args.alg.now.k)
    (g.K.Ring.lawful c.args.alg.now.k) c.args.alg.now.f c.args.alg.now.plane
    c.args.alg.now.has_y c.args.chart c.args.rows.now c.requires.rows c.args.powers.now
    c.requires.powers in
    let same : length c.coeffs-2.result.now ≡ length c.args.powers.now.top =
    ap length c.coeffs-2.ensures in omega (arith, positive, same)

pub plane_of_vector-requires : goal.plane_of_vector-requires
plane_of_vector-requires g c =
    vector_run (g.K.Ring.elements c.args.alg.now.k) (g.K.Ring.lawful c.args.alg.now.k)
    c.args.alg.now.f c.rows.result.now c.args.rows.now.d c.coeffs.result.now c.args.v.now _
    c.rows.ensures c.coeffs.ensures refl c.requires.vector

pub vector_of_plane-requires-clause-shape : goal.vector_of_plane-requires-clause-shape
vector_of_plane-requires-clause-shape g c =
    let F = g.K.Ring.elements c.args.alg.now.k in
    scaled_run F (g.K.Ring.lawful c.args.alg.now.k) c.args.alg.now.f c.args.alg.now.plane
    c.args.alg.now.has_y c.args.chart c.args.rows.now c.requires.rows c.args.powers.now
    c.requires.powers c.rows.result.now c.coeffs.result.now c.coeffs-2.result.now
    (plane_of F c.in_ok-plane.plane) (plane_of F c.in_ok-scaled.scaled) c.rows.ensures
    c.coeffs.ensures c.coeffs-2.ensures c.in_ok-plane.ensures.shape c.in_ok-scaled.ensures.value

pub returns-clause-vector : goal.returns-clause-vector
returns-clause-vector g c =
    ok_map _ _ c.vector_of_plane.result
    (λ r h. vector_back (g.K.Ring.elements c.args.alg.now.k)
    (g.K.Ring.lawful c.args.alg.now.k) c.args.alg.now.f c.rows.result.now c.args.powers.now.top
    c.coeffs-2.result.now r.items c.rows.ensures c.coeffs-2.ensures h)
    c.vector_of_plane.ensures.vector

pub returns-clause-value : goal.returns-clause-value
returns-clause-value g c =
    let F = g.K.Ring.elements c.args.alg.now.k in
    ok_map _ _ c.vector_of_plane.result
    (λ r h. scaled_row_is F (g.K.Ring.lawful c.args.alg.now.k) c.args.alg.now.f
    c.args.alg.now.plane c.args.alg.now.has_y c.args.chart c.args.rows.now c.requires.rows
    c.args.powers.now c.requires.powers c.rows.result.now c.coeffs.result.now
    c.coeffs-2.result.now (plane_of F c.in_ok-plane.plane) (plane_of F c.in_ok-scaled.scaled)
    (vector_of F c.args.v.now) (vector_of F r.items) c.rows.ensures c.coeffs.ensures
    c.coeffs-2.ensures c.in_ok-plane.ensures.shape c.in_ok-plane.ensures.value
    c.in_ok-scaled.ensures.value h) c.vector_of_plane.ensures.value
