use Rattle.std.proofs.Common.{◌≡◌, pred, ◌-◌, length, ◌∙◌, ap, arith}
use Rattle.ff_theory.specs.Values.{plane_of}
use Rattle.ff_theory.proofs.Results.{ok_map}
use Rattle.ff_charts.specs.Lattice.{flat}
use Rattle.ff_order.proofs.Lengths.{shape_run}
use Rattle.ff_order.proofs.PowerRows.{vector_back}
use Rattle.ff_order.proofs.Residues.{modulus_positive}
use Rattle.ff_order.proofs.vectors.residue_vector.Goals as goal

pub overflow_sub-l : goal.overflow_sub-l
overflow_sub-l g c =
    let positive = modulus_positive (g.K.Ring.elements c.args.alg.now.k)
    (g.K.Ring.lawful c.args.alg.now.k) c.args.alg.now.f c.args.alg.now.plane
    c.args.alg.now.has_y c.args.chart c.args.rows.now.d c.requires.rows.d
    c.requires.rows.modulus in
    let same : length c.coeffs.result.now ≡ length c.args.rows.now.d = ap length c.coeffs.ensures in
    omega (arith, positive, same)

pub vector_of_plane-requires-clause-shape : goal.vector_of_plane-requires-clause-shape
vector_of_plane-requires-clause-shape g c =
    shape_run (g.K.Ring.elements c.args.alg.now.k) (g.K.Ring.lawful c.args.alg.now.k)
    c.args.alg.now.f c.args.alg.now.plane c.args.alg.now.has_y c.args.chart
    c.rows.result.now c.args.rows.now.d c.coeffs.result.now
    (plane_of (g.K.Ring.elements c.args.alg.now.k) c.args.residue.now) c.rows.ensures
    c.coeffs.ensures c.requires.rows.d c.requires.shape

pub returns-clause-vector : goal.returns-clause-vector
returns-clause-vector g c =
    ok_map _ _ c.vector_of_plane.result
    (λ r h. vector_back (g.K.Ring.elements c.args.alg.now.k) (g.K.Ring.lawful c.args.alg.now.k)
    c.args.alg.now.f c.rows.result.now c.args.rows.now.d c.coeffs.result.now r.items
    c.rows.ensures c.coeffs.ensures h) c.vector_of_plane.ensures.vector

pub returns-clause-value : goal.returns-clause-value
returns-clause-value g c =
    let F = g.K.Ring.elements c.args.alg.now.k in
    let N = plane_of F c.args.residue.now in
    let e : length c.coeffs.result.now - 1 ≡ pred (length c.args.rows.now.d) =
    let s : length c.coeffs.result.now ≡ length c.args.rows.now.d = ap length c.coeffs.ensures in
    omega (arith, s) in
    ok_map _ _ c.vector_of_plane.result
    (λ r h j. h j ∙ ap (λ l. flat F.ring l N j) e) c.vector_of_plane.ensures.value
