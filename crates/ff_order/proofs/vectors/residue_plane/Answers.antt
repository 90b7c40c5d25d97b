use Rattle.std.proofs.Common.{◌≡◌, pred, ◌*◌, length, refl, sym, ◌∙◌, ap, arith}
use Rattle.ff_theory.specs.Values.{plane_of}
use Rattle.ff_charts.specs.Lattice.{flat}
use Rattle.ff_data.specs.Orders.{y_degree}
use Rattle.ff_order.proofs.Lengths.{shape_back, len_is}
use Rattle.ff_order.proofs.PowerRows.{vector_run}
use Rattle.ff_order.proofs.Residues.{modulus_positive}
use Rattle.ff_order.proofs.ResidueVectors.{ok_three}
use Rattle.ff_order.proofs.vectors.residue_plane.Goals as goal

pub overflow_sub-l : goal.overflow_sub-l
overflow_sub-l g c =
    let positive = modulus_positive (g.K.Ring.elements c.args.alg.now.k)
    (g.K.Ring.lawful c.args.alg.now.k) c.args.alg.now.f c.args.alg.now.plane
    c.args.alg.now.has_y c.args.chart c.args.rows.now.d c.requires.rows.d
    c.requires.rows.modulus in
    let same : length c.coeffs.result.now ≡ length c.args.rows.now.d = ap length c.coeffs.ensures in
    omega (arith, positive, same)

pub plane_of_vector-requires : goal.plane_of_vector-requires
plane_of_vector-requires g c =
    let L = g.K.Ring.lawful c.args.alg.now.k in
    vector_run (g.K.Ring.elements c.args.alg.now.k) L c.args.alg.now.f c.rows.result.now
    c.args.rows.now.d c.coeffs.result.now c.args.v.now
    (y_degree L c.args.alg.now.f * pred (length c.args.rows.now.d))
    c.rows.ensures c.coeffs.ensures refl c.requires.v

pub returns : goal.returns
returns g c =
    let F = g.K.Ring.elements c.args.alg.now.k in
    let L = g.K.Ring.lawful c.args.alg.now.k in
    let f = c.args.alg.now.f in
    let hf = c.args.alg.now.plane in
    let two = c.args.alg.now.has_y in
    let d = c.args.rows.now.d in
    let e = len_is F L f hf two c.args.chart d c.coeffs.result.now c.coeffs.ensures
    c.requires.rows.d in
    ok_three _ _ _ _ c.plane_of_vector.result
    (λ r p s h. record {
      plane = p;
      shape = shape_back F L f hf two c.args.chart c.rows.result.now d c.coeffs.result.now
          (plane_of F r) c.rows.ensures c.coeffs.ensures c.requires.rows.d s;
      value = λ j. ap (λ l. flat F.ring l (plane_of F r) j) (sym e) ∙ h j;
    }) c.plane_of_vector.ensures.plane c.plane_of_vector.ensures.shape
    c.plane_of_vector.ensures.value
