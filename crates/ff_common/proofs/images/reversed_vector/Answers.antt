use Rattle.std.proofs.Common.{◌*◌, ◌-◌, length, ap, subst, arith}
use Rattle.ff_theory.proofs.Results.{ok_map}
use Rattle.ff_theory.specs.Values.{plane_of}
use Rattle.ff_theory.specs.Vector.{IsVector}
use Rattle.ff_common.proofs.ReversedImages.{reversed_plane}
use Rattle.ff_common.proofs.images.reversed_vector.Goals as goal

pub vector_of_plane-requires-clause-shape : goal.vector_of_plane-requires-clause-shape
vector_of_plane-requires-clause-shape g c =
    let F = g.K.Ring.elements c.args.alg.now.k in
    let L = g.K.Ring.lawful c.args.alg.now.k in
    let e = c.in_ok-reversals.ensures in
    let n = length c.rows.result.now - 1 in
    (reversed_plane F L n c.args.h c.args.rows.now c.in_ok-reversals.field-0.items
    c.from_vec-plane.result c.requires.positive
    (omega (arith, c.requires.rows.few, ap length c.rows.ensures)) e.len e.value
    c.from_vec-plane.ensures.value).shape

pub returns-clause-vector : goal.returns-clause-vector
returns-clause-vector g c =
    let F = g.K.Ring.elements c.args.alg.now.k in
    ok_map _ _ c.vector_of_plane.result
    (λ r h. subst (λ x. IsVector F ((length x - 1) * c.args.h) r.items) c.rows.ensures h)
    c.vector_of_plane.ensures.vector

pub returns-clause-value : goal.returns-clause-value
returns-clause-value g c =
    let F = g.K.Ring.elements c.args.alg.now.k in
    let L = g.K.Ring.lawful c.args.alg.now.k in
    let e = c.in_ok-reversals.ensures in
    let n = length c.rows.result.now - 1 in
    let p = reversed_plane F L n c.args.h c.args.rows.now c.in_ok-reversals.field-0.items
    c.from_vec-plane.result c.requires.positive
    (omega (arith, c.requires.rows.few, ap length c.rows.ensures)) e.len e.value
    c.from_vec-plane.ensures.value in
    ok_map _ _ c.vector_of_plane.result
    (λ r h. record {
      plane = plane_of F c.from_vec-plane.result;
      few = p.few;
      each = p.each;
      image_is = h;
    }) c.vector_of_plane.ensures.value
