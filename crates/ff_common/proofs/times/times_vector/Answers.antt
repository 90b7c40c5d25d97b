use Rattle.std.proofs.Common.{◌+◌, ◌*◌, ◌-◌, ◌≤◌, length, sym, ◌∙◌, ap, subst, arith}
use Rattle.ff_theory.proofs.Results.{ok_map}
use Rattle.ff_theory.specs.Division.{size}
use Rattle.ff_theory.specs.Lawful.{lawful_field}
use Rattle.ff_theory.specs.Values.{poly_of, plane_of}
use Rattle.ff_theory.specs.Vector.{IsVector}
use Rattle.ff_charts.specs.Lattice.{HasShape, flat}
use Rattle.ff_poly.proofs.LongDivision.{poly-size}
use Rattle.ff_data.specs.declared.order.Chart.TheVariants.{Finite}
use Rattle.ff_data.proofs.ChartLaws.{chart_degree}
use Rattle.ff_common.proofs.TimesSpaces.{times_shape}
use Rattle.ff_common.proofs.times.times_vector.Goals as goal

pub plane_of_vector-requires : goal.plane_of_vector-requires
plane_of_vector-requires g c =
    let F = g.K.Ring.elements c.args.alg.now.k in
    subst (λ r. IsVector F ((length r - 1) * c.args.m) c.args.v.now) (sym c.rows.ensures)
    c.requires.vector

pub vector_of_plane-requires-clause-shape : goal.vector_of_plane-requires-clause-shape
vector_of_plane-requires-clause-shape g c =
    let F = g.K.Ring.elements c.args.alg.now.k in
    let L = g.K.Ring.lawful c.args.alg.now.k in
    let factor = c.args.factor.now in
    let len = poly-size F.ring L.laws L.tests F.value factor c.requires.factor.canonical in
    let room : size F.ring (poly_of F factor) + c.args.m ≤ c.args.h + 1 =
    omega (arith, len, c.requires.room) in
    subst (HasShape F.ring _ c.args.h) (sym c.in_ok-product.ensures.value)
    (times_shape (lawful_field L) _ c.args.m c.args.h (poly_of F factor) room
    (plane_of F c.in_ok-plane.plane) c.in_ok-plane.ensures.shape)

pub returns-clause-vector : goal.returns-clause-vector
returns-clause-vector g c =
    let F = g.K.Ring.elements c.args.alg.now.k in
    ok_map _ _ c.vector_of_plane.result
    (λ r h. subst (λ x. IsVector F ((length x - 1) * c.args.h) r.items) c.rows.ensures h)
    c.vector_of_plane.ensures.vector

pub returns-clause-value : goal.returns-clause-value
returns-clause-value g c =
    let F = g.K.Ring.elements c.args.alg.now.k in
    let L = g.K.Ring.lawful c.args.alg.now.k in
    let f = c.args.alg.now.f in
    let p = c.in_ok-plane.ensures in
    let N = plane_of F c.in_ok-plane.plane in
    ok_map _ _ c.vector_of_plane.result
    (λ r h. (
      N,
      (
        subst (λ n. HasShape F.ring n c.args.m N)
            (ap (λ r. length r - 1) c.rows.ensures
            ∙ sym (chart_degree F L f c.args.alg.now.plane c.args.alg.now.has_y Finite)) p.shape,
        (p.value, λ j. h j ∙ ap (λ M. flat F.ring c.args.h M j) c.in_ok-product.ensures.value),
      ),
    ))
    c.vector_of_plane.ensures.value
