use Rattle.std.proofs.Common.{◌≡◌, ◌*◌, ◌-◌, pred, length, sym, ◌∙◌, ap, ap₂, subst, arith}
use Rattle.ff_theory.specs.Values.{plane_of}
use Rattle.ff_theory.specs.Vector.{IsVector}
use Rattle.ff_theory.proofs.Results.{ok_map}
use Rattle.ff_charts.specs.Lattice.{HasShape, flat}
use Rattle.ff_fibre.proofs.PowerPlanes.{shape_wider}
use Rattle.ff_fibre.proofs.numerators.widened.Goals as goal

pub vector_of_plane-requires : goal.vector_of_plane-requires
vector_of_plane-requires g c =
    let F = g.K.Ring.elements c.args.alg.now.k in
    let N = plane_of F c.in_ok-plane.plane in
    let l = length c.coeffs.result.now in
    let rows : length c.args.alg.now.f - 1 ≡ length c.rows.result.now - 1 =
    ap (λ x. length x - 1) (sym c.rows.ensures) in
    record {
      a = c.in_ok-plane.ensures.plane;
      shape = subst (λ n. HasShape F.ring n l N) rows (shape_wider F.ring
          (length c.args.alg.now.f - 1) (pred (length c.args.order.now.d)) l N
          (omega (arith, ap length c.coeffs.ensures)) c.in_ok-plane.ensures.value.shape);
    }

pub returns-clause-vector : goal.returns-clause-vector
returns-clause-vector g c =
    let F = g.K.Ring.elements c.args.alg.now.k in
    let rows : length c.rows.result.now - 1 ≡ length c.args.alg.now.f - 1 =
    ap (λ x. length x - 1) c.rows.ensures in
    ok_map _ _ c.vector_of_plane.result (λ r h. subst (λ n. IsVector F n r.items)
    (ap₂ (λ a b. a * b) rows (ap length c.coeffs.ensures)) h) c.vector_of_plane.ensures.vector

pub returns-clause-value : goal.returns-clause-value
returns-clause-value g c =
    let F = g.K.Ring.elements c.args.alg.now.k in
    let N = plane_of F c.in_ok-plane.plane in
    let k = c.in_ok-plane.ensures.value in
    ok_map _ _ c.vector_of_plane.result (λ r h. record {
      plane = N;
      shape = k.shape;
      old = k.value;
      new = λ j. h j ∙ ap (λ x. flat F.ring (length x) N j) c.coeffs.ensures;
    }) c.vector_of_plane.ensures.value
