use Rattle.std.proofs.Common.{arith}
use Rattle.ff_theory.specs.Values.{plane_of}
use Rattle.ff_theory.proofs.Results.{ok_map}
use Rattle.ff_elem.proofs.Reduction.{plane-size}
use Rattle.ff_points.proofs.fibres.vector_coordinates.Goals as goal

pub basis_numerator-requires : goal.basis_numerator-requires
basis_numerator-requires g c = record { order = c.requires.order; vector = c.requires.vector }

pub coordinates-requires : goal.coordinates-requires
coordinates-requires g c =
    let F = g.K.Ring.elements c.args.alg.now.k in
    let L = g.K.Ring.lawful c.args.alg.now.k in
    let k = c.in_ok-plane.ensures in
    record {
      fibre = c.requires.fibre;
      plane = k.plane;
      few = omega (arith, k.value.shape.rows, plane-size F L c.in_ok-plane.plane k.plane);
    }

pub returns-clause-value : goal.returns-clause-value
returns-clause-value g c =
    let F = g.K.Ring.elements c.args.alg.now.k in
    let k = c.in_ok-plane.ensures.value in
    ok_map _ _ c.coordinates.result (λ r h. record {
      plane = plane_of F c.in_ok-plane.plane;
      shape = k.shape;
      vector = k.value;
      coordinates = h;
    }) c.coordinates.ensures.value
