use Rattle.std.proofs.Common.{◌*◌, ◌≤◌, length, sym, ◌∙◌, ap, subst, arith}
use Rattle.ff_theory.specs.Lawful.{lawful_field}
use Rattle.ff_theory.specs.Division.{size}
use Rattle.ff_theory.specs.Poly.{polynomials}
use Rattle.ff_theory.specs.Monomial.{monomial}
use Rattle.ff_theory.specs.Values.{poly_of}
use Rattle.ff_theory.specs.Vector.{IsVector}
use Rattle.ff_theory.proofs.Results.{ok_map}
use Rattle.ff_charts.specs.Lattice.{HasShape, flat}
use Rattle.ff_poly.proofs.LongDivision.{poly-size-le}
use Rattle.ff_fibre.proofs.PowerPlanes.{monomial_shape}
use Rattle.ff_fibre.proofs.numerators.power_vector.Goals as goal

pub vector_of_plane-requires : goal.vector_of_plane-requires
vector_of_plane-requires g c =
    let F = g.K.Ring.elements c.args.alg.now.k in
    let L = g.K.Ring.lawful c.args.alg.now.k in
    let d = c.args.order.now.d in
    let l = length c.coeffs.result.now in
    let small : size F.ring (poly_of F d) ≤ length d = poly-size-le F.ring L.laws L.tests F.value d
    in
    record {
      a = c.in_ok-plane.ensures.plane;
      shape = subst (HasShape F.ring c.args.n l) (sym c.in_ok-plane.ensures.value)
          (monomial_shape (lawful_field L) c.args.n l c.args.i (poly_of F d) c.requires.index
          (omega (arith, small, ap length c.coeffs.ensures)));
    }

pub returns-clause-vector : goal.returns-clause-vector
returns-clause-vector g c =
    let F = g.K.Ring.elements c.args.alg.now.k in
    ok_map _ _ c.vector_of_plane.result
    (λ r h. subst (λ x. IsVector F (c.args.n * length x) r.items)
    c.coeffs.ensures h) c.vector_of_plane.ensures.vector

pub returns-clause-value : goal.returns-clause-value
returns-clause-value g c =
    let F = g.K.Ring.elements c.args.alg.now.k in
    let l = length c.coeffs.result.now in
    ok_map _ _ c.vector_of_plane.result (λ r h j. h j
    ∙ ap (λ N. flat F.ring l N j) c.in_ok-plane.ensures.value
    ∙ ap (λ x. flat F.ring (length x) (monomial (polynomials F.ring)
    (poly_of F c.args.order.now.d) c.args.i) j) c.coeffs.ensures) c.vector_of_plane.ensures.value
