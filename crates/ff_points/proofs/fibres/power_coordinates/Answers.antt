use Rattle.std.proofs.Common.{subst, arith}
use Rattle.ff_theory.specs.Poly.{polynomials}
use Rattle.ff_theory.specs.Monomial.{monomial}
use Rattle.ff_theory.specs.Values.{poly_of, plane_of}
use Rattle.ff_theory.proofs.Results.{ok_map}
use Rattle.ff_lattice.specs.Remainder.{IsCongruent}
use Rattle.ff_fibre.proofs.Equations.{equation_len, equation_positive, equation_monic}
use Rattle.ff_points.proofs.fibres.power_coordinates.Goals as goal

pub remainder-requires : goal.remainder-requires
remainder-requires g c =
    let F = g.K.Ring.elements c.args.alg.now.k in
    let L = g.K.Ring.lawful c.args.alg.now.k in
    let f = c.args.alg.now.f in
    let q = c.requires in
    record {
      a = c.in_ok-power.ensures.plane;
      by = q.equation;
      nonzero = equation_positive F L f c.args.alg.now.plane c.args.alg.now.has_y
          c.args.order.now.chart c.args.equation.now q.equation q.equation_is;
      monic = equation_monic F L f c.args.alg.now.plane c.args.alg.now.has_y
          c.args.order.now.chart c.args.equation.now q.equation q.equation_is;
    }

pub coordinates-requires : goal.coordinates-requires
coordinates-requires g c =
    let F = g.K.Ring.elements c.args.alg.now.k in
    let L = g.K.Ring.lawful c.args.alg.now.k in
    let q = c.requires in
    record {
      fibre = q.fibre;
      plane = c.in_ok-plane.ensures.plane;
      few = omega (
        arith,
        c.in_ok-plane.ensures.smaller,
        equation_len F L c.args.alg.now.f
            c.args.alg.now.plane c.args.alg.now.has_y c.args.order.now.chart c.args.equation.now
            q.equation q.equation_is,
      );
    }

pub returns-clause-value : goal.returns-clause-value
returns-clause-value g c =
    let F = g.K.Ring.elements c.args.alg.now.k in
    let P = polynomials F.ring in
    let N = plane_of F c.in_ok-plane.plane in
    ok_map _ _ c.coordinates.result (λ r h. (
      N,
      (
        subst (λ e. IsCongruent P e (monomial P (poly_of F c.args.order.now.d) c.args.i) N)
            c.requires.equation_is (subst (λ p. IsCongruent P (plane_of F c.args.equation.now) p N)
            c.in_ok-power.ensures.value c.in_ok-plane.ensures.value),
        h,
      ),
    )) c.coordinates.ensures.value
