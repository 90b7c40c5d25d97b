use Rattle.std.proofs.Common.{subst, arith}
use Rattle.ff_theory.specs.Poly.{polynomials}
use Rattle.ff_theory.specs.Lawful.{lawful_field}
use Rattle.ff_theory.specs.Planes.{planes}
use Rattle.ff_theory.specs.Values.{plane_of}
use Rattle.ff_theory.proofs.Results.{ok_map, ok_both}
use Rattle.ff_lattice.specs.Remainder.{IsCongruent}
use Rattle.ff_data.specs.Orders.{y_degree}
use Rattle.ff_data.proofs.NumeratorLemmas.{order_length}
use Rattle.ff_fibre.proofs.Equations.{equation_len, equation_positive, equation_monic, plane_few}
use Rattle.ff_fibre.proofs.products.product_numerator.Goals as goal

pub product-requires : goal.product-requires
product-requires g c =
    let F = g.K.Ring.elements c.args.alg.now.k in
    let L = g.K.Ring.lawful c.args.alg.now.k in
    let f = c.args.alg.now.f in
    let q = c.requires in
    record {
      a = q.a;
      b = q.b;
      by = q.equation;
      nonzero = equation_positive F L f c.args.alg.now.plane c.args.alg.now.has_y
          c.args.order.now.chart c.args.equation.now q.equation q.equation_is;
      monic = equation_monic F L f c.args.alg.now.plane c.args.alg.now.has_y
          c.args.order.now.chart c.args.equation.now q.equation q.equation_is;
    }

pub quotients_by-requires : goal.quotients_by-requires
quotients_by-requires g c =
    let F = g.K.Ring.elements c.args.alg.now.k in
    let L = g.K.Ring.lawful c.args.alg.now.k in
    record {
      a = c.in_ok-square.ensures.plane;
      by = c.requires.order.d;
      nonzero = order_length F L c.args.alg.now.f c.args.alg.now.plane c.args.alg.now.has_y
          c.args.order.now c.requires.order;
    }

pub returns-clause-plane : goal.returns-clause-plane
returns-clause-plane g c =
    let F = g.K.Ring.elements c.args.alg.now.k in
    let L = g.K.Ring.lawful c.args.alg.now.k in
    let q = c.requires in
    let len = equation_len F L c.args.alg.now.f c.args.alg.now.plane c.args.alg.now.has_y
    c.args.order.now.chart c.args.equation.now q.equation q.equation_is in
    ok_both _ _ _ c.quotients_by.result (λ r h k. record {
      plane = h;
      few = omega (arith, k, c.in_ok-square.ensures.smaller, len);
    }) c.quotients_by.ensures.plane c.quotients_by.ensures.len

pub returns-clause-value : goal.returns-clause-value
returns-clause-value g c =
    let F = g.K.Ring.elements c.args.alg.now.k in
    let L = g.K.Ring.lawful c.args.alg.now.k in
    let q = c.requires in
    let square = c.in_ok-square.square in
    let len = equation_len F L c.args.alg.now.f c.args.alg.now.plane c.args.alg.now.has_y
    c.args.order.now.chart c.args.equation.now q.equation q.equation_is in
    ok_map _ _ c.quotients_by.result (λ r h. record {
      square = plane_of F square;
      congruent = subst (λ e. IsCongruent (polynomials F.ring) e
          ((planes (lawful_field L)).mul (plane_of F c.args.a.now) (plane_of F c.args.b.now))
          (plane_of F square)) q.equation_is c.in_ok-square.ensures.value;
      few = plane_few F L (y_degree L c.args.alg.now.f) square
          (omega (arith, c.in_ok-square.ensures.smaller, len));
      quotients = h;
    }) c.quotients_by.ensures.value
