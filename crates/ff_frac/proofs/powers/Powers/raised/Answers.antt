use Rattle.std.proofs.Common.{subst, arith}
use Rattle.ff_theory.proofs.Results.{ok_map}
use Rattle.ff_theory.specs.Poly.{polynomials}
use Rattle.ff_theory.specs.Values.{plane_of}
use Rattle.ff_lattice.specs.Remainder.{IsCongruent}
use Rattle.ff_data.specs.Orders.{y_degree}
use Rattle.ff_data.proofs.NumeratorLemmas.{order_length}
use Rattle.ff_frac.proofs.FractionLemmas.{equation_length, equation_positive, equation_monic}
use Rattle.ff_frac.proofs.FractionLemmas.{listed_size}
use Rattle.ff_frac.proofs.powers.Powers.raised.Goals as goal

pub product-requires-clause-nonzero : goal.product-requires-clause-nonzero
product-requires-clause-nonzero g c =
    let F = g.K.Ring.elements c.args.alg.now.k in
    let L = g.K.Ring.lawful c.args.alg.now.k in
    let h = c.requires.form in
    equation_positive F L c.args.alg.now.f c.args.alg.now.plane c.args.alg.now.has_y
    c.args.order.now.chart c.args.self.now.equation h.equation h.equation_is

pub product-requires-clause-monic : goal.product-requires-clause-monic
product-requires-clause-monic g c =
    let F = g.K.Ring.elements c.args.alg.now.k in
    let L = g.K.Ring.lawful c.args.alg.now.k in
    let h = c.requires.form in
    equation_monic F L c.args.alg.now.f c.args.alg.now.plane c.args.alg.now.has_y
    c.args.order.now.chart c.args.self.now.equation h.equation h.equation_is

pub quotients_by-requires-clause-nonzero : goal.quotients_by-requires-clause-nonzero
quotients_by-requires-clause-nonzero g c =
    let F = g.K.Ring.elements c.args.alg.now.k in
    let L = g.K.Ring.lawful c.args.alg.now.k in
    order_length F L c.args.alg.now.f c.args.alg.now.plane c.args.alg.now.has_y
    c.args.order.now c.requires.order

pub returns-clause-few : goal.returns-clause-few
returns-clause-few g c =
    let F = g.K.Ring.elements c.args.alg.now.k in
    let L = g.K.Ring.lawful c.args.alg.now.k in
    let h = c.requires.form in
    let e = equation_length F L c.args.alg.now.f c.args.alg.now.plane c.args.alg.now.has_y
    c.args.order.now.chart c.args.self.now.equation h.equation h.equation_is in
    ok_map _ _ c.quotients_by.result
    (λ r l. omega (arith, l, c.in_ok-product.ensures.smaller, e)) c.quotients_by.ensures.len

pub returns-clause-value : goal.returns-clause-value
returns-clause-value g c =
    let F = g.K.Ring.elements c.args.alg.now.k in
    let L = g.K.Ring.lawful c.args.alg.now.k in
    let h = c.requires.form in
    let product = c.in_ok-product.product in
    let e = equation_length F L c.args.alg.now.f c.args.alg.now.plane c.args.alg.now.has_y
    c.args.order.now.chart c.args.self.now.equation h.equation h.equation_is in
    ok_map _ _ c.quotients_by.result (λ r q. record {
      square = plane_of F product;
      congruent = subst (λ t. IsCongruent (polynomials F.ring) t
          ((polynomials (polynomials F.ring)).mul (plane_of F c.args.self.now.power)
          (plane_of F c.args.self.now.multiplier)) (plane_of F product))
          h.equation_is c.in_ok-product.ensures.value;
      few = listed_size F L product (y_degree L c.args.alg.now.f)
          (omega (arith, c.in_ok-product.ensures.smaller, e));
      quotients = q;
    }) c.quotients_by.ensures.value
