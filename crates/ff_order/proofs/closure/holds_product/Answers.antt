use Rattle.ff_theory.specs.Values.{plane_of}
use Rattle.ff_theory.proofs.Results.{ok_map}
use Rattle.ff_charts.specs.Chart.{at_theta}
use Rattle.ff_data.specs.Orders.{chart_of}
use Rattle.ff_order.proofs.Closing.{quotient_of}
use Rattle.ff_order.proofs.Residues.{equation_positive, equation_monic, modulus_positive}
use Rattle.ff_order.proofs.closure.holds_product.Goals as goal

pub product-requires-clause-nonzero : goal.product-requires-clause-nonzero
product-requires-clause-nonzero g c =
    equation_positive (g.K.Ring.elements c.args.alg.now.k) (g.K.Ring.lawful c.args.alg.now.k)
    c.args.alg.now.f c.args.alg.now.plane c.args.alg.now.has_y c.args.chart c.args.rows.now
    c.requires.rows

pub product-requires-clause-monic : goal.product-requires-clause-monic
product-requires-clause-monic g c =
    equation_monic (g.K.Ring.elements c.args.alg.now.k) (g.K.Ring.lawful c.args.alg.now.k)
    c.args.alg.now.f c.args.alg.now.plane c.args.alg.now.has_y c.args.chart c.args.rows.now
    c.requires.rows

pub quotient-requires-clause-nonzero : goal.quotient-requires-clause-nonzero
quotient-requires-clause-nonzero g c =
    modulus_positive (g.K.Ring.elements c.args.alg.now.k) (g.K.Ring.lawful c.args.alg.now.k)
    c.args.alg.now.f c.args.alg.now.plane c.args.alg.now.has_y c.args.chart c.args.rows.now.d
    c.requires.rows.d c.requires.rows.modulus

pub residues-requires-clause-nonzero : goal.residues-requires-clause-nonzero
residues-requires-clause-nonzero g c =
    modulus_positive (g.K.Ring.elements c.args.alg.now.k) (g.K.Ring.lawful c.args.alg.now.k)
    c.args.alg.now.f c.args.alg.now.plane c.args.alg.now.has_y c.args.chart c.args.rows.now.d
    c.requires.rows.d c.requires.rows.modulus

pub holds-requires-clause-shape : goal.holds-requires-clause-shape
holds-requires-clause-shape g c =
    let few = rw c.in-Some.is at c.in_ok-q.ensures.rows in
    let multiple = rw c.in-Some.is at c.in_ok-q.ensures.value in
    (quotient_of (g.K.Ring.elements c.args.alg.now.k) (g.K.Ring.lawful c.args.alg.now.k)
    c.args.alg.now.f c.args.alg.now.plane c.args.alg.now.has_y c.args.chart c.args.rows.now
    c.requires.rows c.args.a.now c.args.b.now c.in_ok-product.product c.in-Some.q
    c.in_ok-residue-in-Some.residue c.in_ok-product.ensures.value c.in_ok-product.ensures.smaller
    few multiple c.in_ok-residue-in-Some.ensures.value).1.shape

pub returns-in-Some : goal.returns-in-Some
returns-in-Some g c =
    let F = g.K.Ring.elements c.args.alg.now.k in
    let L = g.K.Ring.lawful c.args.alg.now.k in
    let f = c.args.alg.now.f in
    let few = rw c.in-Some.is at c.in_ok-q.ensures.rows in
    let multiple = rw c.in-Some.is at c.in_ok-q.ensures.value in
    let e = quotient_of F L f c.args.alg.now.plane c.args.alg.now.has_y c.args.chart
    c.args.rows.now c.requires.rows c.args.a.now c.args.b.now c.in_ok-product.product c.in-Some.q
    c.in_ok-residue-in-Some.residue c.in_ok-product.ensures.value c.in_ok-product.ensures.smaller
    few multiple c.in_ok-residue-in-Some.ensures.value in
    ok_map _ _ c.holds.result
    (λ b h t. (
      at_theta (chart_of L f c.args.chart) (plane_of F c.in-Some.q),
      (e.0, (plane_of F c.in_ok-residue-in-Some.residue, (e.1, h.0 t))),
    )) c.holds.ensures
