use Rattle.std.proofs.Common.{◌∙◌, ap}
use Rattle.ff_theory.specs.Poly.{polynomials}
use Rattle.ff_theory.specs.Values.{poly_of}
use Rattle.ff_poly.proofs.poly.add_combination.Goals as goal

pub returns-clause-value : goal.returns-clause-value
returns-clause-value g c =
    let K = g.K.Ring.elements c.args.k.now in
    c.add_product-2.ensures.value ∙ ap (λ s. (polynomials K.ring).add s
    ((polynomials K.ring).mul (poly_of K c.args.t.now) (poly_of K c.args.b.now)))
    c.add_product.ensures.value
