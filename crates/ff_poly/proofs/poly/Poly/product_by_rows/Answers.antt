use Rattle.std.proofs.Common.{◌∙◌, ap, length}
use Rattle.ff_theory.specs.Values.{poly_of}
use Rattle.ff_poly.proofs.Refill.{refill-whole}
use Rattle.ff_theory.proofs.Product.{add_to_zeros}
use Rattle.ff_poly.proofs.poly.Poly.product_by_rows.Goals as goal

pub returns-clause-value : goal.returns-clause-value
returns-clause-value g c =
    let K = g.K.Ring.elements c.args.k.now in
    c.trim.ensures.value ∙ ap (poly_of K)
    (refill-whole c.in_ok-product.product.items c.add_product.new.sum
    (c.add_product.ensures.len ∙ ap length c.as_mut_slice.ensures.value))
    ∙ c.add_product.ensures.value
    ∙ add_to_zeros K.ring (g.met.K.Ring.laws c.args.k.now) (g.met.K.Ring.tests c.args.k.now)
    (poly_of K c.as_mut_slice.result.now) (poly_of K c.args.a.now) (poly_of K c.args.b.now)
    (ap (poly_of K) c.as_mut_slice.ensures.value ∙ c.in_ok-product.ensures.value)
