use Rattle.std.proofs.Common.{◌∙◌}
use Rattle.ff_theory.specs.Values.{poly_of}
use Rattle.ff_theory.proofs.Product.{add_mul_comm}
use Rattle.ff_ring.proofs.product.add_product.Goals as goal

pub returns-else-a-b-clause-value : goal.returns-else-a-b-clause-value
returns-else-a-b-clause-value g c =
    let K = g.K.Ring.elements c.args.k.now in
    c.add_product-else-a-b.ensures.value ∙ add_mul_comm K.ring (g.met.K.Ring.laws c.args.k.now)
    (g.met.K.Ring.tests c.args.k.now) (poly_of K c.args.sum.now) (poly_of K c.args.a.now)
    (poly_of K c.args.b.now)
