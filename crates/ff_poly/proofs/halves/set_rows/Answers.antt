use Rattle.std.proofs.Common.{◌∙◌, ap, length}
use Rattle.ff_theory.specs.Values.{poly_of}
use Rattle.ff_theory.proofs.Product.{add_to_zeros}
use Rattle.ff_poly.proofs.ListHalves.{replicate-zero}
use Rattle.ff_poly.proofs.halves.set_rows.Goals as goal

pub returns-clause-value : goal.returns-clause-value
returns-clause-value g c =
    let K = g.K.Ring.elements c.args.k.now in
    let laws = g.met.K.Ring.laws c.args.k.now in
    let tests = g.met.K.Ring.tests c.args.k.now in
    c.add_product.ensures.value ∙ add_to_zeros K.ring laws tests (poly_of K c.fill.new.self)
    (poly_of K c.args.a.now) (poly_of K c.args.b.now)
    (ap (poly_of K) (c.fill.ensures.after (λ y e. e))
    ∙ replicate-zero K.ring laws tests K.value (length c.args.out.now) c.zero.result
    c.zero.ensures.value)
