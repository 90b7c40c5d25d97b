use Rattle.std.proofs.Common.{ap}
use Rattle.ff_elem.specs.Elem.{elem_of, algebra_in}
use Rattle.ff_data.proofs.HornerLemmas.{elem-is}
use Rattle.ff_data.proofs.ring.plus_product.Goals as goal

pub returns : goal.returns
returns g c =
    let K = g.K.Ring.elements c.args.alg.now.k in
    let L = g.K.Ring.lawful c.args.alg.now.k in
    let f = c.args.alg.now.f in
    let A = algebra_in L f in
    let a = elem_of L f c.args.a.now in
    let b = elem_of L f c.args.b.now in
    let d = elem_of L f c.args.c.now in
    elem-is K L f c.add.result (A.add a (elem_of L f c.in_ok-product.product))
    (A.add a (A.mul b d)) c.add.ensures.element c.add.ensures.value
    (ap (A.add a) c.in_ok-product.ensures.value)
