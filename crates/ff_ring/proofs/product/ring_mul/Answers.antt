use Rattle.std.proofs.Common.{◌≡◌, suc, ◌∙◌, ap, arith}
use Rattle.ff_theory.specs.Values.{poly_of}
use Rattle.ff_ring.proofs.EntryLemmas.{entry-read}
use Rattle.ff_ring.proofs.ProductLemmas.{product-more}
use Rattle.ff_ring.proofs.product.ring_mul.Goals as goal

pub loop-i-preserved : goal.loop-i-preserved
loop-i-preserved g c =
    let F = g.K.Ring.elements c.args.k.now in
    let L = g.K.Ring.lawful c.args.k.now in
    let a = c.args.a.now in
    let i = c.loop-i.i in
    product-more F L c.args.s.now a c.args.b.now c.loop-i.sum.items c.in_ok-sum-2.sum.items i _
    (omega arith) (poly_of F c.index-a-i.result)
    (ap (poly_of F) c.index-a-i.is ∙ entry-read F a i c.index-a-i.result
    (omega (arith, c.loop-i-test.true))) c.loop-i.invariant c.in_ok-sum-2.ensures
