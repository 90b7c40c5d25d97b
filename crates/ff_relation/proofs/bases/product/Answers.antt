use Rattle.ff_relation.proofs.BaseLemmas.{product-element}
use Rattle.ff_relation.proofs.bases.product.Goals as goal

pub returns-clause-exact : goal.returns-clause-exact
returns-clause-exact g c =
    let F = g.K.Ring.elements c.args.k.now in
    let L = g.K.Ring.lawful c.args.k.now in
    product-element F L c.args.s.now c.args.a.now c.args.b.now c.in_ok-ring_mul.field-0.items
    c.requires.table.weights c.in_ok-ring_mul.ensures
