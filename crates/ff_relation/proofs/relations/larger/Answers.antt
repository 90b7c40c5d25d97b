use Rattle.ff_relation.proofs.Monic.{monic-mul}
use Rattle.ff_relation.proofs.RelationLemmas.{multiple-kept, multiple-larger}
use Rattle.ff_ring.specs.Ring.{element_in}
use Rattle.ff_relation.proofs.relations.larger.Goals as goal

pub returns-clause-form : goal.returns-clause-form
returns-clause-form g c =
    let L = g.K.Ring.lawful c.args.k.now in
    monic-mul L c.in_ok-factor.factor c.args.q.now c.in_ok-product.product
    c.in_ok-factor.ensures.form c.requires.q c.in_ok-product.ensures.poly
    c.in_ok-product.ensures.value

pub returns-clause-kept : goal.returns-clause-kept
returns-clause-kept g c = λ w b a h.
    let F = g.K.Ring.elements c.args.k.now in
    let L = g.K.Ring.lawful c.args.k.now in
    multiple-kept F L c.args.s.now c.requires.table.weights b c.in_ok-factor.factor c.args.q.now
    c.in_ok-product.product a c.in_ok-product.ensures.value h

pub returns-clause-exact : goal.returns-clause-exact
returns-clause-exact g c = λ w b a clear h.
    let F = g.K.Ring.elements c.args.k.now in
    let L = g.K.Ring.lawful c.args.k.now in
    let s = c.args.s.now in
    multiple-larger F L s c.requires.table.weights b c.in_ok-factor.factor c.args.q.now
    c.in_ok-product.product a (element_in F s c.args.rest) c.in_ok-product.ensures.value h
    (c.in_ok-factor.ensures.exact w b clear)
