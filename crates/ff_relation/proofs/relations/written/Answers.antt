use Rattle.std.proofs.Common.{sym, ◌∙◌, ap, subst}
use Rattle.ff_ring.specs.Ring.{element_in}
use Rattle.ff_relation.specs.InRing.{IsSumOf, multiple_in, basis_in}
use Rattle.ff_relation.proofs.RelationLemmas.{split-sum}
use Rattle.ff_relation.proofs.relations.written.Goals as goal

pub returns-clause-exact : goal.returns-clause-exact
returns-clause-exact g c = λ w b h.
    let F = g.K.Ring.elements c.args.k.now in
    let L = g.K.Ring.lawful c.args.k.now in
    let s = c.args.s.now in
    let reduced = c.in_ok-reduced.reduced in
    let rank = c.requires.table.weights in
    let e = ap (element_in F s) c.deref.ensures.value ∙ c.in_ok-product.ensures.exact rank in
    ap (λ q. multiple_in F s q (basis_in F s c.args.i)) c.in_ok-copy.ensures ∙ sym e
    ∙ split-sum F L s rank b (element_in F s c.deref.result.now) reduced.quotient reduced.rest
    (subst (IsSumOf F s b) (sym e) h) (c.in_ok-reduced.ensures.exact w b)
