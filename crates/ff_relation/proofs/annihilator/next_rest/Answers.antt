use Rattle.std.proofs.Common.{◌∙◌, ap, subst}
use Rattle.ff_ring.specs.Ring.{element_in}
use Rattle.ff_relation.specs.InRing.{IsSumOf, difference_in}
use Rattle.ff_relation.proofs.RelationLemmas.{split-difference}
use Rattle.ff_relation.proofs.annihilator.next_rest.Goals as goal

pub returns-clause-clear : goal.returns-clause-clear
returns-clause-clear g c = λ w b. (c.in_ok-reduced.ensures.exact w b).clear

pub returns-clause-congruent : goal.returns-clause-congruent
returns-clause-congruent g c = λ w b.
    let F = g.K.Ring.elements c.args.k.now in
    let L = g.K.Ring.lawful c.args.k.now in
    let s = c.args.s.now in
    let rest = c.in_ok-reduced.reduced.rest in
    let rank = c.requires.table.weights in
    subst (λ a. IsSumOf F s b (difference_in F s a (element_in F s rest)))
    (ap (element_in F s) c.deref.ensures.value ∙ c.in_ok-product.ensures.exact rank)
    (split-difference F L s rank b (element_in F s c.deref.result.now)
    c.in_ok-reduced.reduced.quotient rest (c.in_ok-reduced.ensures.exact w b))
