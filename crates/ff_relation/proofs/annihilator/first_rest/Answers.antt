use Rattle.std.proofs.Common.{refl, subst}
use Rattle.ff_ring.specs.Ring.{element_in}
use Rattle.ff_relation.specs.InRing.{AreAtGaps}
use Rattle.ff_relation.proofs.RestLemmas.{rests-start}
use Rattle.ff_relation.proofs.annihilator.first_rest.Goals as goal

pub returns-clause-exact : goal.returns-clause-exact
returns-clause-exact g c = λ rank w b clear.
    let F = g.K.Ring.elements c.args.k.now in
    let L = g.K.Ring.lawful c.args.k.now in
    let s = c.args.s.now in
    rests-start F L s rank b _ (element_in F s c.args.rest) refl c.new-before.ensures.items
    c.zero-span.ensures.basis clear
    (subst (λ x. AreAtGaps F s c.args.p.now.gaps.items (element_in F s x) c.in_ok-last.last.items)
    c.rows.ensures
    (subst (λ x. AreAtGaps F s x (element_in F s c.rows.result.now) c.in_ok-last.last.items)
    c.deref.ensures.value (c.in_ok-last.ensures.exact rank)))
