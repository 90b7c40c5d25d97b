use Rattle.std.proofs.Common.{subst}
use Rattle.ff_ring.specs.Ring.{element_in}
use Rattle.ff_relation.specs.InRing.{AreAtGaps, IsSumOf, raised_in, difference_in}
use Rattle.ff_relation.proofs.annihilator.next_rests.Goals as goal

pub returns-clause-exact : goal.returns-clause-exact
returns-clause-exact g c = λ w b a old other.
    let F = g.K.Ring.elements c.args.k.now in
    let s = c.args.s.now in
    let rank = c.requires.table.weights in
    let rest = c.in_ok-rest.rest in
    let last = c.in_ok-last.last.items in
    c.with_rest.ensures.exact rank w b a old other (c.in_ok-rest.ensures.clear w b)
    (subst (λ x. IsSumOf F s b (difference_in F s (raised_in F s 1 (element_in F s x))
    (element_in F s rest))) c.rows.ensures (c.in_ok-rest.ensures.congruent w b))
    (subst (λ x. AreAtGaps F s c.args.p.now.gaps.items (element_in F s x) last) c.rows-2.ensures
    (subst (λ x. AreAtGaps F s x (element_in F s c.rows-2.result.now) last)
    c.deref.ensures.value (c.in_ok-last.ensures.exact rank)))
