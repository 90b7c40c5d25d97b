use Rattle.std.proofs.Common.{◌∷◌}
use Rattle.std.proofs.Common.{subst}
use Rattle.ff_lin.specs.Space.{SameSpace}
use Rattle.ff_relation.proofs.RestLemmas.{rests-more}
use Rattle.ff_relation.proofs.annihilator.with_rest.Goals as goal

pub returns-clause-exact : goal.returns-clause-exact
returns-clause-exact g c = λ rank w b a old other clear step last.
    let F = g.K.Ring.elements c.args.k.now in
    let L = g.K.Ring.lawful c.args.k.now in
    let rests = c.args.rests in
    rests-more F L c.args.s.now rank b rests _ a old c.in_ok-before.ensures.items
    (subst (λ v. SameSpace F c.in_ok-span.span.basis (v ∷ rests.span.basis))
    c.deref.ensures.value c.in_ok-span.ensures.same) other clear step last
