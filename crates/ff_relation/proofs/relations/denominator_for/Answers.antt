use Rattle.std.proofs.Common.{◌≡◌, ℕ, List, []}
use Rattle.std.proofs.Common.{refl, ◌∙◌, ap, subst}
use Rattle.std.proofs.Common.{All}
use Rattle.ff_ring.specs.Ring.{element_in}
use Rattle.ff_relation.specs.InRing.{IsSumOf, difference_in}
use Rattle.ff_relation.specs.InRing.{basis_in}
use Rattle.ff_relation.proofs.RelationLemmas.{split-none, split-difference}
use Rattle.ff_relation.proofs.relations.denominator_for.Goals as goal

pub returns-then-is_zero_each-clause-exact : goal.returns-then-is_zero_each-clause-exact
returns-then-is_zero_each-clause-exact g c = λ w b.
    let F = g.K.Ring.elements c.args.k.now in
    let L = g.K.Ring.lawful c.args.k.now in
    let s = c.args.s.now in
    let reduced = c.in_ok-reduced.reduced in
    let rank = c.requires.table.weights in
    subst (IsSumOf F s b)
    (ap (element_in F s) c.deref.ensures.value ∙ c.in_ok-product.ensures.exact rank)
    (split-none F L s rank b (element_in F s c.deref.result.now) reduced.quotient reduced.rest
    c.in_ok-reduced.ensures.form.rest
    (subst (All (λ (p : List ℕ). p ≡ [])) c.rows.ensures (c.if-is_zero_each.ensures.0 refl))
    (c.in_ok-reduced.ensures.exact w b))

pub returns-clause-exact : goal.returns-clause-exact
returns-clause-exact g c = λ w b.
    let F = g.K.Ring.elements c.args.k.now in
    let L = g.K.Ring.lawful c.args.k.now in
    let s = c.args.s.now in
    let rest = c.in_ok-reduced.reduced.rest in
    let rank = c.requires.table.weights in
    let split = c.in_ok-reduced.ensures.exact w b in
    c.larger.ensures.exact w b (basis_in F s c.args.i) split.clear
    (subst (λ a. IsSumOf F s b (difference_in F s a (element_in F s rest)))
    (ap (element_in F s) c.deref.ensures.value ∙ c.in_ok-product.ensures.exact rank)
    (split-difference F L s rank b (element_in F s c.deref.result.now)
    c.in_ok-reduced.reduced.quotient rest split))
