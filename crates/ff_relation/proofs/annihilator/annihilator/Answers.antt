use Rattle.std.proofs.Common.{ℕ, List}
use Rattle.std.proofs.Common.{sym, subst}
use Rattle.std.specs.Global.{Vec}
use Rattle.ff_lin.specs.Space.{rows_of, IsIn}
use Rattle.ff_theory.proofs.Results.{ok_map}
use Rattle.ff_ring.specs.Ring.{element_in}
use Rattle.ff_relation.specs.InRing.{IsOfCombination}
use Rattle.ff_relation.proofs.RestLemmas.{rests-annihilate}
use Rattle.ff_relation.proofs.annihilator.annihilator.Goals as goal

pub returns-clause-exact : goal.returns-clause-exact
returns-clause-exact g c = λ w b clear.
    let F = g.K.Ring.elements c.args.k.now in
    let L = g.K.Ring.lawful c.args.k.now in
    let s = c.args.s.now in
    let rests = c.in_ok-rests.rests in
    let a = element_in F s c.args.rest in
    let rows = c.deref.ensures.value in
    let last = c.deref-2.ensures.value in
    ok_map _ _ c.combination.result (λ r h.
    rests-annihilate F L s c.requires.table.weights b rests a r
    (c.in_ok-rests.ensures.exact w b clear) c.requires.p
    (subst (λ (t : List (Vec ℕ)). IsOfCombination F (rows_of t) rests.last.items r) rows
    (subst (λ t. IsOfCombination F (rows_of c.deref.result.now) t r) last h)))
    (c.combination.ensures.exact
    (subst (λ (t : List (Vec ℕ)). IsIn F (rows_of t) c.deref-2.result.now) (sym rows)
    (subst (IsIn F (rows_of rests.before.items)) (sym last)
    (c.in_ok-rests.ensures.last w b clear))))
