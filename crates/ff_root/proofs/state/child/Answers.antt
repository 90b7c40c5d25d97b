use Rattle.std.proofs.Common.{◌∙◌, ap, refl}
use Rattle.ff_ring.specs.declared.level.Monomial.{Monomial}
use Rattle.ff_ring.specs.Ring.{ring_in, element_in, elements_in, monomial_in}
use Rattle.ff_table.specs.Shift.{shift}
use Rattle.ff_root.specs.declared.state.State.{State}
use Rattle.ff_root.proofs.StateLemmas.{child-is}
use Rattle.ff_root.proofs.state.child.Goals as goal

pub returns-clause-value : goal.returns-clause-value
returns-clause-value g c = λ rule.
    let F = g.K.Ring.elements c.args.k.now in
    let L = g.K.Ring.lawful c.args.k.now in
    let s = c.args.s.now in
    let T = ring_in F s in
    let old = c.args.state.now in
    let a : Monomial = record {
      c = c.args.c;
      class = c.class_of.result;
      power = c.power_of.result;
    } in
    let new : State = record { sum = c.in_ok-sum.sum; moved = c.in_ok-items.items.items } in
    child-is F L s c.requires.table.weights a c.args.t c.args.c old new refl
    c.class_of.ensures.value c.power_of.ensures.value
    (c.in_ok-sum.ensures.value ∙ ap (λ x. T.add (element_in F s x) (monomial_in F s a))
    (c.rows.ensures ∙ ap (λ (x : State). x.sum) c.state.view_is))
    (c.in_ok-items.ensures.value rule ∙ ap (λ x. shift T (monomial_in F s a) (elements_in F s x))
    (c.deref.ensures.value ∙ ap (λ (x : State). x.moved) c.state.view_is))
