use Rattle.std.proofs.Common.{◌≡◌, true, false, ◌∙◌, ap, sym, arith, length}
use Rattle.ff_theory.proofs.Results.{ok_map}
use Rattle.ff_table.specs.Roots.{next_states, states_after}
use Rattle.ff_ring.specs.Ring.{table_in}
use Rattle.ff_root.specs.States.{states_in}
use Rattle.ff_root.proofs.SearchLemmas.{level-yes, level-no, after-yes, after-no, count-yes}
use Rattle.ff_root.proofs.SearchLemmas.{count-no}
use Rattle.ff_root.proofs.search.states_after.Goals as goal

pub returns-then-not-is_level-clause-value : goal.returns-then-not-is_level-clause-value
returns-then-not-is_level-clause-value g c = λ rule.
    let F = g.K.Ring.elements c.args.k.now in
    let s = c.args.s.now in
    after-no F s c.args.t (states_in F s c.args.states.items)
    (level-no F s c.args.t c.requires.table.weights
    (λ l. let z : true ≡ false = sym (c.is_level.ensures.1 l) ∙ c.if-not-is_level.true in cc))

pub returns-then-not-is_level-clause-count : goal.returns-then-not-is_level-clause-count
returns-then-not-is_level-clause-count g c = λ rule.
    let F = g.K.Ring.elements c.args.k.now in
    let s = c.args.s.now in
    count-no F s c.args.t c.args.nodes.now c.args.nodes.now (states_in F s c.args.states.items)
    (level-no F s c.args.t c.requires.table.weights
    (λ l. let z : true ≡ false = sym (c.is_level.ensures.1 l) ∙ c.if-not-is_level.true in cc))
    (omega arith)

pub returns-clause-value : goal.returns-clause-value
returns-clause-value g c = λ rule.
    let F = g.K.Ring.elements c.args.k.now in
    let s = c.args.s.now in
    let S = table_in F s in
    let t = c.args.t in
    let states = c.args.states.items in
    ok_map (λ (r : _). states_in F s r.items
    ≡ next_states F.field S t (states_in F s c.deref.result.now))
    (λ (r : _). states_in F s r.items ≡ states_after F.field S t (states_in F s states))
    c.next_states.result
    (λ r h. h ∙ ap (λ x. next_states F.field S t (states_in F s x)) c.deref.ensures.value
    ∙ after-yes F s t (states_in F s states) (level-yes F s t c.requires.table.weights
    (c.is_level.ensures.0 c.if-not-is_level.false))) (c.next_states.ensures.value rule)

pub returns-clause-count : goal.returns-clause-count
returns-clause-count g c = λ rule.
    let F = g.K.Ring.elements c.args.k.now in
    let s = c.args.s.now in
    let S = table_in F s in
    let t = c.args.t in
    let states = c.args.states.items in
    count-yes F s t c.next_states.new.nodes c.args.nodes.now (states_in F s states)
    (level-yes F s t c.requires.table.weights (c.is_level.ensures.0 c.if-not-is_level.false))
    (omega (
      arith,
      c.next_states.ensures.count rule,
      ap (λ x. length (next_states F.field S t (states_in F s x))) c.deref.ensures.value,
    ))
