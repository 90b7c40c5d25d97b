use Rattle.std.proofs.Common.{◌≡◌, ◌+◌, ◌++◌, [], ◌∙◌, refl, ap, sym, subst, arith, length}
use Rattle.ff_table.specs.Roots.{children, next_states}
use Rattle.ff_ring.specs.Ring.{table_in}
use Rattle.ff_root.specs.States.{IsState, AreStates, state_in, states_in}
use Rattle.ff_root.proofs.SearchLemmas.{grown, grown-all, counted, counted-end, next_rest}
use Rattle.ff_root.proofs.SearchLemmas.{next-first, next-more, next-none}
use Rattle.ff_root.proofs.search.next_states.Goals as goal

pub loop-i-init : goal.loop-i-init
loop-i-init g c =
    let F = g.K.Ring.elements c.args.k.now in
    let s = c.args.s.now in
    let states = c.args.states.now in
    let none = c.new-items.ensures.items in
    let first = next-first F s c.args.t states 0 refl in
    record {
      states = λ k d h. absurd (omega (arith, h, ap length none));
      value = λ rule. ap (λ x. states_in F s x ++ next_rest F s c.args.t states 0) none ∙ first;
      nodes = omega arith;
      count = λ rule. omega (arith, ap length first);
    }

pub loop-i-preserved : goal.loop-i-preserved
loop-i-preserved g c =
    let F = g.K.Ring.elements c.args.k.now in
    let s = c.args.s.now in
    let S = table_in F s in
    let t = c.args.t in
    let states = c.args.states.now in
    let i = c.loop-i.i in
    let old = c.loop-i.invariant in
    let new = c.push_children.new.list.items in
    let a = c.index-states-i.result in
    let inside = c.loop-i-test.true in
    let form = subst (λ x. IsState F s c.args.m x) (sym c.index-states-i.is)
    (c.requires.states i a inside) in
    let begin = children F.field S t (state_in F s a) in
    let more = next-more F s t states i _ a inside refl c.index-states-i.is in
    record {
      states = subst (λ n. AreStates F s n new) form.moved.count c.in-Ok.ensures.states;
      value = λ rule. grown (states_in F s c.loop-i.items.items) (states_in F s new) begin
          (next_rest F s t states i) (next_rest F s t states _)
          (next_states F.field S t (states_in F s states)) (c.in-Ok.ensures.value rule) more
          (old.value rule);
      nodes = omega (arith, c.in-Ok.ensures.nodes, old.nodes);
      count = λ rule. counted begin (next_rest F s t states i) (next_rest F s t states _)
          (next_states F.field S t (states_in F s states)) c.loop-i.nodes c.push_children.new.nodes
          c.args.nodes.now more (c.in-Ok.ensures.count rule) (old.count rule);
    }

pub returns-clause-value : goal.returns-clause-value
returns-clause-value g c = λ rule.
    let F = g.K.Ring.elements c.args.k.now in
    let s = c.args.s.now in
    let t = c.args.t in
    let states = c.args.states.now in
    grown-all (states_in F s c.loop-i.items.items) (next_rest F s t states c.loop-i.i)
    (next_states F.field (table_in F s) t (states_in F s states))
    (next-none F s t states c.loop-i.i c.loop-i-test.false) (c.loop-i.invariant.value rule)

pub returns-clause-count : goal.returns-clause-count
returns-clause-count g c = λ rule. omega (arith, c.loop-i.invariant.count rule)

pub returns-in-Err-clause-count : goal.returns-in-Err-clause-count
returns-in-Err-clause-count g c = λ rule.
    let F = g.K.Ring.elements c.args.k.now in
    let s = c.args.s.now in
    let S = table_in F s in
    let t = c.args.t in
    let states = c.args.states.now in
    let i = c.loop-i.i in
    let a = c.index-states-i.result in
    counted-end (children F.field S t (state_in F s a)) (next_rest F s t states i)
    (next_rest F s t states (i + 1)) (next_states F.field S t (states_in F s states)) c.loop-i.nodes
    c.push_children.new.nodes c.args.nodes.now
    (next-more F s t states i (i + 1) a c.loop-i-test.true refl c.index-states-i.is)
    (c.push_children.ensures.count rule) (c.loop-i.invariant.count rule)
