use Rattle.std.proofs.Common.{◌+◌, ◌-◌, refl, arith}
use Rattle.ff_table.specs.Roots.{search, node_count}
use Rattle.ff_ring.specs.Ring.{table_in}
use Rattle.ff_root.specs.States.{states_in}
use Rattle.ff_root.proofs.SearchLemmas.{search-first, search-more, search-last, nodes-first}
use Rattle.ff_root.proofs.SearchLemmas.{nodes-more, nodes-cut}
use Rattle.ff_root.proofs.search.search.Goals as goal

pub loop-i-init : goal.loop-i-init
loop-i-init g c =
    let F = g.K.Ring.elements c.args.k.now in
    let s = c.args.s.now in
    let states = states_in F s c.args.states.items in
    record {
      states = c.requires.states;
      value = λ rule. search-first F s c.args.weight 0 states refl;
      nodes = omega arith;
      count = λ rule. nodes-first F s c.args.weight 0 c.args.nodes.now states refl;
    }

pub loop-i-preserved : goal.loop-i-preserved
loop-i-preserved g c =
    let F = g.K.Ring.elements c.args.k.now in
    let s = c.args.s.now in
    let S = table_in F s in
    let w = c.args.weight in
    let i = c.loop-i.i in
    let first = states_in F s c.args.states.items in
    let old = states_in F s c.loop-i.states.items in
    let new = states_in F s c.in-Ok.next.items in
    let h = c.loop-i.invariant in
    record {
      states = c.in-Ok.ensures.states;
      value = λ rule. search-more F s w i _ (w - i) old new (search F.field S (w + 1) first)
          (omega (arith, c.loop-i-test.true)) refl refl (c.in-Ok.ensures.value rule) (h.value rule);
      nodes = omega (arith, c.in-Ok.ensures.nodes, h.nodes);
      count = λ rule. nodes-more F s w i _ (w - i) c.loop-i.nodes c.states_after.new.nodes
          c.args.nodes.now (node_count F.field S (w + 1) first) old new
          (omega (arith, c.loop-i-test.true)) refl refl (c.in-Ok.ensures.value rule)
          (c.in-Ok.ensures.count rule) (h.count rule);
    }

pub returns-clause-value : goal.returns-clause-value
returns-clause-value g c = λ rule.
    let F = g.K.Ring.elements c.args.k.now in
    let s = c.args.s.now in
    let w = c.args.weight in
    search-last F s w c.loop-i.i (states_in F s c.loop-i.states.items)
    (search F.field (table_in F s) (w + 1) (states_in F s c.args.states.items))
    (omega (arith, c.loop-i-test.false)) (c.loop-i.invariant.value rule)

pub returns-clause-count : goal.returns-clause-count
returns-clause-count g c = λ rule. omega (arith, c.loop-i.invariant.count rule)

pub returns-in-Err-clause-count : goal.returns-in-Err-clause-count
returns-in-Err-clause-count g c = λ rule.
    let F = g.K.Ring.elements c.args.k.now in
    let s = c.args.s.now in
    let w = c.args.weight in
    let i = c.loop-i.i in
    nodes-cut F s w i (w - i) c.loop-i.nodes c.states_after.new.nodes c.args.nodes.now
    (node_count F.field (table_in F s) (w + 1) (states_in F s c.args.states.items))
    (states_in F s c.loop-i.states.items) (omega (arith, c.loop-i-test.true)) refl
    (c.states_after.ensures.count rule) (c.loop-i.invariant.count rule)
