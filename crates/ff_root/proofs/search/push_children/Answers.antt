use Rattle.std.proofs.Common.{◌≡◌, ◌+◌, ◌<◌, ◌++◌, ◌∷◌, [], true, false, ◌∙◌, refl, ap, sym}
use Rattle.std.proofs.Common.{subst, arith, length}
use Rattle.std.proofs.lemmas.List.{append-nil}
use Rattle.ff_table.specs.Roots.{child, children}
use Rattle.ff_ring.specs.Ring.{table_in}
use Rattle.ff_root.specs.declared.state.State.{State}
use Rattle.ff_root.specs.States.{AreStates, state_in, states_in}
use Rattle.ff_root.proofs.SearchLemmas.{grown, grown-all, counted, counted-end, children_rest}
use Rattle.ff_root.proofs.SearchLemmas.{children-first, children-yes, children-no, children-none}
use Rattle.ff_root.proofs.SearchLemmas.{leading-test}
use Rattle.ff_root.proofs.search.push_children.Goals.{then-is_root+in-Ok, else-is_root}
use Rattle.ff_root.proofs.search.push_children.Goals as goal

pub loop-i-init : goal.loop-i-init
loop-i-init g c =
    let F = g.K.Ring.elements c.args.k.now in
    let s = c.args.s.now in
    let a = state_in F s c.args.state.now in
    let first = children-first F s c.args.t a 0 refl in
    record {
      states = c.requires.list;
      value = λ rule. ap (λ x. states_in F s c.args.list.now.items ++ x) first;
      nodes = omega arith;
      count = λ rule. omega (arith, ap length first);
    }

pub loop-i-preserved : goal.loop-i-preserved
loop-i-preserved g c =
    let F = g.K.Ring.elements c.args.k.now in
    let s = c.args.s.now in
    let S = table_in F s in
    let t = c.args.t in
    let a = state_in F s c.args.state.now in
    let i = c.loop-i.i in
    let old = c.loop-i.invariant in
    let x = F.value c.nth-c.result in
    let list = c.loop-i.list.items in
    let whole = states_in F s c.args.list.now.items ++ children F.field S t a in
    let inside : i < F.size = omega (arith, c.loop-i-test.true, c.count-i-end.ensures) in
    let moved = c.deref.ensures.value ∙ ap (λ (y : State). y.moved) c.state.view_is in
    elim c.if-is_root.branch [
      | then-is_root+in-Ok w ↦
          let items : c.if-is_root.list.items ≡ w.push_child.new.list.items =
          λ k. (w.list-is k).items in
          let begin = child F.ring S t a x ∷ [] in
          record {
            states = subst (AreStates F s (length c.args.state.now.moved)) (sym items)
                w.in-Ok.ensures.states;
            value = λ rule. grown (states_in F s list) (states_in F s c.if-is_root.list.items) begin
                (children_rest F s t a i) (children_rest F s t a _) whole
                (ap (states_in F s) items ∙ w.in-Ok.ensures.value rule)
                (children-yes F s t a i _ x inside refl c.nth-c.ensures.value
                (leading-test F s t c.args.state.now c.nth-c.result c.deref-in-loop-i.result.now
                c.in_ok-leading.leading.items c.deref.result.now c.is_root.result true
                c.deref-in-loop-i.ensures.value (c.in_ok-leading.ensures.value rule) moved
                c.is_root.ensures w.if-is_root.true))
                (old.value rule);
            nodes = omega (arith, old.nodes, w.nodes-is, w.push_child.ensures.nodes);
            count = λ rule. counted begin (children_rest F s t a i) (children_rest F s t a _)
                (children F.field S t a) c.loop-i.nodes c.if-is_root.nodes c.args.nodes.now
                (children-yes F s t a i _ x inside refl c.nth-c.ensures.value
                (leading-test F s t c.args.state.now c.nth-c.result c.deref-in-loop-i.result.now
                c.in_ok-leading.leading.items c.deref.result.now c.is_root.result true
                c.deref-in-loop-i.ensures.value (c.in_ok-leading.ensures.value rule) moved
                c.is_root.ensures w.if-is_root.true))
                (omega (arith, w.nodes-is, w.push_child.ensures.nodes)) (old.count rule);
          }
      | else-is_root w ↦
          let items : c.if-is_root.list.items ≡ list = λ k. (w.list-is k).items in
          record {
            states = subst (AreStates F s (length c.args.state.now.moved)) (sym items) old.states;
            value = λ rule. grown (states_in F s list) (states_in F s c.if-is_root.list.items) []
                (children_rest F s t a i) (children_rest F s t a _) whole
                (ap (states_in F s) items ∙ sym (append-nil (states_in F s list)))
                (children-no F s t a i _ x inside refl c.nth-c.ensures.value
                (leading-test F s t c.args.state.now c.nth-c.result c.deref-in-loop-i.result.now
                c.in_ok-leading.leading.items c.deref.result.now c.is_root.result false
                c.deref-in-loop-i.ensures.value (c.in_ok-leading.ensures.value rule) moved
                c.is_root.ensures w.if-is_root.false))
                (old.value rule);
            nodes = omega (arith, old.nodes, w.nodes-is);
            count = λ rule. counted [] (children_rest F s t a i) (children_rest F s t a _)
                (children F.field S t a) c.loop-i.nodes c.if-is_root.nodes c.args.nodes.now
                (children-no F s t a i _ x inside refl c.nth-c.ensures.value
                (leading-test F s t c.args.state.now c.nth-c.result c.deref-in-loop-i.result.now
                c.in_ok-leading.leading.items c.deref.result.now c.is_root.result false
                c.deref-in-loop-i.ensures.value (c.in_ok-leading.ensures.value rule) moved
                c.is_root.ensures w.if-is_root.false))
                (omega (arith, w.nodes-is)) (old.count rule);
          }
    ]

pub returns-clause-value : goal.returns-clause-value
returns-clause-value g c = λ rule.
    let F = g.K.Ring.elements c.args.k.now in
    let s = c.args.s.now in
    let t = c.args.t in
    let a = state_in F s c.args.state.now in
    grown-all (states_in F s c.loop-i.list.items) (children_rest F s t a c.loop-i.i)
    (states_in F s c.args.list.now.items ++ children F.field (table_in F s) t a)
    (children-none F s t a c.loop-i.i (omega (arith, c.loop-i-test.false, c.count-i-end.ensures)))
    (c.loop-i.invariant.value rule)

pub returns-clause-count : goal.returns-clause-count
returns-clause-count g c = λ rule. omega (arith, c.loop-i.invariant.count rule)

pub returns-in-Err-clause-count : goal.returns-in-Err-clause-count
returns-in-Err-clause-count g c = λ rule.
    let F = g.K.Ring.elements c.args.k.now in
    let s = c.args.s.now in
    let S = table_in F s in
    let t = c.args.t in
    let a = state_in F s c.args.state.now in
    let i = c.loop-i.i in
    let x = F.value c.nth-c.result in
    counted-end (child F.ring S t a x ∷ []) (children_rest F s t a i)
    (children_rest F s t a (i + 1))
    (children F.field S t a) c.loop-i.nodes c.push_child.new.nodes c.args.nodes.now
    (children-yes F s t a i (i + 1) x
    (omega (arith, c.loop-i-test.true, c.count-i-end.ensures)) refl
    c.nth-c.ensures.value
    (leading-test F s t c.args.state.now c.nth-c.result c.deref-in-loop-i.result.now
    c.in_ok-leading.leading.items c.deref.result.now c.is_root.result true
    c.deref-in-loop-i.ensures.value (c.in_ok-leading.ensures.value rule)
    (c.deref.ensures.value ∙ ap (λ (y : State). y.moved) c.state.view_is)
    c.is_root.ensures c.if-is_root.true))
    (omega (arith, c.push_child.ensures.nodes)) (c.loop-i.invariant.count rule)
