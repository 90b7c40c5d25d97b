use Rattle.std.proofs.Common.{◌≡◌, ◌∷◌, ◌++◌, [], ◌∙◌, sym, subst, length, ap}
use Rattle.std.proofs.lemmas.List.Elements.{All-push}
use Rattle.ff_root.specs.States.{IsState, AreStates, states_in}
use Rattle.ff_root.proofs.SearchLemmas.{states-push}
use Rattle.ff_root.proofs.search.push_child.Goals as goal

pub returns-clause-states : goal.returns-clause-states
returns-clause-states g c =
    let F = g.K.Ring.elements c.args.k.now in
    let s = c.args.s.now in
    let m = length c.args.state.now.moved in
    subst (AreStates F s m) (sym c.in_ok-push.ensures.items)
    (All-push (IsState F s m) c.args.list.now.items c.in_ok-child.child c.requires.list
    c.in_ok-child.ensures.state)

pub returns-clause-value : goal.returns-clause-value
returns-clause-value g c = λ rule.
    let F = g.K.Ring.elements c.args.k.now in
    let s = c.args.s.now in
    let old = c.args.list.now.items in
    ap (states_in F s) c.in_ok-push.ensures.items ∙ states-push F s old c.in_ok-child.child
    ∙ ap (λ x. states_in F s old ++ x ∷ []) (c.in_ok-child.ensures.value rule)
