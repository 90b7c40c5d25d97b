use Rattle.std.proofs.Common.{◌∷◌, ◌++◌, [], ◌∙◌, ap, ap₂}
use Rattle.ff_root.specs.States.{states_in}
use Rattle.ff_root.proofs.state.start.Goals as goal

pub returns-clause-value : goal.returns-clause-value
returns-clause-value g c =
    let F = g.K.Ring.elements c.args.k.now in
    let s = c.args.s.now in
    let first = c.in_ok-first_state.field-0 in
    ap (states_in F s) c.in_ok-push.ensures.items
    ∙ ap (λ l. states_in F s (l ++ first ∷ [])) c.new-items.ensures.items
    ∙ ap₂ (λ u v. record { sum = u; moved = v } ∷ []) c.in_ok-first_state.ensures.sum
    c.in_ok-first_state.ensures.moved
