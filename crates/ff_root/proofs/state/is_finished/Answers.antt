use Rattle.std.proofs.Common.{◌≡◌, ◌↔◌, ◌∙◌, [], get_or, ap, subst, All, IsTrue}
use Rattle.std.proofs.lemmas.List.{get_or_default}
use Rattle.ff_root.specs.declared.state.State.{State}
use Rattle.ff_root.proofs.state.is_finished.Goals as goal

pub returns : goal.returns
returns c =
    let x = c.index.result.now in
    let p = c.args.state.now.moved in
    subst (λ l. IsTrue c.is_zero_each.result ↔ All (λ p. p ≡ []) l)
    (c.rows.ensures ∙ c.index.ensures ∙ ap (λ (s : State). get_or s.moved 0 x) c.state.view_is
    ∙ get_or_default p 0 x [] c.requires) c.is_zero_each.ensures
