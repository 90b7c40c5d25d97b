use Rattle.std.proofs.Common.{[], sym, ◌∙◌, ap}
use Rattle.std.proofs.lemmas.List.{get_or_default}
use Rattle.ff_theory.specs.Values.{poly_of}
use Rattle.ff_theory.proofs.Results.{ok_map}
use Rattle.ff_order.proofs.TestPlanes.{row_at, row_past}
use Rattle.ff_order.proofs.different.parts.Goals as goal

pub returns-then-j-rows-clause-sum : goal.returns-then-j-rows-clause-sum
returns-then-j-rows-clause-sum g c =
    let F = g.K.Ring.elements c.args.k.now in
    let rows = c.args.rows.now in
    let j = c.args.j in
    ok_map _ _ c.split_p.result
    (λ r h. row_at F (g.K.Ring.lawful c.args.k.now) rows j
    ∙ ap (poly_of F) (sym (c.index-rows-j.is
    ∙ get_or_default rows j c.index-rows-j.result [] c.if-j-rows.true)) ∙ h)
    c.split_p.ensures.value

pub returns-else-j-rows-clause-sum : goal.returns-else-j-rows-clause-sum
returns-else-j-rows-clause-sum g c =
    let F = g.K.Ring.elements c.args.k.now in
    ok_map _ _ c.split_p-else-j-rows-2.result
    (λ r h. row_past F (g.K.Ring.lawful c.args.k.now) c.args.rows.now c.args.j c.if-j-rows.false
    ∙ ap (poly_of F) (sym c.zero.ensures) ∙ h) c.split_p-else-j-rows-2.ensures.value
