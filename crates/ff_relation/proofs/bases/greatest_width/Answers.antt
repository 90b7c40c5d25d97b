use Rattle.std.proofs.Common.{◌≡◌, ◌≤◌, ◌∙◌, All, ap, subst, arith, max}
use Rattle.std.proofs.lemmas.List.{take_all}
use Rattle.std.proofs.lemmas.List.Elements.{All-more}
use Rattle.ff_theory.specs.Values.{x_size}
use Rattle.ff_poly.proofs.RowLists.{ord_max-max}
use Rattle.ff_relation.proofs.bases.greatest_width.Goals as goal

pub loop-list-init : goal.loop-list-init
loop-list-init c = λ k d h. absurd (omega (arith, h))

pub loop-list-preserved : goal.loop-list-preserved
loop-list-preserved c =
    let e : c.max-n.result ≡ max c.loop-list.n c.width.result = c.max-n.ensures
    ∙ ord_max-max c.loop-list.n c.width.result in
    let w : c.width.result ≡ x_size c.list-item.result = c.width.ensures
    ∙ ap x_size c.rows.ensures in
    All-more (λ a. x_size a ≤ c.max-n.result) c.args.lists.now c.loop-list.list-index
    c.list-item.result c.loop-list-test.true
    (λ k d h. omega (arith, c.loop-list.invariant k d h, e))
    (subst (λ a. x_size a ≤ c.max-n.result) c.list-item.is (omega (arith, e, w)))

pub returns : goal.returns
returns c = subst (All (λ a. x_size a ≤ c.loop-list.n))
    (take_all c.loop-list.list-index c.args.lists.now c.loop-list-test.false) c.loop-list.invariant
