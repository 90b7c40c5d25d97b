use Rattle.std.proofs.Common.{◌≡◌, ◌*◌, ◌∙◌, refl, arith, [], ap, max}
use Rattle.std.proofs.lemmas.List.{get_or_default}
use Rattle.ff_poly.proofs.RowLists.{ord_max-max}
use Rattle.ff_table.specs.Roots.{top_weight}
use Rattle.ff_ring.specs.Ring.{table_in, elements_in}
use Rattle.ff_root.specs.States.{weight_by}
use Rattle.ff_root.proofs.LeadLemmas.{top-start, top-more, top-end}
use Rattle.ff_root.proofs.leading.top_weight.Goals as goal

pub loop-i-init : goal.loop-i-init
loop-i-init g c = λ rule.
    let F = g.K.Ring.elements c.args.k.now in
    let L = g.K.Ring.lawful c.args.k.now in
    top-start F L c.args.s.now c.requires.table rule c.args.t c.args.p.now 0 0 refl refl

pub loop-i-preserved : goal.loop-i-preserved
loop-i-preserved g c = λ rule.
    let F = g.K.Ring.elements c.args.k.now in
    let L = g.K.Ring.lawful c.args.k.now in
    let s = c.args.s.now in
    let p = c.args.p.now in
    let i = c.loop-i.i in
    let h = c.rows.result.now in
    let most : c.max-n.result ≡ max c.loop-i.n c.weight_of.result = c.max-n.ensures
    ∙ ord_max-max c.loop-i.n c.weight_of.result in
    top-more F L s c.requires.table rule c.args.t p h c.loop-i.n c.max-n.result c.weight_of.result
    i _ (top_weight F.ring (table_in F s) c.args.t 0 (elements_in F s p))
    (omega (arith, c.loop-i-test.true)) refl
    (c.rows.ensures ∙ c.index-p-i.is ∙ get_or_default p i c.index-p-i.result []
    (omega (arith, c.loop-i-test.true)))
    (c.weight_of.ensures rule ∙ ap (weight_by F s h) c.steps.ensures.value) most
    (c.loop-i.invariant rule)

pub returns : goal.returns
returns g c = λ rule.
    let F = g.K.Ring.elements c.args.k.now in
    let L = g.K.Ring.lawful c.args.k.now in
    let s = c.args.s.now in
    let p = c.args.p.now in
    top-end F L s c.requires.table rule c.args.t p c.loop-i.n c.loop-i.i
    (top_weight F.ring (table_in F s) c.args.t 0 (elements_in F s p))
    (omega (arith, c.loop-i-test.false)) (c.loop-i.invariant rule)
