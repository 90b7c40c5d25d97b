use Rattle.ff_text.specs.Parts.{IsElementOf}
use Rattle.ff_text.proofs.Ratios.{all_zip_next}
use Rattle.ff_text.proofs.job.elements.Goals as goal

pub element-requires-clause-reduced : goal.element-requires-clause-reduced
element-requires-clause-reduced c = rw c.sum-item.is
    (c.requires.reduced c.loop-sum.sum-index c.sum-item.result c.loop-sum-test.true)

pub loop-sum-preserved : goal.loop-sum-preserved
loop-sum-preserved c =
    rw c.in_ok-push.ensures.items
    (all_zip_next (IsElementOf c.args.k.now.number) c.args.sums.now c.loop-sum.elems.items
    c.loop-sum.sum-index c.sum-item.result c.in_ok-element.field-0 c.loop-sum-test.true
    c.sum-item.is c.loop-sum.invariant c.in_ok-element.ensures)
