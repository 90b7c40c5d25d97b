use Rattle.ff_text.specs.Ratios.{IsRatio}
use Rattle.ff_text.proofs.Ratios.{all_zip_next}
use Rattle.ff_text.proofs.sums.ratios.Goals as goal

pub loop-line-preserved : goal.loop-line-preserved
loop-line-preserved c =
    rw c.in_ok-push.ensures.items
    (all_zip_next (IsRatio c.args.p) c.args.lines.now c.loop-line.ratios.items
    c.loop-line.line-index c.line-item.result c.in_ok-of.field-0 c.loop-line-test.true
    c.line-item.is c.loop-line.invariant c.in_ok-of.ensures)
