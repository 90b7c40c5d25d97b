use Rattle.std.proofs.Common.{ap, sym, ◌∙◌}
use Rattle.std.proofs.lemmas.List.{take_all}
use Rattle.ff_text.specs.Reading.{step, reads}
use Rattle.ff_text.proofs.Faults.{fault_within, fault_at_end, reads_more}
use Rattle.ff_text.proofs.Sizes.{step_within}
use Rattle.ff_text.proofs.reading.read.Goals as goal

pub returns-in-Err-Unexpected : goal.returns-in-Err-Unexpected
returns-in-Err-Unexpected c =
    fault_within c.args.mode c.args.bytes.now c.loop-at.at c.loop-at.reader c.loop-at-test.true
    c.loop-at.invariant.state
    (ap (step c.loop-at.reader) (sym c.meaning.ensures.symbol)
    ∙ rw c.in-Err-Unexpected.field-0-is at c.in-Err-Unexpected.ensures)

pub loop-at-preserved : goal.loop-at-preserved
loop-at-preserved c = record {
  state = reads_more c.args.mode c.args.bytes.now c.loop-at.at c.loop-at.reader c.step.new.self
      c.meaning.result c.loop-at-test.true c.loop-at.invariant.state c.meaning.ensures.symbol
      c.in-Ok.ensures;
  sizes = step_within c.loop-at.at c.loop-at.reader c.step.new.self c.meaning.result
      c.meaning.ensures.digit c.loop-at.invariant.sizes c.in-Ok.ensures;
}

pub returns-in-Err-Unexpected-finish : goal.returns-in-Err-Unexpected-finish
returns-in-Err-Unexpected-finish c =
    fault_at_end c.args.mode c.args.bytes.now c.loop-at.reader
    (ap (reads c.args.mode) (sym (take_all c.loop-at.at c.args.bytes.now c.loop-at-test.false))
    ∙ c.loop-at.invariant.state)
    (rw c.in-Err-Unexpected-finish.field-0-is at c.in-Err-Unexpected-finish.ensures)
