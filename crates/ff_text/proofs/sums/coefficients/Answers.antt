use Rattle.std.proofs.Common.{ap, ◌∙◌}
use Rattle.std.specs.Option.{unwrap_or}
use Rattle.ff_text.proofs.Totals.{totals_more}
use Rattle.ff_text.proofs.sums.coefficients.Goals as goal

pub loop-m-preserved : goal.loop-m-preserved
loop-m-preserved c =
    totals_more c.args.p c.args.terms.now c.loop-m.m-index
    (record { coefficient = 0; x = 0; y = 0 }) c.loop-m.sums c.insert.new.self
    c.unwrap_or-so_far.result c.loop-m-test.true
    (c.unwrap_or-so_far.ensures ∙ ap (λ o. unwrap_or o 0) (c.copied.ensures ∙ c.get.ensures.value))
    c.in_ok-insert.ensures.updates.0 c.loop-m.invariant
