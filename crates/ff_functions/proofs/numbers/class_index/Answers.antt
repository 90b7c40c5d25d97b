use Rattle.std.proofs.Common.{arith, below_more}
use Rattle.ff_functions.proofs.numbers.class_index.Goals as goal

pub loop-t-init : goal.loop-t-init
loop-t-init c = λ s l. absurd (omega (arith, l))

pub loop-t-preserved : goal.loop-t-preserved
loop-t-preserved c = below_more _ _ c.loop-t.invariant
    (λ h. c.if-numbers-t.false (h c.index-numbers-t.result))

pub returns-clause-found : goal.returns-clause-found
returns-clause-found c = λ h.
    absurd (c.loop-t.invariant h.0 (omega (arith, h.1.0, c.loop-t-test.false)) h.1.1)
