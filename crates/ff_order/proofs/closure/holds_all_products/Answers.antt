use Rattle.std.proofs.Common.{arith, below_more}
use Rattle.ff_order.proofs.closure.holds_all_products.Goals as goal

pub loop-i-preserved : goal.loop-i-preserved
loop-i-preserved g c = below_more _ _ c.loop-i.invariant
    (c.in_ok-holds_products.ensures c.if-not-branch.false)

pub returns : goal.returns
returns g c = λ t i l. c.loop-i.invariant i (omega (arith, l, c.loop-i-test.false))
