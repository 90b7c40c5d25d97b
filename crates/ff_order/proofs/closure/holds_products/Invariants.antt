use Rattle.ff_order.specs.Closing.{HasProducts}
use Rattle.ff_order.proofs.closure.holds_products.Given as goal

abbrev pub invariant-loop-j : goal.invariant-loop-j
invariant-loop-j g l =
    let L = g.K.Ring.lawful l.alg.k in
    HasProducts L l.alg.f l.chart l.rows.d l.space l.planes l.i l.j
