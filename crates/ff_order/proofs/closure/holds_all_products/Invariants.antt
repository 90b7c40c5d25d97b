use Rattle.std.proofs.Common.{ℕ, ◌+◌, ◌<◌}
use Rattle.ff_order.specs.Closing.{HasProducts}
use Rattle.ff_order.proofs.closure.holds_all_products.Given as goal

abbrev pub invariant-loop-i : goal.invariant-loop-i
invariant-loop-i g l =
    let L = g.K.Ring.lawful l.alg.k in
    (i : ℕ) → i < l.i → HasProducts L l.alg.f l.chart l.rows.d l.space l.planes i (i + 1)
