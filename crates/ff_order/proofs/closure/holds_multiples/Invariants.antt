use Rattle.ff_theory.specs.Values.{plane_of}
use Rattle.ff_charts.specs.Chart.{at_theta}
use Rattle.ff_data.specs.Orders.{chart_of}
use Rattle.ff_order.specs.Closing.{HasMultiples}
use Rattle.ff_order.proofs.closure.holds_multiples.Given as goal

abbrev pub invariant-loop-i : goal.invariant-loop-i
invariant-loop-i g l =
    let F = g.K.Ring.elements l.alg.k in
    let L = g.K.Ring.lawful l.alg.k in
    HasMultiples L l.alg.f l.chart l.rows.d l.space l.planes l.i
    (at_theta (chart_of L l.alg.f l.chart) (plane_of F l.by))
