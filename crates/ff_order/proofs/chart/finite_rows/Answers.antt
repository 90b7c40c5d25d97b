use Rattle.ff_order.proofs.ChartLemmas.{finite-rows}
use Rattle.ff_order.proofs.chart.finite_rows.Goals as goal

pub returns-clause-rows : goal.returns-clause-rows
returns-clause-rows g c =
    finite-rows (g.K.Ring.elements c.args.alg.now.k) (g.K.Ring.lawful c.args.alg.now.k)
    c.args.alg.now.f c.args.alg.now.plane c.args.alg.now.has_y c.args.sep.now _ c.requires
    c.in_ok-equation.ensures.plane c.in_ok-equation.ensures.value c.in_ok-d.ensures
    c.in_ok-multiple.ensures.plane c.in_ok-multiple.ensures.residue
