use Rattle.std.proofs.Common.{length, sym, ◌∙◌, ap, subst, arith}
use Rattle.ff_theory.specs.Values.{plane_of, IsPlane}
use Rattle.ff_charts.specs.Chart.{at_theta}
use Rattle.ff_data.specs.Orders.{chart_of}
use Rattle.ff_data.proofs.ChartLaws.{algebra_laws}
use Rattle.ff_order.proofs.TestPlanes.{few_rows, power_more}
use Rattle.ff_order.proofs.Residues.{equation_positive, equation_monic}
use Rattle.ff_order.proofs.different.times_power.Goals as goal

pub product-requires-clause-nonzero : goal.product-requires-clause-nonzero
product-requires-clause-nonzero g c =
    equation_positive (g.K.Ring.elements c.args.alg.now.k) (g.K.Ring.lawful c.args.alg.now.k)
    c.args.alg.now.f c.args.alg.now.plane c.args.alg.now.has_y c.args.chart c.args.rows.now
    c.requires.rows

pub product-requires-clause-monic : goal.product-requires-clause-monic
product-requires-clause-monic g c =
    equation_monic (g.K.Ring.elements c.args.alg.now.k) (g.K.Ring.lawful c.args.alg.now.k)
    c.args.alg.now.f c.args.alg.now.plane c.args.alg.now.has_y c.args.chart c.args.rows.now
    c.requires.rows

pub loop-i-init : goal.loop-i-init
loop-i-init g c =
    let F = g.K.Ring.elements c.args.alg.now.k in
    let L = g.K.Ring.lawful c.args.alg.now.k in
    let f = c.args.alg.now.f in
    let C = chart_of L f c.args.chart in
    let AL = algebra_laws F L f c.args.alg.now.plane c.args.alg.now.has_y in
    let e = c.in_ok-power.ensures in
    record {
      plane = subst (IsPlane F) (sym e) c.requires.a;
      few = omega (arith, ap length e, c.requires.few);
      value = ap (λ r. at_theta C (plane_of F r)) e
          ∙ sym (AL.mul_one (at_theta C (plane_of F c.args.a.now)));
    }

pub loop-i-preserved : goal.loop-i-preserved
loop-i-preserved g c =
    let F = g.K.Ring.elements c.args.alg.now.k in
    let L = g.K.Ring.lawful c.args.alg.now.k in
    let f = c.args.alg.now.f in
    let hf = c.args.alg.now.plane in
    let two = c.args.alg.now.has_y in
    let r = c.in_ok-power-2.power in
    record {
      plane = c.in_ok-power-2.ensures.plane;
      few = few_rows F L f hf two c.args.chart c.args.rows.now c.requires.rows r
          c.in_ok-power-2.ensures.smaller;
      value = power_more F L f hf two c.args.chart c.args.rows.now c.requires.rows c.args.a.now
          c.args.b.now c.loop-i.power r c.loop-i._i c.in_ok-power-2.ensures.value
          c.loop-i.invariant.value;
    }
