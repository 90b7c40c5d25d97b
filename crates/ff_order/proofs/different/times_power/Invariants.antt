use Rattle.std.proofs.Common.{◌≡◌, ◌≤◌, length}
use Rattle.ff_theory.specs.Ring.{power}
use Rattle.ff_theory.specs.Values.{plane_of, IsPlane}
use Rattle.ff_charts.specs.Chart.{at_theta}
use Rattle.ff_elem.specs.Elem.{algebra_in}
use Rattle.ff_data.specs.Orders.{chart_of, y_degree}
use Rattle.ff_order.proofs.different.times_power.Given as goal

abbrev pub invariant-loop-i : goal.invariant-loop-i
invariant-loop-i g l =
    let F = g.K.Ring.elements l.alg.k in
    let L = g.K.Ring.lawful l.alg.k in
    let c = chart_of L l.alg.f l.fn.chart in
    let A = algebra_in L l.alg.f in
    record {
      plane : IsPlane F l.power;
      few : length l.power ≤ y_degree L l.alg.f;
      value : at_theta c (plane_of F l.power) ≡ A.mul (at_theta c (plane_of F l.a))
          (power A (at_theta c (plane_of F l.b)) l._i);
    }
