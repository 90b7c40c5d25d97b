use Rattle.std.proofs.Common.{◌≡◌, suc, ◌+◌, sym, ◌∙◌, ap, subst, arith}
use Rattle.ff_theory.specs.Ring.{power}
use Rattle.ff_theory.specs.Values.{poly_of, plane_of, IsPlane}
use Rattle.ff_charts.specs.Chart.{at_theta}
use Rattle.ff_charts.specs.Lattice.{IsResidue}
use Rattle.ff_elem.specs.Elem.{algebra_in}
use Rattle.ff_data.specs.Orders.{chart_of}
use Rattle.ff_data.proofs.ChartLaws.{algebra_laws}
use Rattle.ff_order.proofs.Products.{power_step}
use Rattle.ff_order.proofs.power.residue_times_power.Goals as goal

pub loop-i-init : goal.loop-i-init
loop-i-init g c =
    let F = g.K.Ring.elements c.args.alg.now.k in
    let L = g.K.Ring.lawful c.args.alg.now.k in
    let f = c.args.alg.now.f in
    let C = chart_of L f c.args.chart in
    let AL = algebra_laws F L f c.args.alg.now.plane c.args.alg.now.has_y in
    let e = sym c.in_ok-power.ensures in
    record {
      plane = subst (IsPlane F) e c.requires.a;
      value = λ v p. subst (λ w. IsResidue C (poly_of F c.args.m.now) w
          (plane_of F c.in_ok-power.power)) (sym (AL.mul_one v))
          (subst (λ r. IsResidue C (poly_of F c.args.m.now) v (plane_of F r)) e p);
    }

pub loop-i-preserved : goal.loop-i-preserved
loop-i-preserved g c =
    let F = g.K.Ring.elements c.args.alg.now.k in
    let L = g.K.Ring.lawful c.args.alg.now.k in
    let f = c.args.alg.now.f in
    let C = chart_of L f c.args.chart in
    let A = algebra_in L f in
    let b = at_theta C (plane_of F c.args.b.now) in
    let AL = algebra_laws F L f c.args.alg.now.plane c.args.alg.now.has_y in
    let i = c.loop-i._i in
    let next : suc i ≡ i + 1 = omega arith in
    record {
      plane = c.in_ok-power-2.ensures.plane;
      value = λ v p. subst (λ w. IsResidue C (poly_of F c.args.m.now) w
          (plane_of F c.in_ok-power-2.power))
          (power_step A AL v b i ∙ ap (λ n. A.mul v (power A b n)) next)
          (c.in_ok-power-2.ensures.value (A.mul v (power A b i)) (c.loop-i.invariant.value v p));
    }
