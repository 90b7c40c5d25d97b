use Rattle.std.proofs.Common.{◌≡◌, suc, ◌+◌, ◌∙◌, ap, arith}
use Rattle.ff_theory.specs.Ring.{power}
use Rattle.ff_theory.specs.Values.{poly_of, polys_over}
use Rattle.ff_order.proofs.images.poly_power.Goals as goal

pub loop-i-init : goal.loop-i-init
loop-i-init g c = record {
  poly = c.in_ok-power.ensures.poly;
  value = c.in_ok-power.ensures.value;
}

pub loop-i-preserved : goal.loop-i-preserved
loop-i-preserved g c =
    let F = g.K.Ring.elements c.args.k.now in
    let P = polys_over F in
    let d = poly_of F c.args.d.now in
    let next : suc c.loop-i._i ≡ c.loop-i._i + 1 = omega arith in
    record {
      poly = c.in_ok-power-2.ensures.poly;
      value = c.in_ok-power-2.ensures.value ∙ ap (P.mul d) c.loop-i.invariant.value
          ∙ ap (power P d) next;
    }
