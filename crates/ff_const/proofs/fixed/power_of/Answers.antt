use Rattle.std.proofs.Common.{◌≡◌, ◌+◌, suc, ◌∙◌, ap, arith}
use Rattle.ff_theory.specs.Ring.{power}
use Rattle.ff_elem.specs.Elem.{elem_of, algebra_in}
use Rattle.ff_const.proofs.fixed.power_of.Goals as goal

pub mul-requires : goal.mul-requires
mul-requires g c = record { a = c.requires; b = c.loop-i.invariant.element }

pub loop-i-init : goal.loop-i-init
loop-i-init g c = record {
  element = c.in_ok-power.ensures.element;
  value = c.in_ok-power.ensures.value;
}

pub loop-i-preserved : goal.loop-i-preserved
loop-i-preserved g c =
    let L = g.K.Ring.lawful c.args.alg.now.k in
    let f = c.args.alg.now.f in
    let A = algebra_in L f in
    let w = elem_of L f c.args.w.now in
    let next : suc c.loop-i._i ≡ c.loop-i._i + 1 = omega arith in
    record {
      element = c.in_ok-power-2.ensures.element;
      value = c.in_ok-power-2.ensures.value ∙ ap (A.mul w) c.loop-i.invariant.value
          ∙ ap (power A w) next;
    }

pub returns : goal.returns
returns g c =
    let L = g.K.Ring.lawful c.args.alg.now.k in
    let f = c.args.alg.now.f in
    let whole : c.loop-i._i ≡ c.args.n = omega (arith, c.loop-i-test.false, c.loop-i.auto._i-end) in
    record {
      element = c.loop-i.invariant.element;
      value = c.loop-i.invariant.value
          ∙ ap (power (algebra_in L f) (elem_of L f c.args.w.now)) whole;
    }
