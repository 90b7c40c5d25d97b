use Rattle.std.proofs.Common.{◌-◌, length, refl, ◌∙◌, ap, arith}
use Rattle.ff_data.proofs.EvaluationLemmas.{eval_none, eval_next, eval_whole}
use Rattle.ff_frac.proofs.values.evaluate.Goals as goal

pub loop-i-init : goal.loop-i-init
loop-i-init g c =
    let F = g.K.Ring.elements c.args.k.now in
    let L = g.K.Ring.lawful c.args.k.now in
    record {
      below = omega arith;
      element = c.zero-value.ensures.element;
      value = eval_none F L F.value (F.value c.args.a) c.args.coeffs.now
          (length c.args.coeffs.now) refl (F.value c.zero-value.result)
          c.zero-value.ensures.value;
    }

pub loop-i-preserved : goal.loop-i-preserved
loop-i-preserved g c =
    let F = g.K.Ring.elements c.args.k.now in
    let L = g.K.Ring.lawful c.args.k.now in
    let i = c.loop-i.i in
    let positive = c.loop-i-test.true in
    let old = c.loop-i.invariant in
    record {
      below = omega (arith, old.below);
      element = c.add-value.ensures.element;
      value = eval_next F L F.value (F.value c.args.a) c.args.coeffs.now i (i - 1)
          (omega (arith, positive)) (omega (arith, positive, old.below)) 0 _ refl _ _ _ refl
          old.value (c.add-value.ensures.value ∙ (ap (F.add _) c.mul.ensures.value));
    }

pub returns : goal.returns
returns g c =
    let F = g.K.Ring.elements c.args.k.now in
    let L = g.K.Ring.lawful c.args.k.now in
    record {
      element = c.loop-i.invariant.element;
      value = c.loop-i.invariant.value ∙ eval_whole F L F.value (F.value c.args.a)
          c.args.coeffs.now c.loop-i.i (omega (arith, c.loop-i-test.false));
    }
