use Rattle.std.proofs.Common.{◌≡◌, subst, arith}
use Rattle.ff_frac.specs.Numerators.{HasNumeratorsForm, AreNumeratorsAt}
use Rattle.ff_frac.proofs.module.numerators.Goals as goal

pub step-requires-clause-form : goal.step-requires-clause-form
step-requires-clause-form g c = c.loop-i.invariant.form

pub loop-i-init : goal.loop-i-init
loop-i-init g c = record {
  form = c.in_ok-numerators.ensures.form;
  exact = c.in_ok-numerators.ensures.exact;
}

pub loop-i-preserved : goal.loop-i-preserved
loop-i-preserved g c = record {
  form = c.in_ok-numerators-2.ensures.form;
  exact = λ place. c.in_ok-numerators-2.ensures.exact c.args.point.now place
      (c.loop-i.invariant.exact place);
}

pub returns : goal.returns
returns g c =
    let L = g.K.Ring.lawful c.args.alg.now.k in
    let f = c.args.alg.now.f in
    let o = c.args.order.now in
    let e : c.loop-i.i ≡ c.args.j = omega (
      arith,
      c.loop-i-test.false,
      c.loop-i.auto.i-end (omega (arith, c.requires.positive)),
    ) in
    record {
      form = subst (λ n. HasNumeratorsForm L f o n c.loop-i.numerators) e
          c.loop-i.invariant.form;
      exact = λ place. subst (λ n. AreNumeratorsAt L f o c.args.point.now n c.loop-i.numerators) e
          (c.loop-i.invariant.exact place);
    }
