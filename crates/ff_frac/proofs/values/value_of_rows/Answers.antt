use Rattle.std.proofs.Common.{ℕ, List, ◌-◌, length, refl, ◌∙◌, ap, arith}
use Rattle.ff_theory.specs.Eval.{eval_list}
use Rattle.ff_data.proofs.EvaluationLemmas.{eval_none, eval_next, eval_whole, rows_value}
use Rattle.ff_frac.proofs.values.value_of_rows.Goals as goal

pub loop-i-init : goal.loop-i-init
loop-i-init g c =
    let F = g.K.Ring.elements c.args.k.now in
    let L = g.K.Ring.lawful c.args.k.now in
    record {
      below = omega arith;
      element = c.zero-value.ensures.element;
      value = eval_none F L (λ p. eval_list F.ring F.value (F.value c.args.a) p)
          (F.value c.args.b) c.args.rows.now (length c.args.rows.now) refl
          (F.value c.zero-value.result) c.zero-value.ensures.value;
    }

pub loop-i-preserved : goal.loop-i-preserved
loop-i-preserved g c =
    let F = g.K.Ring.elements c.args.k.now in
    let L = g.K.Ring.lawful c.args.k.now in
    let i = c.loop-i.i in
    let positive = c.loop-i-test.true in
    let old = c.loop-i.invariant in
    let at : List ℕ → F.carrier = λ p. eval_list F.ring F.value (F.value c.args.a) p in
    record {
      below = omega (arith, old.below);
      element = c.add-value.ensures.element;
      value = eval_next F L at (F.value c.args.b) c.args.rows.now i (i - 1)
          (omega (arith, positive)) (omega (arith, positive, old.below)) c.index-rows-i.result
          c.index-rows-i.result c.index-rows-i.is _ _ _
          (c.evaluate.ensures.value ∙ ap at c.coeffs.ensures) old.value
          (c.add-value.ensures.value ∙ ap (F.add _) c.mul.ensures.value);
    }

pub returns : goal.returns
returns g c =
    let F = g.K.Ring.elements c.args.k.now in
    let L = g.K.Ring.lawful c.args.k.now in
    let at : List ℕ → F.carrier = λ p. eval_list F.ring F.value (F.value c.args.a) p in
    record {
      element = c.loop-i.invariant.element;
      value = c.loop-i.invariant.value ∙ eval_whole F L at (F.value c.args.b)
          c.args.rows.now c.loop-i.i (omega (arith, c.loop-i-test.false))
          ∙ rows_value F L (F.value c.args.a) (F.value c.args.b) c.args.rows.now;
    }
