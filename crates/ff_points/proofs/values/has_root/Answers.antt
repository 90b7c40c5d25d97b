use Rattle.std.proofs.Common.{◌<◌, ◌≤◌, sym, ◌∙◌, ap, subst, arith}
use Rattle.ff_theory.specs.Eval.{eval_list}
use Rattle.ff_points.proofs.RootLemmas.{not_below_next, no_root}
use Rattle.ff_points.proofs.values.has_root.Goals as goal

pub loop-i-init : goal.loop-i-init
loop-i-init g c t root below = absurd (omega (arith, below))

pub loop-i-preserved : goal.loop-i-preserved
loop-i-preserved g c =
    let F = g.K.Ring.elements c.args.k.now in
    let L = g.K.Ring.lawful c.args.k.now in
    let v = c.args.coeffs.now in
    not_below_next F L v c.loop-i.i c.loop-i.invariant
    (subst (λ n. c.loop-i.i < n) c.count-i-end.ensures c.loop-i-test.true)
    (F.value c.evaluate.result)
    (c.evaluate.ensures.value ∙ ap (λ t. eval_list F.ring F.value t v) c.nth.ensures.value)
    (sym c.is_zero.ensures ∙ c.if-is_zero.false)

pub returns : goal.returns
returns g c t root =
    let F = g.K.Ring.elements c.args.k.now in
    let L = g.K.Ring.lawful c.args.k.now in
    absurd (no_root F L c.args.coeffs.now c.loop-i.i c.loop-i.invariant
    (subst (λ n. n ≤ c.loop-i.i) c.count-i-end.ensures c.loop-i-test.false) t root)
