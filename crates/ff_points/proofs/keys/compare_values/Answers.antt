use Rattle.std.proofs.Common.{refl, sym, ◌∙◌, arith}
use Rattle.ff_points.proofs.PointKeys.{values-differ, values-agree, values-end}
use Rattle.ff_points.proofs.keys.compare_values.Goals as goal

pub loop-i-init : goal.loop-i-init
loop-i-init g c = refl

pub returns-then-is_ne : goal.returns-then-is_ne
returns-then-is_ne g c =
    let F = g.K.Ring.elements c.args.k.now in
    values-differ F c.args.v.now c.args.w.now c.loop-i.i c.compare_elements-order.result
    (omega (arith, c.loop-i-test.true)) (omega (arith, c.loop-i-test.true, c.requires.w.len))
    c.compare_elements-order.ensures
    (sym c.is_ne.ensures ∙ c.if-is_ne.true) c.loop-i.invariant

pub loop-i-preserved : goal.loop-i-preserved
loop-i-preserved g c =
    let F = g.K.Ring.elements c.args.k.now in
    values-agree F c.args.v.now c.args.w.now c.loop-i.i c.compare_elements-order.result
    (omega (arith, c.loop-i-test.true)) (omega (arith, c.loop-i-test.true, c.requires.w.len))
    c.compare_elements-order.ensures
    (sym c.is_ne.ensures ∙ c.if-is_ne.false) c.loop-i.invariant

pub returns : goal.returns
returns g c =
    let F = g.K.Ring.elements c.args.k.now in
    values-end F c.args.v.now c.args.w.now c.loop-i.i
    (omega (arith, c.loop-i-test.false))
    (omega (arith, c.loop-i-test.false, c.requires.w.len)) c.loop-i.invariant
