use Rattle.std.proofs.Common.{◌+◌, length, ◌∙◌, ap, arith}
use Rattle.std.proofs.lemmas.List.{take_all}
use Rattle.ff_theory.specs.Values.{x_size}
use Rattle.ff_poly.proofs.RowLists.{x_size-take, ord_max-max}
use Rattle.ff_poly.proofs.rows.width.Goals as goal

pub loop-p-preserved : goal.loop-p-preserved
loop-p-preserved c =
    let step = x_size-take c.args.rows.now c.loop-p.p-index (c.loop-p.p-index + 1) c.p-item.result
    (omega arith) (omega arith) in
    let size = ap length (c.coeffs.ensures ∙ c.p-item.is) in
    let e = c.max-n.ensures ∙ ord_max-max c.loop-p.n (length c.coeffs.result.now) in
    omega (arith, e, c.loop-p.invariant, size, step)

pub returns : goal.returns
returns c = c.loop-p.invariant ∙ ap x_size
    (take_all c.loop-p.p-index c.args.rows.now c.loop-p-test.false)
