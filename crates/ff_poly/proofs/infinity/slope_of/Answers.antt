use Rattle.std.proofs.Common.{◌≡◌, ◌-◌, [], max, length, ◌∙◌, ap, ap₂, arith}
use Rattle.std.proofs.lemmas.List.{get_or_default}
use Rattle.ff_theory.specs.Values.{plane_of}
use Rattle.ff_theory.specs.Reversal.{slope_below, quotient_up}
use Rattle.ff_poly.proofs.RowLists.{item-length, ord_max-max}
use Rattle.ff_poly.proofs.AtInfinity.{slope-step}
use Rattle.ff_poly.proofs.infinity.slope_of.Goals as goal

pub row_slope-requires-clause-len : goal.row_slope-requires-clause-len
row_slope-requires-clause-len g c =
    let short = item-length c.args.rows.now c.loop-i.i c.index-rows-i.result (omega arith)
    c.index-rows-i.is in
    omega (arith, short, c.requires.width, ap length c.coeffs.ensures)

pub loop-i-preserved : goal.loop-i-preserved
loop-i-preserved g c =
    let K = g.K.Ring.elements c.args.k.now in
    let rows = c.args.rows.now in
    let i = c.loop-i.i in
    let n = length rows - 1 in
    let row = ap (λ p. quotient_up (length p - 1) (n - i))
    (c.coeffs.ensures ∙ c.index-rows-i.is ∙ get_or_default rows i c.index-rows-i.result []
    (omega arith)) in
    c.max-e.ensures ∙ ord_max-max c.loop-i.e c.row_slope.result
    ∙ ap₂ max c.loop-i.invariant (c.row_slope.ensures ∙ row)
    ∙ slope-step K (g.met.K.Ring.laws c.args.k.now) (g.met.K.Ring.tests c.args.k.now) rows n i _
    c.requires.plane (omega arith) (omega arith)

pub returns : goal.returns
returns g c =
    let K = g.K.Ring.elements c.args.k.now in
    let end : c.loop-i.i ≡ length c.args.rows.now - 1 = omega arith in
    c.loop-i.invariant ∙ ap (slope_below K.ring (length c.args.rows.now - 1)
    (plane_of K c.args.rows.now)) end
