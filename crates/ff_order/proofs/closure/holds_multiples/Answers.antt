use Rattle.std.proofs.Common.{[], sym, ◌∙◌, subst, arith, below_more}
use Rattle.std.proofs.lemmas.List.{get_or_default}
use Rattle.ff_theory.specs.Values.{plane_of, IsPlane}
use Rattle.ff_charts.specs.Chart.{at_theta}
use Rattle.ff_elem.specs.Elem.{algebra_in}
use Rattle.ff_data.specs.Orders.{chart_of}
use Rattle.ff_order.specs.Steps.{HasResidueShape}
use Rattle.ff_order.specs.Closing.{HasResidueIn}
use Rattle.ff_order.proofs.closure.holds_multiples.Goals as goal

pub holds_multiple-requires : goal.holds_multiple-requires
holds_multiple-requires g c =
    let F = g.K.Ring.elements c.args.alg.now.k in
    let L = g.K.Ring.lawful c.args.alg.now.k in
    let i = c.loop-i.i in
    let same = c.index-planes-i.is
    ∙ get_or_default c.args.planes.now i c.index-planes-i.result [] c.loop-i-test.true in
    let p = c.requires.planes.each i (omega (arith, c.loop-i-test.true, c.requires.planes.len)) in
    record {
      rows = c.requires.rows;
      space = c.requires.space;
      plane = subst (IsPlane F) (sym same) p.plane;
      shape = subst (λ a. HasResidueShape L c.args.alg.now.f c.args.chart c.args.rows.now.d
          (plane_of F a)) (sym same) p.shape;
      by = c.requires.by;
    }

pub loop-i-preserved : goal.loop-i-preserved
loop-i-preserved g c =
    let F = g.K.Ring.elements c.args.alg.now.k in
    let L = g.K.Ring.lawful c.args.alg.now.k in
    let f = c.args.alg.now.f in
    let chart = chart_of L f c.args.chart in
    let y = at_theta chart (plane_of F c.args.by.now) in
    let planes = c.args.planes.now in
    let i = c.loop-i.i in
    below_more _ _ c.loop-i.invariant
    (subst (λ a. HasResidueIn L f c.args.chart c.args.rows.now.d c.args.space.now
    ((algebra_in L f).mul (at_theta chart (plane_of F a)) y))
    (c.index-planes-i.is ∙ get_or_default planes i c.index-planes-i.result [] c.loop-i-test.true)
    (c.in_ok-holds_multiple.ensures c.if-not-branch.false))

pub returns : goal.returns
returns g c = λ t i l. c.loop-i.invariant i (omega (arith, l, c.loop-i-test.false))
