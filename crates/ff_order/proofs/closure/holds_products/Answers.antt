use Rattle.std.proofs.Common.{◌<◌, [], length, sym, ◌∙◌, subst, arith, below_more}
use Rattle.std.proofs.lemmas.List.{get_or_default}
use Rattle.ff_theory.specs.Values.{plane_of, IsPlane}
use Rattle.ff_charts.specs.Chart.{at_theta}
use Rattle.ff_elem.specs.Elem.{algebra_in}
use Rattle.ff_data.specs.Orders.{chart_of}
use Rattle.ff_order.specs.Closing.{HasQuotientIn, value_at}
use Rattle.ff_order.proofs.closure.holds_products.Goals as goal

pub holds_product-requires : goal.holds_product-requires
holds_product-requires g c =
    let F = g.K.Ring.elements c.args.alg.now.k in
    let planes = c.args.planes.now in
    let i = c.args.i in
    let j = c.loop-j.j in
    let h = c.requires.planes in
    let inside : j < length planes = omega (arith, c.loop-j-test.true, c.requires.index) in
    record {
      rows = c.requires.rows;
      space = c.requires.space;
      a = subst (IsPlane F) (sym (c.index-planes-i.is
          ∙ get_or_default planes i c.index-planes-i.result [] c.requires.index))
          (h.each i (omega (arith, c.requires.index, h.len))).plane;
      b = subst (IsPlane F) (sym (c.index-planes-j.is
          ∙ get_or_default planes j c.index-planes-j.result [] inside))
          (h.each j (omega (arith, inside, h.len))).plane;
    }

pub loop-j-preserved : goal.loop-j-preserved
loop-j-preserved g c =
    let F = g.K.Ring.elements c.args.alg.now.k in
    let L = g.K.Ring.lawful c.args.alg.now.k in
    let f = c.args.alg.now.f in
    let A = algebra_in L f in
    let chart = chart_of L f c.args.chart in
    let planes = c.args.planes.now in
    let d = c.args.rows.now.d in
    let i = c.args.i in
    let j = c.loop-j.j in
    below_more _ _ c.loop-j.invariant
    (subst (λ b. HasQuotientIn L f c.args.chart d c.args.space.now
    (A.mul (value_at L f c.args.chart d planes i) (at_theta chart (plane_of F b))))
    (c.index-planes-j.is ∙ get_or_default planes j c.index-planes-j.result []
    (omega (arith, c.loop-j-test.true, c.requires.index)))
    (subst (λ a. HasQuotientIn L f c.args.chart d c.args.space.now
    (A.mul (at_theta chart (plane_of F a)) (at_theta chart (plane_of F c.index-planes-j.result))))
    (c.index-planes-i.is ∙ get_or_default planes i c.index-planes-i.result [] c.requires.index)
    (c.in_ok-holds_product.ensures c.if-not-branch.false)))

pub returns : goal.returns
returns g c = λ t i l. c.loop-j.invariant i (omega (arith, l, c.loop-j-test.false))
