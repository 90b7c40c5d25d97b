use Rattle.std.proofs.Common.{sym, ◌∙◌, ap, subst, arith}
use Rattle.ff_theory.specs.Values.{poly_of, ArePolys, x_size}
use Rattle.ff_elem.specs.Elem.{elem_of}
use Rattle.ff_order.specs.Quotients.{AreQuotients}
use Rattle.ff_order.proofs.ChartLemmas.{infinite-rows, quotient-width}
use Rattle.ff_order.proofs.chart.infinite_rows.Goals as goal

pub infinite_multiple-requires-clause-rows : goal.infinite_multiple-requires-clause-rows
infinite_multiple-requires-clause-rows g c =
    subst (ArePolys (g.K.Ring.elements c.args.alg.now.k)) (sym c.deref-2.ensures.value)
    c.in_ok-quotients.ensures.each

pub returns : goal.returns
returns g c =
    let F = g.K.Ring.elements c.args.alg.now.k in
    let L = g.K.Ring.lawful c.args.alg.now.k in
    let f = c.args.alg.now.f in
    let sep = c.args.sep.now in
    let items = c.deref-2.result.now in
    infinite-rows F L f c.args.alg.now.plane c.args.alg.now.has_y sep c.requires items _
    (subst (AreQuotients L f _ (poly_of F sep.d) (elem_of L f sep.b)) (sym c.deref-2.ensures.value)
    (subst (λ e. AreQuotients L f e (poly_of F sep.d) (elem_of L f sep.b)
    c.in_ok-quotients.quotients.items) c.in_ok-e.ensures.slope c.in_ok-quotients.ensures))
    (λ i l. let w = quotient-width F L items i l in
    let x = ap x_size (c.deref-2.ensures.value ∙ sym c.deref.ensures.value) in
    omega (arith, w, x, c.width.ensures)) _
    c.in_ok-e.ensures.plane c.in_ok-e.ensures.value c.in_ok-d.ensures.d c.in_ok-d.ensures.d_value
    c.in_ok-d.ensures.plane c.in_ok-d.ensures.rows c.in_ok-d.ensures.value
