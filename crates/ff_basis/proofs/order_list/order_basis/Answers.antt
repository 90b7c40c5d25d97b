use Rattle.std.proofs.Common.{ℕ, pred, ◌*◌, length, map, sym, ◌∙◌, ap, Vec, Global}
use Rattle.std.proofs.lemmas.List.{length-map}
use Rattle.ff_theory.specs.Values.{poly_of}
use Rattle.ff_theory.proofs.Results.{ok_map}
use Rattle.ff_lin.proofs.InsertRow.{basis_vectors}
use Rattle.ff_elem.proofs.PolyLemmas.{nonzero-length}
use Rattle.ff_data.specs.Orders.{y_degree, InOrder, IsIntegral}
use Rattle.ff_data.proofs.ChartLaws.{chart_laws}
use Rattle.ff_basis.proofs.Lengths.{ok_three, shorter_is}
use Rattle.ff_basis.proofs.OneList.{one_list, list_of, list_is}
use Rattle.ff_basis.proofs.order_list.order_basis.Goals as goal

pub elements-requires-clause-nonzero : goal.elements-requires-clause-nonzero
elements-requires-clause-nonzero g c =
    let F = g.K.Ring.elements c.args.alg.now.k in
    let L = g.K.Ring.lawful c.args.alg.now.k in
    let a = c.args.alg.now in
    let l = chart_laws F L a.f a.plane a.has_y c.args.order.now.chart in
    nonzero-length F L c.in_ok-den.den
    (l.modulus_nonzero (poly_of F c.in_ok-den.den) c.in_ok-den.ensures.least.modulus)

pub elements-requires-clause-basis : goal.elements-requires-clause-basis
elements-requires-clause-basis g c =
    let F = g.K.Ring.elements c.args.alg.now.k in
    let L = g.K.Ring.lawful c.args.alg.now.k in
    let n = y_degree L c.args.alg.now.f in
    let items : Vec ℕ Global → _ = λ v. v.items in
    let den = c.in_ok-den.den in
    basis_vectors F items c.basis.result.now c.basis.result.now c.in_ok-den.space
    (n * pred (length den)) (λ i. c.basis.result.now) c.basis.ensures
    (ap (λ k. n * k) (shorter_is F L den c.in_ok-den.ensures.den)
    ∙ sym c.in_ok-den.ensures.space.len) c.in_ok-den.ensures.space.space

pub returns-clause-list : goal.returns-clause-list
returns-clause-list g c =
    let F = g.K.Ring.elements c.args.alg.now.k in
    let L = g.K.Ring.lawful c.args.alg.now.k in
    let f = c.args.alg.now.f in
    let o = c.args.order.now in
    let items : Vec ℕ Global → _ = λ v. v.items in
    let basis = c.basis.result.now in
    let h = c.in_ok-den.ensures in
    ok_three _ _ _ _ c.elements.result (λ r len each value. list_is F L f o.chart (InOrder L f o)
    (poly_of F c.in_ok-den.den) c.in_ok-den.space (map items basis) (length basis) r.items h.least
    h.space h.exact c.basis.ensures (length-map basis items) len each value) c.elements.ensures.len
    c.elements.ensures.each c.elements.ensures.value

pub returns-clause-only : goal.returns-clause-only
returns-clause-only g c =
    let F = g.K.Ring.elements c.args.alg.now.k in
    let L = g.K.Ring.lawful c.args.alg.now.k in
    let a = c.args.alg.now in
    let o = c.args.order.now in
    ok_map _ _ c.elements.result (λ r h elems k. one_list F L a.f a.plane a.has_y
    (g.met.K.Ring.one_value a.k) o.chart (InOrder L a.f o) (InOrder L a.f o) (λ w q. q) (λ w q. q)
    r.items elems h k) (returns-clause-list g c)

pub returns-clause-maximal : goal.returns-clause-maximal
returns-clause-maximal g c m =
    let F = g.K.Ring.elements c.args.alg.now.k in
    let L = g.K.Ring.lawful c.args.alg.now.k in
    let a = c.args.alg.now in
    let o = c.args.order.now in
    ok_map _ _ c.elements.result (λ r h. list_of F L a.f a.plane a.has_y
    (g.met.K.Ring.one_value a.k) o.chart (IsIntegral L a.f o.chart) (InOrder L a.f o)
    (λ w q. (m.exact w).1 q) (λ w q. (m.exact w).0 q) r.items h) (returns-clause-list g c)
