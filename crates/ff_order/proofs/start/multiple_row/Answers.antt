use Rattle.std.proofs.Common.{◌≡◌, ℕ, ◌-◌, ◌%◌, ◌<◌, [], length, sym, ◌∙◌, ap, subst}
use Rattle.std.proofs.Common.{arith, Vec, Global}
use Rattle.std.proofs.lemmas.List.{get_or-map}
use Rattle.ff_theory.specs.Vector.{vector_of}
use Rattle.ff_theory.specs.Values.{plane_of}
use Rattle.ff_theory.proofs.Results.{ok_map}
use Rattle.ff_charts.specs.Chart.{at_theta}
use Rattle.ff_data.specs.Orders.{chart_of}
use Rattle.ff_order.specs.Steps.{IsMultipleRow}
use Rattle.ff_order.proofs.Lengths.{len_is}
use Rattle.ff_order.proofs.Monomials.{row_long, long}
use Rattle.ff_order.proofs.Multiples.{first_multiple, next_in_row, next_in_column}
use Rattle.ff_order.proofs.start.multiple_row.Goals as goal

pub returns-then-s-eq0-clause-value : goal.returns-then-s-eq0-clause-value
returns-then-s-eq0-clause-value g c =
    let F = g.K.Ring.elements c.args.alg.now.k in
    let L = g.K.Ring.lawful c.args.alg.now.k in
    let f = c.args.alg.now.f in
    let hf = c.args.alg.now.plane in
    let two = c.args.alg.now.has_y in
    let rows = c.args.rows.now in
    let s = length c.args.list.now in
    let e : 0 ≡ s = omega (arith, c.if-s-eq0.true) in
    ok_map _ _ c.residue_vector.result
    (λ r h. subst (λ s. IsMultipleRow L f c.args.chart rows.d rows.multiple s
    (vector_of F r.items)) e
    (first_multiple F L f hf two c.args.chart rows c.requires.rows
    (row_long F L f hf two c.args.chart rows.d rows.d c.requires.rows.d c.coeffs.result.now
    c.coeffs.ensures s c.requires.index) (vector_of F r.items) h)) c.residue_vector.ensures.value

pub returns-then-s-l-eq0-clause-value : goal.returns-then-s-l-eq0-clause-value
returns-then-s-l-eq0-clause-value g c =
    let F = g.K.Ring.elements c.args.alg.now.k in
    let L = g.K.Ring.lawful c.args.alg.now.k in
    let f = c.args.alg.now.f in
    let hf = c.args.alg.now.plane in
    let two = c.args.alg.now.has_y in
    let items : Vec ℕ Global → _ = λ v. v.items in
    let rows = c.args.rows.now in
    let list = c.args.list.now in
    let s = length list in
    let e = c.coeffs.result.now in
    let t = s - (length e - 1) in
    let given = c.deref.result.now in
    let b = at_theta (chart_of L f c.args.chart) (plane_of F c.args.variables.now.1) in
    let positive : 0 < s = omega (arith, c.if-s-eq0.false) in
    let wide = long F L f hf two c.args.chart rows.d rows.d c.requires.rows.d e c.coeffs.ensures s
    c.requires.index in
    let len = len_is F L f hf two c.args.chart rows.d e c.coeffs.ensures c.requires.rows.d in
    let inside : t < s = omega (arith, wide, positive) in
    let same = get_or-map items list t c.index-list-s.result [] inside
    ∙ ap items (sym c.index-list-s.is) ∙ sym c.deref.ensures.value in
    ok_map _ _ c.next_multiple.result
    (λ r h. next_in_column F L f hf two c.args.chart rows c.requires.rows s b (vector_of F given)
    (vector_of F r.items) h
    (row_long F L f hf two c.args.chart rows.d rows.d c.requires.rows.d e c.coeffs.ensures s
    c.requires.index) c.requires.theta_is (subst (λ l. s % l ≡ 0) len c.if-s-l-eq0.true) positive
    (subst (λ l. IsMultipleRow L f c.args.chart rows.d rows.multiple (s - l)
    (vector_of F given)) len
    (subst (λ v. IsMultipleRow L f c.args.chart rows.d rows.multiple t (vector_of F v)) same
    (c.requires.multiples t inside)))) c.next_multiple.ensures.value

pub returns-clause-value : goal.returns-clause-value
returns-clause-value g c =
    let F = g.K.Ring.elements c.args.alg.now.k in
    let L = g.K.Ring.lawful c.args.alg.now.k in
    let f = c.args.alg.now.f in
    let hf = c.args.alg.now.plane in
    let two = c.args.alg.now.has_y in
    let items : Vec ℕ Global → _ = λ v. v.items in
    let rows = c.args.rows.now in
    let list = c.args.list.now in
    let s = length list in
    let e = c.coeffs.result.now in
    let given = c.deref-2.result.now in
    let b = at_theta (chart_of L f c.args.chart) (plane_of F c.args.variables.now.0) in
    let len = len_is F L f hf two c.args.chart rows.d e c.coeffs.ensures c.requires.rows.d in
    let inside : s - 1 < s = omega (arith, c.if-s-eq0.false) in
    let same = get_or-map items list (s - 1) c.index-list-s-2.result [] inside
    ∙ ap items (sym c.index-list-s-2.is) ∙ sym c.deref-2.ensures.value in
    ok_map _ _ c.next_multiple-2.result
    (λ r h. next_in_row F L f hf two c.args.chart rows c.requires.rows s b (vector_of F given)
    (vector_of F r.items) h
    (row_long F L f hf two c.args.chart rows.d rows.d c.requires.rows.d e c.coeffs.ensures s
    c.requires.index) c.requires.u_is (subst (λ l. ¬ (s % l ≡ 0)) len c.if-s-l-eq0.false)
    (subst (λ v. IsMultipleRow L f c.args.chart rows.d rows.multiple (s - 1) (vector_of F v)) same
    (c.requires.multiples (s - 1) inside))) c.next_multiple-2.ensures.value
