use Rattle.std.proofs.Common.{◌≡◌, ◌+◌, ◌-◌, ◌*◌, [], length, get_or, suc, max, cond, nat_eq, refl}
use Rattle.std.proofs.Common.{◌∙◌, ap, ap₂, arith}
use Rattle.std.proofs.lemmas.List.{get_or_default}
use Rattle.ff_poly.proofs.RowLists.{item-length, ord_max-max}
use Rattle.ff_poly.proofs.PseudoDivision.{last_row}
use Rattle.ff_poly.proofs.MonicForm.{greatest, row_degree_of, rows_degree}
use Rattle.ff_poly.proofs.monic.monic_degree.Goals as goal

pub overflow_sub-lead : goal.overflow_sub-lead
overflow_sub-lead g c =
    let K = g.K.Ring.elements c.args.k.now in
    let lead = last_row K (g.met.K.Ring.laws c.args.k.now) (g.met.K.Ring.tests c.args.k.now)
    c.args.rows.now c.index-rows-n.result c.requires.plane (omega (arith, c.requires.has_y))
    c.index-rows-n.is in
    omega (arith, lead.1, ap length c.coeffs.ensures)

pub row_degree-requires-clause-len : goal.row_degree-requires-clause-len
row_degree-requires-clause-len g c =
    let short = item-length c.args.rows.now c.loop-i.i c.index-rows-i.result (omega arith)
    c.index-rows-i.is in
    omega (arith, short, c.requires.width, ap length c.coeffs-in-loop-i.ensures)

pub row_degree-requires-clause-lead : goal.row_degree-requires-clause-lead
row_degree-requires-clause-lead g c =
    let short = item-length c.args.rows.now (length c.args.rows.now - 1) c.index-rows-n.result
    (omega (arith, c.requires.has_y)) c.index-rows-n.is in
    omega (arith, short, c.requires.width, ap length c.coeffs.ensures)

pub loop-i-preserved : goal.loop-i-preserved
loop-i-preserved g c =
    let rows = c.args.rows.now in
    let i = c.loop-i.i in
    let n = length rows - 1 in
    let m = length c.coeffs.result.now - 1 in
    let row : c.coeffs-in-loop-i.result.now ≡ get_or rows i [] = c.coeffs-in-loop-i.ensures
    ∙ c.index-rows-i.is ∙ get_or_default rows i c.index-rows-i.result [] (omega arith) in
    let degree : c.row_degree.result ≡ row_degree_of rows n m i = c.row_degree.ensures
    ∙ ap (λ p. cond (nat_eq (length p) 0) 0 (length p - 1 + (n - 1 - i) * m)) row in
    c.max-degree.ensures ∙ ord_max-max c.loop-i.degree c.row_degree.result
    ∙ ap₂ max c.loop-i.invariant degree ∙
    (let e : suc i ≡ i + 1 = omega arith in ap (λ k. greatest k (row_degree_of rows n m)) e)

pub returns : goal.returns
returns g c =
    let K = g.K.Ring.elements c.args.k.now in
    let laws = g.met.K.Ring.laws c.args.k.now in
    let tests = g.met.K.Ring.tests c.args.k.now in
    let rows = c.args.rows.now in
    let n = length rows - 1 in
    let last = last_row K laws tests rows c.index-rows-n.result c.requires.plane
    (omega (arith, c.requires.has_y)) c.index-rows-n.is in
    let end : c.loop-i.i ≡ n = omega arith in
    rows_degree (g.K.Ring.lawful c.args.k.now) rows n
    (length c.coeffs.result.now - 1) c.loop-i.degree c.coeffs.result.now c.requires.plane
    (omega (arith, c.requires.has_y)) (omega (arith, last.1, ap length c.coeffs.ensures))
    (c.coeffs.ensures ∙ c.index-rows-n.is ∙ get_or_default rows n c.index-rows-n.result []
    (omega (arith, c.requires.has_y))) refl
    (c.loop-i.invariant ∙ ap (λ k. greatest k
    (row_degree_of rows n (length c.coeffs.result.now - 1))) end)
