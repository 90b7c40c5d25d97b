use Rattle.std.proofs.Common.{◌≡◌, ℕ, ◌-◌, ◌*◌, length, sym, ◌∙◌, ap, ap₂, arith}
use Rattle.std.proofs.Common.{Vec, Global}
use Rattle.std.proofs.lemmas.List.{length-map}
use Rattle.ff_theory.specs.Vector.{vectors_of}
use Rattle.ff_theory.specs.Values.{poly_of}
use Rattle.ff_basis.specs.Blocks.{row_in}
use Rattle.ff_lin.proofs.InsertRow.{basis_vectors}
use Rattle.ff_elem.proofs.PolyLemmas.{nonzero-length}
use Rattle.ff_data.proofs.ChartLaws.{chart_laws}
use Rattle.ff_basis.proofs.Lengths.{ok_four, less_one, lowest_rows_are}
use Rattle.ff_basis.proofs.order_list.lowest_rows.Goals as goal

pub overflow_sub-l : goal.overflow_sub-l
overflow_sub-l g c =
    let F = g.K.Ring.elements c.args.alg.now.k in
    let L = g.K.Ring.lawful c.args.alg.now.k in
    let o = c.args.order.now in
    let l = chart_laws F L c.args.alg.now.f c.args.alg.now.plane c.args.alg.now.has_y o.chart in
    let long = nonzero-length F L o.d (l.modulus_nonzero (poly_of F o.d) c.requires.modulus) in
    omega (arith, long, ap length c.coeffs.ensures)

pub basis_rows-requires-clause-basis : goal.basis_rows-requires-clause-basis
basis_rows-requires-clause-basis g c =
    let F = g.K.Ring.elements c.args.alg.now.k in
    let L = g.K.Ring.lawful c.args.alg.now.k in
    let f = c.args.alg.now.f in
    let o = c.args.order.now in
    let items : Vec ℕ Global → _ = λ v. v.items in
    let n = ap (λ r. length r - 1) c.rows.ensures in
    let k = ap (λ r. length r - 1) c.coeffs.ensures in
    basis_vectors F items c.basis-basis.result.now c.basis-basis.result.now o.space
    ((length c.rows.result.now - 1) * (length c.coeffs.result.now - 1))
    (λ i. c.basis-basis.result.now)
    c.basis-basis.ensures (ap₂ (λ a b. a * b) n (k ∙ less_one o.d) ∙ sym c.requires.space.len)
    c.requires.space.space

pub lowest-requires-clause-nonzero : goal.lowest-requires-clause-nonzero
lowest-requires-clause-nonzero g c =
    let F = g.K.Ring.elements c.args.alg.now.k in
    let L = g.K.Ring.lawful c.args.alg.now.k in
    let o = c.args.order.now in
    let l = chart_laws F L c.args.alg.now.f c.args.alg.now.plane c.args.alg.now.has_y o.chart in
    nonzero-length F L o.d (l.modulus_nonzero (poly_of F o.d) c.requires.modulus)

pub returns-in_ok-rows-in-Some : goal.returns-in_ok-rows-in-Some
returns-in_ok-rows-in-Some g c =
    let F = g.K.Ring.elements c.args.alg.now.k in
    let L = g.K.Ring.lawful c.args.alg.now.k in
    let f = c.args.alg.now.f in
    let o = c.args.order.now in
    let items : Vec ℕ Global → _ = λ v. v.items in
    let n = ap (λ r. length r - 1) c.rows.ensures in
    let k = ap (λ r. length r - 1) c.coeffs.ensures in
    let rows = c.in_ok-rows-in-Some.rows.items in
    let total : length c.basis-basis.result.now ≡ length o.space.basis =
    sym (length-map c.basis-basis.result.now items) ∙ ap length c.basis-basis.ensures in
    ok_four _ _ _ _ _ c.lowest.result (λ r den each lowest equal.
    lowest_rows_are F L f o (length c.rows.result.now - 1) (length c.coeffs.result.now - 1)
    c.in-Some.count c.deref.result.now rows r.1.items r.0 n (k ∙ less_one o.d)
    (c.in-Some.ensures.1 ∙ ap (λ t. t * (length c.rows.result.now - 1)) total) c.deref.ensures.value
    c.in_ok-rows-in-Some.ensures.len
    (λ s q. c.in_ok-rows-in-Some.ensures.value s q
    ∙ ap (λ b. row_in F.ring (vectors_of F b) (length c.rows.result.now - 1)
    (length c.coeffs.result.now - 1) s) c.basis-basis.ensures) den each lowest equal)
    c.lowest.ensures.den c.lowest.ensures.nums c.lowest.ensures.lowest c.lowest.ensures.equal
