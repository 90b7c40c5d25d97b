use Rattle.std.proofs.Common.{◌-◌, ◌*◌, length, ◌∙◌, ap, ap₂, subst, arith}
use Rattle.ff_theory.specs.Vector.{vector_of, IsVector}
use Rattle.ff_theory.specs.Values.{poly_of}
use Rattle.ff_theory.proofs.Results.{ok_map}
use Rattle.ff_elem.specs.Elem.{elem_of}
use Rattle.ff_elem.proofs.PolyLemmas.{nonzero-length}
use Rattle.ff_data.specs.Orders.{y_degree}
use Rattle.ff_basis.specs.Blocks.{sum_of_blocks}
use Rattle.ff_data.proofs.ChartLaws.{chart_laws}
use Rattle.ff_basis.proofs.Lengths.{len_is, shorter_is}
use Rattle.ff_basis.proofs.ReadBack.{read_fraction}
use Rattle.ff_basis.proofs.reading.element.Goals as goal

pub overflow_sub-l : goal.overflow_sub-l
overflow_sub-l g c =
    let F = g.K.Ring.elements c.args.alg.now.k in
    let L = g.K.Ring.lawful c.args.alg.now.k in
    let l = chart_laws F L c.args.alg.now.f c.args.alg.now.plane c.args.alg.now.has_y c.args.chart
    in
    let long = nonzero-length F L c.args.den.now
    (l.modulus_nonzero (poly_of F c.args.den.now) c.requires.modulus) in
    omega (arith, long, ap length c.coeffs.ensures)

pub returns-clause-value : goal.returns-clause-value
returns-clause-value g c =
    let F = g.K.Ring.elements c.args.alg.now.k in
    let L = g.K.Ring.lawful c.args.alg.now.k in
    let f = c.args.alg.now.f in
    let den = c.args.den.now in
    let v = c.args.v.now in
    let l = len_is F L den c.coeffs.result.now c.requires.den c.coeffs.ensures in
    let k = shorter_is F L den c.requires.den in
    let n = ap (λ r. length r - 1) c.rows.ensures in
    ok_map _ _ c.mul.result (λ r e. read_fraction F L f c.args.alg.now.plane c.args.alg.now.has_y
    c.args.chart (poly_of F den) c.requires.modulus v
    (subst (λ k. IsVector F (y_degree L f * k) v) k c.requires.v)
    (elem_of L f c.args.factor.now) (elem_of L f c.args.theta.now) (elem_of L f c.in_ok-sum.sum)
    (elem_of L f r) c.requires.factor_is c.requires.theta.value
    (c.in_ok-sum.ensures.value ∙ ap₂ (sum_of_blocks L f c.args.chart (elem_of L f c.args.theta.now)
    (vector_of F v)) l n) e) c.mul.ensures.value
