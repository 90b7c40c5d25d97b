use Rattle.std.proofs.Common.{◌∙◌, ap, arith}
use Rattle.ff_theory.specs.Poly.{coeff, Poly, polynomials}
use Rattle.ff_order.proofs.ChartLemmas.{plane-at}
use Rattle.ff_order.proofs.chart.infinite_multiple.Goals as goal

pub returns-clause-rows : goal.returns-clause-rows
returns-clause-rows g c =
    omega (arith, c.from_vec.ensures.len, c.in_ok-rows.ensures.len)

pub returns-clause-value : goal.returns-clause-value
returns-clause-value g c =
    let F = g.K.Ring.elements c.args.k.now in
    λ i l. ap (λ (M : Poly (polynomials F.ring)). coeff (polynomials F.ring) M.coeffs i)
    c.from_vec.ensures.value
    ∙ plane-at F (g.K.Ring.lawful c.args.k.now) c.in_ok-rows.rows.items i
    ∙ c.in_ok-rows.ensures.value i l
