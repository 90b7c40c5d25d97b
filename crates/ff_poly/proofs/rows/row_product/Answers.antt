use Rattle.std.proofs.Common.{◌+◌, ◌-◌, length, ◌∙◌, ap}
use Rattle.ff_theory.specs.Poly.{coeff, polynomials}
use Rattle.ff_theory.specs.Sum.{sum_below}
use Rattle.ff_theory.proofs.Poly.{polynomial_laws}
use Rattle.ff_theory.proofs.Solver.{zero_add}
use Rattle.ff_theory.specs.Values.{poly_of, polys_of}
use Rattle.ff_poly.proofs.Refill.{refill-whole}
use Rattle.ff_poly.proofs.rows.row_product.Goals as goal

pub returns-clause-value : goal.returns-clause-value
returns-clause-value g c =
    let K = g.K.Ring.elements c.args.k.now in
    let P = polynomials K.ring in
    let row = sum_below P (c.args.i + 1)
    (λ j. P.mul (coeff P (polys_of K c.args.a.now) j)
    (coeff P (polys_of K c.args.b.now) (c.args.i - j))) in
    c.trim.ensures.value ∙ ap (poly_of K)
    (refill-whole c.in_ok-sum.sum.items c.add_row.new.sum
    (c.add_row.ensures.len ∙ ap length c.as_mut_slice.ensures.value)) ∙ c.add_row.ensures.value
    ∙ ap (λ t. P.add t row) (ap (poly_of K) c.as_mut_slice.ensures.value
    ∙ c.in_ok-sum.ensures.value) ∙ zero_add P
    (polynomial_laws K.ring (g.met.K.Ring.laws c.args.k.now) (g.met.K.Ring.tests c.args.k.now)) row
