use Rattle.std.proofs.Common.{length, ◌∙◌, ap}
use Rattle.ff_theory.specs.Poly.{polynomials}
use Rattle.ff_theory.proofs.Poly.{polynomial_laws}
use Rattle.ff_theory.proofs.Solver.{zero_add}
use Rattle.ff_theory.specs.Values.{poly_of}
use Rattle.ff_poly.proofs.Refill.{refill-whole}
use Rattle.ff_poly.proofs.poly.Poly.combination.Goals as goal

pub returns-clause-value : goal.returns-clause-value
returns-clause-value g c =
    let K = g.K.Ring.elements c.args.k.now in
    let first = (polynomials K.ring).mul (poly_of K c.args.c.now) (poly_of K c.args.a.now) in
    let second = (polynomials K.ring).mul (poly_of K c.args.t.now) (poly_of K c.args.b.now) in
    c.trim.ensures.value ∙ ap (poly_of K)
    (refill-whole c.in_ok-sum.sum.items c.add_combination.new.sum
    (c.add_combination.ensures.len ∙ ap length c.as_mut_slice.ensures.value))
    ∙ c.add_combination.ensures.value
    ∙ ap (λ s. (polynomials K.ring).add ((polynomials K.ring).add s first) second)
    (ap (poly_of K) c.as_mut_slice.ensures.value ∙ c.in_ok-sum.ensures.value)
    ∙ ap (λ s. (polynomials K.ring).add s second)
    (zero_add (polynomials K.ring) (polynomial_laws K.ring (g.met.K.Ring.laws c.args.k.now)
    (g.met.K.Ring.tests c.args.k.now)) first)
