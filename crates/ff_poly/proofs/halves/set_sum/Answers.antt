use Rattle.std.proofs.Common.{◌∙◌, ap}
use Rattle.ff_theory.specs.Poly.{polynomials}
use Rattle.ff_theory.specs.Values.{poly_of}
use Rattle.ff_theory.specs.Monomial.{monomial}
use Rattle.ff_poly.proofs.ListHalves.{one-scaled}
use Rattle.ff_poly.proofs.halves.set_sum.Goals as goal

pub returns-clause-value : goal.returns-clause-value
returns-clause-value g c =
    let K = g.K.Ring.elements c.args.k.now in
    let P = polynomials K.ring in
    c.add_scaled.ensures.value ∙ ap (λ t. P.add (poly_of K t)
    (P.mul (monomial K.ring (K.value c.one.result) 0) (poly_of K c.args.b.now)))
    c.copy_from_slice.ensures.after
    ∙ ap (P.add (poly_of K c.args.a.now))
    (one-scaled K.ring (g.met.K.Ring.laws c.args.k.now) (g.met.K.Ring.tests c.args.k.now)
    (K.value c.one.result) (poly_of K c.args.b.now) c.one.ensures.value)
