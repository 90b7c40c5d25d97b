use Rattle.std.proofs.Common.{◌≡◌, ◌∙◌}
use Rattle.ff_theory.specs.Poly.{polynomials}
use Rattle.ff_theory.proofs.Poly.{polynomial_laws}
use Rattle.ff_theory.specs.Values.{poly_of}
use Rattle.ff_theory.proofs.Results.{ok_map}
use Rattle.ff_poly.proofs.poly.Poly.sum.Goals as goal

pub returns-then-a-b-clause-value : goal.returns-then-a-b-clause-value
returns-then-a-b-clause-value g c =
    let K = g.K.Ring.elements c.args.k.now in
    ok_map (λ r. poly_of K r ≡ (polynomials K.ring).add (poly_of K c.args.b.now)
    (poly_of K c.args.a.now)) (λ r. poly_of K r ≡ (polynomials K.ring).add (poly_of K c.args.a.now)
    (poly_of K c.args.b.now)) c.sum_of.result
    (λ r h. h ∙ (polynomial_laws K.ring (g.met.K.Ring.laws c.args.k.now)
    (g.met.K.Ring.tests c.args.k.now)).add_comm (poly_of K c.args.b.now) (poly_of K c.args.a.now))
    c.sum_of.ensures.value
