use Rattle.std.proofs.Common.{◌≡◌, List, ◌∙◌, ap, ℕ}
use Rattle.ff_theory.specs.Poly.{polynomials}
use Rattle.ff_theory.proofs.Poly.{polynomial_laws}
use Rattle.ff_theory.specs.Values.{poly_of}
use Rattle.ff_theory.proofs.Results.{ok_map}
use Rattle.ff_poly.proofs.CommonFactor.{exact_division}
use Rattle.ff_poly.proofs.poly.Poly.quotient.Goals as goal

pub returns-then-is_one-clause-value : goal.returns-then-is_one-clause-value
returns-then-is_one-clause-value g c =
    let K = g.K.Ring.elements c.args.k.now in
    let one : poly_of K c.args.b.now ≡ (polynomials K.ring).one = c.is_one.ensures.0
    c.if-is_one.true in
    ok_map (λ (r : List ℕ). r ≡ c.args.self.now)
    (λ (r : List ℕ). (polynomials K.ring).mul (poly_of K r) (poly_of K c.args.b.now)
    ≡ poly_of K c.args.self.now) c.copy.result
    (λ r e. ap ((polynomials K.ring).mul (poly_of K r)) one
    ∙ (polynomial_laws K.ring (g.met.K.Ring.laws c.args.k.now)
    (g.met.K.Ring.tests c.args.k.now)).mul_one (poly_of K r) ∙ ap (poly_of K) e) c.copy.ensures

pub returns-clause-value : goal.returns-clause-value
returns-clause-value g c =
    let K = g.K.Ring.elements c.args.k.now in
    exact_division K (g.K.Ring.lawful c.args.k.now) (poly_of K c.args.self.now)
    (poly_of K c.args.b.now) (poly_of K c.in_ok-quotient.quotient)
    (poly_of K c.in_ok-quotient._zero) c.in_ok-quotient.ensures.division c.requires.divisor
