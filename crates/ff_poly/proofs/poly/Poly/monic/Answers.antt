use Rattle.std.proofs.Common.{refl, ◌∙◌, ap}
use Rattle.ff_theory.specs.Poly.{polynomials}
use Rattle.ff_theory.proofs.Solver.{◌⊗◌, unit, ring1}
use Rattle.ff_theory.specs.Values.{poly_of, leading}
use Rattle.ff_theory.specs.Monomial.{monomial}
use Rattle.ff_poly.proofs.poly.Poly.monic.Goals as goal

pub returns-clause-value : goal.returns-clause-value
returns-clause-value g c =
    let K = g.K.Ring.elements c.args.k.now in
    c.with_leading.ensures.value
    ∙ ap (λ p. (polynomials K.ring).mul (monomial K.ring
    (K.mul (K.value c.one.result) (K.inverse (leading K p))) 0) (poly_of K p)) c.in_ok-copy.ensures
    ∙ ap (λ t. (polynomials K.ring).mul (monomial K.ring t 0) (poly_of K c.args.self.now))
    (ap (λ t. K.mul t (K.inverse (leading K c.args.self.now))) c.one.ensures.value
    ∙ ring1 K.ring (g.met.K.Ring.laws c.args.k.now) (λ a. unit ⊗ a) (λ a. a) refl
    (K.inverse (leading K c.args.self.now)))
