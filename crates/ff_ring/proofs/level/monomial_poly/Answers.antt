use Rattle.std.proofs.Common.{◌≡◌, List, ℕ, [], ◌∷◌, ◌∙◌, ap, ap₂}
use Rattle.ff_theory.specs.Ring.{power}
use Rattle.ff_theory.specs.Monomial.{variable}
use Rattle.ff_theory.specs.Values.{poly_of, polys_over}
use Rattle.ff_theory.proofs.Poly.{polynomial_laws}
use Rattle.ff_theory.proofs.Results.{ok_map}
use Rattle.ff_ring.specs.Affine.{term_poly}
use Rattle.ff_ring.proofs.level.monomial_poly.Goals as goal

pub returns-clause-value : goal.returns-clause-value
returns-clause-value g c =
    let F = g.K.Ring.elements c.args.k.now in
    let L = g.K.Ring.lawful c.args.k.now in
    let P = polys_over F in
    let z = power P (variable F.ring) c.args.power in
    ok_map (λ (r : List ℕ). poly_of F r
    ≡ P.mul (poly_of F c.in_ok-raised.raised) (poly_of F c.in_ok-constant.constant))
    (λ (r : List ℕ). poly_of F r ≡ term_poly F c.args.c c.args.power) c.mul.result
    (λ r h. h ∙ ap₂ P.mul (c.in_ok-raised.ensures.value ∙ ap (P.mul z) c.in_ok-one.ensures.value
    ∙ (polynomial_laws F.ring L.laws L.tests).mul_one z) c.in_ok-constant.ensures.value)
    c.mul.ensures.value
