use Rattle.std.proofs.Common.{◌<◌, length, map, refl, sym, ◌∙◌, ap, subst}
use Rattle.std.proofs.lemmas.List.{length-map}
use Rattle.ff_theory.specs.Lawful.{lawful_field}
use Rattle.ff_theory.specs.Poly.{coeff, polynomials}
use Rattle.ff_theory.specs.Values.{poly_of}
use Rattle.ff_elem.proofs.Quotients.{one-lowest}
use Rattle.ff_elem.proofs.fractions.lowest_terms.Goals as goal

pub returns-then-is_one-clause-lowest : goal.returns-then-is_one-clause-lowest
returns-then-is_one-clause-lowest g c =
    let K = g.K.Ring.elements c.args.k.now in
    one-lowest (lawful_field (g.K.Ring.lawful c.args.k.now)) (length c.args.num.items)
    (poly_of K c.args.den) (map (λ p. poly_of K p) c.args.num.items)
    (length-map c.args.num.items (λ p. poly_of K p)) (c.if-is_one.ensures.0 refl)

pub returns-clause-equal : goal.returns-clause-equal
returns-clause-equal g c =
    let K = g.K.Ring.elements c.args.k.now in
    let D = polynomials K.ring in
    let list = c.deref.ensures.value in
    λ i l. c.in_ok-den.ensures.equal i (subst (λ M. i < length M) (sym list) l)
    ∙ ap (λ M. D.mul (coeff D (map (λ p. poly_of K p) M) i) (poly_of K c.in_ok-den.den)) list
