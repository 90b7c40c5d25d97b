use Rattle.std.proofs.Common.{ap, ◌∙◌, [], ◌∷◌}
use Rattle.ff_theory.specs.Monomial.{monomial}
use Rattle.ff_theory.specs.Poly.{poly}
use Rattle.ff_theory.specs.Values.{poly_of, polys_over}
use Rattle.ff_theory.proofs.Poly.{polynomial_laws}
use Rattle.ff_relation.proofs.reduce.add_at.Goals as goal

pub returns-clause-value : goal.returns-clause-value
returns-clause-value g c =
    let F = g.K.Ring.elements c.args.k.now in
    let L = g.K.Ring.lawful c.args.k.now in
    let P = polys_over F in
    let m = monomial F.ring (F.value c.args.c) c.args.at in
    c.add_scaled.ensures.value ∙ ap (λ t. P.add (poly_of F c.args.row.now) (P.mul m
    (poly F.ring (t ∷ [])))) c.one.ensures.value
    ∙ ap (P.add (poly_of F c.args.row.now)) ((polynomial_laws F.ring L.laws L.tests).mul_one m)
