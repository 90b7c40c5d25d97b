use Rattle.std.proofs.Common.{rules, ◌≡◌, [], ◌∷◌, sym, ◌∙◌, ap}
use Rattle.ff_theory.specs.Poly.{polynomials}
use Rattle.ff_theory.specs.Values.{poly_of, plane_of}
use Rattle.ff_theory.specs.Planes.{row_of}
use Rattle.ff_theory.proofs.Results.{ok_map}
use Rattle.ff_subst.proofs.HornerLemmas.{no-multiple}
use Rattle.ff_subst.proofs.evaluation.plus_multiple.Goals as goal

pub from_coeffs-requires : goal.from_coeffs-requires
from_coeffs-requires g c =
    search rules

pub scale-requires : goal.scale-requires
scale-requires g c =
    record { c = c.in_ok-factor.ensures.poly; a = c.requires.plane }

pub returns-then-is_zero-clause-value : goal.returns-then-is_zero-clause-value
returns-then-is_zero-clause-value g c =
    let K = g.K.Ring.elements c.args.k.now in
    let L = g.K.Ring.lawful c.args.k.now in
    no-multiple K L c.args.c (plane_of K c.args.sum) (plane_of K c.args.plane.now)
    (L.tests.same_true _ _ (sym c.is_zero.ensures ∙ c.if-is_zero.true))

pub returns-clause-value : goal.returns-clause-value
returns-clause-value g c =
    let K = g.K.Ring.elements c.args.k.now in
    let L = g.K.Ring.lawful c.args.k.now in
    let P = polynomials (polynomials K.ring) in
    let N = plane_of K c.args.plane.now in
    ok_map (λ r. plane_of K r ≡ P.add (plane_of K c.args.sum) (plane_of K c.in_ok-term.term))
    (λ r. plane_of K r ≡ P.add (plane_of K c.args.sum)
    (P.mul (row_of K.ring (poly_of K (c.args.c ∷ []))) N)) c.add.result
    (λ r h. h ∙ ap (P.add (plane_of K c.args.sum))
    (c.in_ok-term.ensures.value ∙ ap (λ p. P.mul (row_of K.ring p) N)
    c.in_ok-factor.ensures.value)) c.add.ensures.value
