use Rattle.std.proofs.Common.{sym, ◌∙◌, ap, subst, All}
use Rattle.ff_theory.specs.Poly.{polynomials}
use Rattle.ff_theory.proofs.Poly.{polynomial_laws, polynomial_tests}
use Rattle.ff_theory.specs.Values.{poly_of, IsPoly, plane_of}
use Rattle.ff_poly.proofs.RowLists.{neg_by_map}
use Rattle.ff_poly.proofs.plane.Plane.neg.Goals as goal

pub negatives-requires : goal.negatives-requires
negatives-requires g c =
    let K = g.K.Ring.elements c.args.k.now in
    subst (All (λ p. IsPoly K p)) (sym (c.deref.ensures.value ∙ c.self.view_is)) c.requires.each

pub from_vec-requires : goal.from_vec-requires
from_vec-requires g c = c.in_ok-negatives.ensures.each

pub returns-clause-value : goal.returns-clause-value
returns-clause-value g c =
    let K = g.K.Ring.elements c.args.k.now in
    let laws = g.met.K.Ring.laws c.args.k.now in
    let tests = g.met.K.Ring.tests c.args.k.now in
    c.from_vec.ensures.value
    ∙ neg_by_map (polynomials K.ring) (polynomial_laws K.ring laws tests)
    (polynomial_tests K.ring laws tests) (λ p. poly_of K p) (λ p. poly_of K p) c.deref.result.now
    c.in_ok-negatives.field-0.items c.in_ok-negatives.ensures.value
    ∙ ap (λ p. (polynomials (polynomials K.ring)).neg (plane_of K p))
    (c.deref.ensures.value ∙ c.self.view_is)
