use Rattle.std.proofs.Common.{sym, ◌∙◌, ap, subst, All}
use Rattle.ff_theory.specs.Poly.{polynomials}
use Rattle.ff_theory.specs.Values.{poly_of, IsPoly, plane_of}
use Rattle.ff_theory.specs.Planes.{row_of}
use Rattle.ff_poly.proofs.plane.Plane.scale.Goals as goal

pub multiples-requires : goal.multiples-requires
multiples-requires g c =
    let K = g.K.Ring.elements c.args.k.now in
    record {
      c = c.requires.c;
      rows = subst (All (λ p. IsPoly K p)) (sym (c.deref.ensures.value ∙ c.self.view_is))
          c.requires.a.each;
    }

pub from_vec-requires : goal.from_vec-requires
from_vec-requires g c = c.in_ok-multiples.ensures.each

pub returns-clause-value : goal.returns-clause-value
returns-clause-value g c =
    let K = g.K.Ring.elements c.args.k.now in
    c.from_vec.ensures.value ∙ c.in_ok-multiples.ensures.value
    ∙ ap (λ p. (polynomials (polynomials K.ring)).mul (row_of K.ring (poly_of K c.args.c.now))
    (plane_of K p)) (c.deref.ensures.value ∙ c.self.view_is)
