use Rattle.std.proofs.Common.{sym, ◌∙◌, ap₂, subst, All}
use Rattle.ff_theory.specs.Poly.{polynomials}
use Rattle.ff_theory.specs.Values.{IsPoly, plane_of}
use Rattle.ff_poly.proofs.plane.Plane.add.Goals as goal

pub sums-requires : goal.sums-requires
sums-requires g c =
    let K = g.K.Ring.elements c.args.k.now in
    let a = c.deref.ensures.value ∙ c.self.view_is in
    let b = c.deref-2.ensures.value ∙ c.b.view_is in
    record {
      a = subst (All (λ p. IsPoly K p)) (sym a) c.requires.a.each;
      b = subst
          (All (λ p. IsPoly K p)) (sym b) c.requires.b.each;
    }

pub from_vec-requires : goal.from_vec-requires
from_vec-requires g c = c.in_ok-sums.ensures.each

pub returns-clause-value : goal.returns-clause-value
returns-clause-value g c =
    let K = g.K.Ring.elements c.args.k.now in
    c.from_vec.ensures.value ∙ c.in_ok-sums.ensures.value
    ∙ ap₂ (λ p q. (polynomials (polynomials K.ring)).add (plane_of K p) (plane_of K q))
    (c.deref.ensures.value ∙ c.self.view_is) (c.deref-2.ensures.value ∙ c.b.view_is)
