use Rattle.std.proofs.Common.{map, ◌∙◌, sym, ap, subst}
use Rattle.ff_theory.specs.Lawful.{lawful_field}
use Rattle.ff_theory.specs.Poly.{polynomials}
use Rattle.ff_theory.specs.Algebra.{degree}
use Rattle.ff_theory.specs.Values.{poly_of, IsPoly, plane_of}
use Rattle.ff_elem.proofs.Quotients.{negative-value}
use Rattle.ff_elem.proofs.algebra.Alg.neg.Goals as goal

pub returns-clause-element : goal.returns-clause-element
returns-clause-element g c =
    let K = g.K.Ring.elements c.args.self.now.k in
    let L = g.K.Ring.lawful c.args.self.now.k in
    let f = c.args.self.now.f in
    let value = c.in_ok-negatives.ensures.value
    ∙ ap (map (λ p. (polynomials K.ring).neg (poly_of K p))) c.rows.ensures in
    record {
      den = subst (IsPoly K) (sym c.in_ok-copy.ensures) c.requires.den;
      num = c.in_ok-negatives.ensures.each;
      lowest = (negative-value K L f (degree (lawful_field L) (plane_of K f)) c.args.a.now _
          c.in_ok-copy.ensures value c.requires.lowest).0;
    }

pub returns-clause-value : goal.returns-clause-value
returns-clause-value g c =
    let K = g.K.Ring.elements c.args.self.now.k in
    let L = g.K.Ring.lawful c.args.self.now.k in
    let f = c.args.self.now.f in
    let value = c.in_ok-negatives.ensures.value
    ∙ ap (map (λ p. (polynomials K.ring).neg (poly_of K p))) c.rows.ensures in
    (negative-value K L f (degree (lawful_field L) (plane_of K f)) c.args.a.now _
    c.in_ok-copy.ensures value c.requires.lowest).1
