use Rattle.std.proofs.Common.{◌≡◌, List, sym, ◌∙◌, ap, subst, All, ℕ}
use Rattle.std.proofs.lemmas.List.Elements.{All-push}
use Rattle.ff_theory.specs.Poly.{coeff, Poly, polynomials}
use Rattle.ff_theory.proofs.Coeffs.{coeff-map}
use Rattle.ff_theory.proofs.Lists.{map_push}
use Rattle.ff_theory.specs.Values.{poly_of, IsPoly, polys_of, products_with}
use Rattle.ff_theory.specs.Divides.{Divides}
use Rattle.ff_poly.proofs.lowest.quotients.Goals as goal

pub quotient-requires : goal.quotient-requires
quotient-requires g c =
    let K = g.K.Ring.elements c.args.k.now in
    let i = c.loop-p.p-index in
    let p = c.p-item.result in
    let item : coeff (polynomials K.ring) (polys_of K c.args.list.now) i
    ≡ poly_of K p = coeff-map (polynomials K.ring) (λ p. poly_of K p) c.args.list.now i p
    c.loop-p-test.true ∙ ap (poly_of K) (sym c.p-item.is) in
    record {
      a = subst (λ (p : List ℕ). IsPoly K p) (sym c.p-item.is)
          (c.requires.list i p c.loop-p-test.true);
      b = c.requires.b;
      nonzero = c.requires.nonzero;
      divisor = subst (λ (a : Poly K.ring). Divides (polynomials K.ring) (poly_of K c.args.b.now) a)
          item (c.requires.divisor i c.loop-p-test.true);
    }

pub loop-p-preserved : goal.loop-p-preserved
loop-p-preserved g c =
    let K = g.K.Ring.elements c.args.k.now in
    let b = poly_of K c.args.b.now in
    let items = c.in_ok-push.ensures.items in
    record {
      each = subst (All (λ (p : List ℕ). IsPoly K p)) (sym items)
          (All-push (λ (p : List ℕ). IsPoly K p) c.loop-p.quotients.items c.in_ok-quotient.field-0
          c.loop-p.invariant.each c.in_ok-quotient.ensures.poly);
      value = ap (products_with K b) items
          ∙ map_push (λ p. (polynomials K.ring).mul (poly_of K p) b) (λ p. poly_of K p)
          c.loop-p.quotients.items c.in_ok-quotient.field-0 c.args.list.now c.loop-p.p-index
          c.p-item.result c.loop-p-test.true c.p-item.is c.loop-p.invariant.value
          c.in_ok-quotient.ensures.value;
    }
