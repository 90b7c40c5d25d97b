use Rattle.std.proofs.Common.{map, sym, ◌∙◌, ap, subst, All}
use Rattle.std.proofs.lemmas.List.Elements.{All-push}
use Rattle.ff_theory.specs.Poly.{polynomials}
use Rattle.ff_theory.proofs.Lists.{map_push, map_whole}
use Rattle.ff_theory.specs.Values.{poly_of, IsPoly}
use Rattle.ff_poly.proofs.rows.negatives.Goals as goal

pub loop-p-preserved : goal.loop-p-preserved
loop-p-preserved g c =
    let K = g.K.Ring.elements c.args.k.now in
    let e = c.in_ok-push.ensures.items in
    record {
      each = subst (All (λ p. IsPoly K p)) (sym e)
          (All-push (λ p. IsPoly K p) c.loop-p.negatives.items c.in_ok-neg.field-0
          c.loop-p.invariant.each c.in_ok-neg.ensures.poly);
      value = ap (map (λ p. poly_of K p)) e ∙ map_push (λ p. poly_of K p)
          (λ p. (polynomials K.ring).neg (poly_of K p)) c.loop-p.negatives.items c.in_ok-neg.field-0
          c.args.rows.now c.loop-p.p-index c.p-item.result c.loop-p-test.true c.p-item.is
          c.loop-p.invariant.value c.in_ok-neg.ensures.value;
    }

pub returns-clause-value : goal.returns-clause-value
returns-clause-value g c =
    let K = g.K.Ring.elements c.args.k.now in
    map_whole (λ p. poly_of K p) (λ p. (polynomials K.ring).neg (poly_of K p))
    c.loop-p.negatives.items c.args.rows.now c.loop-p.p-index c.loop-p-test.false
    c.loop-p.invariant.value
