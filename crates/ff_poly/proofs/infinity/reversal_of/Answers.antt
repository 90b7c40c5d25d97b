use Rattle.std.proofs.Common.{◌≡◌, ◌-◌, suc, map, sym, ◌∙◌, ap, subst, arith, All}
use Rattle.std.proofs.lemmas.List.Elements.{All-push}
use Rattle.ff_theory.specs.Ring.{IsElement}
use Rattle.ff_theory.specs.Poly.{coeff}
use Rattle.ff_theory.proofs.Coeffs.{coeff-push}
use Rattle.ff_poly.proofs.AtInfinity.{reversal_by_loop}
use Rattle.ff_poly.proofs.infinity.reversal_of.Goals as goal

pub loop-j-preserved : goal.loop-j-preserved
loop-j-preserved g c =
    let K = g.K.Ring.elements c.args.k.now in
    let e = c.in_ok-push.ensures.ok in
    record {
      len = omega (arith, c.in_ok-push.ensures.len, c.loop-j.invariant.len);
      each = subst (All (IsElement K)) (sym e)
          (All-push (IsElement K) c.loop-j.list.items c.coeff.result c.loop-j.invariant.each
          c.coeff.ensures.element);
      entries = λ i l. ap (λ p. coeff K.ring (map K.value p) i) e
          ∙ coeff-push K.ring K.value c.loop-j.list.items c.coeff.result
          (λ i. coeff K.ring (map K.value c.args.p.now) (c.args.m - i)) c.loop-j.j
          c.loop-j.invariant.len c.loop-j.invariant.entries c.coeff.ensures.value i l;
    }

pub returns-clause-value : goal.returns-clause-value
returns-clause-value g c =
    let K = g.K.Ring.elements c.args.k.now in
    let end : c.loop-j.j ≡ suc c.args.m = omega arith in
    c.trim.ensures.value ∙ reversal_by_loop K.ring (g.met.K.Ring.laws c.args.k.now)
    (g.met.K.Ring.tests c.args.k.now) K.value c.args.p.now c.loop-j.list.items c.args.m
    (c.loop-j.invariant.len ∙ end) (λ i l. c.loop-j.invariant.entries i (omega (arith, end, l)))
