use Rattle.std.proofs.Common.{◌≡◌, ◌-◌, suc, map, sym, ◌∙◌, ap, subst, arith, All}
use Rattle.std.proofs.lemmas.List.Elements.{All-push}
use Rattle.ff_theory.specs.Ring.{IsElement}
use Rattle.ff_theory.specs.Poly.{coeff}
use Rattle.ff_theory.specs.Values.{poly_of}
use Rattle.ff_theory.proofs.Coeffs.{coeff-push}
use Rattle.ff_theory.proofs.Results.{ok_map}
use Rattle.ff_poly.proofs.AtInfinity.{reversal_by_loop}
use Rattle.ff_data.proofs.quotients.reversal_of.Goals as goal

pub loop-j-preserved : goal.loop-j-preserved
loop-j-preserved g c =
    let F = g.K.Ring.elements c.args.k.now in
    let e = c.in_ok-push.ensures.items in
    let h = c.loop-j.invariant in
    record {
      len = omega (arith, c.in_ok-push.ensures.len, h.len);
      each = subst (All (IsElement F)) (sym e) (All-push (IsElement F) c.loop-j.list.items
          c.coeff.result h.each c.coeff.ensures.element);
      entries = λ i l. ap (λ p. coeff F.ring (map F.value p) i) e
          ∙ coeff-push F.ring F.value c.loop-j.list.items c.coeff.result
          (λ i. coeff F.ring (map F.value c.args.p.now) (c.args.m - i)) c.loop-j.j h.len h.entries
          c.coeff.ensures.value i l;
    }

pub from_coeffs-requires : goal.from_coeffs-requires
from_coeffs-requires g c =
    subst (All (IsElement (g.K.Ring.elements c.args.k.now))) (sym c.deref.ensures.value)
    c.loop-j.invariant.each

pub returns-clause-value : goal.returns-clause-value
returns-clause-value g c =
    let F = g.K.Ring.elements c.args.k.now in
    let end : c.loop-j.j ≡ suc c.args.m = omega arith in
    ok_map _ _ c.from_coeffs.result
    (λ r h. h ∙ ap (poly_of F) c.deref.ensures.value
    ∙ reversal_by_loop F.ring (g.met.K.Ring.laws c.args.k.now) (g.met.K.Ring.tests c.args.k.now)
    F.value c.args.p.now c.loop-j.list.items c.args.m (c.loop-j.invariant.len ∙ end)
    (λ i l. c.loop-j.invariant.entries i (omega (arith, end, l)))) c.from_coeffs.ensures.value
