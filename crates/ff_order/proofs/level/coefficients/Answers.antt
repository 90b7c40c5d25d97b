use Rattle.std.proofs.Common.{◌≡◌, map, sym, ◌∙◌, ap, subst, arith, All}
use Rattle.std.proofs.lemmas.List.Elements.{All-push}
use Rattle.ff_theory.specs.Ring.{IsElement}
use Rattle.ff_theory.specs.Poly.{coeff}
use Rattle.ff_theory.specs.Vector.{vector_of}
use Rattle.ff_theory.specs.Values.{poly_of}
use Rattle.ff_theory.proofs.Coeffs.{coeff-push}
use Rattle.ff_lattice.proofs.Remainders.{poly_at}
use Rattle.ff_order.proofs.ResidueVectors.{coefficients_whole}
use Rattle.ff_order.proofs.level.coefficients.Goals as goal

pub loop-j-preserved : goal.loop-j-preserved
loop-j-preserved g c =
    let F = g.K.Ring.elements c.args.k.now in
    let L = g.K.Ring.lawful c.args.k.now in
    let e = c.in_ok-push.ensures.items in
    let old = c.loop-j.v.items in
    let h = c.loop-j.invariant in
    record {
      len = omega (arith, c.in_ok-push.ensures.len, h.len);
      each = subst (All (IsElement F)) (sym e)
          (All-push (IsElement F) old c.coeff.result h.each c.coeff.ensures.element);
      value = λ i l. ap (λ p. vector_of F p i) e
          ∙ coeff-push F.ring F.value old c.coeff.result
          (coeff F.ring (poly_of F c.args.p.now).coeffs) c.loop-j.j h.len h.value
          (c.coeff.ensures.value
          ∙ sym (poly_at F.ring L.laws L.tests (map F.value c.args.p.now) c.loop-j.j)) i l;
    }

pub returns-clause-value : goal.returns-clause-value
returns-clause-value g c =
    let all : c.loop-j.j ≡ c.args.l =
    omega (arith, c.loop-j-test.false, c.loop-j.auto.j-end) in
    coefficients_whole (g.K.Ring.elements c.args.k.now) (g.K.Ring.lawful c.args.k.now)
    c.loop-j.v.items c.args.p.now c.args.l (omega (arith, c.loop-j.invariant.len, all))
    c.requires.few (λ i l. c.loop-j.invariant.value i (omega (arith, all, l)))
