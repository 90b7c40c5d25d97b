use Rattle.std.proofs.Common.{◌≡◌, suc, ◌+◌, sym, ◌∙◌, ap, subst, arith}
use Rattle.std.proofs.lemmas.List.Elements.{All-push}
use Rattle.ff_theory.specs.Ring.{power}
use Rattle.ff_theory.specs.Poly.{coeff, polynomials}
use Rattle.ff_theory.specs.Values.{poly_of, polys_of, IsPoly, ArePolys}
use Rattle.ff_theory.proofs.Coeffs.{coeff-push, coeff-map}
use Rattle.ff_sep.proofs.parts.powers_of.Goals as goal

pub loop-i-preserved : goal.loop-i-preserved
loop-i-preserved g c =
    let F = g.K.Ring.elements c.args.k.now in
    let P = polynomials F.ring in
    let base = poly_of F c.args.base.now in
    let i = c.loop-i.i in
    let items = c.loop-i.powers.items in
    let row = c.in_ok-mul.field-0 in
    let e = c.in_ok-push.ensures.items in
    let h = c.loop-i.invariant in
    let before : poly_of F c.index.result.now ≡ power P base i = ap (poly_of F) c.index.ensures
    ∙ sym (coeff-map P (poly_of F) items i c.index.result.now (omega (arith, h.count)))
    ∙ h.value i (omega arith) in
    let next : suc i ≡ i + 1 = omega arith in
    record {
      each = subst (ArePolys F) (sym e) (All-push (IsPoly F) items row h.each
          c.in_ok-mul.ensures.poly);
      count = omega (arith, c.in_ok-push.ensures.len, h.count);
      value = λ j l. ap (λ p. coeff P (polys_of F p) j) e
          ∙ coeff-push P (poly_of F) items row (power P base) (i + 1) h.count h.value
          (c.in_ok-mul.ensures.value ∙ ap (P.mul base) before ∙ ap (power P base) next) j l;
    }
