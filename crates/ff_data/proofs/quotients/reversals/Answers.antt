use Rattle.std.proofs.Common.{◌≡◌, length, sym, ◌∙◌, ap, subst, arith}
use Rattle.std.proofs.lemmas.List.Elements.{All-push}
use Rattle.ff_theory.specs.Poly.{coeff, polynomials}
use Rattle.ff_theory.specs.Reversal.{reversal}
use Rattle.ff_theory.specs.Values.{poly_of, polys_of, IsPoly, ArePolys}
use Rattle.ff_theory.proofs.Coeffs.{coeff-push, coeff-map}
use Rattle.ff_data.proofs.quotients.reversals.Goals as goal

pub loop-i-preserved : goal.loop-i-preserved
loop-i-preserved g c =
    let F = g.K.Ring.elements c.args.k.now in
    let P = polynomials F.ring in
    let rows = c.args.rows.now in
    let i = c.loop-i.i in
    let items = c.loop-i.reversals.items in
    let row = c.in_ok-reversal_of.field-0 in
    let e = c.in_ok-push.ensures.items in
    let h = c.loop-i.invariant in
    record {
      each = subst (ArePolys F) (sym e) (All-push (IsPoly F) items row h.each
          c.in_ok-reversal_of.ensures.poly);
      len = omega (arith, c.in_ok-push.ensures.len, h.len);
      value = λ j l. ap (λ p. coeff P (polys_of F p) j) e
          ∙ coeff-push P (λ p. poly_of F p) items row
          (λ j. reversal F.ring c.args.m (coeff P (polys_of F rows) j)) i h.len h.value
          (c.in_ok-reversal_of.ensures.value ∙ ap (reversal F.ring c.args.m)
          (ap (poly_of F) c.index-rows-i.is
          ∙ sym (coeff-map P (λ p. poly_of F p) rows i c.index-rows-i.result
          (omega (arith, c.loop-i-test.true))))) j l;
    }

pub returns-clause-value : goal.returns-clause-value
returns-clause-value g c =
    let all : c.loop-i.i ≡ length c.args.rows.now =
    omega (arith, c.loop-i-test.false, c.loop-i.auto.i-end) in
    λ i l. c.loop-i.invariant.value i (omega (arith, all, l))
