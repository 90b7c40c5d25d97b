use Rattle.std.proofs.Common.{◌-◌, length, sym, ◌∙◌, ap, ap₂, subst, arith}
use Rattle.std.proofs.lemmas.List.Elements.{All-push}
use Rattle.ff_theory.specs.Poly.{coeff, polynomials}
use Rattle.ff_theory.specs.Values.{poly_of, polys_of, IsPoly, ArePolys}
use Rattle.ff_theory.proofs.Coeffs.{coeff-push, coeff-map}
use Rattle.ff_sep.proofs.parts.falling_rows.Goals as goal

pub loop-i-preserved : goal.loop-i-preserved
loop-i-preserved g c =
    let F = g.K.Ring.elements c.args.k.now in
    let P = polynomials F.ring in
    let rows = c.args.rows.now in
    let powers = c.args.powers.now in
    let i = c.loop-i.i in
    let items = c.loop-i.products.items in
    let row = c.in_ok-mul.field-0 in
    let e = c.in_ok-push.ensures.items in
    let h = c.loop-i.invariant in
    let left = ap (poly_of F) c.index-rows-i.is
    ∙ sym (coeff-map P (poly_of F) rows i c.index-rows-i.result
    (omega (arith, c.loop-i-test.true))) in
    let right = ap (poly_of F) c.index-powers-j.is
    ∙ sym (coeff-map P (poly_of F) powers (length rows - i) c.index-powers-j.result
    (omega (arith, c.loop-i-test.true, c.requires.count))) in
    record {
      each = subst (ArePolys F) (sym e) (All-push (IsPoly F) items row h.each
          c.in_ok-mul.ensures.poly);
      length = omega (arith, c.in_ok-push.ensures.len, h.length);
      rows = λ j l. ap (λ p. coeff P (polys_of F p) j) e
          ∙ coeff-push P (poly_of F) items row
          (λ j. P.mul (coeff P (polys_of F rows) j) (coeff P (polys_of F powers) (length rows - j)))
          i
          h.length h.rows (c.in_ok-mul.ensures.value ∙ ap₂ P.mul left right) j l;
    }
