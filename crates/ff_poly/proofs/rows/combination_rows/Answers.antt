use Rattle.std.proofs.Common.{ℕ, sym, ◌∙◌, ap, subst, arith, All}
use Rattle.std.proofs.lemmas.List.Elements.{All-push}
use Rattle.ff_theory.specs.Poly.{coeff, polynomials}
use Rattle.ff_theory.proofs.Coeffs.{coeff-push}
use Rattle.ff_theory.specs.Values.{poly_of, IsPoly, polys_of}
use Rattle.ff_theory.specs.Monomial.{raised}
use Rattle.ff_poly.proofs.rows.combination_rows.Goals as goal

pub loop-i-preserved : goal.loop-i-preserved
loop-i-preserved g c =
    let K = g.K.Ring.elements c.args.k.now in
    let P = polynomials K.ring in
    let e = c.in_ok-push.ensures.items in
    let row = c.in_ok-combination_row.field-0 in
    let value = λ (n : ℕ). P.add (P.mul (poly_of K c.args.c.now)
    (coeff P (polys_of K c.args.a.now) n))
    (P.mul (poly_of K c.args.t.now) (coeff P (raised P c.args.at (polys_of K c.args.b.now)) n)) in
    record {
      len = omega (arith, c.in_ok-push.ensures.len, c.loop-i.invariant.len);
      each = subst (All (λ p. IsPoly K p)) (sym e)
          (All-push (λ p. IsPoly K p) c.loop-i.rows.items row c.loop-i.invariant.each
          c.in_ok-combination_row.ensures.poly);
      rows = λ j l. ap (λ p. coeff P (polys_of K p) j) e
          ∙ coeff-push P (λ p. poly_of K p) c.loop-i.rows.items row value c.loop-i.i
          c.loop-i.invariant.len c.loop-i.invariant.rows c.in_ok-combination_row.ensures.value j l;
    }
