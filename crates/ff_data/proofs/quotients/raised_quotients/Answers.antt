use Rattle.std.proofs.Common.{◌≡◌, ℕ, ◌+◌, ◌*◌, length, sym, ◌∙◌, ap, subst, arith}
use Rattle.std.proofs.lemmas.List.Elements.{All-push}
use Rattle.ff_theory.specs.Poly.{coeff, polynomials}
use Rattle.ff_theory.specs.Values.{poly_of, polys_of, IsPoly, ArePolys}
use Rattle.ff_theory.proofs.Coeffs.{coeff-map}
use Rattle.ff_lattice.proofs.RowResidues.{pushed_at}
use Rattle.ff_data.specs.Quotients.{IsRaisedQuotient}
use Rattle.ff_data.proofs.quotients.raised_quotients.Goals as goal

pub loop-i-preserved : goal.loop-i-preserved
loop-i-preserved g c =
    let F = g.K.Ring.elements c.args.k.now in
    let P = polynomials F.ring in
    let rows = c.args.rows.now in
    let by = poly_of F c.args.by.now in
    let at = λ (j : ℕ). (c.args.m + j) * c.args.e in
    let old = c.loop-i.quotients.items in
    let i = c.loop-i.i in
    let q = c.in_ok-raised_quotient.field-0 in
    let e = c.in_ok-push.ensures.items in
    let h = c.loop-i.invariant in
    let row : poly_of F c.index-rows-i.result ≡ coeff P (polys_of F rows) i =
    ap (poly_of F) c.index-rows-i.is
    ∙ sym (coeff-map P (λ p. poly_of F p) rows i c.index-rows-i.result
    (omega (arith, c.loop-i-test.true))) in
    let new : IsRaisedQuotient F by (at i) (coeff P (polys_of F rows) i) (poly_of F q) =
    subst (λ a. IsRaisedQuotient F by (at i) a (poly_of F q)) row
    (subst (λ n. IsRaisedQuotient F by n (poly_of F c.index-rows-i.result) (poly_of F q))
    c.in_ok-height.ensures c.in_ok-raised_quotient.ensures.value) in
    record {
      each = subst (ArePolys F) (sym e) (All-push (IsPoly F) old q h.each
          c.in_ok-raised_quotient.ensures.poly);
      len = omega (arith, c.in_ok-push.ensures.len, h.len);
      value = λ j l. subst (λ p. IsRaisedQuotient F by (at j) (coeff P (polys_of F rows) j)
          (coeff P (polys_of F p) j)) (sym e)
          (pushed_at P (λ p. poly_of F p) old q
          (λ j r. IsRaisedQuotient F by (at j) (coeff P (polys_of F rows) j) r) i
          h.len h.value new j l);
    }

pub returns-clause-value : goal.returns-clause-value
returns-clause-value g c =
    let all : c.loop-i.i ≡ length c.args.rows.now =
    omega (arith, c.loop-i-test.false, c.loop-i.auto.i-end) in
    λ i l. c.loop-i.invariant.value i (omega (arith, all, l))
