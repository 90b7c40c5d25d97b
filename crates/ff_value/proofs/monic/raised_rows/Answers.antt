use Rattle.std.proofs.Common.{◌≡◌, ◌-◌, length, sym, ◌∙◌, ap, subst, arith}
use Rattle.std.proofs.lemmas.List.Elements.{All-push}
use Rattle.ff_theory.specs.Ring.{power}
use Rattle.ff_theory.specs.Poly.{coeff, polynomials}
use Rattle.ff_theory.specs.Values.{poly_of, polys_of, IsPoly, ArePolys}
use Rattle.ff_theory.proofs.Coeffs.{coeff-map}
use Rattle.ff_lattice.proofs.RowResidues.{pushed_at}
use Rattle.ff_value.proofs.monic.raised_rows.Goals as goal

pub loop-i-preserved : goal.loop-i-preserved
loop-i-preserved g c =
    let F = g.K.Ring.elements c.args.k.now in
    let P = polynomials F.ring in
    let rows = c.args.rows.now in
    let base = poly_of F c.args.base.now in
    let old = c.loop-i.list.items in
    let i = c.loop-i.i in
    let q = c.in_ok-times_power.field-0 in
    let e = c.in_ok-push.ensures.items in
    let h = c.loop-i.invariant in
    let row : poly_of F c.index-rows-i.result ≡ coeff P (polys_of F rows) i =
    ap (poly_of F) c.index-rows-i.is
    ∙ sym (coeff-map P (λ p. poly_of F p) rows i c.index-rows-i.result
    (omega (arith, c.loop-i-test.true))) in
    record {
      each = subst (ArePolys F) (sym e) (All-push (IsPoly F) old q h.each
          c.in_ok-times_power.ensures.poly);
      len = omega (arith, c.in_ok-push.ensures.len, h.len);
      value = λ j l. subst (λ p. coeff P (polys_of F p) j
          ≡ P.mul (coeff P (polys_of F rows) j) (power P base (length rows - j))) (sym e)
          (pushed_at P (λ p. poly_of F p) old q
          (λ j r. r ≡ P.mul (coeff P (polys_of F rows) j) (power P base (length rows - j))) i
          h.len h.value (c.in_ok-times_power.ensures.value
          ∙ ap (λ r. P.mul r (power P base (length rows - i))) row) j l);
    }

pub returns-clause-value : goal.returns-clause-value
returns-clause-value g c =
    let all : c.loop-i.i ≡ length c.args.rows.now =
    omega (arith, c.loop-i-test.false, c.loop-i.auto.i-end) in
    λ i l. c.loop-i.invariant.value i (omega (arith, all, l))
