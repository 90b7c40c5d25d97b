use Rattle.std.proofs.Common.{◌≡◌, length, sym, ◌∙◌, ap, subst, arith, All}
use Rattle.std.proofs.lemmas.List.Elements.{All-push}
use Rattle.ff_theory.specs.Poly.{coeff, polynomials}
use Rattle.ff_theory.specs.Values.{poly_of, polys_of, IsPoly}
use Rattle.ff_theory.proofs.Coeffs.{coeff-map}
use Rattle.ff_lattice.specs.Residues.{IsRemainder}
use Rattle.ff_lattice.proofs.RowResidues.{pushed_at}
use Rattle.ff_lattice.proofs.modulo.remainders.Goals as goal

pub loop-p-preserved : goal.loop-p-preserved
loop-p-preserved g c =
    let F = g.K.Ring.elements c.args.k.now in
    let P = polynomials F.ring in
    let m = poly_of F c.args.m.now in
    let rows = c.args.rows.now in
    let old = c.loop-p.remainders.items in
    let i = c.loop-p.p-index in
    let r = c.in_ok-remainder.field-0 in
    let e = c.in_ok-push.ensures.items in
    let row : poly_of F c.p-item.result ≡ coeff P (polys_of F rows) i = ap (poly_of F) c.p-item.is
    ∙ sym (coeff-map P (λ p. poly_of F p) rows i c.p-item.result c.loop-p-test.true) in
    let new : IsRemainder F.ring m (coeff P (polys_of F rows) i) (poly_of F r) =
    subst (λ a. IsRemainder F.ring m a (poly_of F r)) row c.in_ok-remainder.ensures.division in
    record {
      len = omega (arith, c.in_ok-push.ensures.len, c.loop-p.invariant.len);
      each = subst (All (λ p. IsPoly F p)) (sym e) (All-push (λ p. IsPoly F p) old r
          c.loop-p.invariant.each c.in_ok-remainder.ensures.poly);
      value = λ j l. subst (λ p. IsRemainder F.ring m (coeff P (polys_of F rows) j)
          (coeff P (polys_of F p) j)) (sym e)
          (pushed_at P (λ p. poly_of F p) old r
          (λ j s. IsRemainder F.ring m (coeff P (polys_of F rows) j) s) i
          c.loop-p.invariant.len c.loop-p.invariant.value new j l);
    }

pub returns-clause-value : goal.returns-clause-value
returns-clause-value g c =
    let all : c.loop-p.p-index ≡ length c.args.rows.now =
    omega (arith, c.loop-p-test.false, c.loop-p.auto.p-index-end) in
    λ i l. c.loop-p.invariant.value i (omega (arith, all, l))
