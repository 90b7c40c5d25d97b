use Rattle.std.proofs.Common.{◌≡◌, true, nat_eq, length, sym, ◌∙◌, ap, subst, arith, All}
use Rattle.std.proofs.lemmas.Bool.{eqb-true}
use Rattle.std.proofs.lemmas.List.Elements.{All-push}
use Rattle.ff_theory.specs.Poly.{coeff}
use Rattle.ff_theory.specs.Values.{poly_of, polys_of, polys_over, IsPoly}
use Rattle.ff_theory.proofs.Coeffs.{coeff-map}
use Rattle.ff_lattice.proofs.RowResidues.{pushed_at}
use Rattle.ff_order.proofs.Closing.{exact_division}
use Rattle.ff_order.proofs.closure.quotients.Goals as goal

pub loop-p-preserved : goal.loop-p-preserved
loop-p-preserved g c =
    let F = g.K.Ring.elements c.args.k.now in
    let P = polys_over F in
    let rows = c.args.rows.now in
    let d = poly_of F c.args.d.now in
    let old = c.loop-p.quotients.items in
    let i = c.loop-p.p-index in
    let q = c.in_ok-quotient.quotient in
    let e = c.in_ok-push.ensures.items in
    let h = c.loop-p.invariant in
    let test : nat_eq (length c.in_ok-quotient.remainder) 0 ≡ true = cc in
    let row = ap (poly_of F) c.p-item.is
    ∙ sym (coeff-map P (λ p. poly_of F p) rows i c.p-item.result c.loop-p-test.true) in
    let new = sym row ∙ exact_division F (g.K.Ring.lawful c.args.k.now)
    (poly_of F c.p-item.result) d (poly_of F q) c.in_ok-quotient.remainder
    c.in_ok-quotient.ensures.division
    (eqb-true (length c.in_ok-quotient.remainder) 0 test) in
    record {
      len = omega (arith, c.in_ok-push.ensures.len, h.len);
      each = subst (All (λ p. IsPoly F p)) (sym e)
          (All-push (λ p. IsPoly F p) old q h.each c.in_ok-quotient.ensures.quotient);
      value = λ j l. subst (λ p. coeff P (polys_of F rows) j ≡ P.mul d (coeff P (polys_of F p) j))
          (sym e) (pushed_at P (λ p. poly_of F p) old q
          (λ j s. coeff P (polys_of F rows) j ≡ P.mul d s) i h.len h.value new j l);
    }
