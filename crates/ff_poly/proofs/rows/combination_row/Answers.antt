use Rattle.std.proofs.Common.{◌≡◌, List, ℕ, sym, ◌∙◌, ap, ap₂, subst, All}
use Rattle.ff_theory.specs.Ring.{IsElement}
use Rattle.ff_theory.specs.Poly.{coeff, polynomials}
use Rattle.ff_theory.specs.Values.{poly_of, polys_of}
use Rattle.ff_theory.specs.Monomial.{raised}
use Rattle.ff_theory.proofs.Results.{ok_map}
use Rattle.ff_poly.proofs.RowLists.{row-each, row-value}
use Rattle.ff_poly.proofs.PseudoDivision.{row_above-each, row_above-value}
use Rattle.ff_poly.proofs.rows.combination_row.Goals as goal

pub combination-requires : goal.combination-requires
combination-requires g c =
    let K = g.K.Ring.elements c.args.k.now in
    record {
      c = subst (All (IsElement K)) (sym c.coeffs.ensures) c.requires.c.each;
      a = subst (All (IsElement K)) (sym c.row.ensures)
          (row-each K c.args.a.now c.args.i c.requires.a);
      t = subst (All (IsElement K)) (sym c.coeffs-2.ensures) c.requires.t.each;
      b = row_above-each K c.args.b.now c.args.at c.args.i c.row_above.result.now
          c.row_above.ensures.below c.row_above.ensures.above c.requires.b;
    }

pub returns-clause-value : goal.returns-clause-value
returns-clause-value g c =
    let K = g.K.Ring.elements c.args.k.now in
    let P = polynomials K.ring in
    let lower = row_above-value K c.args.b.now c.args.at c.args.i c.row_above.result.now
    c.row_above.ensures.below c.row_above.ensures.above in
    let upper = ap (poly_of K) c.row.ensures ∙ row-value K c.args.a.now c.args.i in
    let sum = λ (p q : P.carrier) (r s : P.carrier). P.add (P.mul p r) (P.mul q s) in
    ok_map (λ (r : List ℕ). poly_of K r ≡ sum (poly_of K c.coeffs.result.now)
    (poly_of K c.coeffs-2.result.now) (poly_of K c.row.result.now)
    (poly_of K c.row_above.result.now))
    (λ (r : List ℕ). poly_of K r ≡ sum (poly_of K c.args.c.now) (poly_of K c.args.t.now)
    (coeff P (polys_of K c.args.a.now) c.args.i)
    (coeff P (raised P c.args.at (polys_of K c.args.b.now)) c.args.i)) c.combination.result
    (λ r e. e ∙ ap₂ (λ p q. sum p q (poly_of K c.row.result.now) (poly_of K c.row_above.result.now))
    (ap (poly_of K) c.coeffs.ensures) (ap (poly_of K) c.coeffs-2.ensures)
    ∙ ap₂ (sum (poly_of K c.args.c.now) (poly_of K c.args.t.now)) upper lower)
    c.combination.ensures.value
