use Rattle.std.proofs.Common.{map, sym, ◌∙◌, ap, subst, arith, All}
use Rattle.std.proofs.lemmas.List.Elements.{All-push}
use Rattle.ff_theory.specs.Poly.{coeff, polynomials}
use Rattle.ff_theory.proofs.Series.{series_mul}
use Rattle.ff_theory.proofs.Poly.{polynomial_laws, polynomial_tests}
use Rattle.ff_theory.proofs.Coeffs.{coeff-push, mul_by_loop}
use Rattle.ff_theory.specs.Values.{poly_of, IsPoly}
use Rattle.ff_poly.proofs.RowLists.{product_row}
use Rattle.ff_poly.proofs.rows.products.Goals as goal

pub loop-i-preserved : goal.loop-i-preserved
loop-i-preserved g c =
    let K = g.K.Ring.elements c.args.k.now in
    let laws = g.met.K.Ring.laws c.args.k.now in
    let tests = g.met.K.Ring.tests c.args.k.now in
    let e = c.in_ok-push.ensures.items in
    let i = c.loop-i.i in
    let row = c.in_ok-row_product.field-0 in
    record {
      each = subst (All (λ p. IsPoly K p)) (sym e)
          (All-push (λ p. IsPoly K p) c.loop-i.products.items row c.loop-i.invariant.each
          c.in_ok-row_product.ensures.poly);
      length = omega (arith, c.in_ok-push.ensures.len, c.loop-i.invariant.length);
      products = λ j l. ap (λ p. coeff (polynomials K.ring) (map (λ p. poly_of K p) p) j) e
          ∙ coeff-push (polynomials K.ring) (λ p. poly_of K p) c.loop-i.products.items row
          (series_mul (polynomials K.ring) (coeff (polynomials K.ring)
          (map (λ p. poly_of K p) c.args.a.now))
          (coeff (polynomials K.ring) (map (λ p. poly_of K p) c.args.b.now))) i
          c.loop-i.invariant.length c.loop-i.invariant.products
          (product_row K laws tests c.args.a.now c.args.b.now i row
          c.in_ok-row_product.ensures.value) j l;
    }

pub returns-clause-value : goal.returns-clause-value
returns-clause-value g c =
    let K = g.K.Ring.elements c.args.k.now in
    let laws = g.met.K.Ring.laws c.args.k.now in
    let tests = g.met.K.Ring.tests c.args.k.now in
    mul_by_loop (polynomials K.ring) (polynomial_laws K.ring laws tests)
    (polynomial_tests K.ring laws tests) (λ p. poly_of K p) c.args.a.now c.args.b.now
    c.loop-i.products.items c.loop-i.i (omega (arith, c.loop-i.auto)) c.loop-i.invariant.length
    (λ j l. c.loop-i.invariant.products j l)
