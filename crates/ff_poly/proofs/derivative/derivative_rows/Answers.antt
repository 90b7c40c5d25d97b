use Rattle.std.proofs.Common.{◌≡◌, suc, length, refl, sym, ◌∙◌, ap, ap₂, subst, arith, All}
use Rattle.std.proofs.lemmas.List.Elements.{All-push}
use Rattle.ff_theory.specs.Ring.{IsElement, multiple}
use Rattle.ff_theory.specs.Poly.{coeff, polynomials}
use Rattle.ff_theory.specs.Values.{poly_of, polys_of, IsPoly}
use Rattle.ff_theory.specs.Monomial.{monomial}
use Rattle.ff_theory.proofs.Poly.{polynomial_laws, polynomial_tests}
use Rattle.ff_theory.proofs.Coeffs.{coeff-map, coeff-push}
use Rattle.ff_poly.proofs.Multiples.{multiple-constant, derivative_by_loop}
use Rattle.ff_poly.proofs.derivative.derivative_rows.Goals as goal

pub times_constant-requires-clause-a : goal.times_constant-requires-clause-a
times_constant-requires-clause-a g c =
    let K = g.K.Ring.elements c.args.k.now in
    let item : IsPoly K c.index-rows-i.result = subst (IsPoly K) (sym c.index-rows-i.is)
    (c.requires c.loop-i.i c.index-rows-i.result (omega arith)) in
    subst (All (IsElement K)) (sym c.in_ok-copy.ensures) item.each

pub loop-i-preserved : goal.loop-i-preserved
loop-i-preserved g c =
    let K = g.K.Ring.elements c.args.k.now in
    let laws = g.met.K.Ring.laws c.args.k.now in
    let tests = g.met.K.Ring.tests c.args.k.now in
    let P = polynomials K.ring in
    let old = c.loop-i.multiples.items in
    let new = c.push.new.self.items in
    let rows = c.args.rows.now in
    let row = c.times_constant.result in
    let m = length old in
    let e = c.in_ok-push.ensures.items in
    let next : length new ≡ suc m = omega (arith, c.in_ok-push.ensures.len) in
    let factor : K.value c.add-factor.result ≡ multiple K.ring (suc m) K.one =
    c.add-factor.ensures.value ∙ ap₂ K.add c.loop-i.invariant.factor c.one.ensures.value
    ∙ laws.add_comm _ _ in
    let item : poly_of K c.index-rows-i.result ≡ coeff P (polys_of K rows) (suc m) =
    ap (poly_of K) c.index-rows-i.is ∙ sym
    (coeff-map P (poly_of K) rows c.loop-i.i c.index-rows-i.result (omega arith))
    ∙ ap (coeff P (polys_of K rows)) (let i : c.loop-i.i
    ≡ suc m = omega (arith, c.loop-i.invariant.len) in i)
    in
    let v : poly_of K row ≡ multiple P (suc m) (coeff P (polys_of K rows) (suc m)) =
    c.times_constant.ensures.value ∙ ap₂ (λ t p. P.mul (monomial K.ring t 0) (poly_of K p)) factor
    c.in_ok-copy.ensures
    ∙ sym (multiple-constant K.ring laws tests (suc m) (poly_of K c.index-rows-i.result))
    ∙ ap (multiple P (suc m)) item
    in
    record {
      len = omega (arith, next, c.loop-i.invariant.len);
      each = subst (All (λ p. IsPoly K p)) (sym e)
          (All-push (λ p. IsPoly K p) old row c.loop-i.invariant.each
          c.times_constant.ensures.poly);
      element = c.add-factor.ensures.element;
      factor = factor ∙ ap (λ n. multiple K.ring n K.one) (sym next);
      rows = λ j l. ap (λ p. coeff P (polys_of K p) j) e
          ∙ coeff-push P (λ p. poly_of K p) old row
          (λ j. multiple P (suc j) (coeff P (polys_of K rows) (suc j))) m refl
          c.loop-i.invariant.rows v j (omega (arith, l, next));
    }

pub returns-clause-value : goal.returns-clause-value
returns-clause-value g c =
    let K = g.K.Ring.elements c.args.k.now in
    let laws = g.met.K.Ring.laws c.args.k.now in
    let tests = g.met.K.Ring.tests c.args.k.now in
    derivative_by_loop (polynomials K.ring) (polynomial_laws K.ring laws tests)
    (polynomial_tests K.ring laws tests) (λ p. poly_of K p) c.args.rows.now c.loop-i.multiples.items
    (omega (arith, c.loop-i.invariant.len)) c.loop-i.invariant.rows
