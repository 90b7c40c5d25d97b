use Rattle.std.proofs.Common.{◌≡◌, map, sym, ◌∙◌, ap, ap₂, subst, arith, All}
use Rattle.std.proofs.lemmas.List.Elements.{All-push}
use Rattle.ff_theory.specs.Ring.{IsElement}
use Rattle.ff_theory.specs.Poly.{coeff, polynomials}
use Rattle.ff_theory.proofs.Poly.{polynomial_laws, polynomial_tests}
use Rattle.ff_theory.proofs.Coeffs.{coeff-push, add_by_loop}
use Rattle.ff_theory.specs.Values.{poly_of, IsPoly}
use Rattle.ff_poly.proofs.RowLists.{row-each, row-value}
use Rattle.ff_poly.proofs.rows.sums.Goals as goal

pub sum-requires : goal.sum-requires
sum-requires g c =
    let K = g.K.Ring.elements c.args.k.now in
    record {
      a = subst (All (IsElement K)) (sym c.row.ensures)
          (row-each K c.args.a.now c.loop-i.i c.requires.a);
      b = subst (All (IsElement K)) (sym c.row-in-loop-i.ensures)
          (row-each K c.args.b.now c.loop-i.i c.requires.b);
    }

pub loop-i-preserved : goal.loop-i-preserved
loop-i-preserved g c =
    let K = g.K.Ring.elements c.args.k.now in
    let e = c.in_ok-push.ensures.items in
    let i = c.loop-i.i in
    let v : poly_of K c.in_ok-sum.field-0 ≡ (polynomials K.ring).add
    (coeff (polynomials K.ring) (map (λ p. poly_of K p) c.args.a.now) i)
    (coeff (polynomials K.ring) (map (λ p. poly_of K p) c.args.b.now) i) =
    c.in_ok-sum.ensures.value ∙ ap₂ (λ a b. (polynomials K.ring).add (poly_of K a) (poly_of K b))
    c.row.ensures c.row-in-loop-i.ensures ∙ ap₂ (polynomials K.ring).add
    (row-value K c.args.a.now i) (row-value K c.args.b.now i)
    in
    record {
      each = subst (All (λ p. IsPoly K p)) (sym e)
          (All-push (λ p. IsPoly K p) c.loop-i.sums.items c.in_ok-sum.field-0
          c.loop-i.invariant.each c.in_ok-sum.ensures.poly);
      length = omega (arith, c.in_ok-push.ensures.len, c.loop-i.invariant.length);
      sums = λ j l. ap (λ p. coeff (polynomials K.ring) (map (λ p. poly_of K p) p) j) e
          ∙ coeff-push (polynomials K.ring) (λ p. poly_of K p) c.loop-i.sums.items
          c.in_ok-sum.field-0 (λ n. (polynomials K.ring).add
          (coeff (polynomials K.ring) (map (λ p. poly_of K p) c.args.a.now) n)
          (coeff (polynomials K.ring) (map (λ p. poly_of K p) c.args.b.now) n)) i
          c.loop-i.invariant.length c.loop-i.invariant.sums v j l;
    }

pub returns-clause-value : goal.returns-clause-value
returns-clause-value g c =
    let K = g.K.Ring.elements c.args.k.now in
    let laws = g.met.K.Ring.laws c.args.k.now in
    let tests = g.met.K.Ring.tests c.args.k.now in
    add_by_loop (polynomials K.ring) (polynomial_laws K.ring laws tests)
    (polynomial_tests K.ring laws tests) (λ p. poly_of K p) c.args.a.now c.args.b.now
    c.loop-i.sums.items c.max-n.result (omega arith) (omega arith) (omega arith)
    (λ j l. c.loop-i.invariant.sums j (omega arith))
