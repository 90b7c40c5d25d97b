use Rattle.std.proofs.Common.{map, sym, ◌∙◌, ap, subst, All, arith}
use Rattle.std.proofs.lemmas.List.Elements.{All-push}
use Rattle.ff_theory.specs.Poly.{polynomials}
use Rattle.ff_theory.proofs.Lists.{map_push, map_whole}
use Rattle.ff_theory.proofs.Poly.{polynomial_laws, polynomial_tests}
use Rattle.ff_theory.specs.Values.{poly_of, IsPoly}
use Rattle.ff_poly.proofs.RowLists.{mul_by_map}
use Rattle.ff_poly.proofs.rows.multiples.Goals as goal

pub mul-requires : goal.mul-requires
mul-requires g c =
    let K = g.K.Ring.elements c.args.k.now in
    let item : IsPoly K c.p-item.result = subst (λ p. IsPoly K p) (sym c.p-item.is)
    (c.requires.rows c.loop-p.p-index c.p-item.result c.loop-p-test.true) in
    record { a = c.requires.c.each; b = item.each }

pub loop-p-preserved : goal.loop-p-preserved
loop-p-preserved g c =
    let K = g.K.Ring.elements c.args.k.now in
    let e = c.in_ok-push.ensures.items in
    record {
      len = omega (arith, c.in_ok-push.ensures.len, c.loop-p.invariant.len);
      each = subst (All (λ p. IsPoly K p)) (sym e)
          (All-push (λ p. IsPoly K p) c.loop-p.multiples.items c.in_ok-mul.field-0
          c.loop-p.invariant.each c.in_ok-mul.ensures.poly);
      value = ap (map (λ p. poly_of K p)) e ∙ map_push (λ p. poly_of K p)
          (λ p. (polynomials K.ring).mul (poly_of K c.args.c.now) (poly_of K p))
          c.loop-p.multiples.items c.in_ok-mul.field-0 c.args.rows.now c.loop-p.p-index
          c.p-item.result c.loop-p-test.true c.p-item.is c.loop-p.invariant.value
          c.in_ok-mul.ensures.value;
    }

pub returns-clause-value : goal.returns-clause-value
returns-clause-value g c =
    let K = g.K.Ring.elements c.args.k.now in
    let laws = g.met.K.Ring.laws c.args.k.now in
    let tests = g.met.K.Ring.tests c.args.k.now in
    mul_by_map (polynomials K.ring) (polynomial_laws K.ring laws tests)
    (polynomial_tests K.ring laws tests) (λ p. poly_of K p) (λ p. poly_of K p)
    (poly_of K c.args.c.now) c.args.rows.now c.loop-p.multiples.items
    (map_whole (λ p. poly_of K p) (λ p. (polynomials K.ring).mul (poly_of K c.args.c.now)
    (poly_of K p)) c.loop-p.multiples.items c.args.rows.now c.loop-p.p-index c.loop-p-test.false
    c.loop-p.invariant.value)
