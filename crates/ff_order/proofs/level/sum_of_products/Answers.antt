use Rattle.std.proofs.Common.{◌≡◌, ℕ, suc, ◌+◌, ◌<◌, List, [], length, map, get_or, sym, ◌∙◌, ap}
use Rattle.std.proofs.Common.{ap₂}
use Rattle.std.proofs.Common.{arith, subst, Vec, Global}
use Rattle.std.proofs.lemmas.List.{get_or_default, get_or-map, length-map}
use Rattle.ff_theory.specs.Values.{poly_of, plane_of, polys_over, IsPoly}
use Rattle.ff_poly.proofs.RowLists.{row-value}
use Rattle.ff_order.specs.Level.{test_sum, HasParts}
use Rattle.ff_order.proofs.TestPlanes.{row_at}
use Rattle.ff_order.proofs.level.sum_of_products.Goals as goal

pub index-requires : goal.index-requires
index-requires g c =
    let items : Vec (List ℕ) Global → List (List ℕ) = λ v. v.items in
    let lists = c.args.lists.now in
    let list = c.index-lists-i.result in
    let i = c.loop-i.i in
    let inside : i < length lists = omega (arith, c.requires.few, c.loop-i-test.true) in
    let count = length-map lists items in
    let same = ap items c.index-lists-i.is ∙ sym (get_or-map items lists i list [] inside) in
    let len = (c.requires.lists i (omega (arith, inside, count))).len in
    let e = ap length same in
    omega (arith, len, e, c.requires.index, list.ok)

pub mul-requires-clause-b : goal.mul-requires-clause-b
mul-requires-clause-b g c =
    let F = g.K.Ring.elements c.args.k.now in
    let items : Vec (List ℕ) Global → List (List ℕ) = λ v. v.items in
    let lists = c.args.lists.now in
    let list = c.index-lists-i.result in
    let i = c.loop-i.i in
    let inside : i < length lists = omega (arith, c.requires.few, c.loop-i-test.true) in
    let count = length-map lists items in
    let same = ap items c.index-lists-i.is ∙ sym (get_or-map items lists i list [] inside) in
    let parts = subst (HasParts F) (sym same) (c.requires.lists i (omega (arith, inside, count))) in
    (subst (IsPoly F) (sym c.index.ensures) (parts.each c.args.s c.index.result.now
    (omega (arith, parts.len, c.requires.index)))).each

pub loop-i-preserved : goal.loop-i-preserved
loop-i-preserved g c =
    let F = g.K.Ring.elements c.args.k.now in
    let P = polys_over F in
    let items : Vec (List ℕ) Global → List (List ℕ) = λ v. v.items in
    let rows = c.args.rows.now in
    let lists = c.args.lists.now in
    let list = c.index-lists-i.result in
    let i = c.loop-i.i in
    let s = c.args.s in
    let inside : i < length lists = omega (arith, c.requires.few, c.loop-i-test.true) in
    let count = length-map lists items in
    let same = ap items c.index-lists-i.is ∙ sym (get_or-map items lists i list [] inside) in
    let parts = subst (HasParts F) (sym same) (c.requires.lists i (omega (arith, inside, count))) in
    let row = ap (poly_of F) (c.index-rows-i.is
    ∙ get_or_default rows i c.index-rows-i.result [] c.loop-i-test.true)
    ∙ sym (row_at F (g.K.Ring.lawful c.args.k.now) rows i) in
    let part = ap (poly_of F) (c.index.ensures
    ∙ get_or_default (items list) s c.index.result.now [] (omega
    (arith, parts.len, c.requires.index))
    ∙ ap (λ p. get_or p s []) same) ∙ row-value F (get_or (map items lists) i []) s in
    let next : suc i ≡ i + 1 = omega arith in
    record {
      poly = c.in_ok-sum.ensures.poly;
      value = c.in_ok-sum.ensures.value
          ∙ ap₂ P.add c.loop-i.invariant.value (c.in_ok-mul.ensures.value ∙ ap₂ P.mul row part)
          ∙ ap (λ n. test_sum F (map items lists) s n (plane_of F rows)) next;
    }
