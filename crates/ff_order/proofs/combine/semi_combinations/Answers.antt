use Rattle.std.proofs.Common.{ℕ, [], length, map, sym, ◌∙◌, ap, arith, subst, All, Vec, Global}
use Rattle.std.proofs.lemmas.List.Elements.{All-push}
use Rattle.std.proofs.lemmas.List.{get_or-map}
use Rattle.ff_theory.specs.Ring.{IsElement}
use Rattle.ff_theory.specs.Vector.{vector_of, vectors_of, IsVector, combination_of}
use Rattle.ff_lin.specs.Space.{frobenius}
use Rattle.ff_theory.proofs.Sums.{sum-ext}
use Rattle.ff_lin.proofs.Steps.{push-family}
use Rattle.ff_order.proofs.combine.semi_combinations.Goals as goal

pub frobenius_row-requires : goal.frobenius_row-requires
frobenius_row-requires g c =
    let F = g.K.Ring.elements c.args.k.now in
    let items : Vec ℕ Global → _ = λ v. v.items in
    subst (All (IsElement F)) (sym (c.deref.ensures.value ∙ ap items c.v-item.is))
    (c.requires.lists c.loop-v.v-index c.v-item.result c.loop-v-test.true).each

pub combination-requires-clause-coefficients : goal.combination-requires-clause-coefficients
combination-requires-clause-coefficients g c =
    let F = g.K.Ring.elements c.args.k.now in
    let items : Vec ℕ Global → _ = λ v. v.items in
    let row = c.requires.lists c.loop-v.v-index c.v-item.result c.loop-v-test.true in
    subst (IsVector F (length c.args.rows.now)) (sym c.deref-in-loop-v.ensures.value)
    (subst (λ n. IsVector F n c.in_ok-c.c.items)
    (ap length (c.deref.ensures.value ∙ ap items c.v-item.is) ∙ row.len)
    c.in_ok-c.ensures.vector)

pub loop-v-preserved : goal.loop-v-preserved
loop-v-preserved g c =
    let F = g.K.Ring.elements c.args.k.now in
    let items : Vec ℕ Global → _ = λ v. v.items in
    let rows = map items c.args.rows.now in
    let lists = map items c.args.lists.now in
    let row = c.in_ok-combination.field-0 in
    let old = c.loop-v.list.items in
    let i = c.loop-v.v-index in
    let h = c.loop-v.invariant in
    let e = c.in_ok-push.ensures.items in
    record {
      len = omega (arith, c.in_ok-push.ensures.len, h.len);
      vectors = subst (All (λ v. IsVector F c.args.n (items v))) (sym e)
          (All-push (λ v. IsVector F c.args.n (items v)) old row h.vectors
          c.in_ok-combination.ensures.vector);
      value = λ i' j l. ap (λ t. vectors_of F (map items t) i' j) e
          ∙ push-family F items old row
          (λ i. combination_of F rows (frobenius F (vectors_of F lists i))) i h.len h.value
          (λ j. c.in_ok-combination.ensures.value j
          ∙ ap (λ t. combination_of F rows (vector_of F t) j) c.deref-in-loop-v.ensures.value
          ∙ sum-ext F.ring (g.K.Ring.lawful c.args.k.now).laws (length rows) _ _
          (λ s q. ap (λ t. F.mul t (vectors_of F rows s j)) (c.in_ok-c.ensures.value s))
          ∙ ap (λ t. combination_of F rows (frobenius F (vector_of F t)) j)
          (c.deref.ensures.value ∙ ap items c.v-item.is
          ∙ sym (get_or-map items c.args.lists.now i c.v-item.result [] (omega arith)))) i' j l;
    }
