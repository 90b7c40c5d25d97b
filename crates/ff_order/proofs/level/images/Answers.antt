use Rattle.std.proofs.Common.{ℕ, ◌*◌, pred, [], length, map, sym, ◌∙◌, ap, subst}
use Rattle.std.proofs.Common.{arith, All, Vec, Global}
use Rattle.std.proofs.lemmas.List.Elements.{All-push}
use Rattle.std.proofs.lemmas.List.{get_or-map}
use Rattle.ff_theory.specs.Vector.{vector_of, vectors_of, IsVector}
use Rattle.ff_data.specs.Orders.{y_degree}
use Rattle.ff_order.specs.Level.{IsImage, lists_of}
use Rattle.ff_order.proofs.Lengths.{row_pushed}
use Rattle.ff_order.proofs.level.images.Goals as goal

pub image-requires-clause-v : goal.image-requires-clause-v
image-requires-clause-v g c =
    let F = g.K.Ring.elements c.args.alg.now.k in
    let items : Vec ℕ Global → _ = λ v. v.items in
    let n = y_degree (g.K.Ring.lawful c.args.alg.now.k) c.args.alg.now.f
    * pred (length c.args.rows.now.d) in
    subst (IsVector F n) (sym (c.deref.ensures.value ∙ ap items c.v-item.is))
    (c.requires.basis c.loop-v.v-index c.v-item.result c.loop-v-test.true)

pub loop-v-preserved : goal.loop-v-preserved
loop-v-preserved g c =
    let F = g.K.Ring.elements c.args.alg.now.k in
    let L = g.K.Ring.lawful c.args.alg.now.k in
    let f = c.args.alg.now.f in
    let items : Vec ℕ Global → _ = λ v. v.items in
    let d = c.args.rows.now.d in
    let lists = lists_of c.args.lists.now in
    let basis = map items c.args.basis.now in
    let i = c.loop-v.v-index in
    let row = c.in_ok-image.field-0 in
    let old = c.loop-v.images.items in
    let e = c.in_ok-push.ensures.items in
    let h = c.loop-v.invariant in
    let n = pred (length d) in
    let P : ℕ → (ℕ → F.carrier) → Type 0 = λ i r. IsImage L f c.args.chart d lists c.args.s
    (vectors_of F basis i) r in
    record {
      len = omega (arith, c.in_ok-push.ensures.len, h.len);
      vectors = subst (All (λ v. IsVector F n (items v))) (sym e)
          (All-push (λ v. IsVector F n (items v)) old row h.vectors c.in_ok-image.ensures.vector);
      value = λ j l. subst (λ t. P j (vectors_of F (map items t) j)) (sym e)
          (row_pushed F items old row P i h.len h.value
          (subst (λ t. IsImage L f c.args.chart d lists c.args.s (vector_of F t)
          (vector_of F (items row))) (c.deref.ensures.value ∙ ap items c.v-item.is
          ∙ sym (get_or-map items c.args.basis.now i c.v-item.result [] c.loop-v-test.true))
          c.in_ok-image.ensures.value) j l);
    }

pub returns-clause-value : goal.returns-clause-value
returns-clause-value g c =
    λ i l. c.loop-v.invariant.value i (omega (arith, l, c.loop-v-test.false))
