use Rattle.std.proofs.Common.{◌≡◌, ℕ, ◌+◌, ◌*◌, []}
use Rattle.std.proofs.Common.{length, sym, ◌∙◌, ap, subst, arith, All}
use Rattle.std.proofs.lemmas.List.{get_or-map, length-map}
use Rattle.std.proofs.lemmas.List.Elements.{All-push}
use Rattle.std.specs.Global.{Vec}
use Rattle.ff_theory.specs.Vector.{IsVector, vector_of, vectors_of}
use Rattle.ff_lin.specs.Space.{rows_of}
use Rattle.ff_data.specs.Orders.{y_degree}
use Rattle.ff_fibre.specs.Fibres.{IsWidened}
use Rattle.ff_fibre.proofs.RowLists.{basis_row, kept_row, pushed_rows}
use Rattle.ff_fibre.proofs.numerators.spanning_vectors.Goals as goal

pub widened-requires : goal.widened-requires
widened-requires g c =
    let F = g.K.Ring.elements c.args.alg.now.k in
    record {
      order = c.requires.order;
      vector = subst (IsVector F _) (sym c.deref.ensures.value)
          (basis_row F _ c.args.order.now.space c.requires.order.space c.basis-v-items.result.now
          c.basis-v-items.ensures c.loop-v.v-index c.v-item.result c.loop-v-test.true c.v-item.is);
    }

pub loop-v-preserved : goal.loop-v-preserved
loop-v-preserved g c =
    let F = g.K.Ring.elements c.args.alg.now.k in
    let L = g.K.Ring.lawful c.args.alg.now.k in
    let n = y_degree L c.args.alg.now.f in
    let d = length c.args.order.now.d in
    let items = λ (r : Vec ℕ). r.items in
    let vs = c.basis-v-items.result.now in
    let i = c.loop-v.v-index in
    let old = c.loop-v.list.items in
    let row = c.in_ok-widened.field-0 in
    let e = c.in_ok-push.ensures.items in
    let h = c.loop-v.invariant in
    let P : ℕ → (ℕ → F.carrier) → Type 0 = λ i r. IsWidened F n d
    (vectors_of F (rows_of vs) i) r in
    record {
      len = omega (arith, c.in_ok-push.ensures.len, h.len);
      vectors = subst (All (λ (v : Vec ℕ). IsVector F (n * d) (items v))) (sym e)
          (All-push (λ (v : Vec ℕ). IsVector F (n * d) (items v)) old row h.vectors
          c.in_ok-widened.ensures.vector);
      powers = λ a j l. ap (λ t. vectors_of F (rows_of t) a j) e
          ∙ kept_row F old row a (omega (arith, h.len, l)) j ∙ h.powers a j l;
      basis = λ j l. subst (λ t. P j (vectors_of F (rows_of t) (n + j))) (sym e)
          (pushed_rows F old row n i h.len P h.basis
          (subst (λ r. IsWidened F n d (vector_of F r) (vector_of F row.items))
          (c.deref.ensures.value ∙ ap items c.v-item.is
          ∙ sym (get_or-map items vs i c.v-item.result [] c.loop-v-test.true))
          c.in_ok-widened.ensures.value) j l);
    }

pub returns-clause-spanning : goal.returns-clause-spanning
returns-clause-spanning g c =
    let F = g.K.Ring.elements c.args.alg.now.k in
    let L = g.K.Ring.lawful c.args.alg.now.k in
    let n = y_degree L c.args.alg.now.f in
    let d = length c.args.order.now.d in
    let items = λ (r : Vec ℕ). r.items in
    let vs = c.basis-v-items.result.now in
    let list = c.loop-v.list.items in
    let h = c.loop-v.invariant in
    let all : c.loop-v.v-index ≡ length c.args.order.now.space.basis = omega (
      arith,
      c.loop-v-test.false,
      c.loop-v.auto.v-index-end,
      ap length c.basis-v-items.ensures,
      length-map vs items,
    ) in
    record {
      count = omega (arith, length-map list items, h.len, all);
      powers = h.powers;
      basis = λ i l. subst (λ b. IsWidened F n d (vectors_of F b i)
          (vectors_of F (rows_of list) (n + i))) c.basis-v-items.ensures
          (h.basis i (omega (arith, l, all)));
    }
