use Rattle.std.proofs.Common.{ℕ, [], length, map, sym, ◌∙◌, ap, subst, arith, All}
use Rattle.std.proofs.lemmas.List.{get_or-map, length-map}
use Rattle.std.proofs.lemmas.List.Elements.{All-push}
use Rattle.std.specs.Global.{Vec}
use Rattle.ff_theory.specs.Vector.{IsVector, vector_of, vectors_of}
use Rattle.ff_lin.specs.Space.{rows_of}
use Rattle.ff_common.proofs.TimesSpaces.{row_pushed}
use Rattle.ff_fibre.proofs.RowLists.{basis_row}
use Rattle.ff_points.specs.PointLists.{AreVectorCoordinates}
use Rattle.ff_points.proofs.fibres.basis_coordinates.Goals as goal

pub vector_coordinates-requires : goal.vector_coordinates-requires
vector_coordinates-requires g c =
    let F = g.K.Ring.elements c.args.alg.now.k in
    record {
      order = c.requires.order;
      fibre = c.requires.fibre;
      vector = subst (IsVector F _) (sym c.deref.ensures.value)
          (basis_row F _ c.args.order.now.space c.requires.order.space c.basis-v-items.result.now
          c.basis-v-items.ensures c.loop-v.v-index c.v-item.result c.loop-v-test.true c.v-item.is);
    }

pub loop-v-preserved : goal.loop-v-preserved
loop-v-preserved g c =
    let F = g.K.Ring.elements c.args.alg.now.k in
    let L = g.K.Ring.lawful c.args.alg.now.k in
    let f = c.args.alg.now.f in
    let o = c.args.order.now in
    let s = c.args.fibre.now in
    let items = λ (r : Vec ℕ). r.items in
    let vs = c.basis-v-items.result.now in
    let i = c.loop-v.v-index in
    let old = c.loop-v.list.items in
    let row = c.in_ok-vector_coordinates.field-0 in
    let e = c.in_ok-push.ensures.items in
    let h = c.loop-v.invariant in
    let n = length s.planes.items in
    let P : ℕ → (ℕ → F.carrier) → Type 0 = λ i r. AreVectorCoordinates L f o s
    (vectors_of F (rows_of vs) i) r in
    record {
      len = omega (arith, c.in_ok-push.ensures.len, h.len);
      vectors = subst (All (λ (v : Vec ℕ). IsVector F n (items v))) (sym e)
          (All-push (λ (v : Vec ℕ). IsVector F n (items v)) old row h.vectors
          c.in_ok-vector_coordinates.ensures.vector);
      value = λ j l. subst (λ t. P j (vectors_of F (map items t) j)) (sym e)
          (row_pushed F items old row P i h.len h.value
          (subst (λ r. AreVectorCoordinates L f o s (vector_of F r) (vector_of F row.items))
          (c.deref.ensures.value ∙ ap items c.v-item.is
          ∙ sym (get_or-map items vs i c.v-item.result [] c.loop-v-test.true))
          c.in_ok-vector_coordinates.ensures.value) j l);
    }

pub returns-clause-count : goal.returns-clause-count
returns-clause-count g c = omega (
  arith,
  c.loop-v.invariant.len,
  c.loop-v-test.false,
  c.loop-v.auto.v-index-end,
  ap length c.basis-v-items.ensures,
  length-map c.basis-v-items.result.now (λ (r : Vec ℕ). r.items),
)

pub returns-clause-value : goal.returns-clause-value
returns-clause-value g c i l =
    let F = g.K.Ring.elements c.args.alg.now.k in
    let L = g.K.Ring.lawful c.args.alg.now.k in
    subst (λ b. AreVectorCoordinates L c.args.alg.now.f c.args.order.now c.args.fibre.now
    (vectors_of F b i) (vectors_of F (rows_of c.loop-v.list.items) i)) c.basis-v-items.ensures
    (c.loop-v.invariant.value i (omega (
      arith,
      l,
      c.loop-v-test.false,
      ap length c.basis-v-items.ensures,
      length-map c.basis-v-items.result.now (λ (r : Vec ℕ). r.items),
    )))
