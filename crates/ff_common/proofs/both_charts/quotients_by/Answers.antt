use Rattle.std.proofs.Common.{ℕ, ◌*◌, map, [], sym, ◌∙◌, ap, subst, arith}
use Rattle.std.proofs.Common.{All, Vec, Global}
use Rattle.std.proofs.lemmas.List.{length-map, get_or-map}
use Rattle.std.proofs.lemmas.List.Elements.{All-push}
use Rattle.ff_theory.specs.Poly.{coeff}
use Rattle.ff_theory.specs.Vector.{vector_of, vectors_of, IsVector}
use Rattle.ff_lattice.proofs.RowResidues.{pushed_at}
use Rattle.ff_elem.specs.Elem.{algebra_in, elem_of, IsElem}
use Rattle.ff_elem.specs.declared.elem.Elem.{Elem}
use Rattle.ff_data.specs.Orders.{y_degree}
use Rattle.ff_common.specs.Common.{HasVectorOver}
use Rattle.ff_common.proofs.both_charts.quotients_by.Goals as goal

pub quotient-requires-clause-vector : goal.quotient-requires-clause-vector
quotient-requires-clause-vector g c =
    let F = g.K.Ring.elements c.args.alg.now.k in
    let L = g.K.Ring.lawful c.args.alg.now.k in
    let items : Vec ℕ Global → _ = λ v. v.items in
    subst (IsVector F (y_degree L c.args.alg.now.f * c.args.l))
    (sym (c.deref.ensures.value ∙ ap items c.v-item.is))
    (c.requires.vectors c.loop-v.v-index c.v-item.result c.loop-v-test.true)

pub loop-v-preserved : goal.loop-v-preserved
loop-v-preserved g c =
    let F = g.K.Ring.elements c.args.alg.now.k in
    let L = g.K.Ring.lawful c.args.alg.now.k in
    let f = c.args.alg.now.f in
    let items : Vec ℕ Global → _ = λ v. v.items in
    let basis = map items c.args.vectors.now in
    let i = c.loop-v.v-index in
    let old = c.loop-v.elements.items in
    let w = c.in_ok-quotient.field-0 in
    let e = c.in_ok-push.ensures.items in
    let h = c.loop-v.invariant in
    let A = algebra_in L f in
    let value = λ (r : Elem). elem_of L f r in
    record {
      elems = subst (All (IsElem L f)) (sym e)
          (All-push (IsElem L f) old w h.elems c.in_ok-quotient.ensures.element);
      count = omega (arith, c.in_ok-push.ensures.len, h.count);
      each = λ j l. subst (λ t. HasVectorOver L f c.args.d.now c.args.l (vectors_of F basis j)
          (coeff A (map value t) j)) (sym e)
          (pushed_at A value old w
          (λ j r. HasVectorOver L f c.args.d.now c.args.l (vectors_of F basis j) r) i h.count
          h.each (subst (λ t. HasVectorOver L f c.args.d.now c.args.l (vector_of F t) (value w))
          (c.deref.ensures.value ∙ ap items c.v-item.is
          ∙ sym (get_or-map items c.args.vectors.now i c.v-item.result [] (omega arith)))
          c.in_ok-quotient.ensures.value) j l);
    }

pub returns : goal.returns
returns g c =
    let items : Vec ℕ Global → _ = λ v. v.items in
    let count = length-map c.args.vectors.now items in
    let h = c.loop-v.invariant in
    record {
      elems = h.elems;
      count = omega (arith, count, h.count, c.loop-v-test.false, c.loop-v.auto.v-index-end);
      each = λ i l. h.each i (omega (arith, l, count, c.loop-v-test.false));
    }
