use Rattle.std.proofs.Common.{ℕ, pred, ◌*◌, length, map, get_or, sym, subst, arith, All}
use Rattle.std.proofs.Common.{Vec, Global}
use Rattle.std.proofs.lemmas.List.Elements.{All-push}
use Rattle.ff_theory.specs.Vector.{vector_of, vectors_of}
use Rattle.ff_theory.specs.Values.{poly_of}
use Rattle.ff_elem.specs.Elem.{elem_of, IsElem}
use Rattle.ff_data.specs.Orders.{y_degree}
use Rattle.ff_basis.specs.OrderList.{IsFraction}
use Rattle.ff_basis.proofs.Pieces.{entry_pushed, vector_read}
use Rattle.ff_basis.proofs.reading.read_all.Goals as goal

pub loop-v-preserved : goal.loop-v-preserved
loop-v-preserved g c =
    let F = g.K.Ring.elements c.args.alg.now.k in
    let L = g.K.Ring.lawful c.args.alg.now.k in
    let f = c.args.alg.now.f in
    let items : Vec ℕ Global → _ = λ v. v.items in
    let basis = c.args.basis.now in
    let D = poly_of F c.args.den.now in
    let h = c.loop-v.invariant in
    let i = c.loop-v.v-index in
    let old = c.loop-v.list.items in
    let new = c.in_ok-element.field-0 in
    let e = c.in_ok-push.ensures.items in
    let read = vector_read F items basis (y_degree L f * pred (length c.args.den.now)) i
    c.v-item.result c.deref.result.now c.requires.basis c.loop-v-test.true c.v-item.is
    c.deref.ensures.value in
    record {
      len = omega (arith, c.in_ok-push.ensures.len, h.len);
      each = subst (All (IsElem L f)) (sym e) (All-push (IsElem L f) old new h.each
          c.in_ok-element.ensures.element);
      value = λ j d q. subst (λ t. IsFraction L f c.args.chart D (vectors_of F (map items basis) j)
          (elem_of L f (get_or t j d))) (sym e)
          (entry_pushed old new
          (λ j x. IsFraction L f c.args.chart D (vectors_of F (map items basis) j)
          (elem_of L f x)) i
          h.len h.value
          (subst (λ w. IsFraction L f c.args.chart D (vector_of F w) (elem_of L f new)) read.1
          c.in_ok-element.ensures.value) j d q);
    }
