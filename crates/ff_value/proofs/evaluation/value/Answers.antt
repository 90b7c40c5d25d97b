use Rattle.std.proofs.Common.{IfSome, IfNone, subst}
use Rattle.ff_theory.proofs.Results.{ok_map}
use Rattle.ff_elem.specs.Elem.{elem_of}
use Rattle.ff_data.proofs.NumeratorLemmas.{if_some}
use Rattle.ff_value.specs.Value.{IsNear, IsFar}
use Rattle.ff_value.proofs.OptionLemmas.{if_none}
use Rattle.ff_value.proofs.RowValues.{near_value, near_outside, far_outside}
use Rattle.ff_value.proofs.evaluation.value.Goals as goal

pub rows_of-requires : goal.rows_of-requires
rows_of-requires g c = record {
  d = c.requires.order.d;
  modulus = c.requires.order.modulus;
  w = c.requires.w;
}

pub value_of_numerator-requires : goal.value_of_numerator-requires
value_of_numerator-requires g c =
    let L = g.K.Ring.lawful c.args.alg.now.k in
    let f = c.args.alg.now.f in
    let o = c.args.order.now in
    let near = subst (λ r. IfSome r (IsNear L f o.chart o.d (elem_of L f c.args.w.now)))
    c.in-Some.is c.in_ok-plane.ensures.some in
    record {
      order = c.requires.order;
      point = c.requires.point;
      plane = near.plane;
      few = near.few;
    }

pub returns-in-Some : goal.returns-in-Some
returns-in-Some g c =
    let F = g.K.Ring.elements c.args.alg.now.k in
    let L = g.K.Ring.lawful c.args.alg.now.k in
    let a = c.args.alg.now in
    let o = c.args.order.now in
    let w = elem_of L a.f c.args.w.now in
    let near = subst (λ r. IfSome r (IsNear L a.f o.chart o.d w)) c.in-Some.is
    c.in_ok-plane.ensures.some in
    let e = c.value_of_numerator.ensures in
    record {
      some = ok_map _ _ c.value_of_numerator.result (λ r h. if_some r _ _ (λ v k. near_value F L
          a.f a.plane a.has_y o c.requires.order w c.in-Some.plane near c.args.point.now
          c.requires.point v k) h) e.some;
      none = ok_map _ _ c.value_of_numerator.result (λ r h. if_none r _ _ (λ k. near_outside F L
          a.f a.plane a.has_y o c.requires.order w c.in-Some.plane near k) h) e.none;
    }

pub returns-in-None : goal.returns-in-None
returns-in-None g c =
    let F = g.K.Ring.elements c.args.alg.now.k in
    let L = g.K.Ring.lawful c.args.alg.now.k in
    let a = c.args.alg.now in
    let o = c.args.order.now in
    let w = elem_of L a.f c.args.w.now in
    record {
      some = tt;
      none = far_outside F L a.f a.plane a.has_y o c.requires.order w
          (subst (λ r. IfNone r (IsFar L a.f o.chart o.d w)) c.in-None.is
          c.in_ok-plane.ensures.none);
    }
