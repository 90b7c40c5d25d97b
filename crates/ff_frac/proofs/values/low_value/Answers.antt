use Rattle.std.proofs.Common.{◌≡◌, pred, length, sym, ◌∙◌, ap, ap₂, subst, All, IfSome, IfNone}
use Rattle.std.proofs.Common.{inl, inr}
use Rattle.ff_theory.specs.Ring.{IsElement}
use Rattle.ff_theory.specs.Span.{product}
use Rattle.ff_theory.specs.Values.{plane_of}
use Rattle.ff_theory.specs.Vector.{IsVector, vector_of}
use Rattle.ff_data.specs.declared.point.Point.{Point}
use Rattle.ff_data.specs.Orders.{InResidues}
use Rattle.ff_data.specs.Numerators.{IsResidueOf}
use Rattle.ff_frac.proofs.values.low_value.Goals as goal

pub dot-requires : goal.dot-requires
dot-requires g c =
    let F = g.K.Ring.elements c.args.alg.now.k in
    let n = length c.args.order.now.space.basis in
    let vector = subst (λ r. IfSome r (λ c. IsVector F n c.items)) c.in-Some.is
    c.in_ok-coefficients.ensures.vector in
    let e : c.deref-in-Some.result.now ≡ c.args.point.now.values =
    c.deref-in-Some.ensures.value ∙ ap (λ (q : Point). q.values) c.point.view_is in
    let n_is : n ≡ length c.deref.result.now =
    sym vector.len ∙ ap length (sym c.deref.ensures.value) in
    record {
      v = subst (All (IsElement F)) (sym c.deref.ensures.value) vector.each;
      w = subst (IsVector F (length c.deref.result.now)) (sym e)
          (subst (λ n. IsVector F n c.args.point.now.values) n_is c.requires.point.values);
    }

pub returns-in-None-clause-value : goal.returns-in-None-clause-value
returns-in-None-clause-value g c =
    let F = g.K.Ring.elements c.args.alg.now.k in
    let o = c.args.order.now in
    inr (subst (λ r. IfNone r (¬ InResidues F (pred (length o.d)) o.space
    (plane_of F c.args.low.now))) c.in-None.is c.in_ok-coefficients.ensures.none)

pub returns-in-Some-clause-value : goal.returns-in-Some-clause-value
returns-in-Some-clause-value g c =
    let F = g.K.Ring.elements c.args.alg.now.k in
    let o = c.args.order.now in
    let p = c.args.point.now in
    let low = plane_of F c.args.low.now in
    let items = c.in-Some.c.items in
    let values = c.deref-in-Some.result.now in
    let answer = c.in_ok-coefficients.ensures in
    let vector = subst (λ r. IfSome r (λ c. IsVector F (length o.space.basis) c.items))
    c.in-Some.is answer.vector in
    inl (record {
      coefficients = items;
      residue = subst (λ r. IfSome r (λ c. IsResidueOf F o low (vector_of F c.items)))
          c.in-Some.is answer.some;
      value = c.dot.ensures.value
          ∙ ap (λ xs. product F.ring (length xs) (vector_of F xs) (vector_of F values))
          c.deref.ensures.value
          ∙ ap₂ (λ n ys. product F.ring n (vector_of F items) (vector_of F ys)) vector.len
          (c.deref-in-Some.ensures.value ∙ ap (λ (q : Point). q.values) c.point.view_is);
    })
