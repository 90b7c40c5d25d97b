use Rattle.std.proofs.Common.{◌≡◌, pred, length, IfSome, IfNone, ◌∙◌, ap, ap₂, subst}
use Rattle.ff_theory.specs.Eval.{plane_at}
use Rattle.ff_theory.specs.Span.{product}
use Rattle.ff_theory.specs.Values.{plane_of}
use Rattle.ff_theory.specs.Vector.{IsVector, vector_of}
use Rattle.ff_data.specs.declared.point.Point.{Point}
use Rattle.ff_data.specs.Orders.{InResidues}
use Rattle.ff_data.specs.Numerators.{IsResidueOf}
use Rattle.ff_data.proofs.NumeratorLemmas.{order_length, list_shape, numerator_value}
use Rattle.ff_data.proofs.NumeratorLemmas.{numerator_outside}
use Rattle.ff_data.proofs.value.value_of_numerator.Goals as goal

pub residues-requires-clause-nonzero : goal.residues-requires-clause-nonzero
residues-requires-clause-nonzero g c =
    let F = g.K.Ring.elements c.args.alg.now.k in
    let L = g.K.Ring.lawful c.args.alg.now.k in
    order_length F L c.args.alg.now.f c.args.alg.now.plane c.args.alg.now.has_y
    c.args.order.now c.requires.order

pub quotients_by-requires-clause-nonzero : goal.quotients_by-requires-clause-nonzero
quotients_by-requires-clause-nonzero g c =
    let F = g.K.Ring.elements c.args.alg.now.k in
    let L = g.K.Ring.lawful c.args.alg.now.k in
    order_length F L c.args.alg.now.f c.args.alg.now.plane c.args.alg.now.has_y
    c.args.order.now c.requires.order

pub residue_coefficients-requires : goal.residue_coefficients-requires
residue_coefficients-requires g c =
    let F = g.K.Ring.elements c.args.alg.now.k in
    let L = g.K.Ring.lawful c.args.alg.now.k in
    record {
      order = c.requires.order;
      low = c.in_ok-low.ensures.plane;
      shape = list_shape F L c.args.alg.now.f c.args.alg.now.plane c.args.alg.now.has_y
          c.args.order.now c.requires.order c.args.plane.now (plane_of F c.in_ok-low.low)
          c.in_ok-low.ensures.value c.requires.few;
    }

pub returns-in-None-clause-none : goal.returns-in-None-clause-none
returns-in-None-clause-none g c w over =
    let F = g.K.Ring.elements c.args.alg.now.k in
    let L = g.K.Ring.lawful c.args.alg.now.k in
    let o = c.args.order.now in
    let low = plane_of F c.in_ok-low.low in
    numerator_outside F L c.args.alg.now.f c.args.alg.now.plane c.args.alg.now.has_y o
    c.requires.order c.args.plane.now c.requires.few low (plane_of F c.in_ok-high.high)
    c.in_ok-low.ensures.value c.in_ok-high.ensures.value w over
    (subst (λ r. IfNone r (¬ InResidues F (pred (length o.d)) o.space low)) c.in-None.is
    c.in_ok-residue_coefficients.ensures.none)

pub returns-clause-some : goal.returns-clause-some
returns-clause-some g c w over =
    let F = g.K.Ring.elements c.args.alg.now.k in
    let L = g.K.Ring.lawful c.args.alg.now.k in
    let o = c.args.order.now in
    let p = c.args.point.now in
    let low = plane_of F c.in_ok-low.low in
    let high = plane_of F c.in_ok-high.high in
    let items = c.in-Some.c.items in
    let values = c.deref-in-Some.result.now in
    let answer = c.in_ok-residue_coefficients.ensures in
    let vector = subst (λ r. IfSome r (λ c. IsVector F (length o.space.basis) c.items))
    c.in-Some.is answer.vector in
    let solution = subst (λ r. IfSome r (λ c. IsResidueOf F o low (vector_of F c.items)))
    c.in-Some.is answer.some in
    let part : F.value c.dot-part.result
    ≡ product F.ring (length o.space.basis) (vector_of F items) (vector_of F p.values) =
    c.dot-part.ensures.value
    ∙ ap (λ xs. product F.ring (length xs) (vector_of F xs) (vector_of F values))
    c.deref.ensures.value
    ∙ ap₂ (λ n ys. product F.ring n (vector_of F items) (vector_of F ys)) vector.len
    (c.deref-in-Some.ensures.value ∙ ap (λ (q : Point). q.values) c.point.view_is) in
    let rest : F.value c.value_of_rows-rest.result
    ≡ plane_at F.ring F.ring (λ s. s) (F.value p.a) (F.value p.theta) high =
    c.value_of_rows-rest.ensures.value
    ∙ ap (λ (q : Point). plane_at F.ring F.ring (λ s. s) (F.value q.a) (F.value q.theta)
    (plane_of F c.rows.result.now)) c.point.view_is
    ∙ ap (λ xs. plane_at F.ring F.ring (λ s. s) (F.value p.a) (F.value p.theta) (plane_of F xs))
    c.rows.ensures in
    record {
      element = c.add.ensures.element;
      value = numerator_value F L c.args.alg.now.f c.args.alg.now.plane c.args.alg.now.has_y o
          c.requires.order c.args.plane.now c.requires.few low high c.in_ok-low.ensures.value
          c.in_ok-high.ensures.value w over p items solution (F.value c.add.result)
          (c.add.ensures.value ∙ ap₂ F.add part rest);
    }
