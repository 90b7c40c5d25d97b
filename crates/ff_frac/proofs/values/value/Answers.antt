use Rattle.std.proofs.Common.{◌≡◌, ◌∙◌, ap}
use Rattle.ff_theory.specs.Eval.{plane_at}
use Rattle.ff_theory.specs.Values.{plane_of}
use Rattle.ff_data.proofs.NumeratorLemmas.{order_length, list_shape}
use Rattle.ff_frac.proofs.ValueLemmas.{numerator_value_of}
use Rattle.ff_frac.proofs.values.value.Goals as goal

pub residues-requires-clause-nonzero : goal.residues-requires-clause-nonzero
residues-requires-clause-nonzero g c =
    let F = g.K.Ring.elements c.args.alg.now.k in
    let L = g.K.Ring.lawful c.args.alg.now.k in
    order_length F L c.args.alg.now.f c.args.alg.now.plane c.args.alg.now.has_y
    c.args.order.now c.requires.order

pub quotients_by-requires-clause-nonzero : goal.quotients_by-requires-clause-nonzero
quotients_by-requires-clause-nonzero g c =
    let F = g.K.Ring.elements c.args.alg.now.k in
    let L = g.K.Ring.lawful c.args.alg.now.k in
    order_length F L c.args.alg.now.f c.args.alg.now.plane c.args.alg.now.has_y
    c.args.order.now c.requires.order

pub low_value-requires : goal.low_value-requires
low_value-requires g c =
    let F = g.K.Ring.elements c.args.alg.now.k in
    let L = g.K.Ring.lawful c.args.alg.now.k in
    record {
      order = c.requires.order;
      point = c.requires.point;
      low = c.in_ok-low.ensures.plane;
      shape = list_shape F L c.args.alg.now.f c.args.alg.now.plane c.args.alg.now.has_y
          c.args.order.now c.requires.order c.args.plane.now (plane_of F c.in_ok-low.low)
          c.in_ok-low.ensures.value c.requires.few;
    }

pub returns-clause-value : goal.returns-clause-value
returns-clause-value g c w over inside =
    let F = g.K.Ring.elements c.args.alg.now.k in
    let L = g.K.Ring.lawful c.args.alg.now.k in
    let p = c.args.point.now in
    let high = plane_of F c.in_ok-high.high in
    let rest : F.value c.value_of_rows-rest.result
    ≡ plane_at F.ring F.ring (λ s. s) (F.value p.a) (F.value p.theta) high =
    c.value_of_rows-rest.ensures.value
    ∙ ap (λ xs. plane_at F.ring F.ring (λ s. s) (F.value p.a) (F.value p.theta) (plane_of F xs))
    c.rows.ensures in
    numerator_value_of F L c.args.alg.now.f c.args.alg.now.plane c.args.alg.now.has_y
    c.args.order.now c.requires.order c.args.plane.now c.requires.few
    (plane_of F c.in_ok-low.low) high c.in_ok-low.ensures.value c.in_ok-high.ensures.value w over
    inside p c.in_ok-part.part c.in_ok-part.ensures.value _
    (c.add.ensures.value ∙ ap (F.add _) rest)
