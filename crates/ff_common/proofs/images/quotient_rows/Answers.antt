use Rattle.std.proofs.Common.{◌*◌, ◌-◌, length, sym, subst}
use Rattle.ff_theory.specs.Values.{ArePolys}
use Rattle.ff_theory.specs.Vector.{IsVector}
use Rattle.ff_common.proofs.ReversedImages.{quotients_are}
use Rattle.ff_common.proofs.images.quotient_rows.Goals as goal

pub plane_of_vector-requires : goal.plane_of_vector-requires
plane_of_vector-requires g c =
    let F = g.K.Ring.elements c.args.alg.now.k in
    subst (λ r. IsVector F ((length r - 1) * c.args.l) c.args.v.now) (sym c.rows.ensures)
    c.requires.vector

pub raised_quotients-requires : goal.raised_quotients-requires
raised_quotients-requires g c =
    let F = g.K.Ring.elements c.args.alg.now.k in
    record {
      rows = subst (ArePolys F) (sym c.rows-2.ensures) c.in_ok-plane.ensures.plane.each;
      by = c.requires.by;
      nonzero = c.requires.nonzero;
    }

pub returns : goal.returns
returns g c =
    let F = g.K.Ring.elements c.args.alg.now.k in
    let L = g.K.Ring.lawful c.args.alg.now.k in
    let e = c.raised_quotients.ensures in
    quotients_are F L c.args.alg.now.f c.args.alg.now.plane c.args.alg.now.has_y
    c.args.by.now c.args.l c.args.e c.requires.slope c.args.v.now c.rows.result.now
    c.rows.ensures c.in_ok-plane.plane c.in_ok-plane.ensures.plane c.in_ok-plane.ensures.shape
    c.in_ok-plane.ensures.value c.rows-2.result.now c.rows-2.ensures c.raised_quotients.result
    e.len e.each e.value
