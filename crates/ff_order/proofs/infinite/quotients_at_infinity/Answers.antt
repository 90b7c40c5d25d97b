use Rattle.std.proofs.Common.{◌-◌, length, sym, ap, subst}
use Rattle.ff_theory.specs.Values.{ArePolys}
use Rattle.ff_data.proofs.MonicLemmas.{raised-length}
use Rattle.ff_order.proofs.ChartLemmas.{quotients-are, ok_three}
use Rattle.ff_order.proofs.infinite.quotients_at_infinity.Goals as goal

pub rows_at_monic-requires : goal.rows_at_monic-requires
rows_at_monic-requires g c = record { w = c.requires.b; in_powers = c.requires.in_powers }

pub raised_quotients-requires : goal.raised_quotients-requires
raised_quotients-requires g c =
    let F = g.K.Ring.elements c.args.alg.now.k in
    record {
      rows = subst (ArePolys F) (sym c.rows.ensures) c.in_ok-plane.ensures.plane.each;
      by = c.in_ok-by.ensures.poly;
      nonzero = raised-length F (g.K.Ring.lawful c.args.alg.now.k) c.in_ok-by.by c.args.sep.now.d 1
          c.requires.nonzero c.in_ok-by.ensures.value;
    }

pub returns : goal.returns
returns g c =
    let e = c.raised_quotients.ensures in
    ok_three _ _ _ _ c.raised_quotients.result
    (λ r len each value. quotients-are (g.K.Ring.elements c.args.alg.now.k)
    (g.K.Ring.lawful c.args.alg.now.k) c.args.alg.now.f c.args.alg.now.plane c.args.alg.now.has_y
    _ c.args.e c.args.sep.now.d c.in_ok-by.by c.in_ok-plane.plane c.rows.result.now r.items
    _ (ap (λ r. length r - 2) c.rows-2.ensures) c.in_ok-by.ensures.value c.rows.ensures
    c.in_ok-plane.ensures.plane c.in_ok-plane.ensures.rows c.in_ok-plane.ensures.value len each
    value)
    e.len e.each e.value
