use Rattle.std.proofs.Common.{sym, subst}
use Rattle.ff_theory.specs.Values.{ArePolys}
use Rattle.ff_elem.proofs.PolyLemmas.{poly-nonzero}
use Rattle.ff_data.proofs.MonicLemmas.{raised-length}
use Rattle.ff_value.proofs.InfiniteRows.{quotients_are}
use Rattle.ff_value.proofs.OptionLemmas.{ok_three}
use Rattle.ff_value.proofs.infinite.quotients_over.Goals as goal

pub raised_quotients-requires : goal.raised_quotients-requires
raised_quotients-requires g c =
    let F = g.K.Ring.elements c.args.alg.now.k in
    let L = g.K.Ring.lawful c.args.alg.now.k in
    record {
      rows = subst (ArePolys F) (sym c.rows.ensures) c.requires.plane.each;
      by = c.in_ok-by.ensures.poly;
      nonzero = raised-length F L c.in_ok-by.by c.args.den.now 1
          (poly-nonzero F L c.args.den.now c.requires.den c.requires.nonzero)
          c.in_ok-by.ensures.value;
    }

pub returns : goal.returns
returns g c =
    let F = g.K.Ring.elements c.args.alg.now.k in
    let L = g.K.Ring.lawful c.args.alg.now.k in
    let a = c.args.alg.now in
    let e = c.raised_quotients.ensures in
    ok_three _ _ _ _ c.raised_quotients.result
    (λ r len each value. quotients_are F L a.f a.plane a.has_y c.args.den.now c.in_ok-by.by
    c.in_ok-e.e c.in_ok-e.ensures c.in_ok-by.ensures.value c.args.plane.now c.rows.result.now
    r.items c.requires.plane c.requires.few c.rows.ensures len each value) e.len e.each e.value
