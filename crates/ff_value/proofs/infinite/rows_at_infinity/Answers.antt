use Rattle.std.proofs.Common.{sym, ap, subst, arith, length}
use Rattle.ff_theory.specs.Values.{poly_of, ArePolys}
use Rattle.ff_theory.proofs.Results.{ok_map}
use Rattle.ff_elem.proofs.PolyLemmas.{nonzero-length}
use Rattle.ff_data.specs.declared.order.Chart.TheVariants.{Infinite}
use Rattle.ff_data.proofs.ChartLaws.{chart_laws}
use Rattle.ff_value.proofs.InfiniteRows.{near_rows, far_rows}
use Rattle.ff_value.proofs.OptionLemmas.{if_none, some_four}
use Rattle.ff_value.proofs.infinite.rows_at_infinity.Goals as goal

pub short_reversals-requires : goal.short_reversals-requires
short_reversals-requires g c =
    let F = g.K.Ring.elements c.args.alg.now.k in
    let L = g.K.Ring.lawful c.args.alg.now.k in
    let a = c.args.alg.now in
    record {
      rows = subst (ArePolys F) (sym c.deref.ensures.value)
          c.in_ok-quotients.ensures.quotients.polys;
      positive = omega (
        arith,
        ap length c.coeffs.ensures,
        nonzero-length F L c.args.d.now
            ((chart_laws F L a.f a.plane a.has_y Infinite).modulus_nonzero
            (poly_of F c.args.d.now) c.requires.modulus),
      );
    }

pub returns : goal.returns
returns g c =
    let F = g.K.Ring.elements c.args.alg.now.k in
    let L = g.K.Ring.lawful c.args.alg.now.k in
    let a = c.args.alg.now in
    let d = c.args.d.now in
    let e = c.short_reversals.ensures in
    let s = c.in_ok-scaled.ensures in
    let q = c.in_ok-quotients in
    record {
      some = some_four _ _ _ _ _ c.short_reversals.result
          (λ r plane few short each. near_rows F L a.f a.plane a.has_y _ _ s.value
          q.quotients.items q.ensures d c.requires.d c.requires.modulus c.deref.result.now
          c.deref.ensures.value _ (ap length c.coeffs.ensures) r plane few short each)
          e.plane e.few e.short e.some;
      none = ok_map _ _ c.short_reversals.result (λ o h. if_none o _ _ (λ k. far_rows F L a.f
          a.plane a.has_y _ _ s.value q.quotients.items q.ensures d c.requires.d
          c.requires.modulus c.deref.result.now c.deref.ensures.value _
          (ap length c.coeffs.ensures) k) h) e.none;
    }
