use Rattle.ff_theory.proofs.Results.{ok_map}
use Rattle.ff_value.proofs.MonicRows.{finite_near, finite_far}
use Rattle.ff_value.proofs.OptionLemmas.{if_none, some_four}
use Rattle.ff_value.proofs.numerators.finite_rows.Goals as goal

pub returns : goal.returns
returns g c =
    let F = g.K.Ring.elements c.args.alg.now.k in
    let L = g.K.Ring.lawful c.args.alg.now.k in
    let a = c.args.alg.now in
    let d = c.args.d.now in
    let e = c.rows_at_monic.ensures in
    let s = c.in_ok-scaled.ensures.value in
    record {
      some = some_four _ _ _ _ _ c.rows_at_monic.result
          (λ r plane few _ h. finite_near F L a.f a.plane a.has_y d _ _ s r plane few h)
          e.plane e.few e.few e.some;
      none = ok_map _ _ c.rows_at_monic.result (λ o h. if_none o _ _
          (λ k. finite_far F L a.f a.plane a.has_y d _ _ s k) h) e.none;
    }
