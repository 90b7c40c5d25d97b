use Rattle.std.proofs.Common.{arith}
use Rattle.ff_theory.proofs.Results.{ok_map}
use Rattle.ff_data.proofs.NumeratorLemmas.{if_some}
use Rattle.ff_value.proofs.MonicRows.{exact_value, no_value}
use Rattle.ff_value.proofs.OptionLemmas.{if_none}
use Rattle.ff_value.proofs.monic.rows_at_monic.Goals as goal

pub exact_quotient-requires : goal.exact_quotient-requires
exact_quotient-requires g c = record {
  a = c.in_ok-den.ensures.plane;
  by = c.in_ok-den.ensures.den;
  nonzero = c.in_ok-den.ensures.nonzero;
}

pub returns : goal.returns
returns g c =
    let F = g.K.Ring.elements c.args.alg.now.k in
    let L = g.K.Ring.lawful c.args.alg.now.k in
    let a = c.args.alg.now in
    let at = c.in_ok-den.ensures in
    let e = c.exact_quotient.ensures in
    let r = c.exact_quotient.result in
    record {
      plane = e.plane;
      few = ok_map _ _ r (λ o h. if_some o _ _ (λ q k. omega (arith, k, at.few)) h) e.few;
      some = ok_map _ _ r (λ o h. if_some o _ _ (λ q k. exact_value F L a.f a.plane a.has_y _
          c.in_ok-den.den at.den at.nonzero c.in_ok-den.rows at.few at.over q k) h) e.some;
      none = ok_map _ _ r (λ o h. if_none o _ _ (λ k. no_value F L a.f a.plane a.has_y _
          c.in_ok-den.den at.den at.nonzero c.in_ok-den.rows at.few at.over k) h) e.none;
    }
