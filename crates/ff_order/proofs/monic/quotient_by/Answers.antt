use Rattle.ff_order.proofs.ChartLemmas.{division-by, divisor-length}
use Rattle.ff_order.proofs.monic.quotient_by.Goals as goal

pub divide-requires : goal.divide-requires
divide-requires g c = record {
  a = c.requires.row.each;
  b = c.in_ok-by.ensures.poly;
  nonzero = divisor-length (g.K.Ring.elements c.args.k.now) (g.K.Ring.lawful c.args.k.now)
      c.in_ok-by.by c.args.den.now c.args.lead.now c.args.i c.requires.den c.requires.lead
      c.requires.den_nonzero c.requires.lead_nonzero c.in_ok-by.ensures.value;
}

pub returns-clause-value : goal.returns-clause-value
returns-clause-value g c =
    let F = g.K.Ring.elements c.args.k.now in
    division-by F.ring _ _ _ _ _ c.in_ok-by.ensures.value c.in_ok-quotient.ensures.division
