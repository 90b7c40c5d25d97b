use Rattle.ff_data.proofs.MonicLemmas.{division-of}
use Rattle.ff_data.proofs.quotients.raised_quotient.Goals as goal

pub divide-requires : goal.divide-requires
divide-requires g c = record {
  a = c.in_ok-raised.ensures.poly.each;
  b = c.requires.by;
  nonzero = c.requires.nonzero;
}

pub returns-clause-value : goal.returns-clause-value
returns-clause-value g c =
    let F = g.K.Ring.elements c.args.k.now in
    division-of F.ring _ _ _ _ _ c.in_ok-raised.ensures.value c.in_ok-quotient.ensures.division
