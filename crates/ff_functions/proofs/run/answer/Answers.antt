use Rattle.std.proofs.Common.{length, subst}
use Rattle.ff_functions.specs.Searches.{IsOutcome}
use Rattle.ff_functions.proofs.run.answer.Goals as goal

pub assembled-requires : goal.assembled-requires
assembled-requires g c =
    let L = g.K.Ring.lawful c.args.alg.now.k in
    record {
      order = c.requires.order;
      own = c.requires.own;
      frame = c.requires.frame;
      found = subst (IsOutcome L c.args.alg.now.f c.args.order.now
          (length c.args.frame.now.numerators.items)) c.in-Complete.is c.requires.outcome;
    }
