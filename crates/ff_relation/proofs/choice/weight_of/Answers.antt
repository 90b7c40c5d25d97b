use Rattle.ff_relation.proofs.BaseLemmas.{weights-read}
use Rattle.ff_relation.proofs.choice.weight_of.Goals as goal

pub returns : goal.returns
returns c = weights-read c.args.s.now _ c.args.i c.index.result.now c.s.view_is c.requires
    c.index.ensures
