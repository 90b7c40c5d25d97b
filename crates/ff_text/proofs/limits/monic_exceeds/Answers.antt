use Rattle.ff_poly.specs.declared.limits.TheConstants.{MAX_X_DEGREE, MAX_Y_DEGREE}
use Rattle.ff_text.proofs.Totals.{none}
use Rattle.ff_text.proofs.Leading.{leading_below}
use Rattle.ff_text.proofs.limits.monic_exceeds.Goals as goal

pub raises-requires-clause-x : goal.raises-requires-clause-x
raises-requires-clause-x c = (leading_below MAX_X_DEGREE MAX_Y_DEGREE c.args.terms.now c.top.result
    none
    c.in-len1-up.len_at_least c.requires c.top.ensures).0

pub raises-requires-clause-y : goal.raises-requires-clause-y
raises-requires-clause-y c = (leading_below MAX_X_DEGREE MAX_Y_DEGREE c.args.terms.now c.top.result
    none
    c.in-len1-up.len_at_least c.requires c.top.ensures).1
