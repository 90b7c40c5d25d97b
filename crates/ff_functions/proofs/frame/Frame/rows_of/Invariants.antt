use Rattle.ff_functions.specs.Rows.{HoldBasis}
use Rattle.ff_functions.specs.Searches.{AreRows}
use Rattle.ff_functions.proofs.frame.Frame.rows_of.Given as goal

abbrev pub invariant-loop-v : goal.invariant-loop-v
invariant-loop-v g l =
    let F = g.K.Ring.elements l.alg.k in
    record {
      rows : AreRows F l.len 0 l.echelon.rows.items;
      basis : HoldBasis F l.space l.v-index l.echelon.rows.items;
    }
