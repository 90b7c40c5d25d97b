use Rattle.std.proofs.Common.{◌≡◌, ◌++◌, take}
use Rattle.ff_elem.specs.Key.{rows_key}
use Rattle.ff_elem.proofs.key.push_rows.Given as goal

abbrev pub invariant-loop-p : goal.invariant-loop-p
invariant-loop-p g l = l.key.items
    ≡ l.fn.key.items ++ rows_key (g.K.Ring.elements l.k) (take l.p-index l.rows)
