use Rattle.std.proofs.Common.{◌≡◌, ◌++◌, take}
use Rattle.ff_elem.proofs.euclid.all_rows.Given as goal

abbrev pub invariant-loop-row : goal.invariant-loop-row
invariant-loop-row l = l.rows.items ≡ l.fn.a.value ++ take l.row-index l.fn.a.factor
