use Rattle.std.proofs.Common.{◌≡◌, ◌++◌, drop}
use Rattle.ff_text.specs.Printed.{row_terms}
use Rattle.ff_text.proofs.print.push_row.Given as goal

abbrev pub invariant-loop-i : goal.invariant-loop-i
invariant-loop-i l = l.terms.items ≡ l.initial.terms.items ++ row_terms l.j l.i (drop l.i l.row)
