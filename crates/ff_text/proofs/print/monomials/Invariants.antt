use Rattle.std.proofs.Common.{◌≡◌, drop}
use Rattle.ff_text.specs.Printed.{rows_terms}
use Rattle.ff_text.proofs.print.monomials.Given as goal

abbrev pub invariant-loop-j : goal.invariant-loop-j
invariant-loop-j l = l.terms.items ≡ rows_terms l.j (drop l.j l.rows)
