use Rattle.std.proofs.Common.{◌≡◌}
use Rattle.ff_poly.proofs.MonicForm.{greatest, row_degree_of}
use Rattle.ff_poly.proofs.monic.monic_degree.Given as goal

abbrev pub invariant-loop-i : goal.invariant-loop-i
invariant-loop-i g l = l.degree ≡ greatest l.i (row_degree_of l.rows l.n l.lead)
