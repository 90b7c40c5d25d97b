use Rattle.ff_prime.specs.Number.{number_of}
use Rattle.ff_text.proofs.Rows.{HasRows}
use Rattle.ff_text.proofs.planes.plane.Given as goal

abbrev pub invariant-loop-j : goal.invariant-loop-j
invariant-loop-j l = HasRows (number_of l.k) l.terms l.width l.j l.rows.items
