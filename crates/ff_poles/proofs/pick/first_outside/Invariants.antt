use Rattle.std.proofs.Common.{ℕ, ◌<◌, ◌≤◌}
use Rattle.ff_theory.specs.Span.{InSpan}
use Rattle.ff_theory.specs.Vector.{vectors_of}
use Rattle.ff_lin.specs.Space.{rows_of}
use Rattle.ff_poles.proofs.pick.first_outside.Given as goal

abbrev pub invariant-loop-i : goal.invariant-loop-i
invariant-loop-i g l =
    let F = g.K.Ring.elements l.k in
    (j : ℕ) → l.n ≤ j → j < l.i → InSpan F.ring l.n (vectors_of F (rows_of l.vectors))
    (vectors_of F (rows_of l.vectors) j)
