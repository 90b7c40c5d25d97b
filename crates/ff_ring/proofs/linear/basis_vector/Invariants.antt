use Rattle.ff_theory.specs.Span.{unit_at}
use Rattle.ff_theory.specs.Values.{polys_over}
use Rattle.ff_ring.specs.Entries.{AreEntries}
use Rattle.ff_ring.proofs.linear.basis_vector.Given as goal

abbrev pub invariant-loop-l : goal.invariant-loop-l
invariant-loop-l g l =
    let F = g.K.Ring.elements l.k in
    AreEntries F l.l (unit_at (polys_over F) l.i) l.vector.items
