use Rattle.ff_lin.specs.Space.{rows_of}
use Rattle.ff_ring.specs.Entries.{entry_at, AreEntries}
use Rattle.ff_relation.proofs.reduce.polys.Given as goal

abbrev pub invariant-loop-i : goal.invariant-loop-i
invariant-loop-i g l =
    let F = g.K.Ring.elements l.k in
    AreEntries F l.i (entry_at F (rows_of l.rows)) l.items.items
