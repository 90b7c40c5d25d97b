use Rattle.ff_theory.specs.Values.{polys_over}
use Rattle.ff_ring.specs.Entries.{entry_at, AreEntries}
use Rattle.ff_ring.proofs.linear.ring_add.Given as goal

abbrev pub invariant-loop-l : goal.invariant-loop-l
invariant-loop-l g l =
    let F = g.K.Ring.elements l.k in
    AreEntries F l.l (λ j. (polys_over F).add (entry_at F l.a j) (entry_at F l.b j)) l.sums.items
