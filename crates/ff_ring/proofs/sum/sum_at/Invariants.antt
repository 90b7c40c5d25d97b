use Rattle.ff_ring.specs.Affine.{sum_at_line}
use Rattle.ff_ring.specs.Entries.{AreEntries}
use Rattle.ff_ring.proofs.sum.sum_at.Given as goal

abbrev pub invariant-loop-l : goal.invariant-loop-l
invariant-loop-l g l = AreEntries (g.K.Ring.elements l.k) l.e
    (sum_at_line (g.K.Ring.elements l.k) l.alpha l.beta l.c l.list l.l) l.sum.items
