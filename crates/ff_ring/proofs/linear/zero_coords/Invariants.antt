use Rattle.ff_theory.specs.Values.{polys_over}
use Rattle.ff_ring.specs.Entries.{AreEntries}
use Rattle.ff_ring.proofs.linear.zero_coords.Given as goal

abbrev pub invariant-loop-l : goal.invariant-loop-l
invariant-loop-l g l = AreEntries (g.K.Ring.elements l.k) l._l
    (λ j. (polys_over (g.K.Ring.elements l.k)).zero) l.zeros.items
