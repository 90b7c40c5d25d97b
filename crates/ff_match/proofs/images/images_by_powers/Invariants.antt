use Rattle.ff_ring.specs.Ring.{AreCoordsList}
use Rattle.ff_match.proofs.images.images_by_powers.Given as goal

abbrev pub invariant-loop-i : goal.invariant-loop-i
invariant-loop-i g l = AreCoordsList (g.K.Ring.elements l.k) l.s2 l.i l.items.items
