use Rattle.ff_ring.specs.Affine.{AreQuotients}
use Rattle.ff_ring.proofs.line.divide_each.Given as goal

abbrev pub invariant-loop-i : goal.invariant-loop-i
invariant-loop-i g l = AreQuotients (g.K.Ring.elements l.k) l.a l.q l.i l.items.items
