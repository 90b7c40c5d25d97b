use Rattle.ff_list.specs.Searches.{AreNonzeroBelow}
use Rattle.ff_list.proofs.slopes.slopes.Given as goal

abbrev pub invariant-loop-i : goal.invariant-loop-i
invariant-loop-i g l = AreNonzeroBelow (g.K.Ring.elements l.k) l.i l.slopes.items
