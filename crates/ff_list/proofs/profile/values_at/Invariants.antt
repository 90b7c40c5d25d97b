use Rattle.ff_theory.specs.Vector.{IsVector}
use Rattle.ff_list.proofs.profile.values_at.Given as goal

abbrev pub invariant-loop-i : goal.invariant-loop-i
invariant-loop-i g l = IsVector (g.K.Ring.elements l.k) l.i l.values.items
