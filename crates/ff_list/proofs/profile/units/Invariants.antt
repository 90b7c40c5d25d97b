use Rattle.ff_lin.specs.Space.{AreVectors}
use Rattle.ff_list.proofs.profile.units.Given as goal

abbrev pub invariant-loop-i : goal.invariant-loop-i
invariant-loop-i g l = AreVectors (g.K.Ring.elements l.k) l.n l.rows.items
