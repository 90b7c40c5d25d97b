use Rattle.ff_inverse.specs.Maps.{AreParts}
use Rattle.ff_inverse.proofs.pull.pull.Given as goal

abbrev pub invariant-loop-i : goal.invariant-loop-i
invariant-loop-i g l = AreParts (g.K.Ring.elements l.k) l.s l.parts
