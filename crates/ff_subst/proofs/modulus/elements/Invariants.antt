use Rattle.std.proofs.Common.{All}
use Rattle.ff_theory.specs.Ring.{IsElement}
use Rattle.ff_subst.proofs.modulus.elements.Given as goal

abbrev pub invariant-loop-i : goal.invariant-loop-i
invariant-loop-i g l = All (IsElement (g.K.Ring.elements l.k)) l.list.items
