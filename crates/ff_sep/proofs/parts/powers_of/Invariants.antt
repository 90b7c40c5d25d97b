use Rattle.std.proofs.Common.{◌+◌}
use Rattle.ff_theory.specs.Values.{poly_of}
use Rattle.ff_sep.specs.Parts.{ArePowers}
use Rattle.ff_sep.proofs.parts.powers_of.Given as goal

abbrev pub invariant-loop-i : goal.invariant-loop-i
invariant-loop-i g l =
    let F = g.K.Ring.elements l.k in
    ArePowers F (poly_of F l.base) (l.i + 1) l.powers.items
