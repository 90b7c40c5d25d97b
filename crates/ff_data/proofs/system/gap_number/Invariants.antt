use Rattle.std.proofs.Common.{◌≡◌, take}
use Rattle.ff_data.specs.Systems.{gaps_of}
use Rattle.ff_data.proofs.system.gap_number.Given as goal

abbrev pub invariant-loop-i : goal.invariant-loop-i
invariant-loop-i l = record { sum : l.gaps ≡ gaps_of l.s.e (take l.i l.s.weights) }
