use Rattle.std.proofs.Common.{◌≡◌, take}
use Rattle.ff_text.specs.Sums.{write_all}
use Rattle.ff_text.proofs.planes.write_row.Given as goal

abbrev pub invariant-loop-m : goal.invariant-loop-m
invariant-loop-m l = l.row ≡ write_all l.j l.initial.row (take l.m-index l.terms)
