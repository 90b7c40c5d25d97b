use Rattle.std.proofs.Common.{MatchOption}
use Rattle.ff_ring.specs.Weight.{IsTopBelow, AreZeroBelow}
use Rattle.ff_ring.proofs.weight.top.Given as goal

abbrev pub invariant-loop-l : goal.invariant-loop-l
invariant-loop-l l = MatchOption l.term (AreZeroBelow l.c l.l) (IsTopBelow l.s l.c l.l)
