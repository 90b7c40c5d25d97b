use Rattle.std.proofs.Common.{take}
use Rattle.ff_text.specs.Ratios.{AreRatios}
use Rattle.ff_text.proofs.sums.ratios.Given as goal

abbrev pub invariant-loop-line : goal.invariant-loop-line
invariant-loop-line l = AreRatios l.fn.p (take l.line-index l.lines) l.ratios.items
