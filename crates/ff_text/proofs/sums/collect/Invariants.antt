use Rattle.ff_text.proofs.Totals.{Collects}
use Rattle.ff_text.proofs.sums.collect.Given as goal

abbrev pub invariant-loop-m : goal.invariant-loop-m
invariant-loop-m l = Collects l.fn.p l.terms l.m-index l.collected.items
