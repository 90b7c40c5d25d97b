use Rattle.std.proofs.Common.{◌≡◌, take}
use Rattle.ff_text.specs.Limits.{top}
use Rattle.ff_text.proofs.limits.top.Given as goal

abbrev pub invariant-loop-m : goal.invariant-loop-m
invariant-loop-m l = l.top ≡ top l.fn.first (take l.m-index l.rest)
