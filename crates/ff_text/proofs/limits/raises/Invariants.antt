use Rattle.std.proofs.Common.{◌≡◌, take, false}
use Rattle.std.specs.List.{list_any}
use Rattle.ff_text.specs.Limits.{raises}
use Rattle.ff_text.proofs.limits.raises.Given as goal

abbrev pub invariant-loop-m : goal.invariant-loop-m
invariant-loop-m l = list_any (raises l.fn.limit l.fn.leading) (take l.m-index l.terms) ≡ false
