use Rattle.std.proofs.Common.{◌≡◌, ◌++◌, take}
use Rattle.ff_poles.proofs.pick.joined.Given as goal

abbrev pub invariant-loop-w : goal.invariant-loop-w
invariant-loop-w l = l.list.items ≡ take l.w-index l.first

abbrev pub invariant-loop-w-2 : goal.invariant-loop-w-2
invariant-loop-w-2 l = l.list.items ≡ l.first ++ take l.w-index l.second
