use Rattle.std.proofs.Common.{◌≡◌, take}
use Rattle.ff_describe.proofs.systems.copies.Given as goal

abbrev pub invariant-loop-w : goal.invariant-loop-w
invariant-loop-w l = l.copies.items ≡ take l.w-index l.list
