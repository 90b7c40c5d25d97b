use Rattle.std.proofs.Common.{◌≡◌, take, All, []}
use Rattle.ff_ring.proofs.linear.is_zero_each.Given as goal

abbrev pub invariant-loop-p : goal.invariant-loop-p
invariant-loop-p l = All (λ p. p ≡ []) (take l.p-index l.c)
