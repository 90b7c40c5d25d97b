use Rattle.std.proofs.Common.{ℕ, ◌<◌, get_or}
use Rattle.ff_lin.proofs.rows.count_below.Given as goal

abbrev pub invariant-loop-i : goal.invariant-loop-i
invariant-loop-i l = (i : ℕ) → i < l.i → get_or l.indices i 0 < l.p
