use Rattle.std.proofs.Common.{ℕ, ◌+◌, ◌-◌, ◌*◌, ◌<◌, ◌≤◌, length, get_or, []}
use Rattle.ff_describe.proofs.products.are_light.Given as goal

abbrev pub invariant-loop-l : goal.invariant-loop-l
invariant-loop-l l = (i : ℕ) → i < l.l → 0 < length (get_or l.c i [])
    → l.e * (length (get_or l.c i []) - 1) + get_or l.weights i 0 ≤ l.bound
