use Rattle.std.proofs.Common.{◌≡◌, ℕ, ◌<◌, ◌-◌, [], length, map, get_or}
use Rattle.ff_lin.proofs.rows.column.Given as goal

abbrev pub invariant-loop-i : goal.invariant-loop-i
invariant-loop-i l = record {
  len : length l.column.items ≡ l.i;
  value : (i : ℕ) (d : ℕ) → i < l.i → get_or l.column.items i d
      ≡ get_or (get_or (map (λ v. v.items) l.rows) (length l.rows - 1 - i) []) l.j d;
}
