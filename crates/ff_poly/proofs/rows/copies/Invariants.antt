use Rattle.std.proofs.Common.{◌≡◌, take}
use Rattle.ff_poly.proofs.rows.copies.Given as goal

abbrev pub invariant-loop-p : goal.invariant-loop-p
invariant-loop-p l = l.copies.items ≡ take l.p-index l.rows
