use Rattle.std.proofs.Common.{◌≡◌, take}
use Rattle.ff_theory.specs.Values.{x_size}
use Rattle.ff_poly.proofs.rows.width.Given as goal

abbrev pub invariant-loop-p : goal.invariant-loop-p
invariant-loop-p l = l.n ≡ x_size (take l.p-index l.rows)
