use Rattle.std.proofs.Common.{◌≡◌, length}
use Rattle.ff_lin.specs.Space.{AreVectors}
use Rattle.ff_list.proofs.profile.matrix_at.Given as goal

abbrev pub invariant-loop-i : goal.invariant-loop-i
invariant-loop-i g l = record {
  rows : AreVectors (g.K.Ring.elements l.k) l.s.e l.rows.items;
  count : length l.rows.items ≡ l.i;
}
