use Rattle.std.proofs.Common.{◌≡◌, length, map}
use Rattle.ff_lin.specs.Space.{AreRoots}
use Rattle.ff_lin.proofs.rows.root_rows.Given as goal

abbrev pub invariant-loop-row : goal.invariant-loop-row
invariant-loop-row g l = record {
  len : length l.roots.items ≡ l.row-index;
  value : AreRoots (g.K.Ring.elements l.k) (map (λ v. v.items) l.rows) l.row-index
      (map (λ v. v.items) l.roots.items);
}
