use Rattle.std.proofs.Common.{◌≡◌}
use Rattle.ff_theory.specs.Vector.{vectors_of}
use Rattle.ff_lin.specs.Space.{rows_of}
use Rattle.ff_describe.specs.Levels.{triangle}
use Rattle.ff_describe.specs.Readings.{IsTriangle}
use Rattle.ff_describe.proofs.tables.triangle_rows.Given as goal

abbrev pub invariant-loop-j : goal.invariant-loop-j
invariant-loop-j g l =
    let F = g.K.Ring.elements l.k in
    record {
      start : l.start ≡ triangle l.j;
      rows : IsTriangle F l.e l.weights l.counts (vectors_of F (rows_of l.rows)) l.n l.j
          l.lists.items;
    }
