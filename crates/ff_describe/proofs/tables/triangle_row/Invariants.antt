use Rattle.ff_theory.specs.Vector.{vectors_of}
use Rattle.ff_lin.specs.Space.{rows_of}
use Rattle.ff_describe.specs.Readings.{IsTriangleRow}
use Rattle.ff_describe.proofs.tables.triangle_row.Given as goal

abbrev pub invariant-loop-i : goal.invariant-loop-i
invariant-loop-i g l =
    let F = g.K.Ring.elements l.k in
    IsTriangleRow F l.e l.weights l.counts (vectors_of F (rows_of l.rows)) l.n l.j l.i
    l.items.items
