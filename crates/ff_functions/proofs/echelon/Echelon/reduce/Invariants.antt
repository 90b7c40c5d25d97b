use Rattle.std.proofs.Common.{length}
use Rattle.ff_theory.specs.Vector.{vector_of, IsVector}
use Rattle.ff_functions.specs.Rows.{IsReduced}
use Rattle.ff_functions.proofs.echelon.Echelon.reduce.Given as goal

abbrev pub invariant-loop-row : goal.invariant-loop-row
invariant-loop-row g l =
    let F = g.K.Ring.elements l.k in
    record {
      vector : IsVector F (length l.fn.v) l.v;
      coefficients : IsVector F (length l.fn.c) l.c;
      value : IsReduced F l.self.rows.items l.row-index (vector_of F l.fn.v) (vector_of F l.fn.c)
          (vector_of F l.v) (vector_of F l.c);
    }
