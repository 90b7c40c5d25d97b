use Rattle.std.proofs.Common.{length}
use Rattle.ff_theory.specs.Vector.{vector_of}
use Rattle.ff_lin.specs.Space.{rows_of, AreVectors}
use Rattle.ff_characters.specs.Characters.{tables_of}
use Rattle.ff_frac.specs.Socle.{AreSocleRows}
use Rattle.ff_frac.proofs.socle.shifted_rows.Given as goal

abbrev pub invariant-loop-j : goal.invariant-loop-j
invariant-loop-j g l =
    let F = g.K.Ring.elements l.k in
    record {
      vectors : AreVectors F (length l.table) l.rows.items;
      value : AreSocleRows F (length l.table) (tables_of l.table) (vector_of F l.chi) l.j 0
          (rows_of l.rows.items);
    }
