use Rattle.std.proofs.Common.{◌≡◌, length}
use Rattle.ff_lin.specs.Space.{rows_of, AreVectors}
use Rattle.ff_fibre.specs.Fibres.{AreRowEntries}
use Rattle.ff_fibre.proofs.products.next_matrix.Given as goal

abbrev pub invariant-loop-j : goal.invariant-loop-j
invariant-loop-j g l =
    let F = g.K.Ring.elements l.alg.k in
    let L = g.K.Ring.lawful l.alg.k in
    record {
      len : length l.matrix.items ≡ l.j;
      vectors : AreVectors F (length l.fibre.planes.items) l.matrix.items;
      value : AreRowEntries L l.alg.f l.order l.fibre (length l.table) (rows_of l.matrix.items) l.j;
    }
