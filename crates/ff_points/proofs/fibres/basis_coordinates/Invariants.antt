use Rattle.std.proofs.Common.{◌≡◌, ℕ, ◌<◌, length}
use Rattle.ff_theory.specs.Vector.{vectors_of}
use Rattle.ff_lin.specs.Space.{rows_of, AreVectors}
use Rattle.ff_points.specs.PointLists.{AreVectorCoordinates}
use Rattle.ff_points.proofs.fibres.basis_coordinates.Given as goal

abbrev pub invariant-loop-v : goal.invariant-loop-v
invariant-loop-v g l =
    let F = g.K.Ring.elements l.alg.k in
    let L = g.K.Ring.lawful l.alg.k in
    record {
      len : length l.list.items ≡ l.v-index;
      vectors : AreVectors F (length l.fibre.planes.items) l.list.items;
      value : (i : ℕ) → i < l.v-index → AreVectorCoordinates L l.alg.f l.order l.fibre
          (vectors_of F (rows_of l.v-items) i) (vectors_of F (rows_of l.list.items) i);
    }
