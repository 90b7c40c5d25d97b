use Rattle.std.proofs.Common.{◌≡◌, ℕ, ◌*◌, ◌<◌, [], pred, length, get_or}
use Rattle.ff_theory.specs.Values.{poly_of, plane_of}
use Rattle.ff_theory.specs.Vector.{vectors_of}
use Rattle.ff_lin.specs.Space.{rows_of, AreVectors}
use Rattle.ff_data.specs.Orders.{y_degree}
use Rattle.ff_frac.specs.Shrinking.{HaveMultiples, IsQuotientVector}
use Rattle.ff_frac.proofs.shrink.quotient_vectors.Given as goal

abbrev pub invariant-loop-plane : goal.invariant-loop-plane
invariant-loop-plane g l =
    let F = g.K.Ring.elements l.alg.k in
    let L = g.K.Ring.lawful l.alg.k in
    let n = y_degree L l.alg.f in
    record {
      len : length l.list.items ≡ l.plane-index;
      vectors : AreVectors F (n * pred (length l.m)) l.list.items;
      value : HaveMultiples F n l.by l.m l.planes → (i : ℕ) → i < l.plane-index
          → IsQuotientVector F n (pred (length l.m)) (poly_of F l.by)
          (plane_of F (get_or l.planes i [])) (vectors_of F (rows_of l.list.items) i);
    }
