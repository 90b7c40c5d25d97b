use Rattle.std.proofs.Common.{◌≡◌, ℕ, ◌+◌, ◌*◌, ◌<◌, length}
use Rattle.ff_theory.specs.Vector.{vectors_of}
use Rattle.ff_lin.specs.Space.{rows_of, AreVectors}
use Rattle.ff_data.specs.Orders.{y_degree}
use Rattle.ff_fibre.specs.Fibres.{IsWidened, ArePowerVectors}
use Rattle.ff_fibre.proofs.numerators.spanning_vectors.Given as goal

abbrev pub invariant-loop-v : goal.invariant-loop-v
invariant-loop-v g l =
    let F = g.K.Ring.elements l.alg.k in
    let L = g.K.Ring.lawful l.alg.k in
    let n = y_degree L l.alg.f in
    let d = length l.order.d in
    record {
      len : length l.list.items ≡ n + l.v-index;
      vectors : AreVectors F (n * d) l.list.items;
      powers : ArePowerVectors L l.alg.f l.order (rows_of l.list.items);
      basis : (i : ℕ) → i < l.v-index → IsWidened F n d (vectors_of F (rows_of l.v-items) i)
          (vectors_of F (rows_of l.list.items) (n + i));
    }
