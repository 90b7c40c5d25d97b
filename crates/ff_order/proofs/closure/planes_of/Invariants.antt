use Rattle.std.proofs.Common.{◌≡◌, ℕ, ◌<◌, [], length, map, get_or}
use Rattle.ff_theory.specs.Vector.{vectors_of}
use Rattle.ff_order.specs.Closing.{IsPlaneOf}
use Rattle.ff_order.proofs.closure.planes_of.Given as goal

abbrev pub invariant-loop-v : goal.invariant-loop-v
invariant-loop-v g l =
    let F = g.K.Ring.elements l.alg.k in
    let L = g.K.Ring.lawful l.alg.k in
    record {
      len : length l.planes.items ≡ l.v-index;
      each : (i : ℕ) → i < l.v-index → IsPlaneOf L l.alg.f l.fn.chart l.rows.d
          (vectors_of F (map (λ v. v.items) l.vectors) i) (get_or l.planes.items i []);
    }
