use Rattle.std.proofs.Common.{◌≡◌, ℕ, ◌*◌, ◌<◌, length, map, All}
use Rattle.ff_theory.specs.Values.{poly_of}
use Rattle.ff_theory.specs.Vector.{vectors_of, IsVector}
use Rattle.ff_common.specs.Common.{IsTimesVector}
use Rattle.ff_data.specs.Orders.{y_degree}
use Rattle.ff_common.proofs.times.times_vectors.Given as goal

abbrev pub invariant-loop-v : goal.invariant-loop-v
invariant-loop-v g l =
    let F = g.K.Ring.elements l.alg.k in
    let L = g.K.Ring.lawful l.alg.k in
    let f = l.alg.f in
    record {
      len : length l.list.items ≡ l.v-index;
      vectors : All (λ v. IsVector F (y_degree L f * l.h) v.items) l.list.items;
      value : (i : ℕ) → i < l.v-index → IsTimesVector L f (poly_of F l.factor) l.m l.h
          (vectors_of F (map (λ v. v.items) l.vectors) i)
          (vectors_of F (map (λ v. v.items) l.list.items) i);
    }
