use Rattle.std.proofs.Common.{◌≡◌, ℕ, ◌*◌, ◌<◌, List, length, get_or, map, All}
use Rattle.std.specs.Global.{Vec}
use Rattle.ff_theory.specs.Vector.{vectors_of, IsVector}
use Rattle.ff_data.specs.Orders.{y_degree}
use Rattle.ff_common.specs.Common.{IsReversed}
use Rattle.ff_common.proofs.images.reversed_vectors.Given as goal

abbrev pub invariant-loop-rows : goal.invariant-loop-rows
invariant-loop-rows g l =
    let F = g.K.Ring.elements l.alg.k in
    let L = g.K.Ring.lawful l.alg.k in
    record {
      len : length l.vectors.items ≡ l.rows-index;
      vectors : All (λ v. IsVector F (y_degree L l.alg.f * l.h) v.items) l.vectors.items;
      value : (i : ℕ) → i < l.rows-index → (d : Vec (List ℕ))
          → IsReversed F l.h (get_or l.lists i d).items
          (vectors_of F (map (λ v. v.items) l.vectors.items) i);
    }
