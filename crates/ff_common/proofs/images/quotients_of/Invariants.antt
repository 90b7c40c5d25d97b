use Rattle.std.proofs.Common.{◌≡◌, ℕ, ◌<◌, List, length, get_or, map}
use Rattle.std.specs.Global.{Vec}
use Rattle.ff_theory.specs.Values.{poly_of}
use Rattle.ff_theory.specs.Vector.{vectors_of}
use Rattle.ff_common.specs.Common.{AreQuotients}
use Rattle.ff_common.proofs.images.quotients_of.Given as goal

abbrev pub invariant-loop-v : goal.invariant-loop-v
invariant-loop-v g l =
    let F = g.K.Ring.elements l.alg.k in
    let L = g.K.Ring.lawful l.alg.k in
    record {
      count : length l.lists.items ≡ l.v-index;
      each : (d : Vec (List ℕ)) (i : ℕ) → i < l.v-index
          → AreQuotients L l.alg.f (poly_of F l.by) l.l
          (vectors_of F (map (λ v. v.items) l.vectors) i) (get_or l.lists.items i d).items;
    }
