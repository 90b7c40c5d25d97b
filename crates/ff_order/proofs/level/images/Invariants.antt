use Rattle.std.proofs.Common.{◌≡◌, length, map, pred, All}
use Rattle.ff_theory.specs.Vector.{IsVector}
use Rattle.ff_order.specs.Level.{AreImages}
use Rattle.ff_order.proofs.level.images.Given as goal

abbrev pub invariant-loop-v : goal.invariant-loop-v
invariant-loop-v g l =
    let F = g.K.Ring.elements l.alg.k in
    let L = g.K.Ring.lawful l.alg.k in
    record {
      len : length l.images.items ≡ l.v-index;
      vectors : All (λ v. IsVector F (pred (length l.rows.d)) v.items) l.images.items;
      value : AreImages L l.alg.f l.fn.chart l.rows.d (map (λ v. v.items) l.lists) l.s
          (map (λ v. v.items) l.basis) (map (λ v. v.items) l.images.items) l.v-index;
    }
