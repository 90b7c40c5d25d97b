use Rattle.std.proofs.Common.{◌≡◌, ◌*◌, pred, length, map, All}
use Rattle.ff_theory.specs.Vector.{IsVector}
use Rattle.ff_data.specs.Orders.{y_degree}
use Rattle.ff_order.specs.Steps.{ArePowers}
use Rattle.ff_order.proofs.images.power_rows.Given as goal

abbrev pub invariant-loop-s : goal.invariant-loop-s
invariant-loop-s g l =
    let F = g.K.Ring.elements l.alg.k in
    let L = g.K.Ring.lawful l.alg.k in
    record {
      len : length l.list.items ≡ l._s;
      vectors : All (λ v. IsVector F (y_degree L l.alg.f * pred (length l.top)) v.items)
          l.list.items;
      value : ArePowers L l.alg.f l.chart l.rows.d l.top (map (λ v. v.items) l.list.items) l._s;
    }
