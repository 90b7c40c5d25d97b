use Rattle.std.proofs.Common.{◌≡◌, length, map, All}
use Rattle.ff_theory.specs.Vector.{IsVector}
use Rattle.ff_order.specs.Steps.{AreMultiples}
use Rattle.ff_order.proofs.start.multiple_rows.Given as goal

abbrev pub invariant-loop-s : goal.invariant-loop-s
invariant-loop-s g l =
    let F = g.K.Ring.elements l.alg.k in
    let L = g.K.Ring.lawful l.alg.k in
    record {
      len : length l.list.items ≡ l._s;
      vectors : All (λ v. IsVector F l.count v.items) l.list.items;
      value : AreMultiples L l.alg.f l.chart l.rows.d l.rows.multiple
          (map (λ v. v.items) l.list.items) l._s;
    }
