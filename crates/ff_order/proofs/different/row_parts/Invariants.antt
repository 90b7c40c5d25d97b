use Rattle.std.proofs.Common.{◌≡◌, ℕ, ◌<◌, [], length, map, get_or}
use Rattle.ff_order.specs.Level.{AreParts}
use Rattle.ff_order.proofs.different.row_parts.Given as goal

abbrev pub invariant-loop-plane : goal.invariant-loop-plane
invariant-loop-plane g l =
    let L = g.K.Ring.lawful l.alg.k in
    record {
      len : length l.lists.items ≡ l.plane-index;
      each : (i : ℕ) → i < l.plane-index → AreParts L l.alg.f l.fn.chart i l.j
          (get_or (map (λ v. v.items) l.lists.items) i []);
    }
