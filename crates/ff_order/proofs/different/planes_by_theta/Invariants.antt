use Rattle.std.proofs.Common.{◌≡◌, ℕ, ◌<◌, [], length, get_or}
use Rattle.ff_order.specs.Level.{IsTestPlane}
use Rattle.ff_order.proofs.different.planes_by_theta.Given as goal

abbrev pub invariant-loop-i : goal.invariant-loop-i
invariant-loop-i g l =
    let L = g.K.Ring.lawful l.alg.k in
    record {
      len : length l.planes.items ≡ l.i;
      each : (j : ℕ) → j < l.i → IsTestPlane L l.alg.f l.fn.chart j (get_or l.planes.items j []);
    }
