use Rattle.std.proofs.Common.{◌≡◌, ℕ, ◌<◌, length, All}
use Rattle.ff_data.specs.Systems.{AreOverMonic}
use Rattle.ff_ring.specs.Ring.{ring_in}
use Rattle.ff_relation.specs.InRing.{PowersOf, IsSumOf, AreWritten, multiple_in, basis_in}
use Rattle.ff_relation.proofs.relations.back.Given as goal

abbrev pub invariant-loop-i : goal.invariant-loop-i
invariant-loop-i g l = let F = g.K.Ring.elements l.k in record {
  count : length l.items.items ≡ l.i;
  each : All (AreOverMonic F l.s) l.items.items;
  exact : (w : (ring_in F l.s).carrier) (b : PowersOf F l.s w l.p)
      → ((i : ℕ) → i < l.s.e → IsSumOf F l.s b (multiple_in F l.s l.q (basis_in F l.s i)))
      → AreWritten F l.s w l.items.items;
}
