use Rattle.std.proofs.Common.{◌≡◌, ℕ, ◌*◌, ◌<◌}
use Rattle.ff_theory.specs.Ring.{power}
use Rattle.ff_theory.specs.Vector.{IsVector}
use Rattle.ff_table.specs.Level.{at_level}
use Rattle.ff_table.specs.Table.{Weighs}
use Rattle.ff_ring.specs.Ring.{HasTable, MeetsRule, table_in, ring_in}
use Rattle.ff_relation.specs.InRing.{number_at, ArePowersOf}
use Rattle.ff_relation.proofs.bases.inverses.Given as goal

abbrev pub invariant-loop-i : goal.invariant-loop-i
invariant-loop-i g l =
    let F = g.K.Ring.elements l.k in
    let S = table_in F l.s in
    record {
      form : IsVector F l.i l.inverses.items;
      value : MeetsRule F l.s → HasTable F l.s → (w : (ring_in F l.s).carrier) (W : ℕ)
          → Weighs F.ring S w W → ArePowersOf F l.s w l.list → (j : ℕ) → j < l.i
          → F.value (number_at l.inverses.items j)
          ≡ F.inverse (at_level F.ring S (j * W) (power (ring_in F l.s) w j));
    }
