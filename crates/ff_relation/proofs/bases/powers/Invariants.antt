use Rattle.std.proofs.Common.{◌+◌}
use Rattle.ff_ring.specs.Ring.{AreCoordsList, MeetsRule, element_in}
use Rattle.ff_relation.specs.InRing.{ArePowersOf}
use Rattle.ff_relation.proofs.bases.powers.Given as goal

abbrev pub invariant-loop-i : goal.invariant-loop-i
invariant-loop-i g l =
    let F = g.K.Ring.elements l.k in
    record {
      form : AreCoordsList F l.s (l.i + 1) l.list.items;
      exact : MeetsRule F l.s → ArePowersOf F l.s (element_in F l.s l.a) l.list.items;
    }
