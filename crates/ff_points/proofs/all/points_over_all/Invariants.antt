use Rattle.ff_points.specs.PointLists.{AreRisingPoints, HasPointsBelow}
use Rattle.ff_points.proofs.all.points_over_all.Given as goal

abbrev pub invariant-loop-i : goal.invariant-loop-i
invariant-loop-i g l =
    let L = g.K.Ring.lawful l.alg.k in
    record {
      list : AreRisingPoints L l.alg.f l.order l.list.items;
      below : HasPointsBelow L l.alg.f l.order l.i l.list.items;
    }
