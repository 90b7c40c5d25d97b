use Rattle.std.proofs.Common.{◌*◌}
use Rattle.ff_data.specs.Orders.{y_degree}
use Rattle.ff_functions.specs.Searches.{AreRows, HoldNumerators}
use Rattle.ff_functions.proofs.frame.Frame.start.Given as goal

abbrev pub invariant-loop-i : goal.invariant-loop-i
invariant-loop-i g l =
    let L = g.K.Ring.lawful l.alg.k in
    record {
      rows : AreRows (g.K.Ring.elements l.alg.k) (y_degree L l.alg.f * l.self.h) l.i
          l.echelon.rows.items;
      held : HoldNumerators L l.alg.f l.self l.d l.infinite l.i l.echelon.rows.items;
    }
