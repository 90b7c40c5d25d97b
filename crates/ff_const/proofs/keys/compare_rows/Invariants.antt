use Rattle.std.proofs.Common.{◌≡◌, take}
use Rattle.ff_elem.specs.Key.{rows_key}
use Rattle.ff_const.proofs.keys.compare_rows.Given as goal

abbrev pub invariant-loop-i : goal.invariant-loop-i
invariant-loop-i g l = rows_key (g.K.Ring.elements l.k) (take l.i l.a)
    ≡ rows_key (g.K.Ring.elements l.k) (take l.i l.b)
