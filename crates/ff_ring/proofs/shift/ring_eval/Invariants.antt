use Rattle.std.proofs.Common.{◌≡◌, ◌≤◌, length, drop}
use Rattle.ff_table.specs.Shift.{value_at}
use Rattle.ff_data.specs.Systems.{AreCoords}
use Rattle.ff_ring.specs.Ring.{ring_in, element_in, elements_in}
use Rattle.ff_ring.proofs.shift.ring_eval.Given as goal

abbrev pub invariant-loop-i : goal.invariant-loop-i
invariant-loop-i g l =
    let F = g.K.Ring.elements l.k in
    record {
      below : l.i ≤ length l.p;
      coords : AreCoords F l.s l.value.items;
      value : element_in F l.s l.value.items ≡ value_at (ring_in F l.s) (element_in F l.s l.a)
          (elements_in F l.s (drop l.i l.p));
    }

abbrev pub decreases-loop-i : goal.decreases-loop-i
decreases-loop-i g l = l.i
