use Rattle.std.proofs.Common.{◌≡◌, ◌≤◌, ◌-◌, length, drop}
use Rattle.ff_table.specs.Shift.{shift}
use Rattle.ff_ring.specs.Ring.{AreCoordsList, ring_in, elements_in, monomial_in}
use Rattle.ff_ring.proofs.shift.ring_shift.Given as goal

abbrev pub invariant-loop-i : goal.invariant-loop-i
invariant-loop-i g l =
    let F = g.K.Ring.elements l.k in
    record {
      below : l.i ≤ length l.p;
      moved : AreCoordsList F l.s (length l.p - l.i) l.moved.items;
      value : elements_in F l.s l.moved.items ≡ shift (ring_in F l.s) (monomial_in F l.s l.a)
          (elements_in F l.s (drop l.i l.p));
    }

abbrev pub decreases-loop-i : goal.decreases-loop-i
decreases-loop-i g l = l.i
