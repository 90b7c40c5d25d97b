use Rattle.std.proofs.Common.{◌≡◌, ◌++◌}
use Rattle.ff_table.specs.Shift.{carry}
use Rattle.ff_ring.specs.Ring.{AreCoordsList, ring_in, element_in, elements_in, monomial_in}
use Rattle.ff_ring.proofs.RingElements.{carry_rest}
use Rattle.ff_ring.proofs.shift.carry.Given as goal

abbrev pub invariant-loop-i : goal.invariant-loop-i
invariant-loop-i g l =
    let F = g.K.Ring.elements l.k in
    let L = g.K.Ring.lawful l.k in
    let a = monomial_in F l.s l.a in
    record {
      coords : AreCoordsList F l.s l.i l.sum.items;
      value : elements_in F l.s l.sum.items ++ carry_rest F L l.s a l.h l.p l.i
          ≡ carry (ring_in F l.s) a (element_in F l.s l.h) (elements_in F l.s l.p);
    }
