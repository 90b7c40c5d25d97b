use Rattle.std.proofs.Common.{◌≡◌, length}
use Rattle.ff_ring.specs.Ring.{ring_in, element_in}
use Rattle.ff_relation.specs.Reduction.{AreRests}
use Rattle.ff_relation.specs.InRing.{PowersOf, IsClearFrom, AreRestsOf}
use Rattle.ff_relation.proofs.annihilator.rests_of.Given as goal

abbrev pub invariant-loop-t : goal.invariant-loop-t
invariant-loop-t g l = let F = g.K.Ring.elements l.k in record {
  form : AreRests F l.s l.p l.rests;
  count : length l.rests.before.items ≡ l._t;
  exact : (w : (ring_in F l.s).carrier) (b : PowersOf F l.s w l.p)
      → IsClearFrom F l.s b 0 (element_in F l.s l.fn.rest)
      → AreRestsOf F l.s b (element_in F l.s l.fn.rest) l.rests;
}
