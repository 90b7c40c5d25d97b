use Rattle.std.proofs.Common.{ℕ, ◌<◌}
use Rattle.ff_ring.specs.Ring.{ring_in}
use Rattle.ff_relation.specs.Reduction.{IsMonic}
use Rattle.ff_relation.specs.InRing.{PowersOf, IsSumOf, multiple_in, basis_in}
use Rattle.ff_relation.proofs.relations.denominator.Given as goal

abbrev pub invariant-loop-i : goal.invariant-loop-i
invariant-loop-i g l = let F = g.K.Ring.elements l.k in record {
  form : IsMonic F l.q;
  exact : (w : (ring_in F l.s).carrier) (b : PowersOf F l.s w l.p) (j : ℕ) → j < l.i
      → IsSumOf F l.s b (multiple_in F l.s l.q (basis_in F l.s j));
}
