use Rattle.std.proofs.Common.{◌<◌, ◌≤◌, ◌*◌, suc}
use Rattle.ff_ring.specs.Ring.{ring_in}
use Rattle.ff_relation.specs.Reduction.{AreTaken}
use Rattle.ff_relation.specs.InRing.{PowersOf, SplitsDown}
use Rattle.ff_relation.proofs.reduce.take_all.Given as goal

abbrev pub invariant-loop-t : goal.invariant-loop-t
invariant-loop-t g l =
    let F = g.K.Ring.elements l.k in
    record {
      form : AreTaken F l.s l.p l.n l.rows;
      within : l.t ≤ l.bound;
      exact : l.bound < l.s.e * l.n → (w : (ring_in F l.s).carrier) (b : PowersOf F l.s w l.p)
          → SplitsDown F l.s b (suc l.bound) (suc l.t) l.fn.rows l.rows;
    }

abbrev pub decreases-loop-t : goal.decreases-loop-t
decreases-loop-t g l = l.t
