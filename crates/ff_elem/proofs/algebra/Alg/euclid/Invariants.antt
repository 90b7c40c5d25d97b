use Rattle.std.proofs.Common.{length}
use Rattle.ff_elem.proofs.EuclidLoop.{IsState}
use Rattle.ff_elem.proofs.algebra.Alg.euclid.Given as goal

abbrev pub invariant-euclid : goal.invariant-euclid
invariant-euclid g l = IsState (g.K.Ring.elements l.self.k) (g.K.Ring.lawful l.self.k) l.self.f l.a
    l.large l.small

abbrev pub decreases-euclid : goal.decreases-euclid
decreases-euclid g l = length l.small.value
