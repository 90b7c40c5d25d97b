use Rattle.std.proofs.Common.{length, ◌≡◌}
use Rattle.ff_elem.specs.Elem.{algebra_in}
use Rattle.ff_subst.specs.Residues.{IsResidue}
use Rattle.ff_subst.specs.Powers.{AreNextMultiples, AreReducedMultiples, IsMatrix}
use Rattle.ff_subst.proofs.powers.powers.Given as goal

abbrev pub invariant-loop-i : goal.invariant-loop-i
invariant-loop-i g l = record {
  reduced : AreReducedMultiples (g.K.Ring.elements l.alg.k) l.at;
  count : length l.at.list.planes ≡ l._i;
  multiples : (u v : (algebra_in (g.K.Ring.lawful l.alg.k) l.alg.f).carrier)
      → IsResidue (g.K.Ring.lawful l.alg.k) l.alg.f l.m u l.first
      → IsMatrix (g.K.Ring.lawful l.alg.k) l.alg.f l.m v l.by
      → AreNextMultiples (g.K.Ring.lawful l.alg.k) l.alg.f l.m u v l.at;
}
