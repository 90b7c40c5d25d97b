use Rattle.std.proofs.Common.{length, ◌≡◌}
use Rattle.ff_elem.specs.Elem.{elem_of}
use Rattle.ff_subst.specs.Powers.{ArePowerResidues, IsPowerResidues}
use Rattle.ff_subst.proofs.powers.powers_of.Given as goal

abbrev pub invariant-loop-i : goal.invariant-loop-i
invariant-loop-i g l = record {
  reduced : IsPowerResidues (g.K.Ring.lawful l.alg.k) l.alg.f l.at;
  count : length l.at.list.planes ≡ l._i;
  powers : ArePowerResidues (g.K.Ring.lawful l.alg.k) l.alg.f l.m
      (elem_of (g.K.Ring.lawful l.alg.k) l.alg.f l.e) l.at;
}
