use Rattle.ff_elem.specs.Elem.{elem_of}
use Rattle.ff_subst.specs.Cleared.{ArePowers}
use Rattle.ff_subst.proofs.blocks.power_list.Given as goal

abbrev pub invariant-loop-i : goal.invariant-loop-i
invariant-loop-i g l = ArePowers (g.K.Ring.lawful l.alg.k) l.alg.f
    (elem_of (g.K.Ring.lawful l.alg.k) l.alg.f l.x) l.at
