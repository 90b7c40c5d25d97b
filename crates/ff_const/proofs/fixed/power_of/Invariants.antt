use Rattle.std.proofs.Common.{◌≡◌}
use Rattle.ff_theory.specs.Ring.{power}
use Rattle.ff_elem.specs.Elem.{elem_of, algebra_in, IsElem}
use Rattle.ff_const.proofs.fixed.power_of.Given as goal

abbrev pub invariant-loop-i : goal.invariant-loop-i
invariant-loop-i g l =
    let L = g.K.Ring.lawful l.alg.k in
    record {
      element : IsElem L l.alg.f l.power;
      value : elem_of L l.alg.f l.power
          ≡ power (algebra_in L l.alg.f) (elem_of L l.alg.f l.w) l._i;
    }
