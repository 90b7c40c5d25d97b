use Rattle.std.proofs.Common.{◌≡◌}
use Rattle.ff_theory.specs.Vector.{vector_of}
use Rattle.ff_elem.specs.Elem.{elem_of, IsElem}
use Rattle.ff_data.specs.Combinations.{combination_in, elems_of}
use Rattle.ff_const.proofs.fixed.combine.Given as goal

abbrev pub invariant-loop-i : goal.invariant-loop-i
invariant-loop-i g l =
    let K = g.K.Ring.elements l.alg.k in
    let L = g.K.Ring.lawful l.alg.k in
    let f = l.alg.f in
    record {
      element : IsElem L f l.sum;
      value : elem_of L f l.sum
          ≡ combination_in L f l.i (vector_of K l.c) (elems_of L f l.list);
    }
