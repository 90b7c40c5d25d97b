use Rattle.std.proofs.Common.{◌≡◌, get_or, []}
use Rattle.ff_theory.specs.Sum.{sum_below}
use Rattle.ff_elem.specs.Elem.{IsElem, algebra_in, elem_of}
use Rattle.ff_data.specs.Combinations.{elems_of}
use Rattle.ff_data.specs.Systems.{at_z}
use Rattle.ff_data.proofs.ring.in_ring.Given as goal

abbrev pub invariant-loop-l : goal.invariant-loop-l
invariant-loop-l g l = record {
  element : IsElem (g.K.Ring.lawful l.alg.k) l.alg.f l.sum;
  value : elem_of (g.K.Ring.lawful l.alg.k) l.alg.f l.sum
      ≡ sum_below (algebra_in (g.K.Ring.lawful l.alg.k) l.alg.f) l.l
      (λ i. (algebra_in (g.K.Ring.lawful l.alg.k) l.alg.f).mul
      (at_z (g.K.Ring.lawful l.alg.k) l.alg.f l.s (get_or l.c i []))
      (elems_of (g.K.Ring.lawful l.alg.k) l.alg.f l.s.b i));
}
