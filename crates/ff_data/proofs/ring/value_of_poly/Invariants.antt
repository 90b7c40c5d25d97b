use Rattle.std.proofs.Common.{length, ◌-◌, ◌≡◌, ◌≤◌}
use Rattle.ff_theory.specs.Lawful.{lawful_field}
use Rattle.ff_theory.specs.Poly.{coeff}
use Rattle.ff_theory.specs.Values.{plane_of, poly_of}
use Rattle.ff_theory.proofs.Horner.{from_index, horner}
use Rattle.ff_theory.specs.Algebra.{constant}
use Rattle.ff_elem.specs.Elem.{IsElem, algebra_in, elem_of}
use Rattle.ff_data.proofs.ring.value_of_poly.Given as goal

abbrev pub invariant-loop-i : goal.invariant-loop-i
invariant-loop-i g l = record {
  below : l.i ≤ length l.p;
  element : IsElem (g.K.Ring.lawful l.alg.k) l.alg.f l.value;
  value : elem_of (g.K.Ring.lawful l.alg.k) l.alg.f l.value
      ≡ horner (algebra_in (g.K.Ring.lawful l.alg.k) l.alg.f)
      (elem_of (g.K.Ring.lawful l.alg.k) l.alg.f l.z)
      (from_index l.i (λ i. constant (lawful_field (g.K.Ring.lawful l.alg.k))
      (plane_of (g.K.Ring.elements l.alg.k) l.alg.f)
      (coeff (g.K.Ring.elements l.alg.k).ring (poly_of (g.K.Ring.elements l.alg.k) l.p).coeffs
      i))) (length l.p - l.i);
}

abbrev pub decreases-loop-i : goal.decreases-loop-i
decreases-loop-i g l = l.i
