use Rattle.std.proofs.Common.{length, ◌-◌, ◌≡◌, ◌≤◌}
use Rattle.ff_theory.specs.Lawful.{lawful_field}
use Rattle.ff_theory.specs.Poly.{coeff, polynomials}
use Rattle.ff_theory.specs.Values.{plane_of}
use Rattle.ff_theory.proofs.Horner.{from_index, horner}
use Rattle.ff_elem.specs.Elem.{IsElem, algebra_in, elem_of}
use Rattle.ff_data.specs.Substitution.{poly_at}
use Rattle.ff_subst.proofs.values.value_of_rows.Given as goal

abbrev pub invariant-loop-j : goal.invariant-loop-j
invariant-loop-j g l = record {
  below : l.j ≤ length l.rows;
  element : IsElem (g.K.Ring.lawful l.alg.k) l.alg.f l.value;
  value : elem_of (g.K.Ring.lawful l.alg.k) l.alg.f l.value
      ≡ horner (algebra_in (g.K.Ring.lawful l.alg.k) l.alg.f)
      (elem_of (g.K.Ring.lawful l.alg.k) l.alg.f l.pair.y)
      (from_index l.j (λ j. poly_at (lawful_field (g.K.Ring.lawful l.alg.k))
      (plane_of (g.K.Ring.elements l.alg.k) l.alg.f)
      (elem_of (g.K.Ring.lawful l.alg.k) l.alg.f l.pair.x)
      (coeff (polynomials (g.K.Ring.elements l.alg.k).ring)
      (plane_of (g.K.Ring.elements l.alg.k) l.rows).coeffs j))) (length l.rows - l.j);
}

abbrev pub decreases-loop-j : goal.decreases-loop-j
decreases-loop-j g l = l.j
