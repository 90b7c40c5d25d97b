use Rattle.std.proofs.Common.{◌≡◌, ◌-◌, pred, length, sym, ap, subst, arith}
use Rattle.ff_theory.specs.Vector.{vector_of, IsVector}
use Rattle.ff_theory.specs.Values.{ArePolys}
use Rattle.ff_theory.proofs.Results.{ok_map}
use Rattle.ff_order.specs.Level.{lists_of}
use Rattle.ff_order.proofs.PassedSpace.{plane_rows, image_is, rest_few}
use Rattle.ff_order.proofs.Residues.{modulus_positive}
use Rattle.ff_order.proofs.level.image.Goals as goal

pub sum_of_products-requires : goal.sum_of_products-requires
sum_of_products-requires g c =
    let F = g.K.Ring.elements c.args.alg.now.k in
    let few = plane_rows F (g.K.Ring.lawful c.args.alg.now.k) c.args.alg.now.f
    c.args.alg.now.plane c.args.alg.now.has_y c.args.chart c.args.rows.now c.requires.rows
    c.in_ok-plane.plane (vector_of F c.args.v.now) c.in_ok-plane.ensures in
    record {
      rows = subst (ArePolys F) (sym c.rows.ensures) c.in_ok-plane.ensures.plane.each;
      lists = c.requires.lists;
      few = omega (arith, ap length c.rows.ensures, few, c.requires.count);
      index = c.requires.index;
    }

pub remainder-requires : goal.remainder-requires
remainder-requires g c = record {
  a = c.in_ok-sum.ensures.poly.each;
  b = c.requires.rows.d;
  nonzero = modulus_positive (g.K.Ring.elements c.args.alg.now.k)
      (g.K.Ring.lawful c.args.alg.now.k) c.args.alg.now.f c.args.alg.now.plane
      c.args.alg.now.has_y c.args.chart c.args.rows.now.d c.requires.rows.d
      c.requires.rows.modulus;
}

pub overflow_sub-coeffs : goal.overflow_sub-coeffs
overflow_sub-coeffs g c =
    let positive = modulus_positive (g.K.Ring.elements c.args.alg.now.k)
    (g.K.Ring.lawful c.args.alg.now.k) c.args.alg.now.f c.args.alg.now.plane
    c.args.alg.now.has_y c.args.chart c.args.rows.now.d c.requires.rows.d
    c.requires.rows.modulus in
    omega (arith, positive, ap length c.coeffs.ensures)

pub coefficients-requires : goal.coefficients-requires
coefficients-requires g c = record {
  p = c.in_ok-rest.ensures.poly;
  few = rest_few (g.K.Ring.elements c.args.alg.now.k) (g.K.Ring.lawful c.args.alg.now.k)
      c.args.alg.now.f c.args.alg.now.plane c.args.alg.now.has_y c.args.chart c.args.rows.now
      c.requires.rows _ c.in_ok-rest.rest c.coeffs.result.now c.in_ok-rest.ensures.poly
      c.coeffs.ensures c.in_ok-rest.ensures.division;
}

pub returns-clause-vector : goal.returns-clause-vector
returns-clause-vector g c =
    let e : length c.coeffs.result.now - 1 ≡ pred (length c.args.rows.now.d) =
    omega (arith, ap length c.coeffs.ensures) in
    ok_map _ _ c.coefficients.result
    (λ r h. subst (λ n. IsVector (g.K.Ring.elements c.args.alg.now.k) n r.items) e h)
    c.coefficients.ensures.vector

pub returns-clause-value : goal.returns-clause-value
returns-clause-value g c =
    let F = g.K.Ring.elements c.args.alg.now.k in
    ok_map _ _ c.coefficients.result
    (λ r h. image_is F (g.K.Ring.lawful c.args.alg.now.k) c.args.alg.now.f c.args.alg.now.plane
    c.args.alg.now.has_y c.args.chart c.args.rows.now c.requires.rows
    (lists_of c.args.lists.now) c.args.s c.in_ok-plane.plane c.rows.result.now c.in_ok-sum.sum
    c.in_ok-rest.rest (vector_of F c.args.v.now) (vector_of F r.items) c.in_ok-plane.ensures
    c.rows.ensures c.in_ok-sum.ensures.value c.in_ok-rest.ensures.division h)
    c.coefficients.ensures.value
