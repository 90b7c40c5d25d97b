use Rattle.ff_theory.specs.Values.{poly_of}
use Rattle.ff_theory.specs.Lawful.{Domain, lawful_field}
use Rattle.ff_theory.proofs.Divides.{divides_trans}
use Rattle.ff_theory.proofs.PolyMap.{polynomial_domain}
use Rattle.ff_elem.proofs.PolyLemmas.{nonzero-length}
use Rattle.ff_data.proofs.ChartLaws.{chart_laws}
use Rattle.ff_data.proofs.NumeratorLemmas.{order_length}
use Rattle.ff_frac.proofs.ShrinkLattice.{smaller_order, have_multiples}
use Rattle.ff_frac.proofs.shrink.divided.Goals as goal

pub common_divisor-requires : goal.common_divisor-requires
common_divisor-requires g c =
    let F = g.K.Ring.elements c.args.alg.now.k in
    let L = g.K.Ring.lawful c.args.alg.now.k in
    record {
      d = c.requires.order.d;
      nonzero = order_length F L c.args.alg.now.f c.args.alg.now.plane c.args.alg.now.has_y
          c.args.order.now c.requires.order;
      planes = c.requires.planes;
    }

pub chart_divisor-requires : goal.chart_divisor-requires
chart_divisor-requires g c = record {
  d = c.requires.order.modulus;
  by = c.in_ok-common.ensures.poly;
  by_nonzero = c.in_ok-common.ensures.nonzero;
  divides = c.in_ok-common.ensures.divides;
}

pub modulus-requires : goal.modulus-requires
modulus-requires g c =
    let F = g.K.Ring.elements c.args.alg.now.k in
    let L = g.K.Ring.lawful c.args.alg.now.k in
    let D : Domain = polynomial_domain (lawful_field L) in
    let by = c.in_ok-by in
    let common = c.in_ok-common in
    record {
      d = c.requires.order.d;
      nonzero = order_length F L c.args.alg.now.f c.args.alg.now.plane c.args.alg.now.has_y
          c.args.order.now c.requires.order;
      by = by.ensures.poly;
      by_nonzero = by.ensures.nonzero;
      divides = divides_trans D.ring D.laws (poly_of F by.by) (poly_of F common.common)
          (poly_of F c.args.order.now.d) by.ensures.divides common.ensures.divides;
      modulus = c.requires.order.modulus;
      by_modulus = by.ensures.modulus;
    }

pub quotient_space-requires : goal.quotient_space-requires
quotient_space-requires g c =
    let F = g.K.Ring.elements c.args.alg.now.k in
    let L = g.K.Ring.lawful c.args.alg.now.k in
    let l = chart_laws F L c.args.alg.now.f c.args.alg.now.plane c.args.alg.now.has_y
    c.args.order.now.chart in
    let d = c.in_ok-d in
    record {
      planes = c.requires.planes;
      by = c.in_ok-by.ensures.poly;
      by_nonzero = c.in_ok-by.ensures.nonzero;
      m = d.ensures.poly;
      nonzero = nonzero-length F L d.d (l.modulus_nonzero (poly_of F d.d) d.ensures.modulus);
    }

pub returns-clause-lattice : goal.returns-clause-lattice
returns-clause-lattice g c = record {
  poly = c.in_ok-d.ensures.poly;
  modulus = c.in_ok-d.ensures.modulus;
  space = c.in_ok-space.ensures.space;
}

pub returns-clause-same : goal.returns-clause-same
returns-clause-same g c =
    let F = g.K.Ring.elements c.args.alg.now.k in
    let L = g.K.Ring.lawful c.args.alg.now.k in
    let o = c.args.order.now in
    let by = c.in_ok-by in
    let d = c.in_ok-d in
    smaller_order F L c.args.alg.now.f c.args.alg.now.plane c.args.alg.now.has_y o
    c.requires.order by.by d.d by.ensures.poly d.ensures.poly by.ensures.modulus d.ensures.modulus
    d.ensures.product c.args.planes.now c.requires.basis c.in_ok-space.space
    (c.in_ok-space.ensures.value (have_multiples F L c.args.alg.now.f c.args.alg.now.plane
    c.args.alg.now.has_y o c.requires.order by.by d.d by.ensures.poly d.ensures.poly
    by.ensures.modulus d.ensures.modulus d.ensures.product c.args.planes.now c.requires.basis
    c.in_ok-common.common by.ensures.divides c.in_ok-common.ensures.each))
