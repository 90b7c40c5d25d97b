use Rattle.std.proofs.Common.{◌<◌, [], length, sym, ◌∙◌, subst, arith}
use Rattle.std.proofs.lemmas.List.{get_or_default}
use Rattle.ff_theory.specs.Divides.{Divides}
use Rattle.ff_theory.specs.Lawful.{Domain, lawful_field}
use Rattle.ff_theory.specs.Values.{poly_of, IsPoly, polys_over}
use Rattle.ff_theory.proofs.Divides.{divides_self, divides_trans}
use Rattle.ff_theory.proofs.PolyMap.{polynomial_domain}
use Rattle.ff_frac.specs.Shrinking.{DividesRows}
use Rattle.ff_frac.proofs.ShrinkLists.{next_planes}
use Rattle.ff_frac.proofs.shrink.common_divisor.Goals as goal

pub loop-plane-init : goal.loop-plane-init
loop-plane-init g c =
    let F = g.K.Ring.elements c.args.alg.now.k in
    let D : Domain = polynomial_domain (lawful_field (g.K.Ring.lawful c.args.alg.now.k)) in
    let e = sym c.in_ok-common.ensures in
    record {
      poly = subst (IsPoly F) e c.requires.d;
      nonzero = subst (λ d. 0 < length d) e c.requires.nonzero;
      divides = subst (λ d. Divides (polys_over F) (poly_of F d) (poly_of F c.args.d.now)) e
          (divides_self D.ring D.laws (poly_of F c.args.d.now));
      each = λ t q. absurd (omega (arith, q));
    }

pub loop-plane-preserved : goal.loop-plane-preserved
loop-plane-preserved g c =
    let F = g.K.Ring.elements c.args.alg.now.k in
    let L = g.K.Ring.lawful c.args.alg.now.k in
    let D : Domain = polynomial_domain (lawful_field L) in
    let h = c.loop-plane.invariant in
    let r = c.in_ok-common-2 in
    record {
      poly = r.ensures.poly;
      nonzero = r.ensures.nonzero;
      divides = divides_trans D.ring D.laws (poly_of F r.common) (poly_of F c.loop-plane.common)
          (poly_of F c.args.d.now) r.ensures.divides h.divides;
      each = next_planes F L (poly_of F r.common) (poly_of F c.loop-plane.common)
          c.args.planes.now c.loop-plane.plane-index h.each r.ensures.divides
          (subst (DividesRows F (poly_of F r.common)) (c.rows.ensures ∙ c.plane-item.is
          ∙ get_or_default c.args.planes.now c.loop-plane.plane-index c.plane-item.result []
          c.loop-plane-test.true) r.ensures.each);
    }

pub returns-clause-each : goal.returns-clause-each
returns-clause-each g c t q = c.loop-plane.invariant.each t (omega (
  arith,
  c.loop-plane-test.false,
  c.loop-plane.auto.plane-index-end,
  q,
))
