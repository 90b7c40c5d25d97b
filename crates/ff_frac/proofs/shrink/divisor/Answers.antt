use Rattle.std.proofs.Common.{[], sym, ◌∙◌, subst, arith}
use Rattle.std.proofs.lemmas.List.{get_or_default}
use Rattle.ff_theory.specs.Divides.{Divides}
use Rattle.ff_theory.specs.Lawful.{Domain, lawful_field}
use Rattle.ff_theory.specs.Values.{poly_of, IsPoly, polys_over}
use Rattle.ff_theory.proofs.Divides.{divides_self, divides_trans}
use Rattle.ff_theory.proofs.PolyMap.{polynomial_domain}
use Rattle.ff_data.proofs.Denominators.{divisor-some}
use Rattle.ff_frac.proofs.ShrinkLists.{next_each}
use Rattle.ff_frac.proofs.shrink.divisor.Goals as goal

pub loop-row-init : goal.loop-row-init
loop-row-init g c =
    let F = g.K.Ring.elements c.args.k.now in
    let D : Domain = polynomial_domain (lawful_field (g.K.Ring.lawful c.args.k.now)) in
    record {
      poly = c.requires.d;
      nonzero = c.requires.nonzero;
      divides = divides_self D.ring D.laws (poly_of F c.args.d);
      each = λ t q. absurd (omega (arith, q));
    }

pub loop-row-preserved : goal.loop-row-preserved
loop-row-preserved g c =
    let F = g.K.Ring.elements c.args.k.now in
    let L = g.K.Ring.lawful c.args.k.now in
    let D : Domain = polynomial_domain (lawful_field L) in
    let h = c.loop-row.invariant in
    let r = c.in_ok-divisor in
    record {
      poly = r.ensures.poly;
      nonzero = divisor-some F L c.loop-row.divisor c.row-item.result r.divisor h.poly h.nonzero
          r.ensures.gcd;
      divides = divides_trans D.ring D.laws (poly_of F r.divisor) (poly_of F c.loop-row.divisor)
          (poly_of F c.args.d) r.ensures.gcd.of_first h.divides;
      each = λ t q. next_each (polys_over F) D.laws (λ p. poly_of F p) (poly_of F r.divisor)
          (poly_of F c.loop-row.divisor) c.args.rows.now c.loop-row.row-index h.each
          r.ensures.gcd.of_first (subst (λ p. Divides (polys_over F) (poly_of F r.divisor)
          (poly_of F p)) (c.row-item.is ∙ get_or_default c.args.rows.now c.loop-row.row-index
          c.row-item.result [] c.loop-row-test.true) r.ensures.gcd.of_second) t q;
    }

pub returns-clause-each : goal.returns-clause-each
returns-clause-each g c t q = c.loop-row.invariant.each t (omega (
  arith,
  c.loop-row-test.false,
  c.loop-row.auto.row-index-end,
  q,
))
