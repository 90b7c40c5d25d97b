use Rattle.std.proofs.Common.{◌≡◌, ◌<◌, ◌-◌, suc, length, sym, ap, subst, arith}
use Rattle.ff_theory.specs.Divides.{Divides}
use Rattle.ff_theory.specs.Lawful.{Domain, lawful_field}
use Rattle.ff_theory.specs.Division.{size}
use Rattle.ff_theory.specs.Values.{poly_of, IsPoly, polys_over}
use Rattle.ff_theory.proofs.Divides.{divides_self}
use Rattle.ff_theory.proofs.PolyMap.{polynomial_domain}
use Rattle.ff_theory.proofs.Results.{ok_map}
use Rattle.ff_elem.proofs.PolyLemmas.{poly-nonzero}
use Rattle.ff_poly.proofs.LongDivision.{poly-size}
use Rattle.ff_data.specs.declared.order.Chart.TheVariants.{Finite}
use Rattle.ff_data.specs.Orders.{chart_of}
use Rattle.ff_frac.proofs.ShrinkLemmas.{power_divisor}
use Rattle.ff_frac.proofs.shrink.chart_divisor.Goals as goal

pub returns-in-Finite : goal.returns-in-Finite
returns-in-Finite g c =
    let F = g.K.Ring.elements c.args.alg.now.k in
    let L = g.K.Ring.lawful c.args.alg.now.k in
    let f = c.args.alg.now.f in
    let by = c.args.by.now in
    let D : Domain = polynomial_domain (lawful_field L) in
    let h = c.copy.ensures in
    record {
      poly = ok_map _ _ c.copy.result (λ r e. subst (IsPoly F) (sym e) c.requires.by) h;
      nonzero = ok_map _ _ c.copy.result (λ r e. subst (λ r. 0 < length r) (sym e)
          c.requires.by_nonzero) h;
      modulus = ok_map _ _ c.copy.result (λ r e. subst (λ chart. (chart_of L f chart).IsModulus
          (poly_of F r)) (sym c.in-Finite.is) (subst (λ r. (chart_of L f Finite).IsModulus
          (poly_of F r)) (sym e) (poly-nonzero F L by c.requires.by c.requires.by_nonzero))) h;
      divides = ok_map _ _ c.copy.result (λ r e. subst (λ r. Divides (polys_over F) (poly_of F r)
          (poly_of F by)) (sym e) (divides_self D.ring D.laws (poly_of F by))) h;
    }

pub overflow_sub-m : goal.overflow_sub-m
overflow_sub-m g c = omega (arith, ap length c.coeffs.ensures, c.requires.by_nonzero)

pub returns-in-Infinite : goal.returns-in-Infinite
returns-in-Infinite g c =
    let F = g.K.Ring.elements c.args.alg.now.k in
    let L = g.K.Ring.lawful c.args.alg.now.k in
    let f = c.args.alg.now.f in
    let by = c.args.by.now in
    let h = c.variable_power.ensures in
    let m = length c.coeffs.result.now - 1 in
    let s : size F.ring (poly_of F by) ≡ length by =
    poly-size F.ring L.laws L.tests F.value by c.requires.by.canonical in
    let has : size F.ring (poly_of F by) ≡ suc m =
    omega (arith, s, c.requires.by_nonzero, ap length c.coeffs.ensures) in
    let d = subst (λ chart. (chart_of L f chart).IsModulus (poly_of F c.args.d.now))
    c.in-Infinite.is c.requires.d in
    record {
      poly = h.poly;
      nonzero = h.nonzero;
      modulus = ok_map _ _ c.variable_power.result (λ r e. subst (λ chart.
          (chart_of L f chart).IsModulus (poly_of F r)) (sym c.in-Infinite.is) (m, e)) h.value;
      divides = ok_map _ _ c.variable_power.result (λ r e. subst (λ t. Divides (polys_over F) t
          (poly_of F by)) (sym e) (power_divisor (lawful_field L) (poly_of F by) m d.0 has
          (subst (Divides (polys_over F) (poly_of F by)) d.1 c.requires.divides))) h.value;
    }
