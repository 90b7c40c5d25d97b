use Rattle.std.proofs.Common.{◌≡◌, ◌<◌, ◌-◌, suc, length, sym, ◌∙◌, ap, ap₂, subst, arith}
use Rattle.ff_theory.specs.Values.{poly_of, polys_over}
use Rattle.ff_theory.specs.Lawful.{lawful_field}
use Rattle.ff_theory.specs.Division.{size}
use Rattle.ff_poly.proofs.LongDivision.{poly-size}
use Rattle.ff_theory.proofs.Results.{ok_map}
use Rattle.ff_elem.proofs.PolyLemmas.{poly-nonzero}
use Rattle.ff_data.specs.Orders.{chart_of}
use Rattle.ff_frac.proofs.FractionLemmas.{quotient_nonzero}
use Rattle.ff_frac.proofs.ShrinkLemmas.{exact_division, power_quotient}
use Rattle.ff_frac.proofs.shrink.modulus.Goals as goal

pub returns-in-Finite-clause-modulus : goal.returns-in-Finite-clause-modulus
returns-in-Finite-clause-modulus g c =
    let F = g.K.Ring.elements c.args.alg.now.k in
    let L = g.K.Ring.lawful c.args.alg.now.k in
    let q = c.in_ok-quotient in
    let positive = quotient_nonzero F L c.args.d.now c.args.by.now q.quotient
    (poly_of F q._zero) c.requires.d c.requires.nonzero c.requires.divides q.ensures.division in
    subst (λ chart. (chart_of L c.args.alg.now.f chart).IsModulus (poly_of F q.quotient))
    (sym c.in-Finite.is) (poly-nonzero F L q.quotient q.ensures.quotient positive)

pub overflow_sub-m : goal.overflow_sub-m
overflow_sub-m g c =
    let F = g.K.Ring.elements c.args.alg.now.k in
    let L = g.K.Ring.lawful c.args.alg.now.k in
    let q = c.in_ok-quotient in
    let positive = quotient_nonzero F L c.args.d.now c.args.by.now q.quotient
    (poly_of F q._zero) c.requires.d c.requires.nonzero c.requires.divides q.ensures.division in
    omega (arith, ap length c.coeffs.ensures, positive)

pub returns-in-Infinite-clause-modulus : goal.returns-in-Infinite-clause-modulus
returns-in-Infinite-clause-modulus g c =
    let F = g.K.Ring.elements c.args.alg.now.k in
    let L = g.K.Ring.lawful c.args.alg.now.k in
    ok_map _ _ c.variable_power.result
    (λ r h. subst (λ chart. (chart_of L c.args.alg.now.f chart).IsModulus (poly_of F r))
    (sym c.in-Infinite.is) (length c.coeffs.result.now - 1, h)) c.variable_power.ensures.value

pub returns-in-Finite-clause-product : goal.returns-in-Finite-clause-product
returns-in-Finite-clause-product g c =
    let F = g.K.Ring.elements c.args.alg.now.k in
    let L = g.K.Ring.lawful c.args.alg.now.k in
    let by = c.args.by.now in
    let q = c.in_ok-quotient in
    exact_division (lawful_field L) (poly_of F by)
    (poly-nonzero F L by c.requires.by c.requires.by_nonzero) (poly_of F c.args.d.now)
    (poly_of F q.quotient) (poly_of F q._zero) q.ensures.division c.requires.divides

pub returns-in-Infinite-clause-product : goal.returns-in-Infinite-clause-product
returns-in-Infinite-clause-product g c =
    let F = g.K.Ring.elements c.args.alg.now.k in
    let L = g.K.Ring.lawful c.args.alg.now.k in
    let f = c.args.alg.now.f in
    let by = c.args.by.now in
    let d = c.args.d.now in
    let q = c.in_ok-quotient in
    let P = polys_over F in
    let positive = quotient_nonzero F L d by q.quotient (poly_of F q._zero) c.requires.d
    c.requires.nonzero c.requires.divides q.ensures.division in
    let size_q : size F.ring (poly_of F q.quotient) ≡ length q.quotient =
    poly-size F.ring L.laws L.tests F.value q.quotient q.ensures.quotient.canonical in
    let m = length c.coeffs.result.now - 1 in
    let has : size F.ring (poly_of F q.quotient) ≡ suc m =
    omega (arith, size_q, positive, ap length c.coeffs.ensures) in
    let whole = exact_division (lawful_field L) (poly_of F by)
    (poly-nonzero F L by c.requires.by c.requires.by_nonzero) (poly_of F d)
    (poly_of F q.quotient) (poly_of F q._zero) q.ensures.division c.requires.divides in
    let dk = subst (λ chart. (chart_of L f chart).IsModulus (poly_of F d)) c.in-Infinite.is
    c.requires.modulus in
    let bk = subst (λ chart. (chart_of L f chart).IsModulus (poly_of F by)) c.in-Infinite.is
    c.requires.by_modulus in
    let power = power_quotient (lawful_field L) bk.0 dk.0 m (poly_of F q.quotient)
    (sym dk.1 ∙ whole ∙ ap (λ t. P.mul t (poly_of F q.quotient)) bk.1) has in
    ok_map _ _ c.variable_power.result (λ r h. dk.1 ∙ power
    ∙ ap₂ P.mul (sym bk.1) (sym h)) c.variable_power.ensures.value
