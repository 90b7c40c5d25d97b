use Rattle.std.proofs.lemmas.List.{get_or_default}
use Rattle.std.proofs.Common.{◌≡◌, [], ◌∷◌, length, get_or, ◌∙◌, ap, arith}
use Rattle.ff_theory.specs.Poly.{poly, polynomials}
use Rattle.ff_theory.specs.Values.{poly_of}
use Rattle.ff_poly.proofs.LongDivision.{last_nonzero}
use Rattle.ff_poly.proofs.PseudoDivision.{single, crossed, crossed_constant}
use Rattle.ff_poly.proofs.reduction.multipliers.Goals as goal

pub returns-then-coeffs-eq1-clause-value : goal.returns-then-coeffs-eq1-clause-value
returns-then-coeffs-eq1-clause-value g c =
    let K = g.K.Ring.elements c.args.k.now in
    let laws = g.met.K.Ring.laws c.args.k.now in
    let tests = g.met.K.Ring.tests c.args.k.now in
    let x = get_or c.coeffs-then-coeffs-eq1.result.now 0 0 in
    let same : c.coeffs-then-coeffs-eq1.result.now
    ≡ c.args.lead.now = c.coeffs-then-coeffs-eq1.ensures in
    let long : length c.args.lead.now ≡ 1 = omega
    (arith, c.if-coeffs-eq1.true, ap length c.coeffs.ensures) in
    let first : x ≡ get_or c.args.lead.now 0 x = ap (λ p. get_or p 0 0) same
    ∙ get_or_default c.args.lead.now 0 0 x (omega (arith, long)) in
    let one : K.mul (K.value x) (K.inverse (K.value x))
    ≡ K.one = (g.met.K.Field.is_field c.args.k.now).mul_inverse (K.value x)
    (last_nonzero K.ring laws tests K.value c.args.lead.now x 0 c.requires.lead.canonical long
    first) in
    let multiple : poly_of K c.in_ok-multiple.multiple
    ≡ (polynomials K.ring).mul (poly_of K c.args.top.now)
    (poly K.ring (K.neg (K.inverse (K.value x)) ∷ [])) =
    c.in_ok-multiple.ensures.value ∙ ap (λ p. (polynomials K.ring).mul (poly_of K p)
    (poly K.ring (K.value c.neg.result ∷ []))) c.coeffs-then-coeffs-eq1-2.ensures
    ∙ ap (λ t. (polynomials K.ring).mul (poly_of K c.args.top.now) (poly K.ring (t ∷ [])))
    (c.neg.ensures.value ∙ ap K.neg c.inv-inverse.ensures.value)
    in
    crossed_constant K.ring laws tests (K.value x) (K.inverse (K.value x))
    (poly_of K c.args.lead.now) (poly_of K c.args.top.now) (poly_of K c.in_ok-one.field-0)
    (poly_of K c.in_ok-multiple.multiple) one
    (ap (poly K.ring) (single K.value c.args.lead.now x long first)) c.in_ok-one.ensures.value
    multiple

pub returns-clause-value : goal.returns-clause-value
returns-clause-value g c =
    let K = g.K.Ring.elements c.args.k.now in
    crossed K.ring (g.met.K.Ring.laws c.args.k.now) (g.met.K.Ring.tests c.args.k.now)
    (poly_of K c.args.lead.now) (poly_of K c.args.top.now) (poly_of K c.in_ok-copy.field-0)
    (poly_of K c.in_ok-neg.field-0) (ap (poly_of K) c.in_ok-copy.ensures) c.in_ok-neg.ensures.value
