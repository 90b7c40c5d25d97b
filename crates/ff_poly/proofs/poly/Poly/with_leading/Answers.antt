use Rattle.std.proofs.Common.{arith, ◌≡◌, [], length, sym, ◌∙◌, ap, get_or, ◌-◌}
use Rattle.std.proofs.lemmas.List.{nil_from_length}
use Rattle.ff_theory.specs.Poly.{polynomials}
use Rattle.ff_theory.specs.Values.{poly_of, leading}
use Rattle.ff_theory.specs.Monomial.{monomial}
use Rattle.ff_theory.proofs.Product.{times_zero}
use Rattle.ff_poly.proofs.Scaling.{lead-nonzero, lead-entry}
use Rattle.ff_poly.proofs.poly.Poly.with_leading.Goals as goal

pub returns-then-n-eq0-clause-value : goal.returns-then-n-eq0-clause-value
returns-then-n-eq0-clause-value g c =
    let K = g.K.Ring.elements c.args.k.now in
    let p = c.args.self in
    let none : p ≡ [] = nil_from_length p (omega (arith, ap length c.coeffs-n.ensures)) in
    let factor = monomial K.ring (K.mul (K.value c.args.c) (K.inverse (leading K p))) 0 in
    ap (poly_of K) none ∙ times_zero K.ring (g.met.K.Ring.laws c.args.k.now)
    (g.met.K.Ring.tests c.args.k.now) factor ∙ ap
    (λ q. (polynomials K.ring).mul factor (poly_of K q)) (sym none)

pub inv-requires-clause-nonzero : goal.inv-requires-clause-nonzero
inv-requires-clause-nonzero g c =
    let K = g.K.Ring.elements c.args.k.now in
    let L = g.K.Ring.lawful c.args.k.now in
    λ z. lead-nonzero K L c.args.self c.requires.a
    (omega (arith, ap length c.coeffs-n.ensures, c.if-n-eq0.false))
    (sym (lead-entry K L c.args.self c.coeffs.result.now c.coeffs-n.result.now 0 c.coeffs.ensures
    c.coeffs-n.ensures c.if-n-eq0.false) ∙ z)

pub returns-clause-value : goal.returns-clause-value
returns-clause-value g c =
    let K = g.K.Ring.elements c.args.k.now in
    let L = g.K.Ring.lawful c.args.k.now in
    let lead : K.value (get_or c.coeffs.result.now (length c.coeffs-n.result.now - 1) 0)
    ≡ leading K c.args.self = lead-entry K L c.args.self c.coeffs.result.now c.coeffs-n.result.now 0
    c.coeffs.ensures c.coeffs-n.ensures c.if-n-eq0.false in
    c.times_constant.ensures.value ∙ ap (λ t. (polynomials K.ring).mul (monomial K.ring t 0)
    (poly_of K c.args.self)) (c.mul-factor.ensures.value
    ∙ ap (K.mul (K.value c.args.c)) (c.inv.ensures.value ∙ ap K.inverse lead))
