use Rattle.std.proofs.Common.{refl, sym, ◌∙◌, subst, List, ℕ}
use Rattle.ff_theory.specs.Poly.{polynomials}
use Rattle.ff_theory.specs.Values.{poly_of, leading}
use Rattle.ff_theory.specs.Divides.{IsGcd}
use Rattle.ff_poly.proofs.Scaling.{led-gcd, led-monic}
use Rattle.ff_poly.proofs.poly.Poly.gcd.Goals as goal

pub returns-clause-gcd : goal.returns-clause-gcd
returns-clause-gcd g c =
    let K = g.K.Ring.elements c.args.k.now in
    let p = c.common_divisor-divisor.result in
    subst (λ (b : List ℕ). IsGcd (polynomials K.ring) (poly_of K c.args.self.now) (poly_of K b)
    (poly_of K c.with_leading.result)) c.in_ok-copy-2.ensures
    (subst (λ (a : List ℕ). IsGcd (polynomials K.ring) (poly_of K a)
    (poly_of K c.in_ok-copy-2.field-0) (poly_of K c.with_leading.result)) c.in_ok-copy.ensures
    (led-gcd K (g.K.Ring.lawful c.args.k.now) p c.with_leading.result
    (K.mul (K.value c.one.result) (K.inverse (leading K p))) (K.value c.one.result)
    c.common_divisor-divisor.ensures.poly c.with_leading.ensures.poly
    (λ z. (g.met.K.Field.is_field c.args.k.now).one_not_zero (sym c.one.ensures.value ∙ z)) refl
    c.with_leading.ensures.value _ _ c.common_divisor-divisor.ensures.gcd))

pub returns-clause-monic : goal.returns-clause-monic
returns-clause-monic g c =
    let K = g.K.Ring.elements c.args.k.now in
    let p = c.common_divisor-divisor.result in
    λ l. led-monic K (g.K.Ring.lawful c.args.k.now) p c.with_leading.result
    (K.mul (K.value c.one.result) (K.inverse (leading K p))) (K.value c.one.result)
    c.common_divisor-divisor.ensures.poly c.with_leading.ensures.poly
    (λ z. (g.met.K.Field.is_field c.args.k.now).one_not_zero (sym c.one.ensures.value ∙ z)) refl
    c.with_leading.ensures.value l ∙ c.one.ensures.value
