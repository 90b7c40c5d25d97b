use Rattle.std.proofs.Common.{◌≡◌, ◌+◌, List, length, sym, ◌∙◌, ap, subst, arith, ℕ}
use Rattle.ff_theory.specs.Lawful.{lawful_field}
use Rattle.ff_theory.specs.Poly.{coeff, Poly, polynomials}
use Rattle.ff_theory.proofs.Poly.{polynomial_laws}
use Rattle.ff_theory.proofs.Coeffs.{coeff-map}
use Rattle.ff_theory.proofs.QuotientUnits.{unit_poly}
use Rattle.ff_theory.specs.Values.{poly_of, IsPoly, polys_of}
use Rattle.ff_theory.specs.Divides.{IsGcd, IsGcdOfAll}
use Rattle.ff_poly.proofs.LongDivision.{poly-size}
use Rattle.ff_poly.proofs.Gcd.{gcds-start, gcds-step, gcds-stop}
use Rattle.ff_poly.proofs.lowest.divisor_of_all.Goals as goal

pub loop-num-init : goal.loop-num-init
loop-num-init g c =
    let K = g.K.Ring.elements c.args.k.now in
    let laws = polynomial_laws K.ring (g.met.K.Ring.laws c.args.k.now)
    (g.met.K.Ring.tests c.args.k.now) in
    record {
      poly = subst (λ (p : List ℕ). IsPoly K p) (sym c.in_ok-divisor.ensures) c.requires.den;
      gcd = subst (λ (p : List ℕ). IsGcdOfAll (polynomials K.ring) (poly_of K c.args.den.now)
          (polys_of K c.args.nums.now) 0 (poly_of K p)) (sym c.in_ok-divisor.ensures)
          (gcds-start (polynomials K.ring) laws (poly_of K c.args.den.now)
          (polys_of K c.args.nums.now));
    }

pub loop-num-preserved : goal.loop-num-preserved
loop-num-preserved g c =
    let K = g.K.Ring.elements c.args.k.now in
    let laws = polynomial_laws K.ring (g.met.K.Ring.laws c.args.k.now)
    (g.met.K.Ring.tests c.args.k.now) in
    let i = c.loop-num.num-index in
    let nums = c.args.nums.now in
    let item : poly_of K c.in_ok-copy.field-0 ≡ coeff (polynomials K.ring) (polys_of K nums) i =
    ap (poly_of K) (c.in_ok-copy.ensures ∙ c.num-item.is)
    ∙ sym (coeff-map (polynomials K.ring) (λ p. poly_of K p) nums i c.num-item.result
    (omega (arith, c.loop-num-test.true)))
    in
    record {
      poly = c.common_divisor-divisor.ensures.poly;
      gcd = gcds-step (polynomials K.ring) laws (poly_of K c.args.den.now) (polys_of K nums) i
          (i + 1) (poly_of K c.loop-num.divisor) (poly_of K c.common_divisor-divisor.result)
          (omega arith) c.loop-num.invariant.gcd
          (subst (λ (b : Poly K.ring). IsGcd (polynomials K.ring) (poly_of K c.loop-num.divisor) b
          (poly_of K c.common_divisor-divisor.result)) item c.common_divisor-divisor.ensures.gcd);
    }

pub returns-then-coeffs-eq1-clause-gcd : goal.returns-then-coeffs-eq1-clause-gcd
returns-then-coeffs-eq1-clause-gcd g c =
    let K = g.K.Ring.elements c.args.k.now in
    let laws = polynomial_laws K.ring (g.met.K.Ring.laws c.args.k.now)
    (g.met.K.Ring.tests c.args.k.now) in
    let divisor = c.loop-num.divisor in
    let unit = unit_poly (lawful_field (g.K.Ring.lawful c.args.k.now)) (poly_of K divisor)
    (poly-size K.ring (g.met.K.Ring.laws c.args.k.now) (g.met.K.Ring.tests c.args.k.now) K.value
    divisor c.loop-num.invariant.poly.canonical ∙ ap length (sym c.coeffs.ensures)
    ∙ c.if-coeffs-eq1.true) in
    gcds-stop (polynomials K.ring) laws (poly_of K c.args.den.now) (polys_of K c.args.nums.now)
    c.loop-num.num-index (length c.args.nums.now) (poly_of K divisor) unit.0
    c.loop-num.auto.num-index-end unit.1 c.loop-num.invariant.gcd

pub returns-clause-gcd : goal.returns-clause-gcd
returns-clause-gcd g c =
    let K = g.K.Ring.elements c.args.k.now in
    let all : c.loop-num.num-index ≡ length c.args.nums.now = omega
    (arith, c.loop-num-test.false, c.loop-num.auto.num-index-end) in
    subst (λ n. IsGcdOfAll (polynomials K.ring) (poly_of K c.args.den.now)
    (polys_of K c.args.nums.now) n (poly_of K c.loop-num.divisor)) all c.loop-num.invariant.gcd
