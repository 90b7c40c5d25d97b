use Rattle.std.proofs.Common.{◌≡◌, [], length, sym, ◌∙◌, ap}
use Rattle.std.proofs.lemmas.List.{nil_from_length}
use Rattle.std.proofs.lemmas.Bool.{eqb-true}
use Rattle.ff_theory.specs.Poly.{Poly, polynomials}
use Rattle.ff_theory.specs.Division.{IsDivision}
use Rattle.ff_theory.proofs.Poly.{polynomial_laws}
use Rattle.ff_theory.specs.Values.{poly_of}
use Rattle.ff_poly.proofs.Gcd.{gcd-zero, gcd-step}
use Rattle.ff_poly.proofs.divisors.common_divisor.Goals as goal

pub loop-divisor-preserved : goal.loop-divisor-preserved
loop-divisor-preserved g c =
    let K = g.K.Ring.elements c.args.k.now in
    let d : (q : Poly K.ring) × IsDivision K.ring (poly_of K c.loop-divisor.divisor)
    (poly_of K c.loop-divisor.rest) q (poly_of K c.into_remainder-next.result) =
    c.into_remainder-next.ensures.division in
    record {
      divisor = c.loop-divisor.invariant.rest;
      rest = c.into_remainder-next.ensures.poly;
      same = λ u h. c.loop-divisor.invariant.same u
          (gcd-step (polynomials K.ring) (polynomial_laws K.ring (g.met.K.Ring.laws c.args.k.now)
          (g.met.K.Ring.tests c.args.k.now)) (poly_of K c.loop-divisor.divisor)
          (poly_of K c.loop-divisor.rest) d.0 (poly_of K c.into_remainder-next.result) u d.1.sum h);
    }

pub returns-clause-gcd : goal.returns-clause-gcd
returns-clause-gcd g c =
    let K = g.K.Ring.elements c.args.k.now in
    let none : c.loop-divisor.rest ≡ [] = nil_from_length c.loop-divisor.rest
    (eqb-true (length c.loop-divisor.rest) 0 (sym c.is_zero.ensures ∙ c.loop-divisor-test.false)) in
    c.loop-divisor.invariant.same (poly_of K c.loop-divisor.divisor)
    (gcd-zero (polynomials K.ring) (polynomial_laws K.ring (g.met.K.Ring.laws c.args.k.now)
    (g.met.K.Ring.tests c.args.k.now)) (poly_of K c.loop-divisor.divisor)
    (poly_of K c.loop-divisor.rest) (ap (poly_of K) none))
