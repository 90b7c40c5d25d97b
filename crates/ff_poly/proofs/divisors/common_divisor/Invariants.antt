use Rattle.std.proofs.Common.{length}
use Rattle.ff_theory.specs.Poly.{Poly, polynomials}
use Rattle.ff_theory.specs.Values.{poly_of, IsPoly}
use Rattle.ff_theory.specs.Divides.{IsGcd}
use Rattle.ff_poly.proofs.divisors.common_divisor.Given as goal

-- a greatest common divisor of the present two is one of the first two
abbrev pub invariant-loop-divisor : goal.invariant-loop-divisor
invariant-loop-divisor g l =
    let K = g.K.Ring.elements l.k in
    record {
      divisor : IsPoly K l.divisor;
      rest : IsPoly K l.rest;
      same : (g : Poly K.ring) → IsGcd (polynomials K.ring) (poly_of K l.divisor) (poly_of K l.rest)
          g → IsGcd (polynomials K.ring) (poly_of K l.fn.a) (poly_of K l.fn.b) g;
    }

abbrev pub decreases-loop-divisor : goal.decreases-loop-divisor
decreases-loop-divisor g l = length l.rest
