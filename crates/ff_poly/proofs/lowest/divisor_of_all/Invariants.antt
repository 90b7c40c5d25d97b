use Rattle.ff_theory.specs.Poly.{polynomials}
use Rattle.ff_theory.specs.Values.{poly_of, IsPoly, polys_of}
use Rattle.ff_theory.specs.Divides.{IsGcdOfAll}
use Rattle.ff_poly.proofs.lowest.divisor_of_all.Given as goal

abbrev pub invariant-loop-num : goal.invariant-loop-num
invariant-loop-num g l =
    let K = g.K.Ring.elements l.k in
    record {
      poly : IsPoly K l.divisor;
      gcd : IsGcdOfAll (polynomials K.ring) (poly_of K l.den) (polys_of K l.nums) l.num-index
          (poly_of K l.divisor);
    }
