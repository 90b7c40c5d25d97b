use Rattle.std.proofs.Common.{◌≡◌, ◌-◌, length, map, All}
use Rattle.ff_theory.specs.Ring.{IsElement}
use Rattle.ff_theory.specs.Poly.{coeff, polynomials}
use Rattle.ff_theory.specs.Sum.{sum_below}
use Rattle.ff_theory.specs.Values.{poly_of}
use Rattle.ff_poly.proofs.rows.add_row.Given as goal

abbrev pub invariant-loop-j : goal.invariant-loop-j
invariant-loop-j g l =
    let K = g.K.Ring.elements l.k in
    record {
      len : length l.sum ≡ length l.fn.sum;
      each : All (IsElement K) l.sum;
      value : poly_of K l.sum ≡ (polynomials K.ring).add (poly_of K l.fn.sum)
          (sum_below (polynomials K.ring) l.j (λ j. (polynomials K.ring).mul
          (coeff (polynomials K.ring) (map (λ p. poly_of K p) l.a) j)
          (coeff (polynomials K.ring) (map (λ p. poly_of K p) l.b) (l.i - j))));
    }
