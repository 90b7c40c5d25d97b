use Rattle.std.proofs.Common.{◌≡◌, ◌+◌, length, map, take, drop, All}
use Rattle.ff_theory.specs.Ring.{IsElement}
use Rattle.ff_theory.specs.Poly.{poly, polynomials}
use Rattle.ff_theory.specs.Values.{poly_of}
use Rattle.ff_theory.specs.Monomial.{raised}
use Rattle.ff_poly.proofs.division.divide_row.Given as goal

abbrev pub invariant-loop-at : goal.invariant-loop-at
invariant-loop-at g l =
    let K = g.K.Ring.elements l.k in
    record {
      len : length l.row ≡ length l.fn.row;
      each : All (IsElement K) l.row;
      value : poly_of K l.fn.row ≡ (polynomials K.ring).add
          ((polynomials K.ring).mul (poly K.ring
          (raised K.ring l.at (map K.value (drop (l.at + l.degree) l.row)))) (poly_of K l.b))
          (poly_of K (take (l.at + l.degree) l.row));
    }
