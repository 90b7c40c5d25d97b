use Rattle.std.proofs.Common.{All}
use Rattle.ff_theory.specs.Poly.{polynomials}
use Rattle.ff_theory.specs.Values.{poly_of, IsPoly}
use Rattle.ff_elem.specs.Zeros.{AddsZeros}
use Rattle.ff_elem.proofs.fractions.push_zero_rows.Given as goal

abbrev pub invariant-loop-i : goal.invariant-loop-i
invariant-loop-i g l =
    let K = g.K.Ring.elements l.k in
    record {
      each : All (λ p. IsPoly K p) l.rows.items;
      zeros : AddsZeros (polynomials K.ring) (λ p. poly_of K p) l.fn.rows.items l.rows.items l._i;
    }
