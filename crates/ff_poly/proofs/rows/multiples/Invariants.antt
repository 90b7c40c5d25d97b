use Rattle.std.proofs.Common.{◌≡◌, length, map, take, All}
use Rattle.ff_theory.specs.Poly.{polynomials}
use Rattle.ff_theory.specs.Values.{poly_of, IsPoly}
use Rattle.ff_poly.proofs.rows.multiples.Given as goal

abbrev pub invariant-loop-p : goal.invariant-loop-p
invariant-loop-p g l =
    let K = g.K.Ring.elements l.k in
    record {
      len : length l.multiples.items ≡ l.p-index;
      each : All (λ p. IsPoly K p) l.multiples.items;
      value : map (λ p. poly_of K p) l.multiples.items
          ≡ map (λ p. (polynomials K.ring).mul (poly_of K l.c) (poly_of K p))
          (take l.p-index l.rows);
    }
