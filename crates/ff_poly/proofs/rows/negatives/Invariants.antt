use Rattle.std.proofs.Common.{◌≡◌, map, take, All}
use Rattle.ff_theory.specs.Poly.{polynomials}
use Rattle.ff_theory.specs.Values.{poly_of, IsPoly}
use Rattle.ff_poly.proofs.rows.negatives.Given as goal

abbrev pub invariant-loop-p : goal.invariant-loop-p
invariant-loop-p g l =
    let K = g.K.Ring.elements l.k in
    record {
      each : All (λ p. IsPoly K p) l.negatives.items;
      value : map (λ p. poly_of K p) l.negatives.items
          ≡ map (λ p. (polynomials K.ring).neg (poly_of K p)) (take l.p-index l.rows);
    }
