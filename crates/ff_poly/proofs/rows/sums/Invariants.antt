use Rattle.std.proofs.Common.{◌≡◌, ℕ, ◌<◌, length, map, All}
use Rattle.ff_theory.specs.Poly.{coeff, polynomials}
use Rattle.ff_theory.specs.Values.{poly_of, IsPoly}
use Rattle.ff_poly.proofs.rows.sums.Given as goal

abbrev pub invariant-loop-i : goal.invariant-loop-i
invariant-loop-i g l =
    let K = g.K.Ring.elements l.k in
    record {
      each : All (λ p. IsPoly K p) l.sums.items;
      length : length l.sums.items ≡ l.i;
      sums : (j : ℕ) → j < l.i → coeff (polynomials K.ring) (map (λ p. poly_of K p) l.sums.items) j
          ≡ (polynomials K.ring).add (coeff (polynomials K.ring) (map (λ p. poly_of K p) l.a) j)
          (coeff (polynomials K.ring) (map (λ p. poly_of K p) l.b) j);
    }
