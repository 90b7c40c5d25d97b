use Rattle.std.proofs.Common.{◌≡◌, ℕ, ◌<◌, length, map, All}
use Rattle.ff_theory.specs.Poly.{coeff, polynomials}
use Rattle.ff_theory.proofs.Series.{series_mul}
use Rattle.ff_theory.specs.Values.{poly_of, IsPoly}
use Rattle.ff_poly.proofs.rows.products.Given as goal

abbrev pub invariant-loop-i : goal.invariant-loop-i
invariant-loop-i g l =
    let K = g.K.Ring.elements l.k in
    record {
      each : All (λ p. IsPoly K p) l.products.items;
      length : length l.products.items ≡ l.i;
      products : (j : ℕ) → j < l.i → coeff (polynomials K.ring)
          (map (λ p. poly_of K p) l.products.items) j ≡ series_mul (polynomials K.ring)
          (coeff (polynomials K.ring) (map (λ p. poly_of K p) l.a))
          (coeff (polynomials K.ring) (map (λ p. poly_of K p) l.b)) j;
    }
