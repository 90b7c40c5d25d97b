use Rattle.std.proofs.Common.{◌≡◌, ℕ, ◌<◌, ◌-◌, length, map, All}
use Rattle.ff_theory.specs.Ring.{power}
use Rattle.ff_theory.specs.Poly.{coeff, polynomials}
use Rattle.ff_theory.specs.Values.{poly_of, IsPoly}
use Rattle.ff_poly.proofs.monic.monic_rows.Given as goal

abbrev pub invariant-loop-i : goal.invariant-loop-i
invariant-loop-i g l =
    let K = g.K.Ring.elements l.k in
    record {
      each : All (λ p. IsPoly K p) l.form.items;
      length : length l.form.items ≡ l.i;
      rows : (j : ℕ) → j < l.i → coeff (polynomials K.ring) (map (λ p. poly_of K p) l.form.items) j
          ≡ (polynomials K.ring).mul (coeff (polynomials K.ring) (map (λ p. poly_of K p) l.rows) j)
          (power (polynomials K.ring) (coeff (polynomials K.ring) (map (λ p. poly_of K p) l.rows)
          l.n) (l.n - 1 - j));
    }
