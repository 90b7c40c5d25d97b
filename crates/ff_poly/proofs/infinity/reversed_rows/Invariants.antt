use Rattle.std.proofs.Common.{◌≡◌, ℕ, ◌-◌, ◌*◌, ◌<◌, length}
use Rattle.ff_theory.specs.Poly.{coeff, polynomials}
use Rattle.ff_theory.specs.Reversal.{reversal}
use Rattle.ff_theory.specs.Values.{polys_of, ArePolys}
use Rattle.ff_poly.proofs.infinity.reversed_rows.Given as goal

abbrev pub invariant-loop-i : goal.invariant-loop-i
invariant-loop-i g l =
    let K = g.K.Ring.elements l.k in
    let P = polynomials K.ring in
    record {
      len : length l.reversed.items ≡ l.i;
      each : ArePolys K l.reversed.items;
      rows : (j : ℕ) → j < l.i → coeff P (polys_of K l.reversed.items) j
          ≡ reversal K.ring ((l.n - j) * l.e) (coeff P (polys_of K l.rows) j);
    }
