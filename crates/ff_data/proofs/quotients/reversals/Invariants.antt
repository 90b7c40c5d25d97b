use Rattle.std.proofs.Common.{◌≡◌, ℕ, ◌<◌, length}
use Rattle.ff_theory.specs.Poly.{coeff, polynomials}
use Rattle.ff_theory.specs.Reversal.{reversal}
use Rattle.ff_theory.specs.Values.{polys_of, ArePolys}
use Rattle.ff_data.proofs.quotients.reversals.Given as goal

abbrev pub invariant-loop-i : goal.invariant-loop-i
invariant-loop-i g l =
    let F = g.K.Ring.elements l.k in
    let P = polynomials F.ring in
    record {
      each : ArePolys F l.reversals.items;
      len : length l.reversals.items ≡ l.i;
      value : (j : ℕ) → j < l.i → coeff P (polys_of F l.reversals.items) j
          ≡ reversal F.ring l.m (coeff P (polys_of F l.rows) j);
    }
