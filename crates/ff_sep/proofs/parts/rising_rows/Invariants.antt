use Rattle.std.proofs.Common.{◌≡◌, ℕ, ◌<◌, length}
use Rattle.ff_theory.specs.Poly.{coeff, polynomials}
use Rattle.ff_theory.specs.Values.{polys_of, ArePolys}
use Rattle.ff_sep.proofs.parts.rising_rows.Given as goal

abbrev pub invariant-loop-i : goal.invariant-loop-i
invariant-loop-i g l =
    let F = g.K.Ring.elements l.k in
    record {
      each : ArePolys F l.products.items;
      length : length l.products.items ≡ l.i;
      rows : (j : ℕ) → j < l.i → coeff (polynomials F.ring) (polys_of F l.products.items) j
          ≡ (polynomials F.ring).mul (coeff (polynomials F.ring) (polys_of F l.rows) j)
          (coeff (polynomials F.ring) (polys_of F l.powers) (j));
    }
