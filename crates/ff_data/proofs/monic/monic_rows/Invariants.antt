use Rattle.std.proofs.Common.{◌≡◌, ℕ, ◌<◌, ◌-◌, length}
use Rattle.ff_theory.specs.Ring.{power}
use Rattle.ff_theory.specs.Poly.{coeff, polynomials}
use Rattle.ff_theory.specs.Values.{polys_of, ArePolys}
use Rattle.ff_data.proofs.monic.monic_rows.Given as goal

abbrev pub invariant-loop-i : goal.invariant-loop-i
invariant-loop-i g l =
    let F = g.K.Ring.elements l.k in
    let P = polynomials F.ring in
    record {
      each : ArePolys F l.form.items;
      length : length l.form.items ≡ l.i;
      rows : (j : ℕ) → j < l.i → coeff P (polys_of F l.form.items) j
          ≡ P.mul (coeff P (polys_of F l.rows) j) (power P (coeff P (polys_of F l.rows) l.n)
          (l.n - 1 - j));
    }
