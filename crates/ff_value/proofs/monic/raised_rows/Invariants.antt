use Rattle.std.proofs.Common.{◌≡◌, ℕ, ◌-◌, ◌<◌, length}
use Rattle.ff_theory.specs.Ring.{power}
use Rattle.ff_theory.specs.Poly.{coeff, polynomials}
use Rattle.ff_theory.specs.Values.{poly_of, polys_of, ArePolys}
use Rattle.ff_value.proofs.monic.raised_rows.Given as goal

abbrev pub invariant-loop-i : goal.invariant-loop-i
invariant-loop-i g l =
    let F = g.K.Ring.elements l.k in
    let P = polynomials F.ring in
    record {
      each : ArePolys F l.list.items;
      len : length l.list.items ≡ l.i;
      value : (j : ℕ) → j < l.i → coeff P (polys_of F l.list.items) j
          ≡ P.mul (coeff P (polys_of F l.rows) j) (power P (poly_of F l.base)
          (length l.rows - j));
    }
