use Rattle.std.proofs.Common.{◌≡◌, ℕ, ◌<◌, length}
use Rattle.ff_theory.specs.Ring.{power}
use Rattle.ff_theory.specs.Poly.{coeff, polynomials}
use Rattle.ff_theory.specs.Values.{poly_of, polys_of, ArePolys}
use Rattle.ff_common.proofs.numerators.rows_in_y.Given as goal

abbrev pub invariant-loop-i : goal.invariant-loop-i
invariant-loop-i g l =
    let F = g.K.Ring.elements l.alg.k in
    let P = polynomials F.ring in
    record {
      each : ArePolys F l.list.items;
      len : length l.list.items ≡ l.i;
      value : (j : ℕ) → j < l.i → coeff P (polys_of F l.list.items) j
          ≡ P.mul (coeff P (polys_of F l.rows) j) (power P (poly_of F l.lead) j);
    }
