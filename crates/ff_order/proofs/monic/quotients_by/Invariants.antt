use Rattle.std.proofs.Common.{◌≡◌, ℕ, ◌<◌, length}
use Rattle.ff_theory.specs.Ring.{power}
use Rattle.ff_theory.specs.Poly.{coeff, Poly, polynomials}
use Rattle.ff_theory.specs.Division.{IsDivision}
use Rattle.ff_theory.specs.Values.{poly_of, polys_of, ArePolys}
use Rattle.ff_order.proofs.monic.quotients_by.Given as goal

abbrev pub invariant-loop-i : goal.invariant-loop-i
invariant-loop-i g l =
    let F = g.K.Ring.elements l.k in
    let P = polynomials F.ring in
    record {
      each : ArePolys F l.quotients.items;
      len : length l.quotients.items ≡ l.i;
      value : (j : ℕ) → j < l.i → (s : Poly F.ring) × IsDivision F.ring
          (coeff P (polys_of F l.rows) j)
          (P.mul (poly_of F l.den) (power P (poly_of F l.lead) j))
          (coeff P (polys_of F l.quotients.items) j) s;
    }
