use Rattle.std.proofs.Common.{◌≡◌, ℕ, ◌+◌, ◌*◌, ◌<◌, length}
use Rattle.ff_theory.specs.Poly.{coeff, polynomials}
use Rattle.ff_theory.specs.Values.{poly_of, polys_of, ArePolys}
use Rattle.ff_data.specs.Quotients.{IsRaisedQuotient}
use Rattle.ff_data.proofs.quotients.raised_quotients.Given as goal

abbrev pub invariant-loop-i : goal.invariant-loop-i
invariant-loop-i g l =
    let F = g.K.Ring.elements l.k in
    let P = polynomials F.ring in
    record {
      each : ArePolys F l.quotients.items;
      len : length l.quotients.items ≡ l.i;
      value : (j : ℕ) → j < l.i → IsRaisedQuotient F (poly_of F l.by) ((l.m + j) * l.e)
          (coeff P (polys_of F l.rows) j) (coeff P (polys_of F l.quotients.items) j);
    }
