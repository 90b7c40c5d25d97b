use Rattle.std.proofs.Common.{◌≡◌, ℕ, ◌<◌, length}
use Rattle.ff_theory.specs.Poly.{coeff}
use Rattle.ff_theory.specs.Values.{poly_of, polys_over, polys_of, ArePolys}
use Rattle.ff_order.proofs.closure.quotients.Given as goal

abbrev pub invariant-loop-p : goal.invariant-loop-p
invariant-loop-p g l =
    let F = g.K.Ring.elements l.k in
    let P = polys_over F in
    record {
      len : length l.quotients.items ≡ l.p-index;
      each : ArePolys F l.quotients.items;
      value : (i : ℕ) → i < l.p-index → coeff P (polys_of F l.rows) i
          ≡ P.mul (poly_of F l.d) (coeff P (polys_of F l.quotients.items) i);
    }
