use Rattle.std.proofs.Common.{◌≡◌, ℕ, ◌<◌, length, All}
use Rattle.ff_theory.specs.Ring.{IsElement}
use Rattle.ff_theory.specs.Poly.{coeff}
use Rattle.ff_theory.specs.Vector.{vector_of}
use Rattle.ff_theory.specs.Values.{poly_of}
use Rattle.ff_order.proofs.level.coefficients.Given as goal

abbrev pub invariant-loop-j : goal.invariant-loop-j
invariant-loop-j g l =
    let F = g.K.Ring.elements l.k in
    record {
      len : length l.v.items ≡ l.j;
      each : All (IsElement F) l.v.items;
      value : (i : ℕ) → i < l.j → vector_of F l.v.items i
          ≡ coeff F.ring (poly_of F l.p).coeffs i;
    }
