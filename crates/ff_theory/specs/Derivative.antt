-- The derivative of a polynomial.
use Rattle.std.specs.Prelude.{suc, pred}
use Rattle.ff_theory.specs.Ring.{RingOps, multiple}
use Rattle.ff_theory.specs.Poly.{coeff, Poly, poly}
use Rattle.ff_theory.specs.Division.{size}
use Rattle.ff_theory.specs.Lists.{listed}

-- coefficient i of the derivative is i + 1 times coefficient i + 1
unfoldable pub derivative : (R : RingOps) → Poly R → Poly R
derivative R p = poly R
    (listed (pred (size R p)) (λ i. multiple R (suc i) (coeff R p.coeffs (suc i))))
