-- Polynomials in 1/t: the reversal of coefficients, and the least e for which the rows fit.
use Rattle.std.specs.Prelude.{ℕ, zero, suc, pred, max, ◌+◌, ◌-◌, ◌*◌, ◌/◌, ◌<◌, ◌≤◌}
use Rattle.ff_theory.specs.Ring.{RingOps}
use Rattle.ff_theory.specs.Lists.{listed}
use Rattle.ff_theory.specs.Poly.{coeff, Poly, poly, polynomials}
use Rattle.ff_theory.specs.Division.{size}

-- t^m * h(1/t), where h has at most m + 1 coefficients
unfoldable pub reversal : (k : RingOps) → ℕ → Poly k → Poly k
reversal k m h = poly k (listed (suc m) (λ i. coeff k h.coeffs (m - i)))

-- row i is t^((n - i) * e) * F_i(1/t)
unfoldable pub reversed : (k : RingOps) → ℕ → ℕ → Poly (polynomials k) → Poly (polynomials k)
reversed k n e F = poly (polynomials k)
    (listed (suc n) (λ i. reversal k ((n - i) * e) (coeff (polynomials k) F.coeffs i)))

-- row i has degree at most (n - i) * e for each i below n
abbrev pub Fits : (k : RingOps) → ℕ → Poly (polynomials k) → ℕ → Type 0
Fits k n F e = (i : ℕ) → i < n → size k (coeff (polynomials k) F.coeffs i) ≤ suc ((n - i) * e)

-- and e is the least such number
pub record IsSlope (k : RingOps) (n : ℕ) (F : Poly (polynomials k)) (e : ℕ) : Type 0 where
  pub fits : Fits k n F e
  pub least : (d : ℕ) → Fits k n F d → e ≤ d

-- the least number whose product with b is at least a, for b above 0
abbrev pub quotient_up : ℕ → ℕ → ℕ
quotient_up a b = (a + (b - 1)) / b

-- the least e for which the rows below row i fit, and for which all rows below row n do
abbrev pub slope_below : (k : RingOps) → ℕ → Poly (polynomials k) → ℕ → ℕ
slope_below k n F zero = 0
slope_below k n F (suc i) = max (slope_below k n F i)
    (quotient_up (pred (size k (coeff (polynomials k) F.coeffs i))) (n - i))

abbrev pub slope : (k : RingOps) → ℕ → Poly (polynomials k) → ℕ
slope k n F = slope_below k n F n
