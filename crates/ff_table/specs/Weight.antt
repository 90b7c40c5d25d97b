-- Weights of coordinates over k[z].
use Rattle.std.specs.Prelude.{◌≡◌, ℕ, zero, suc, max, ◌+◌, ◌*◌, ◌<◌, ◌≤◌}
use Rattle.ff_theory.specs.Ring.{RingOps}
use Rattle.ff_theory.specs.Poly.{coeff, Poly}
use Rattle.ff_theory.specs.Division.{size}

-- The coefficient of z^d in coordinate l stands at the level e * d + m l.

-- the coefficients of z^d with n <= e * d + s are zero
abbrev pub IsUnder : (k : RingOps) → ℕ → ℕ → ℕ → Poly k → Type 0
IsUnder k e s n p = (d : ℕ) → n ≤ e * d + s → coeff k p.coeffs d ≡ k.zero

-- the coefficients at the levels from n on are zero: c is zero or its weight is below n
abbrev pub IsBelow : (k : RingOps) → ℕ → (ℕ → ℕ) → ℕ → (ℕ → Poly k) → Type 0
IsBelow k e m n c = (l : ℕ) → l < e → IsUnder k e (m l) n (c l)

-- w is the greatest level at which c has a coefficient that is not zero
pub record HasWeight (k : RingOps) (e : ℕ) (m : ℕ → ℕ) (c : ℕ → Poly k) (w : ℕ) : Type 0 where
  pub place : ℕ
  pub degree : ℕ
  pub in_range : place < e
  pub level : w ≡ e * degree + m place
  pub nonzero : ¬ (coeff k (c place).coeffs degree ≡ k.zero)
  pub below : IsBelow k e m (suc w) c

-- the level of the leading coefficient of a polynomial with that many coefficients
abbrev pub top_level : ℕ → ℕ → ℕ → ℕ
top_level e s zero = 0
top_level e s (suc d) = e * d + s

-- the greatest of the weights of the coordinates below n that are not zero, and 0 without any
abbrev pub weight_below : (k : RingOps) → ℕ → (ℕ → ℕ) → (ℕ → Poly k) → ℕ → ℕ
weight_below k e m c zero = 0
weight_below k e m c (suc l) = max (weight_below k e m c l) (top_level e (m l) (size k (c l)))
