-- Orders of polynomials, given by their lists of coefficients, at elements.
use Rattle.std.specs.Prelude.{◌≡◌, ℕ, ◌<◌, List}
use Rattle.ff_theory.specs.Ring.{RingOps}
use Rattle.ff_theory.specs.Poly.{coeff}
use Rattle.ff_table.specs.Shift.{shift}

-- r is the index of the first coefficient of p(c + Z) that is not zero
pub record HasOrder (R : RingOps) (p : List R.carrier) (c : R.carrier) (r : ℕ) : Type 0 where
  pub below : (i : ℕ) → i < r → coeff R (shift R c p) i ≡ R.zero
  pub nonzero : ¬ (coeff R (shift R c p) r ≡ R.zero)
