-- Parts of vectors as polynomials.
use Rattle.std.specs.Prelude.{◌≡◌, ℕ, ◌+◌, ◌<◌, ◌≤◌}
use Rattle.ff_theory.specs.Ring.{RingOps}
use Rattle.ff_theory.specs.Poly.{coeff, Poly}
use Rattle.ff_theory.specs.Division.{size}

-- the polynomial has at most l coefficients, which are the entries of the vector from at on
pub record IsPart (R : RingOps) (l : ℕ) (v : ℕ → R.carrier) (at : ℕ) (p : Poly R) : Type 0 where
  pub few : size R p ≤ l
  pub value : (j : ℕ) → j < l → coeff R p.coeffs j ≡ v (at + j)
