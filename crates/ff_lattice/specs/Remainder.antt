-- Division of a polynomial in x and y by a monic one.
use Rattle.std.specs.Prelude.{◌≡◌, ◌-◌, length}
use Rattle.ff_theory.specs.Ring.{RingOps}
use Rattle.ff_theory.specs.Poly.{coeff, Poly, polynomials}

-- the leading coefficient is 1
abbrev pub IsMonic : (R : RingOps) → Poly R → Type 0
IsMonic R b = coeff R b.coeffs (length b.coeffs - 1) ≡ R.one

-- a is q * b + r for some q
pub record IsCongruent (R : RingOps) (b a r : Poly R) : Type 0 where
  pub quotient : Poly R
  pub sum : a ≡ (polynomials R).add ((polynomials R).mul quotient b) r
