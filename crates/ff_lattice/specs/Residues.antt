-- Planes with each row reduced modulo a polynomial in x, and multiples of such a polynomial.
use Rattle.std.specs.Prelude.{◌≡◌, ℕ, ◌<◌, ◌≤◌}
use Rattle.ff_theory.specs.Ring.{RingOps}
use Rattle.ff_theory.specs.Poly.{coeff, Poly, polynomials}
use Rattle.ff_theory.specs.Division.{size, IsDivision}
use Rattle.ff_theory.specs.Planes.{row_of}

-- r is the remainder of a by b
abbrev pub IsRemainder : (R : RingOps) → (b a r : Poly R) → Type 0
IsRemainder R b a r = (q : Poly R) × IsDivision R a b q r

-- a is m * q
abbrev pub IsMultiple : (R : RingOps) (m : Poly R) (a q : Poly (polynomials R)) → Type 0
IsMultiple R m a q = a ≡ (polynomials (polynomials R)).mul (row_of R m) q

-- a is r + m * q for some q, and r has not more rows than a, each shorter than m
pub record AreResidues (R : RingOps) (m : Poly R) (a r : Poly (polynomials R)) : Type 0 where
  pub quotient : Poly (polynomials R)
  pub sum : a ≡ (polynomials (polynomials R)).add r
      ((polynomials (polynomials R)).mul (row_of R m) quotient)
  pub each : (i : ℕ) → size R (coeff (polynomials R) r.coeffs i) < size R m
  pub rows : size (polynomials R) r ≤ size (polynomials R) a
