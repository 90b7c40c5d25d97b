-- Quotients of polynomials times powers of the variable.
use Rattle.std.specs.Prelude.{ℕ}
use Rattle.ff_theory.specs.Ring.{Elements, power}
use Rattle.ff_theory.specs.Poly.{Poly, polynomials}
use Rattle.ff_theory.specs.Division.{IsDivision}
use Rattle.ff_theory.specs.Monomial.{variable}

-- q is the quotient of x^h * row by b
abbrev pub IsRaisedQuotient : (F : Elements ℕ) (b : Poly F.ring) (h : ℕ) (row q : Poly F.ring)
    → Type 0
IsRaisedQuotient F b h row q = (s : Poly F.ring) × IsDivision F.ring
    ((polynomials F.ring).mul (power (polynomials F.ring) (variable F.ring) h) row) b q s
