-- Polynomials in x and y: polynomials in y whose coefficients, the rows, are polynomials in x.
use Rattle.std.specs.Prelude.{◌≡◌, [], ◌∷◌, false}
use Rattle.ff_theory.specs.Ring.{RingOps}
use Rattle.ff_theory.specs.Lawful.{Field}
use Rattle.ff_theory.specs.Poly.{Poly, poly, polynomials}

-- the ring of polynomials in x and y over a field
abbrev pub planes : Field → RingOps
planes K = polynomials (polynomials K.ring)

abbrev pub Plane : Field → Type 0
Plane K = Poly (polynomials K.ring)

-- a polynomial in x as one in x and y
abbrev pub row_of : (R : RingOps) → Poly R → Poly (polynomials R)
row_of R c = poly (polynomials R) (c ∷ [])

-- c * a is q * b + r for some q
pub record IsPseudoDivision (R : RingOps) (c : Poly R) (a b r : Poly (polynomials R)) : Type 0 where
  pub quotient : Poly (polynomials R)
  pub sum : (polynomials (polynomials R)).mul (row_of R c) a
      ≡ (polynomials (polynomials R)).add ((polynomials (polynomials R)).mul quotient b) r

-- g divides N over k(x): some nonzero polynomial in x times N is a multiple of g
pub record IsDivisorOver (R : RingOps) (g N : Poly (polynomials R)) : Type 0 where
  pub scalar : Poly R
  pub nonzero : (polynomials R).same scalar (polynomials R).zero ≡ false
  pub quotient : Poly (polynomials R)
  pub product : (polynomials (polynomials R)).mul (row_of R scalar) N
      ≡ (polynomials (polynomials R)).mul quotient g
