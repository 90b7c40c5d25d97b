-- Factors over k(x) of polynomials in x and y.
use Rattle.std.specs.Prelude.{◌≡◌, ℕ, ◌<◌, ◌≤◌}
use Rattle.ff_theory.specs.Ring.{RingOps}
use Rattle.ff_theory.specs.Poly.{coeff, Poly, polynomials}
use Rattle.ff_theory.specs.Division.{size, leading_coeff}
use Rattle.ff_theory.specs.Planes.{row_of, IsDivisorOver}
use Rattle.ff_theory.specs.Divides.{Divides}

-- d divides each coefficient of g
abbrev pub DividesAll : (R : RingOps) → R.carrier → Poly R → Type 0
DividesAll R d g = (i : ℕ) → Divides R d (coeff R g.coeffs i)

-- no polynomial in x of positive degree divides all rows of g
unfoldable pub IsPrimitive : (k : RingOps) → Poly (polynomials k) → Type 0
IsPrimitive k g = (d : Poly k) → DividesAll (polynomials k) d g → size k d ≤ 1

-- and the leading coefficient of the highest row is 1
pub record IsNormalised (k : RingOps) (g : Poly (polynomials k)) : Type 0 where
  pub primitive : IsPrimitive k g
  pub leading_one : leading_coeff k (leading_coeff (polynomials k) g) ≡ k.one

-- a * g for a polynomial a in x
abbrev pub times_row : (k : RingOps) → Poly k → Poly (polynomials k) → Poly (polynomials k)
times_row k a g = (polynomials (polynomials k)).mul (row_of k a) g

-- g is the polynomial content in x times the normalised part
pub record IsPrimitivePart (k : RingOps) (g : Poly (polynomials k)) (content : Poly k)
    (part : Poly (polynomials k)) : Type 0 where
  pub product : g ≡ times_row k content part
  pub normalised : IsNormalised k part

-- f is a polynomial in x times g times h, both normalised and of positive degree in y
pub record IsFactored (k : RingOps) (f g h : Poly (polynomials k)) : Type 0 where
  pub scalar : Poly k
  pub product : f ≡ times_row k scalar ((polynomials (polynomials k)).mul g h)
  pub left : IsNormalised k g
  pub right : IsNormalised k h
  pub left_degree : 1 < size (polynomials k) g
  pub right_degree : 1 < size (polynomials k) h

-- no polynomial of positive degree in y divides both g and h over k(x)
abbrev pub AreCoprime : (k : RingOps) → Poly (polynomials k) → Poly (polynomials k) → Type 0
AreCoprime k g h = (w : Poly (polynomials k)) → IsDivisorOver k w g → IsDivisorOver k w h
    → size (polynomials k) w ≤ 1
