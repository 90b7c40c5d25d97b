-- Monic forms of polynomials.
use Rattle.std.specs.Prelude.{◌-◌, List, [], ◌∷◌, length, map}
use Rattle.ff_theory.specs.Ring.{RingOps, power}
use Rattle.ff_theory.specs.Poly.{coeff, Poly, poly, polynomials}

-- each row times a power of `top`, by the number of rows between it and the last one;
-- 1 in place of the last one
abbrev pub monic_rows : (R : RingOps) → R.carrier → List R.carrier → List R.carrier
monic_rows R top [] = []
monic_rows R top (a ∷ []) = R.one ∷ []
monic_rows R top (a ∷ b ∷ rows) = R.mul a (power R top (length rows)) ∷ monic_rows R top (b ∷ rows)

-- the monic form: row i is a_i * a_n ^ (n - 1 - i) below the leading row a_n of f, and row n is 1
unfoldable pub monic_form : (R : RingOps) → Poly R → Poly R
monic_form R f = poly R (monic_rows R (coeff R f.coeffs (length f.coeffs - 1)) f.coeffs)

-- the coefficient lists of the rows
abbrev pub rows_of : (R : RingOps) → Poly (polynomials R) → List (List R.carrier)
rows_of R f = map (λ p. p.coeffs) f.coeffs
