-- The columns of a polynomial in x and y, and sums of products with polynomials in x.
use Rattle.std.specs.Prelude.{ℕ, ◌+◌, List, [], ◌∷◌, length, map, slice_index_or as get_or}
use Rattle.ff_theory.specs.Ring.{RingOps, Elements, power}
use Rattle.ff_theory.specs.Lawful.{Field, Lawful, lawful_field}
use Rattle.ff_theory.specs.Sum.{sum_below}
use Rattle.ff_theory.specs.Poly.{coeff, Poly, poly, polynomials}
use Rattle.ff_theory.specs.Planes.{Plane, row_of}
use Rattle.ff_theory.specs.Algebra.{algebra_of, constant}
use Rattle.ff_theory.specs.Values.{plane_of}
use Rattle.ff_elem.specs.Elem.{algebra_in}

-- the coefficients of x^i in the first n rows, times the powers of Y
abbrev pub column_of : (K : Field) (g : Plane K) → (algebra_of K g).carrier → Plane K → ℕ → ℕ
    → (algebra_of K g).carrier
column_of K g Y N n i = sum_below (algebra_of K g) n
    (λ j. (algebra_of K g).mul (constant K g (coeff K.ring (coeff (polynomials K.ring) N.coeffs
    j).coeffs i)) (power (algebra_of K g) Y j))

-- the like of all rows in code
abbrev pub column_in : {K : Elements ℕ} (L : Lawful K) (g rows : List (List ℕ))
    → (algebra_in L g).carrier → ℕ → (algebra_in L g).carrier
column_in {K} L g rows Y i = column_of (lawful_field L) (plane_of K g) Y (plane_of K rows)
    (length rows) i

-- c 0 * P 0 + .. + c (n-1) * P (n-1), for polynomials c j in x and P j in x and y
abbrev pub plane_combination : (R : RingOps) → ℕ → (ℕ → Poly R) → (ℕ → Poly (polynomials R))
    → Poly (polynomials R)
plane_combination R n c P = sum_below (polynomials (polynomials R)) n
    (λ j. (polynomials (polynomials R)).mul (row_of R (c j)) (P j))

-- the coefficient of x^i in row j, as a polynomial in x
abbrev pub constant_at : (K : Elements ℕ) → List (List ℕ) → ℕ → ℕ → Poly K.ring
constant_at K rows i j = poly K.ring (coeff K.ring (map K.value (get_or rows j [])) i ∷ [])

-- the coefficient of x^(i + j), as a polynomial in x
abbrev pub constant_after : (K : Elements ℕ) → List ℕ → ℕ → ℕ → Poly K.ring
constant_after K p i j = poly K.ring (coeff K.ring (map K.value p) (i + j) ∷ [])
