-- Lists of values that stand for polynomials, and lists of such lists for polynomials in x and y.
use Rattle.std.specs.Prelude.{ℕ, List, [], ◌∷◌, ◌-◌, length, map, max, IsTrue}
use Rattle.std.specs.List.{All}
use Rattle.ff_theory.specs.Ring.{RingOps, Elements, IsElement}
use Rattle.ff_theory.specs.Poly.{coeff, Poly, poly, polynomials, ends_in_nonzero}

-- the ring of polynomials in x over a field, and that of polynomials in x and y
abbrev pub polys_over : {E : Type 0} → Elements E → RingOps
polys_over K = polynomials K.ring

abbrev pub planes_over : {E : Type 0} → Elements E → RingOps
planes_over K = polynomials (polynomials K.ring)

-- the polynomial that a list of values stands for
abbrev pub poly_of : {E : Type 0} → (K : Elements E) → List E → Poly K.ring
poly_of K p = poly K.ring (map K.value p)

-- each value stands for an element, and the last one not for zero
pub record IsPoly {E : Type 0} (K : Elements E) (p : List E) : Type 0 where
  pub each : All (IsElement K) p
  pub canonical : IsTrue (ends_in_nonzero K.ring (map K.value p))

-- the same for each list
abbrev pub ArePolys : {E : Type 0} → Elements E → List (List E) → Type 0
ArePolys K rows = All (λ p. IsPoly K p) rows

-- the value at the end of a list, which is the leading coefficient, and 0 for the polynomial 0
abbrev pub leading : {E : Type 0} → (K : Elements E) → List E → K.carrier
leading K p = coeff K.ring (map K.value p) (length p - 1)

-- the polynomials that lists of values stand for
abbrev pub polys_of : {E : Type 0} → (K : Elements E) → List (List E) → List (Poly K.ring)
polys_of K rows = map (λ p. poly_of K p) rows

-- their products with b
abbrev pub products_with : {E : Type 0} → (K : Elements E) → Poly K.ring → List (List E)
    → List (Poly K.ring)
products_with K b rows = map (λ p. (polynomials K.ring).mul (poly_of K p) b) rows

-- the polynomial in x and y that a list of rows stands for
abbrev pub plane_of : {E : Type 0} → (K : Elements E) → List (List E) → Poly (polynomials K.ring)
plane_of K rows = poly (polynomials K.ring) (map (λ p. poly_of K p) rows)

-- the rows stand for polynomials, and the last one not for zero
pub record IsPlane {E : Type 0} (K : Elements E) (rows : List (List E)) : Type 0 where
  pub each : All (λ p. IsPoly K p) rows
  pub canonical : IsTrue (ends_in_nonzero (polynomials K.ring) (map (λ p. poly_of K p) rows))

-- the greatest number of coefficients of a row: the degree in x plus one, and 0 for 0
abbrev pub x_size : {E : Type 0} → List (List E) → ℕ
x_size [] = 0
x_size (p ∷ rows) = max (length p) (x_size rows)
