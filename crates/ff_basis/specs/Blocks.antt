-- Blocks of vectors as polynomials, and the elements that are read from them.
use Rattle.std.specs.Prelude.{◌≡◌, ℕ, pred, ◌+◌, ◌-◌, ◌*◌, ◌/◌, ◌%◌, ◌<◌, List, length}
use Rattle.ff_theory.specs.Ring.{RingOps, Elements, power}
use Rattle.ff_theory.specs.Lawful.{Lawful, lawful_field}
use Rattle.ff_theory.specs.Lists.{listed}
use Rattle.ff_theory.specs.Poly.{coeff, Poly, poly, polynomials}
use Rattle.ff_theory.specs.Planes.{row_of}
use Rattle.ff_theory.specs.Sum.{sum_below}
use Rattle.ff_theory.specs.Values.{poly_of, polys_of, plane_of, IsPoly, ArePolys}
use Rattle.ff_theory.specs.LowestTerms.{IsLowest}
use Rattle.ff_theory.specs.Vector.{vectors_of}
use Rattle.ff_theory.specs.Algebra.{value_of}
use Rattle.ff_charts.specs.Chart.{at_u}
use Rattle.ff_charts.specs.Lattice.{flat}
use Rattle.ff_lin.specs.Kernel.{mirror}
use Rattle.ff_elem.specs.Elem.{algebra_in, x_in}
use Rattle.ff_data.specs.declared.order.Chart.{Chart}
use Rattle.ff_data.specs.declared.order.Chart.TheVariants.{Finite, Infinite}
use Rattle.ff_data.specs.declared.order.Order.{Order}
use Rattle.ff_data.specs.Orders.{chart_of, y_degree}

-- the polynomial with the l coefficients v at, v (at + 1), ..
abbrev pub piece : (R : RingOps) → (ℕ → R.carrier) → (at l : ℕ) → Poly R
piece R v at l = poly R (listed l (λ j. v (at + j)))

-- the same from the last coefficient to the first
abbrev pub piece_back : (R : RingOps) → (ℕ → R.carrier) → (at l : ℕ) → Poly R
piece_back R v at l = poly R (listed l (λ j. v (at + (l - 1 - j))))

-- row s of the planes of vectors, with n rows of l coefficients each
abbrev pub row_in : (R : RingOps) → (ℕ → ℕ → R.carrier) → (n l s : ℕ) → Poly R
row_in R b n l s = piece R (b (s / n)) (s % n * l) l

-- entry i of the plane whose first row is row `from`
abbrev pub entry_in : (R : RingOps) → List (Poly R) → (from l i : ℕ) → R.carrier
entry_in R rows from l i = coeff R (coeff (polynomials R) rows (from + i / l)).coeffs (i % l)

-- plane a of rows that come n by n
abbrev pub part_of : (R : RingOps) → List (Poly R) → (n a : ℕ) → Poly (polynomials R)
part_of R rows n a =
    poly (polynomials R) (listed n (λ b. coeff (polynomials R) rows (a * n + b)))

-- the coefficients of that plane, l of each row, from the last row and the highest power down
abbrev pub reversed_part : (R : RingOps) → List (Poly R) → (n l a : ℕ) → ℕ → R.carrier
reversed_part R rows n l a j = flat R l (part_of R rows n a) (mirror (n * l) j)

-- block b of l entries of a vector, which lists coefficients from the last one, as a polynomial in
-- x: in the infinite chart its value at x is that of the row of numerators at 1/x times x^(l - 1)
abbrev pub block : (R : RingOps) → Chart → (ℕ → R.carrier) → (l b : ℕ) → Poly R
block R Finite v l b = piece_back R v (b * l) l
block R Infinite v l b = piece R v (b * l) l

module _ {F : Elements ℕ} (L : Lawful F) (f : List (List ℕ)) where
  -- the rows over den are the rows of the vectors of an order over its d, in lowest terms
  pub record AreLowestRows (o : Order) (den : List ℕ) (rows : List (List ℕ)) : Type 0 where
    pub denominator : IsPoly F den
    pub each : ArePolys F rows
    pub count : length rows ≡ length o.space.basis * y_degree L f
    pub lowest : IsLowest (lawful_field L) (length rows) (poly_of F den) (polys_of F rows)
    pub equal : (s : ℕ) → s < length rows
        → (polynomials F.ring).mul (coeff (polynomials F.ring) (polys_of F rows) s) (poly_of F o.d)
        ≡ (polynomials F.ring).mul
        (row_in F.ring (vectors_of F o.space.basis) (y_degree L f) (pred (length o.d)) s)
        (poly_of F den)

module _ {F : Elements ℕ} (L : Lawful F) (f : List (List ℕ)) (chart : Chart) where
  -- block b as an element
  abbrev pub block_value : (ℕ → F.carrier) → (l b : ℕ) → (algebra_in L f).carrier
  block_value v l b = value_of (lawful_field L) (plane_of F f)
      (row_of F.ring (block F.ring chart v l b))

  -- the sum of the blocks, the last of n times 1, the one before it times theta, and so on
  abbrev pub sum_of_blocks : (algebra_in L f).carrier → (ℕ → F.carrier) → (l n : ℕ)
      → (algebra_in L f).carrier
  sum_of_blocks theta v l n = sum_below (algebra_in L f) n (λ i. (algebra_in L f).mul
      (block_value v l (n - 1 - i)) (power (algebra_in L f) theta i))

-- what the sum is multiplied by: the inverse of D, and x
abbrev pub IsFactor : {F : Elements ℕ} (L : Lawful F) (f : List (List ℕ)) → Chart → Poly F.ring
    → (algebra_in L f).carrier → Type 0
IsFactor L f Finite D w = (algebra_in L f).mul (at_u (chart_of L f Finite) D) w
    ≡ (algebra_in L f).one
IsFactor L f Infinite D w = w ≡ x_in L f
