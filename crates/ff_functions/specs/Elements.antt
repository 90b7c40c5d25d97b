-- The elements that a search for the least functions of a point combines, for an equation f over a
-- field whose laws are L. This project's own.
use Rattle.std.specs.Prelude.{◌≡◌, ℕ, ◌+◌, ◌*◌, ◌<◌, ◌≤◌, ◌⊎◌, pred, List, [], ◌∷◌, ◌++◌, length}
use Rattle.std.specs.Prelude.{map}
use Rattle.std.specs.Prelude.{Bool, true, false}
use Rattle.std.specs.Global.{Vec}
use Rattle.ff_theory.specs.Ring.{Elements, power}
use Rattle.ff_theory.specs.Lawful.{Lawful}
use Rattle.ff_theory.specs.Poly.{coeff, Poly, polynomials}
use Rattle.ff_theory.specs.Division.{size}
use Rattle.ff_theory.specs.Monomial.{raised, variable}
use Rattle.ff_theory.specs.Vector.{vector_of, vectors_of}
use Rattle.ff_charts.specs.Chart.{at_u, at_theta, InPowers}
use Rattle.ff_charts.specs.Lattice.{HasShape}
use Rattle.ff_lin.specs.Space.{rows_of}
use Rattle.ff_elem.specs.Elem.{algebra_in}
use Rattle.ff_data.specs.declared.order.Chart.TheVariants.{Finite, Infinite}
use Rattle.ff_data.specs.declared.order.Order.{Order}
use Rattle.ff_data.specs.Orders.{chart_of, y_degree, slope_of, InOrder}
use Rattle.ff_data.specs.Combinations.{combination_in}
use Rattle.ff_common.specs.Common.{HasVectorOver, IsTimesVector}
use Rattle.ff_functions.specs.Images.{IsShortOver}
use Rattle.ff_functions.specs.declared.frame.Frame.{Frame}

module _ (F : Elements ℕ) where
  -- v has the coefficients of d, from index s on
  abbrev pub IsMultiple : (d : List ℕ) (s : ℕ) → (ℕ → F.carrier) → Type 0
  IsMultiple d s v = (j : ℕ) → v j ≡ coeff F.ring (raised F.ring s (map F.value d)) j

  -- one of the vectors is that of x^b * d in row i, with rows of l coefficients
  abbrev pub HasMultiple : (d : List ℕ) (l i b : ℕ) → List (List ℕ) → Type 0
  HasMultiple d l i b rows = (t : ℕ) × ((t < length rows)
      × IsMultiple d (i * l + b) (vectors_of F rows t))

  -- v is such a vector, where x^b times power i of y' has a pole of order m at most
  pub record IsSmallMultiple (d : List ℕ) (l n m e : ℕ) (v : ℕ → F.carrier) : Type 0 where
    pub row : ℕ
    pub shift : ℕ
    pub below : row < n
    pub small : row * e + shift ≤ m
    pub value : IsMultiple d (row * l + shift) v

  -- Vectors of such multiples: all those of the rows before i, and in row i all below b.
  pub record HoldMultiples (d : List ℕ) (l n m e i b : ℕ) (rows : List (List ℕ)) : Type 0 where
    pub each : (t : ℕ) → t < length rows → IsSmallMultiple d l n m e (vectors_of F rows t)
    pub before : (k c : ℕ) → k < i → k * e + c ≤ m → HasMultiple d l k c rows
    pub last : (c : ℕ) → c < b → i * e + c ≤ m → HasMultiple d l i c rows

  -- with the vector of a multiple at the end where it is wanted
  abbrev pub IsGrown : (d : List ℕ) (s : ℕ) → Bool → (old new : List (Vec ℕ)) → Type 0
  IsGrown d s true old new = (v : Vec ℕ) × ((new ≡ old ++ v ∷ [])
      × IsMultiple d s (vector_of F v.items))
  IsGrown d s false old new = new ≡ old

module _ {F : Elements ℕ} (L : Lawful F) (f : List (List ℕ)) where
  -- the vectors of all multiples up to the order m, and those of a list with rows of `short`
  -- coefficients, with rows of l
  pub record AreNumerators (d : List ℕ) (m short l : ℕ) (vectors rows : List (List ℕ))
      : Type 0 where
    pub each : (t : ℕ) → t < length rows
        → IsSmallMultiple F d l (y_degree L f) m (slope_of L f) (vectors_of F rows t)
        ⊎ ((i : ℕ) × ((i < length vectors) × IsTimesVector L f
        (power (polynomials F.ring) (variable F.ring) 0) short l (vectors_of F vectors i)
        (vectors_of F rows t)))
    pub multiples : (i b : ℕ) → i < y_degree L f → i * slope_of L f + b ≤ m
        → HasMultiple F d l i b rows
    pub vectors_in : (i : ℕ) → i < length vectors → (t : ℕ) × ((t < length rows)
        × IsTimesVector L f (power (polynomials F.ring) (variable F.ring) 0) short l
        (vectors_of F vectors i) (vectors_of F rows t))

  -- where the old vectors are those of all multiples of some d up to some order, the new ones are
  -- the numerators with a list of vectors
  abbrev pub AddsVectors : (short l : ℕ) (vectors old new : List (List ℕ)) → Type 0
  AddsVectors short l vectors old new = (d : List ℕ) (m : ℕ) → HoldMultiples F d l
      (y_degree L f) m (slope_of L f) (y_degree L f) 0 old → AreNumerators d m short l vectors new

  -- w has a numerator over a polynomial in x, with rows that are shorter
  pub record IsProper (w : (algebra_in L f).carrier) : Type 0 where
    pub modulus : Poly F.ring
    pub is_modulus : (chart_of L f Finite).IsModulus modulus
    pub nums : Poly (polynomials F.ring)
    pub shape : HasShape F.ring (chart_of L f Finite).degree (pred (size F.ring modulus)) nums
    pub value : (algebra_in L f).mul (at_u (chart_of L f Finite) modulus) w
        ≡ at_theta (chart_of L f Finite) nums

  -- t^m * w is a polynomial in the generators of the infinite chart
  abbrev pub IsWithinReach : ℕ → (algebra_in L f).carrier → Type 0
  IsWithinReach m w = InPowers (chart_of L f Infinite) ((algebra_in L f).mul
      (at_u (chart_of L f Infinite) (power (polynomials F.ring) (variable F.ring) m)) w)

  -- The elements with the numerators of a frame: they are in the finite order, their images are
  -- whole, and each g of the order for which t^m * (g + r) has no pole, with a proper r, is a
  -- combination of them.
  pub record AreFrameElements (s : Frame) (finite : Order) (m : ℕ)
      (w : ℕ → (algebra_in L f).carrier) : Type 0 where
    pub over : (l : ℕ) → l < length s.numerators.items
        → HasVectorOver L f finite.d s.l (vectors_of F (rows_of s.numerators.items) l) (w l)
    pub short : (l : ℕ) → l < length s.numerators.items
        → IsShortOver L f finite.d s.l s.h (vectors_of F (rows_of s.numerators.items) l)
    pub inside : (l : ℕ) → l < length s.numerators.items → InOrder L f finite (w l)
    pub spanning : (g r : (algebra_in L f).carrier) → InOrder L f finite g → IsProper r
        → IsWithinReach m ((algebra_in L f).add g r) → (c : ℕ → F.carrier)
        × (g ≡ combination_in L f (length s.numerators.items) c w)

  abbrev pub HasFrameElements : Frame → Order → ℕ → Type 0
  HasFrameElements s finite m = (w : ℕ → (algebra_in L f).carrier)
      × AreFrameElements s finite m w
