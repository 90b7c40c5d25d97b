-- Divisors of rows, and planes divided by them. This project's own.
use Rattle.std.specs.Prelude.{◌≡◌, ℕ, ◌+◌, ◌<◌, pred, List, [], length, get_or, ◌↔◌}
use Rattle.std.specs.Global.{Vec}
use Rattle.ff_theory.specs.Ring.{Elements}
use Rattle.ff_theory.specs.Lawful.{Lawful}
use Rattle.ff_theory.specs.Divides.{Divides}
use Rattle.ff_theory.specs.Poly.{Poly, polynomials}
use Rattle.ff_theory.specs.Planes.{row_of}
use Rattle.ff_theory.specs.Values.{poly_of, plane_of}
use Rattle.ff_theory.specs.Vector.{vectors_of}
use Rattle.ff_charts.specs.Lattice.{HasShape, flat}
use Rattle.ff_lin.specs.Space.{rows_of, SpaceParts, SameSpace}
use Rattle.ff_elem.specs.Elem.{algebra_in}
use Rattle.ff_data.specs.declared.order.Order.{Order}
use Rattle.ff_data.specs.Orders.{InOrder}
use Rattle.ff_fibre.specs.Fibres.{AreCoefficientsOf}

module _ (F : Elements ℕ) where
  -- g divides each row, and each row of each plane
  abbrev pub DividesRows : Poly F.ring → List (List ℕ) → Type 0
  DividesRows g rows = (t : ℕ) → t < length rows
      → Divides (polynomials F.ring) g (poly_of F (get_or rows t []))

  abbrev pub DividesPlanes : Poly F.ring → List (List (List ℕ)) → Type 0
  DividesPlanes g planes = (i : ℕ) → i < length planes → DividesRows g (get_or planes i [])

  -- the planes have the vectors, l coefficients in each of n rows
  abbrev pub HavePlanes : (n l : ℕ) → List (List ℕ) → List (List (List ℕ)) → Type 0
  HavePlanes n l rows planes = (i : ℕ) → i < length rows
      → AreCoefficientsOf F n l (vectors_of F rows i) (get_or planes i [])

  -- as many as vectors of a basis
  pub record AreBasisPlanes (n l : ℕ) (basis : List (List ℕ)) (planes : List (List (List ℕ)))
      : Type 0 where
    pub count : length planes ≡ length basis
    pub value : HavePlanes n l basis planes

  -- the plane is g times a plane of n rows of l coefficients, of which w is the vector
  pub record IsQuotientVector (n l : ℕ) (g : Poly F.ring) (N : Poly (polynomials F.ring))
      (w : ℕ → F.carrier) : Type 0 where
    pub part : Poly (polynomials F.ring)
    pub shape : HasShape F.ring n l part
    pub vector : (j : ℕ) → w j ≡ flat F.ring l part j
    pub product : N ≡ (polynomials (polynomials F.ring)).mul (row_of F.ring g) part

  -- by divides each row, and the rows are shorter than by * m
  pub record HasMultiple (n : ℕ) (by m : List ℕ) (rows : List (List ℕ)) : Type 0 where
    pub divides : DividesRows (poly_of F by) rows
    pub shape : HasShape F.ring n (pred (length by) + pred (length m)) (plane_of F rows)

  abbrev pub HaveMultiples : (n : ℕ) (by m : List ℕ) → List (List (List ℕ)) → Type 0
  HaveMultiples n by m planes = (i : ℕ) → i < length planes
      → HasMultiple n by m (get_or planes i [])

  abbrev pub AreQuotientVectors : (n : ℕ) (by m : List ℕ) → List (List (List ℕ))
      → List (Vec ℕ) → Type 0
  AreQuotientVectors n by m planes rows = (i : ℕ) → i < length planes → IsQuotientVector n
      (pred (length m)) (poly_of F by) (plane_of F (get_or planes i []))
      (vectors_of F (rows_of rows) i)

  -- the span of such vectors
  pub record IsQuotientSpace (n : ℕ) (by m : List ℕ) (planes : List (List (List ℕ)))
      (s : SpaceParts) : Type 0 where
    pub rows : List (Vec ℕ)
    pub len : length rows ≡ length planes
    pub value : AreQuotientVectors n by m planes rows
    pub same : SameSpace F s.basis (rows_of rows)

-- the orders have the same elements
abbrev pub IsSameOrder : {F : Elements ℕ} (L : Lawful F) (f : List (List ℕ)) → Order → Order
    → Type 0
IsSameOrder L f o r = (w : (algebra_in L f).carrier) → InOrder L f r w ↔ InOrder L f o w
