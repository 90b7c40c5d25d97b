-- Elements of E(f) by numerators in powers of y' over one denominator, for an equation f over a
-- field whose laws are L. This project's own.
use Rattle.std.specs.Prelude.{◌≡◌, ℕ, ◌+◌, ◌*◌, ◌-◌, ◌/◌, ◌%◌, ◌<◌, ◌≤◌, ◌↔◌, List, length, get_or}
use Rattle.std.specs.Global.{Vec}
use Rattle.ff_theory.specs.Ring.{Elements, power}
use Rattle.ff_theory.specs.Lawful.{Lawful}
use Rattle.ff_theory.specs.Poly.{coeff, Poly, polynomials}
use Rattle.ff_theory.specs.Division.{size}
use Rattle.ff_theory.specs.Reversal.{reversal}
use Rattle.ff_theory.specs.Span.{EndsAt}
use Rattle.ff_theory.specs.Monomial.{variable}
use Rattle.ff_theory.specs.Planes.{row_of}
use Rattle.ff_theory.specs.Values.{poly_of, polys_of, ArePolys}
use Rattle.ff_theory.specs.Vector.{vectors_of}
use Rattle.ff_charts.specs.Chart.{at_u, at_theta}
use Rattle.ff_charts.specs.Lattice.{HasShape, flat, IsResidue, IsTimes}
use Rattle.ff_lin.specs.Space.{SpaceParts, IsSpaceOf, InSpace}
use Rattle.ff_elem.specs.declared.elem.Elem.{Elem}
use Rattle.ff_elem.specs.Elem.{algebra_in}
use Rattle.ff_data.specs.declared.order.Chart.TheVariants.{Finite, Infinite}
use Rattle.ff_data.specs.Orders.{chart_of, y_degree, slope_of, InResidues}
use Rattle.ff_data.specs.Lattices.{InLatticeOf}
use Rattle.ff_data.specs.Quotients.{IsRaisedQuotient}
use Rattle.ff_data.specs.Combinations.{AreElems, elems_of}

-- at most n polynomials
pub record AreRowsWithin (F : Elements ℕ) (n : ℕ) (rows : List (List ℕ)) : Type 0 where
  pub polys : ArePolys F rows
  pub few : length rows ≤ n

-- the vector is that of the reversals up to t^(h - 1) of the rows
pub record IsReversed (F : Elements ℕ) (h : ℕ) (rows : List (List ℕ)) (image : ℕ → F.carrier)
    : Type 0 where
  pub plane : Poly (polynomials F.ring)
  pub few : size (polynomials F.ring) plane ≤ length rows
  pub each : (i : ℕ) → i < length rows → coeff (polynomials F.ring) plane.coeffs i
      ≡ reversal F.ring (h - 1) (coeff (polynomials F.ring) (polys_of F rows) i)
  pub image_is : (i : ℕ) → image i ≡ flat F.ring h plane i

-- each vector is that of the reversals of the rows of the same index
abbrev pub AreReversed : (F : Elements ℕ) (h : ℕ) (lists : List (Vec (List ℕ)))
    (images : List (List ℕ)) → Type 0
AreReversed F h lists images = (i : ℕ) (d : Vec (List ℕ)) → i < length lists
    → IsReversed F h (get_or lists i d).items (vectors_of F images i)

-- entry j of a vector with rows of w coefficients is one of the first w - i * e of row i
abbrev pub IsShortAt : (w e j : ℕ) → Type 0
IsShortAt w e j = (j % w) + (j / w) * e < w

-- the space has each vector of length n whose other entries are 0
abbrev pub HasShortRows : (F : Elements ℕ) (n w e : ℕ) (s : SpaceParts) → Type 0
HasShortRows F n w e s = (v : ℕ → F.carrier) → EndsAt F.ring n v
    → ((j : ℕ) → ¬ IsShortAt w e j → v j ≡ F.zero) → InSpace F s v

module _ {F : Elements ℕ} (L : Lawful F) (f : List (List ℕ)) where
  -- d * w is the plane N at x and y'
  abbrev pub IsOver : List ℕ → Poly (polynomials F.ring) → (algebra_in L f).carrier → Type 0
  IsOver d N w = (algebra_in L f).mul (at_u (chart_of L f Finite) (poly_of F d)) w
      ≡ at_theta (chart_of L f Finite) N

  -- w has a numerator over d with the shape and its vector in the space
  pub record HasNumerator (d : List ℕ) (l : ℕ) (s : SpaceParts)
      (w : (algebra_in L f).carrier) : Type 0 where
    pub plane : Poly (polynomials F.ring)
    pub shape : HasShape F.ring (chart_of L f Finite).degree l plane
    pub is_in : InResidues F l s plane
    pub over : IsOver d plane w

  -- The space has the numerators over d, with rows of length l, of all elements with the property
  -- P, and only of elements with the property Q.
  pub record HoldsNumerators (d : List ℕ) (l : ℕ) (P Q : (algebra_in L f).carrier → Type 0)
      (s : SpaceParts) : Type 0 where
    pub space : IsSpaceOf F (y_degree L f * l) s
    pub each : (w : (algebra_in L f).carrier) → HasNumerator d l s w → Q w
    pub whole : (w : (algebra_in L f).carrier) → P w → HasNumerator d l s w

  -- the vector of the residue modulo t^j of t^j * w, for w with the numerator whose vector is v
  pub record IsImage (d : List ℕ) (l j : ℕ) (v image : ℕ → F.carrier) : Type 0 where
    pub plane : Poly (polynomials F.ring)
    pub shape : HasShape F.ring (chart_of L f Finite).degree l plane
    pub vector : (i : ℕ) → flat F.ring l plane i ≡ v i
    pub residue : Poly (polynomials F.ring)
    pub is_residue : (w : (algebra_in L f).carrier) → IsOver d plane w
        → IsResidue (chart_of L f Infinite) (power (polynomials F.ring) (variable F.ring) j)
        ((algebra_in L f).mul (at_u (chart_of L f Infinite)
        (power (polynomials F.ring) (variable F.ring) j)) w) residue
    pub image_is : (i : ℕ) → image i ≡ flat F.ring j residue i

  abbrev pub AreImages : (d : List ℕ) (l j : ℕ) (basis images : List (List ℕ)) → Type 0
  AreImages d l j basis images = (i : ℕ) → i < length basis
      → IsImage d l j (vectors_of F basis i) (vectors_of F images i)

  -- w has the numerator over d whose vector is v
  abbrev pub HasVectorOver : (d : List ℕ) (l : ℕ) → (ℕ → F.carrier) → (algebra_in L f).carrier
      → Type 0
  HasVectorOver d l v w = (N : Poly (polynomials F.ring))
      × (HasShape F.ring (chart_of L f Finite).degree l N
      × (((j : ℕ) → flat F.ring l N j ≡ v j) × IsOver d N w))

  -- each element has the numerator over d whose vector is that of the same index
  pub record AreQuotientsBy (d : List ℕ) (l : ℕ) (basis : List (List ℕ)) (ws : List Elem)
      : Type 0 where
    pub elems : AreElems L f ws
    pub count : length ws ≡ length basis
    pub each : (i : ℕ) → i < length basis
        → HasVectorOver d l (vectors_of F basis i) (elems_of L f ws i)

  -- the vector, with rows of length h, of the product with g of the plane with the vector v
  abbrev pub IsTimesVector : (g : Poly F.ring) (m h : ℕ) → (v row : ℕ → F.carrier) → Type 0
  IsTimesVector g m h v row = (N : Poly (polynomials F.ring))
      × (HasShape F.ring (chart_of L f Finite).degree m N
      × (((j : ℕ) → flat F.ring m N j ≡ v j) × ((j : ℕ) → row j
      ≡ flat F.ring h ((polynomials (polynomials F.ring)).mul (row_of F.ring g) N) j)))

  -- the space of rows of length h has the products with g of the planes of the other one, whose
  -- rows have length m
  abbrev pub IsTimesSpace : (g : Poly F.ring) (m h : ℕ) (old new : SpaceParts) → Type 0
  IsTimesSpace g m h old new = (M : Poly (polynomials F.ring))
      → HasShape F.ring (chart_of L f Finite).degree h M → InResidues F h new M
      ↔ IsTimes F.ring (chart_of L f Finite).degree m g (InResidues F m old) M

  -- The space has multiples of d alone, and those by planes whose row i has at most w - i * e
  -- coefficients, with e the slope.
  pub record HoldsMultiples (d : List ℕ) (w l : ℕ) (s : SpaceParts) : Type 0 where
    pub space : IsSpaceOf F (y_degree L f * l) s
    pub only : (N : Poly (polynomials F.ring)) → HasShape F.ring (chart_of L f Finite).degree l N
        → InResidues F l s N → (q : Poly (polynomials F.ring))
        × (N ≡ (polynomials (polynomials F.ring)).mul (row_of F.ring (poly_of F d)) q)
    pub whole : (q : Poly (polynomials F.ring))
        → size (polynomials F.ring) q ≤ (chart_of L f Finite).degree
        → ((i : ℕ) → size F.ring (coeff (polynomials F.ring) q.coeffs i) ≤ w - i * slope_of L f)
        → InResidues F l s
        ((polynomials (polynomials F.ring)).mul (row_of F.ring (poly_of F d)) q)

  -- For the plane with the vector v: row i of q is the quotient by b of x^(i * e) times the plane's
  -- row i, with e the slope.
  pub record AreQuotients (b : Poly F.ring) (l : ℕ) (v : ℕ → F.carrier) (q : List (List ℕ))
      : Type 0 where
    pub plane : Poly (polynomials F.ring)
    pub shape : HasShape F.ring (chart_of L f Finite).degree l plane
    pub vector : (i : ℕ) → flat F.ring l plane i ≡ v i
    pub rows : AreRowsWithin F (y_degree L f) q
    pub whole : size (polynomials F.ring) plane ≤ length q
    pub each : (i : ℕ) → i < length q → IsRaisedQuotient F b (i * slope_of L f)
        (coeff (polynomials F.ring) plane.coeffs i) (coeff (polynomials F.ring) (polys_of F q) i)

  -- the same for each of the vectors and the list of the same index
  pub record AreQuotientLists (b : Poly F.ring) (l : ℕ) (vectors : List (List ℕ))
      (lists : List (Vec (List ℕ))) : Type 0 where
    pub count : length lists ≡ length vectors
    pub each : (i : ℕ) (d : Vec (List ℕ)) → i < length vectors
        → AreQuotients b l (vectors_of F vectors i) (get_or lists i d).items

  -- each numerator with the vector v is that of an element of the infinite lattice of t and o
  abbrev pub AtInfinity : (d : List ℕ) (l : ℕ) (t : List ℕ) (o : SpaceParts) → (ℕ → F.carrier)
      → Type 0
  AtInfinity d l t o v = (N : Poly (polynomials F.ring))
      → HasShape F.ring (chart_of L f Finite).degree l N → ((i : ℕ) → flat F.ring l N i ≡ v i)
      → (w : (algebra_in L f).carrier) → IsOver d N w → InLatticeOf L f Infinite t o w
