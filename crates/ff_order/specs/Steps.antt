-- Residues of products, rows of residues, and the spaces of the descent, for an equation f over a
-- field whose laws are L.
use Rattle.std.specs.Prelude.{◌≡◌, ℕ, ◌<◌, ◌*◌, ◌/◌, ◌%◌, pred, List, length, ◌↔◌}
use Rattle.ff_theory.specs.Ring.{Elements, power}
use Rattle.ff_theory.specs.Lawful.{Lawful}
use Rattle.ff_theory.specs.Poly.{Poly, polynomials}
use Rattle.ff_theory.specs.Division.{size}
use Rattle.ff_theory.specs.Planes.{row_of}
use Rattle.ff_theory.specs.Span.{unit_at}
use Rattle.ff_theory.specs.Vector.{vectors_of, combination_of}
use Rattle.ff_theory.specs.Values.{poly_of, IsPoly, plane_of}
use Rattle.ff_charts.specs.Chart.{at_theta, InPowers}
use Rattle.ff_charts.specs.Lattice.{HasShape, flat, IsResidue, InLattice}
use Rattle.ff_descent.specs.Descent.{IsStepped}
use Rattle.ff_lin.specs.Space.{InSpace, HasExactly, frobenius}
use Rattle.ff_lin.specs.Space.{SpaceParts, IsSpaceOf, SameSpace, AreVectors, rows_of}
use Rattle.ff_elem.specs.Elem.{algebra_in}
use Rattle.ff_data.specs.declared.order.Chart.{Chart}
use Rattle.ff_data.specs.Orders.{chart_of, different_of, y_degree, InResidues, IsIntegral}
use Rattle.ff_order.specs.declared.images.PowerImages.{PowerImages}

module _ {F : Elements ℕ} (L : Lawful F) (f : List (List ℕ)) (chart : Chart) where
  -- the number of coefficients of a row of a residue modulo d
  abbrev pub row_len : List ℕ → ℕ
  row_len d = pred (size F.ring (poly_of F d))

  -- the plane has the shape of a residue modulo d
  abbrev pub HasResidueShape : List ℕ → Poly (polynomials F.ring) → Type 0
  HasResidueShape d N = HasShape F.ring (chart_of L f chart).degree (row_len d) N

  -- the plane r is the residue modulo m of w, a being that of v
  abbrev pub KeepsResidues : (m : List ℕ) (a r : List (List ℕ))
      → ((algebra_in L f).carrier → (algebra_in L f).carrier) → Type 0
  KeepsResidues m a r w = (v : (algebra_in L f).carrier)
      → IsResidue (chart_of L f chart) (poly_of F m) v (plane_of F a)
      → IsResidue (chart_of L f chart) (poly_of F m) (w v) (plane_of F r)

  -- v times the power of b
  abbrev pub times_power : List (List ℕ) → ℕ → (algebra_in L f).carrier → (algebra_in L f).carrier
  times_power b n v = (algebra_in L f).mul v
      (power (algebra_in L f) (at_theta (chart_of L f chart) (plane_of F b)) n)

  -- v times u^j * theta^i
  abbrev pub times_monomial : ℕ → ℕ → (algebra_in L f).carrier → (algebra_in L f).carrier
  times_monomial j i v = (algebra_in L f).mul v
      ((algebra_in L f).mul (power (algebra_in L f) (chart_of L f chart).u j)
      (power (algebra_in L f) (chart_of L f chart).theta i))

  -- the list is the vector of the residue modulo m of v
  abbrev pub IsResidueRow : List ℕ → (algebra_in L f).carrier → (ℕ → F.carrier) → Type 0
  IsResidueRow m v row = (R : Poly (polynomials F.ring))
      × (IsResidue (chart_of L f chart) (poly_of F m) v R
      × ((j : ℕ) → row j ≡ flat F.ring (row_len m) R j))

  -- the list r is the vector of the residue modulo m of w, a being that of v
  abbrev pub KeepsRows : (m : List ℕ) (a r : ℕ → F.carrier)
      → ((algebra_in L f).carrier → (algebra_in L f).carrier) → Type 0
  KeepsRows m a r w = (v : (algebra_in L f).carrier) → IsResidueRow m v a → IsResidueRow m (w v) r

  -- the list is the vector of the residue modulo d of v * u^j * theta^i, for s = i * row_len d + j
  -- and v with the residue a
  abbrev pub IsMultipleRow : (d : List ℕ) (a : List (List ℕ)) → ℕ → (ℕ → F.carrier) → Type 0
  IsMultipleRow d a s row = (v : (algebra_in L f).carrier)
      → IsResidue (chart_of L f chart) (poly_of F d) v (plane_of F a)
      → IsResidueRow d (times_monomial (s % row_len d) (s / row_len d) v) row

  abbrev pub AreMultiples : (d : List ℕ) (a : List (List ℕ)) (rows : List (List ℕ)) → ℕ → Type 0
  AreMultiples d a rows n = (s : ℕ) → s < n → IsMultipleRow d a s (vectors_of F rows s)

  -- a space of residues modulo d
  abbrev pub IsResidueSpace : List ℕ → SpaceParts → Type 0
  IsResidueSpace d s = IsSpaceOf F (y_degree L f * pred (length d)) s

  -- the lattice of the space consists of the elements that the different carries into the power
  -- order
  abbrev pub IsStart : List ℕ → SpaceParts → Type 0
  IsStart d s = (w : (algebra_in L f).carrier)
      → InLattice (chart_of L f chart) (poly_of F d) (InResidues F (pred (length d)) s) w
      ↔ InPowers (chart_of L f chart) ((algebra_in L f).mul (different_of L f chart) w)

  -- the residues of the space are those of the old one whose p-th power is, modulo d^p, d^(p-1)
  -- times one of the old space
  abbrev pub IsTurn : List ℕ → (old new : SpaceParts) → Type 0
  IsTurn d old new = (N : Poly (polynomials F.ring)) → HasResidueShape d N
      → InResidues F (pred (length d)) new N
      ↔ IsStepped (chart_of L f chart) (pred F.characteristic) (poly_of F d)
      (InResidues F (pred (length d)) old) N

  -- the lattice of the space has all integral elements
  abbrev pub HoldsIntegral : List ℕ → SpaceParts → Type 0
  HoldsIntegral d s = (w : (algebra_in L f).carrier) → IsIntegral L f chart w
      → InLattice (chart_of L f chart) (poly_of F d) (InResidues F (pred (length d)) s) w

  -- the list is the vector of the residue modulo top of the p-th power of the plane whose vector is
  -- one at index s alone
  abbrev pub IsPowerRow : (d top : List ℕ) → ℕ → (ℕ → F.carrier) → Type 0
  IsPowerRow d top s row = (N : Poly (polynomials F.ring)) × (HasResidueShape d N
      × (((j : ℕ) → flat F.ring (row_len d) N j ≡ unit_at F.ring s j) × IsResidueRow top
      (power (algebra_in L f) (at_theta (chart_of L f chart) N) F.characteristic) row))

  abbrev pub ArePowers : (d top : List ℕ) (rows : List (List ℕ)) → ℕ → Type 0
  ArePowers d top rows n = (s : ℕ) → s < n → IsPowerRow d top s (vectors_of F rows s)

  -- the list is the vector of the product of g and of the plane modulo d with the vector v
  abbrev pub IsScaledRow : (d top : List ℕ) → Poly F.ring → (v row : ℕ → F.carrier) → Type 0
  IsScaledRow d top g v row = (N : Poly (polynomials F.ring)) × (HasResidueShape d N
      × (((j : ℕ) → flat F.ring (row_len d) N j ≡ v j) × ((j : ℕ) → row j
      ≡ flat F.ring (row_len top) ((polynomials (polynomials F.ring)).mul (row_of F.ring g) N) j)))

  abbrev pub AreScaled : (d top : List ℕ) → Poly F.ring → (basis rows : List (List ℕ)) → Type 0
  AreScaled d top g basis rows = (i : ℕ) → i < length basis
      → IsScaledRow d top g (vectors_of F basis i) (vectors_of F rows i)

  -- the new space is that of the products of g and of the planes of the old one
  abbrev pub IsScaledSpace : (d top : List ℕ) → Poly F.ring → (old new : SpaceParts) → Type 0
  IsScaledSpace d top g old new = (rows : List (List ℕ)) × ((length rows ≡ length old.basis)
      × (AreScaled d top g old.basis rows × SameSpace F new.basis rows))

  -- the powers of d by p - 1 and by p, and the residues modulo the greater one of the p-th powers
  -- of
  -- the u^j * theta^i
  pub record ArePowerImages (d : List ℕ) (r : PowerImages) : Type 0 where
    pub below : IsPoly F r.below
    pub below_is : poly_of F r.below
        ≡ power (polynomials F.ring) (poly_of F d) (pred F.characteristic)
    pub top : IsPoly F r.top
    pub top_is : poly_of F r.top ≡ power (polynomials F.ring) (poly_of F d) F.characteristic
    pub count : length r.images.items ≡ y_degree L f * pred (length d)
    pub vectors : AreVectors F (y_degree L f * pred (length r.top)) r.images.items
    pub images : ArePowers d r.top (rows_of r.images.items) (length r.images.items)

  -- the space consists of the coefficients with which the basis makes vectors whose p-th power is
  -- in the scaled space
  abbrev pub AreCoefficients : List ℕ → PowerImages → (old new : SpaceParts) → Type 0
  AreCoefficients d r old new = (target : SpaceParts)
      × (IsScaledSpace d r.top (poly_of F r.below) old target
      × HasExactly F new (λ v. InSpace F target
      (combination_of F (rows_of r.images.items) (frobenius F (combination_of F old.basis v)))))

  -- the lattice of the space has the integral elements alone
  abbrev pub IsExact : List ℕ → SpaceParts → Type 0
  IsExact d s = (w : (algebra_in L f).carrier)
      → InLattice (chart_of L f chart) (poly_of F d) (InResidues F (pred (length d)) s) w
      ↔ IsIntegral L f chart w
