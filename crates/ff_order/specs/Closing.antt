-- Residues of products of basis vectors in a space, for an equation f over a field whose laws are
-- L.
use Rattle.std.specs.Prelude.{◌≡◌, ℕ, ◌<◌, pred, List, [], length, get_or}
use Rattle.ff_theory.specs.Ring.{Elements}
use Rattle.ff_theory.specs.Lawful.{Lawful}
use Rattle.ff_theory.specs.Poly.{Poly, polynomials}
use Rattle.ff_theory.specs.Vector.{vectors_of}
use Rattle.ff_theory.specs.Values.{poly_of, plane_of, IsPlane}
use Rattle.ff_charts.specs.Chart.{at_u, at_theta}
use Rattle.ff_charts.specs.Lattice.{flat, IsResidue, IsClosed}
use Rattle.ff_lin.specs.Space.{SpaceParts}
use Rattle.ff_elem.specs.Elem.{algebra_in}
use Rattle.ff_data.specs.declared.order.Chart.{Chart}
use Rattle.ff_data.specs.Orders.{chart_of, InResidues}
use Rattle.ff_order.specs.Steps.{row_len, HasResidueShape}

module _ {F : Elements ℕ} (L : Lawful F) (f : List (List ℕ)) (chart : Chart) (d : List ℕ) where
  -- the plane has the shape of a residue modulo d, and the vector
  pub record IsPlaneOf (v : ℕ → F.carrier) (a : List (List ℕ)) : Type 0 where
    pub plane : IsPlane F a
    pub shape : HasResidueShape L f chart d (plane_of F a)
    pub value : (j : ℕ) → flat F.ring (row_len L f chart d) (plane_of F a) j ≡ v j

  -- the planes have the vectors of the list
  pub record ArePlanesOf (vectors : List (List ℕ)) (planes : List (List (List ℕ))) : Type 0 where
    pub len : length planes ≡ length vectors
    pub each : (i : ℕ) → i < length vectors → IsPlaneOf (vectors_of F vectors i)
        (get_or planes i [])

  -- the value of plane i of a list
  abbrev pub value_at : List (List (List ℕ)) → ℕ → (algebra_in L f).carrier
  value_at planes i = at_theta (chart_of L f chart) (plane_of F (get_or planes i []))

  module _ (s : SpaceParts) where
    -- the element has a residue modulo d in the space
    abbrev pub HasResidueIn : (algebra_in L f).carrier → Type 0
    HasResidueIn w = (R : Poly (polynomials F.ring))
        × (IsResidue (chart_of L f chart) (poly_of F d) w R × InResidues F (pred (length d)) s R)

    -- the element is d times one that has
    abbrev pub HasQuotientIn : (algebra_in L f).carrier → Type 0
    HasQuotientIn w = (x : (algebra_in L f).carrier)
        × ((w ≡ (algebra_in L f).mul (at_u (chart_of L f chart) (poly_of F d)) x)
        × HasResidueIn x)

    -- the products of n of the planes with y have residues in the space
    abbrev pub HasMultiples : List (List (List ℕ)) → ℕ → (algebra_in L f).carrier → Type 0
    HasMultiples planes n y = (i : ℕ) → i < n
        → HasResidueIn ((algebra_in L f).mul (value_at planes i) y)

    -- the products of plane i with the n first ones are d times elements with residues in the space
    abbrev pub HasProducts : List (List (List ℕ)) → ℕ → ℕ → Type 0
    HasProducts planes i n = (j : ℕ) → j < n
        → HasQuotientIn ((algebra_in L f).mul (value_at planes i) (value_at planes j))

    -- the lattice of the space is closed under products
    abbrev pub IsClosedSpace : Type 0
    IsClosedSpace = IsClosed (chart_of L f chart) (poly_of F d) (InResidues F (pred (length d)) s)
