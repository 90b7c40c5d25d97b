-- The linear test, for an equation f over a field whose laws are L: products of the different with
-- p-th powers of theta^i, the parts of their rows, and the sums whose residues modulo d are tested.
use Rattle.std.specs.Prelude.{◌≡◌, ℕ, ◌<◌, ◌≤◌, pred, List, [], length, map, get_or}
use Rattle.std.specs.Global.{Vec}
use Rattle.ff_theory.specs.Ring.{Elements, power}
use Rattle.ff_theory.specs.Lawful.{Lawful}
use Rattle.ff_theory.specs.Sum.{sum_below}
use Rattle.ff_theory.specs.Poly.{coeff, Poly, polynomials}
use Rattle.ff_theory.specs.Division.{IsDivision}
use Rattle.ff_theory.specs.Divides.{Divides}
use Rattle.ff_theory.specs.Parts.{sum_of_parts}
use Rattle.ff_theory.specs.Vector.{vectors_of}
use Rattle.ff_theory.specs.Values.{poly_of, polys_of, ArePolys, plane_of, IsPlane}
use Rattle.ff_charts.specs.Chart.{at_theta}
use Rattle.ff_charts.specs.Lattice.{flat}
use Rattle.ff_lin.specs.Space.{SpaceParts}
use Rattle.ff_elem.specs.Elem.{algebra_in}
use Rattle.ff_data.specs.declared.order.Chart.{Chart}
use Rattle.ff_data.specs.Orders.{chart_of, different_of, y_degree, InResidues}
use Rattle.ff_order.specs.Steps.{row_len, HasResidueShape}

-- the lists of polynomials that a list of `Vec` holds
abbrev pub lists_of : List (Vec (List ℕ)) → List (List (List ℕ))
lists_of lists = map (λ v. v.items) lists

-- polynomial s of list i
abbrev pub part_at : (F : Elements ℕ) → List (List (List ℕ)) → ℕ → ℕ → Poly F.ring
part_at F lists i s = coeff (polynomials F.ring) (polys_of F (get_or lists i [])) s

-- N_0 * m_0 + N_1 * m_1 + .. for the n first rows of a plane and the polynomials s of the lists
abbrev pub test_sum : (F : Elements ℕ) → List (List (List ℕ)) → ℕ → ℕ → Poly (polynomials F.ring)
    → Poly F.ring
test_sum F lists s n N = sum_below (polynomials F.ring) n
    (λ i. (polynomials F.ring).mul (coeff (polynomials F.ring) N.coeffs i) (part_at F lists i s))

-- p polynomials, for the characteristic p
pub record HasParts (F : Elements ℕ) (list : List (List ℕ)) : Type 0 where
  pub each : ArePolys F list
  pub len : length list ≡ F.characteristic

-- each list has p polynomials, for the characteristic p
abbrev pub HaveParts : Elements ℕ → List (List (List ℕ)) → Type 0
HaveParts F lists = (i : ℕ) → i < length lists → HasParts F (get_or lists i [])

module _ {F : Elements ℕ} (L : Lawful F) (f : List (List ℕ)) (chart : Chart) where
  -- the different times the p-th power of theta^i
  abbrev pub test_element : ℕ → (algebra_in L f).carrier
  test_element i = (algebra_in L f).mul (different_of L f chart)
      (power (algebra_in L f) (power (algebra_in L f) (chart_of L f chart).theta i)
      F.characteristic)

  -- its plane
  pub record IsTestPlane (i : ℕ) (a : List (List ℕ)) : Type 0 where
    pub plane : IsPlane F a
    pub few : length a ≤ y_degree L f
    pub value : at_theta (chart_of L f chart) (plane_of F a) ≡ test_element i

  -- for each i below the y-degree
  pub record AreTestPlanes (planes : List (List (List ℕ))) : Type 0 where
    pub len : length planes ≡ y_degree L f
    pub each : (i : ℕ) → i < length planes → IsTestPlane i (get_or planes i [])

  -- the parts of row j of that plane
  pub record AreParts (i j : ℕ) (parts : List (List ℕ)) : Type 0 where
    pub parts_are : HasParts F parts
    pub plane : List (List ℕ)
    pub is_plane : IsTestPlane i plane
    pub sum : coeff (polynomials F.ring) (plane_of F plane).coeffs j
        ≡ sum_of_parts F.ring F.characteristic (coeff (polynomials F.ring) (polys_of F parts))

  -- for each i below the y-degree
  pub record AreRowParts (j : ℕ) (lists : List (List (List ℕ))) : Type 0 where
    pub len : length lists ≡ y_degree L f
    pub each : (i : ℕ) → i < length lists → AreParts i j (get_or lists i [])

  -- a vector of the remainder modulo d of the sum of products, for the plane modulo d with the
  -- vector v
  pub record IsImage (d : List ℕ) (lists : List (List (List ℕ))) (s : ℕ) (v : ℕ → F.carrier)
      (image : ℕ → F.carrier) : Type 0 where
    pub plane : Poly (polynomials F.ring)
    pub shape : HasResidueShape L f chart d plane
    pub vector : (j : ℕ) → flat F.ring (row_len L f chart d) plane j ≡ v j
    pub quotient : Poly F.ring
    pub rest : Poly F.ring
    pub division : IsDivision F.ring (test_sum F lists s (y_degree L f) plane) (poly_of F d)
        quotient rest
    pub value : (j : ℕ) → image j ≡ coeff F.ring rest.coeffs j

  abbrev pub AreImages : (d : List ℕ) (lists : List (List (List ℕ))) → ℕ
      → (basis images : List (List ℕ)) → ℕ → Type 0
  AreImages d lists s basis images n = (i : ℕ) → i < n
      → IsImage d lists s (vectors_of F basis i) (vectors_of F images i)

  -- the new space has the residues of the old one whose sum of products d divides
  abbrev pub HoldsPassed : (d : List ℕ) (lists : List (List (List ℕ))) → ℕ → (old new : SpaceParts)
      → Type 0
  HoldsPassed d lists s old new = (N : Poly (polynomials F.ring)) → HasResidueShape L f chart d N
      → InResidues F (pred (length d)) old N
      → Divides (polynomials F.ring) (poly_of F d) (test_sum F lists s (y_degree L f) N)
      → InResidues F (pred (length d)) new N
