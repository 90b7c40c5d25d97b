-- The canonical list of a set of elements of E(f) that holds the power order of a chart, for an
-- equation f over a field whose laws are L. This project's own.
use Rattle.std.specs.Prelude.{◌≡◌, ℕ, pred, ◌*◌, ◌<◌, ◌≤◌, List, length, get_or}
use Rattle.std.specs.List.{All}
use Rattle.ff_theory.specs.Ring.{Elements}
use Rattle.ff_theory.specs.Lawful.{Lawful}
use Rattle.ff_theory.specs.Poly.{Poly, polynomials}
use Rattle.ff_theory.specs.Division.{size, leading_coeff}
use Rattle.ff_theory.specs.Vector.{vectors_of}
use Rattle.ff_charts.specs.Chart.{at_u, at_theta, InPowers}
use Rattle.ff_charts.specs.Lattice.{HasShape, flat}
use Rattle.ff_lin.specs.Space.{SpaceParts, IsSpaceOf, HasExactly}
use Rattle.ff_lin.specs.Kernel.{mirror}
use Rattle.ff_elem.specs.declared.elem.Elem.{Elem}
use Rattle.ff_elem.specs.Elem.{algebra_in, elem_of, IsElem}
use Rattle.ff_data.specs.declared.order.Chart.{Chart}
use Rattle.ff_data.specs.Orders.{chart_of, y_degree}

module _ {F : Elements ℕ} (L : Lawful F) (f : List (List ℕ)) (chart : Chart) where
  -- the length of the vectors of numerators over D
  abbrev pub numerators_len : Poly F.ring → ℕ
  numerators_len D = y_degree L f * pred (size F.ring D)

  -- w is N / D, for a plane N in u and theta each of whose rows has a lower degree than D; v lists
  -- the coefficients of N from the last row and the highest power of u down
  pub record IsFraction (D : Poly F.ring) (v : ℕ → F.carrier) (w : (algebra_in L f).carrier)
      : Type 0 where
    pub nums : Poly (polynomials F.ring)
    pub shape : HasShape F.ring (y_degree L f) (pred (size F.ring D)) nums
    pub entries : (j : ℕ)
        → v j ≡ flat F.ring (pred (size F.ring D)) nums (mirror (numerators_len D) j)
    pub value : (algebra_in L f).mul (at_u (chart_of L f chart) D) w
        ≡ at_theta (chart_of L f chart) nums

  module _ (S : (algebra_in L f).carrier → Type 0) where
    -- m times each element of the set is in the power order
    abbrev pub Clears : Poly F.ring → Type 0
    Clears m = (w : (algebra_in L f).carrier) → S w
        → InPowers (chart_of L f chart) ((algebra_in L f).mul (at_u (chart_of L f chart) m) w)

    -- D is monic, and of the least degree of the moduli that clear the set
    pub record IsLeastDenominator (D : Poly F.ring) : Type 0 where
      pub modulus : (chart_of L f chart).IsModulus D
      pub monic : leading_coeff F.ring D ≡ F.one
      pub clears : Clears D
      pub least : (m : Poly F.ring) → (chart_of L f chart).IsModulus m → Clears m
          → size F.ring D ≤ size F.ring m

    -- v is the vector of an element of the set
    abbrev pub IsVectorIn : Poly F.ring → (ℕ → F.carrier) → Type 0
    IsVectorIn D v = (w : (algebra_in L f).carrier) × (S w × IsFraction D v w)

    -- the elements whose vectors are the row-reduced echelon basis of the vectors of the set
    pub record IsOrderList (elems : List Elem) : Type 0 where
      pub den : Poly F.ring
      pub least : IsLeastDenominator den
      pub space : SpaceParts
      pub echelon : IsSpaceOf F (numerators_len den) space
      pub exact : HasExactly F space (IsVectorIn den)
      pub count : length elems ≡ length space.basis
      pub elements : All (IsElem L f) elems
      pub values : (i : ℕ) (e : Elem) → i < length elems
          → IsFraction den (vectors_of F space.basis i) (elem_of L f (get_or elems i e))
