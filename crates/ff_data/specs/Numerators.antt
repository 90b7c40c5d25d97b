-- Numerators of elements over a modulus of a chart, and the values of such elements at a point, for
-- an equation f over a field whose laws are L. This project's own.
use Rattle.std.specs.Prelude.{◌≡◌, ℕ, pred, List, length}
use Rattle.ff_theory.specs.Ring.{Elements}
use Rattle.ff_theory.specs.Lawful.{Lawful}
use Rattle.ff_theory.specs.Poly.{coeff, Poly, polynomials}
use Rattle.ff_theory.specs.Division.{IsDivision}
use Rattle.ff_theory.specs.Values.{poly_of, plane_of}
use Rattle.ff_theory.specs.Vector.{combination_of}
use Rattle.ff_charts.specs.Chart.{at_u, at_theta}
use Rattle.ff_charts.specs.Lattice.{flat}
use Rattle.ff_elem.specs.Elem.{algebra_in}
use Rattle.ff_data.specs.declared.order.Chart.{Chart}
use Rattle.ff_data.specs.declared.order.Order.{Order}
use Rattle.ff_data.specs.declared.point.Point.{Point}
use Rattle.ff_data.specs.Orders.{chart_of, InOrder}
use Rattle.ff_data.specs.Points.{IsValueAt}

-- each row of q is the quotient of that of a by d
abbrev pub AreQuotients : (F : Elements ℕ) (d : Poly F.ring) (a q : Poly (polynomials F.ring))
    → Type 0
AreQuotients F d a q = (i : ℕ) → (r : Poly F.ring) × IsDivision F.ring
    (coeff (polynomials F.ring) a.coeffs i) d (coeff (polynomials F.ring) q.coeffs i) r

-- the residue's vector is the combination of the basis of the order's space
abbrev pub IsResidueOf : (F : Elements ℕ) → Order → Poly (polynomials F.ring) → (ℕ → F.carrier)
    → Type 0
IsResidueOf F o N c = (j : ℕ) → flat F.ring (pred (length o.d)) N j
    ≡ combination_of F o.space.basis c j

module _ {F : Elements ℕ} (L : Lawful F) (f : List (List ℕ)) where
  -- w has the numerator `rows`, a plane at u and theta, over d
  abbrev pub IsNumeratorOver : Chart → List ℕ → List (List ℕ) → (algebra_in L f).carrier → Type 0
  IsNumeratorOver chart d rows w = (algebra_in L f).mul (at_u (chart_of L f chart) (poly_of F d)) w
      ≡ at_theta (chart_of L f chart) (plane_of F rows)

  -- the number is the value at the point of the element with the numerator over d
  abbrev pub IsValueOfNumerator : Order → Point → List (List ℕ) → ℕ → Type 0
  IsValueOfNumerator o p rows v = (w : (algebra_in L f).carrier)
      → IsNumeratorOver o.chart o.d rows w → IsValueAt L f o p w v

  -- the element with the numerator over d is not in the order
  abbrev pub IsOutside : Order → List (List ℕ) → Type 0
  IsOutside o rows = (w : (algebra_in L f).carrier) → IsNumeratorOver o.chart o.d rows w
      → ¬ InOrder L f o w
