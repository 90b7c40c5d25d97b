-- Elements with a pole of a given order at a point of a maximal order, for an equation f over a
-- field whose laws are L. This project's own, after Stichtenoth, section 1.4.
use Rattle.std.specs.Prelude.{◌≡◌, ℕ, ◌<◌, ◌⊎◌, ◌↔◌, pred, List, [], length, get_or}
use Rattle.ff_theory.specs.Ring.{Elements}
use Rattle.ff_theory.specs.Lawful.{Lawful}
use Rattle.ff_theory.specs.Poly.{Poly, polynomials}
use Rattle.ff_theory.specs.Span.{product}
use Rattle.ff_theory.specs.Values.{poly_of, plane_of}
use Rattle.ff_theory.specs.Vector.{vector_of}
use Rattle.ff_charts.specs.Chart.{at_u, at_theta}
use Rattle.ff_local.specs.ChartOrder.{root_at}
use Rattle.ff_lin.specs.Space.{SpaceParts}
use Rattle.ff_elem.specs.Elem.{algebra_in}
use Rattle.ff_data.specs.declared.order.Order.{Order}
use Rattle.ff_data.specs.declared.point.Point.{Point}
use Rattle.ff_data.specs.Orders.{chart_of, InResidues, InOrder, IsMaximal}
use Rattle.ff_data.specs.Lattices.{InLatticeOf}
use Rattle.ff_data.specs.Points.{HasValueAt, IsPoint}
use Rattle.ff_data.specs.Numerators.{IsResidueOf}
use Rattle.ff_data.specs.Poles.{InModule}

-- a residue modulo d of which the number is the value by the data of a point
pub record IsLowValue (F : Elements ℕ) (o : Order) (p : Point) (N : Poly (polynomials F.ring))
    (v : ℕ) : Type 0 where
  pub coefficients : List ℕ
  pub residue : IsResidueOf F o N (vector_of F coefficients)
  pub value : F.value v
      ≡ product F.ring (length o.space.basis) (vector_of F coefficients) (vector_of F p.values)

-- such a value, or the residue is not in the space
abbrev pub IsLowValueIfAny : (F : Elements ℕ) → Order → Point → Poly (polynomials F.ring) → ℕ
    → Type 0
IsLowValueIfAny F o p N v = IsLowValue F o p N v
    ⊎ ¬ InResidues F (pred (length o.d)) o.space N

module _ {F : Elements ℕ} (L : Lawful F) (f : List (List ℕ)) where
  -- the order has exactly the integral elements of its chart, and the data are a point of it
  pub record IsMaximalPlace (o : Order) (p : Point) : Type 0 where
    pub maximal : IsMaximal L f o
    pub point : IsPoint L f o p

  -- w is in M_i and not in M_(i-1), for a positive i
  pub record HasPoleOrder (o : Order) (p : Point) (i : ℕ) (w : (algebra_in L f).carrier)
      : Type 0 where
    pub inside : InModule L f o p i w
    pub outside : ¬ InModule L f o p (pred i) w

  -- m * w is the plane at u and theta
  abbrev pub IsOverModulus : Order → Poly F.ring → List (List ℕ) → (algebra_in L f).carrier
      → Type 0
  IsOverModulus o m N w = (algebra_in L f).mul (at_u (chart_of L f o.chart) m) w
      ≡ at_theta (chart_of L f o.chart) (plane_of F N)

  -- the plane over m has a pole of order i
  abbrev pub IsPoleNumerator : Order → Point → ℕ → Poly F.ring → List (List ℕ) → Type 0
  IsPoleNumerator o p i m N = (w : (algebra_in L f).carrier) → IsOverModulus o m N w
      → HasPoleOrder o p i w

  -- d*(u - a)
  abbrev pub first_modulus : Order → Point → Poly F.ring
  first_modulus o p = (polynomials F.ring).mul (poly_of F o.d) (root_at F.ring (F.value p.a))

  -- the plane over d, where that is in the order, has the number for its value
  abbrev pub HasNumeratorValue : Order → Point → List (List ℕ) → ℕ → Type 0
  HasNumeratorValue o p N v = (w : (algebra_in L f).carrier)
      → IsOverModulus o (poly_of F o.d) N w → InOrder L f o w → HasValueAt L f o p w (F.value v)

  -- each of them has
  abbrev pub HaveNumeratorValues : Order → Point → List (List (List ℕ)) → List ℕ → Type 0
  HaveNumeratorValues o p planes values = (i : ℕ) → i < length planes
      → HasNumeratorValue o p (get_or planes i []) (get_or values i 0)

  -- the lattice of d and the space is the order, or M_j
  abbrev pub IsOrderLattice : Order → List ℕ → SpaceParts → Type 0
  IsOrderLattice o d s = (w : (algebra_in L f).carrier)
      → InLatticeOf L f o.chart d s w ↔ InOrder L f o w

  abbrev pub IsModuleLattice : Order → Point → ℕ → List ℕ → SpaceParts → Type 0
  IsModuleLattice o p j d s = (w : (algebra_in L f).carrier)
      → InLatticeOf L f o.chart d s w ↔ InModule L f o p j w
