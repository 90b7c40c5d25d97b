-- Separability, charts and orders of E(f), for an equation f over a field whose laws are L.
-- Finite-integral and infinity-integral elements are those of Stichtenoth, section 3.2, in the
-- words of ff_charts; orders as residue lattices are this project's own.
use Rattle.std.specs.Prelude.{◌≡◌, ℕ, ◌*◌, ◌-◌, ◌≤◌, pred, List, length, ◌↔◌, false}
use Rattle.ff_theory.specs.Ring.{Elements}
use Rattle.ff_theory.specs.Lawful.{Lawful, lawful_field}
use Rattle.ff_theory.specs.Poly.{Poly, polynomials}
use Rattle.ff_theory.specs.Values.{poly_of, IsPoly, plane_of, IsPlane}
use Rattle.ff_theory.specs.Planes.{Plane, IsDivisorOver}
use Rattle.ff_theory.specs.Monic.{monic_form}
use Rattle.ff_theory.specs.Derivative.{derivative}
use Rattle.ff_theory.specs.Reversal.{slope}
use Rattle.ff_factors.specs.Factors.{IsFactored}
use Rattle.ff_charts.specs.Chart.{Chart as ChartOf, at_u, at_theta, InPowers}
use Rattle.ff_charts.specs.FieldCharts.{finite_chart, infinite_chart}
use Rattle.ff_charts.specs.Integral.{IsFiniteIntegral, IsInfinityIntegral}
use Rattle.ff_charts.specs.Lattice.{InLattice, flat}
use Rattle.ff_lin.specs.Space.{SpaceParts, IsSpaceOf, InSpace}
use Rattle.ff_elem.specs.Elem.{algebra_in, elem_of, IsElem}
use Rattle.ff_data.specs.declared.order.Chart.{Chart}
use Rattle.ff_data.specs.declared.order.Chart.TheVariants.{Finite, Infinite}
use Rattle.ff_data.specs.declared.order.Sep.{Sep}
use Rattle.ff_data.specs.declared.order.Order.{Order}

-- vectors of the space, read as residues with l coefficients a row
abbrev pub InResidues : (F : Elements ℕ) → ℕ → SpaceParts → Poly (polynomials F.ring) → Type 0
InResidues F l s N = InSpace F s (flat F.ring l N)

module _ {F : Elements ℕ} (L : Lawful F) (f : List (List ℕ)) where
  -- the y-degree of f
  abbrev pub y_degree : ℕ
  y_degree = length f - 1

  -- the derivative of f in y
  abbrev pub y_derivative : Plane (lawful_field L)
  y_derivative = derivative (polynomials F.ring) (plane_of F f)

  -- the least e for which the rows of the monic form fit: y'' is y' / x^e
  abbrev pub slope_of : ℕ
  slope_of = slope F.ring y_degree (monic_form (polynomials F.ring) (plane_of F f))

  -- the chart of E(f) that the data name
  abbrev pub chart_of : Chart → ChartOf F.ring (algebra_in L f)
  chart_of Finite = finite_chart (lawful_field L) (plane_of F f)
  chart_of Infinite = infinite_chart (lawful_field L) (plane_of F f) slope_of

  -- the derivative of the chart's equation at theta
  abbrev pub different_of : Chart → (algebra_in L f).carrier
  different_of c = at_theta (chart_of c) (derivative (polynomials F.ring) (chart_of c).equation)

  -- d is not 0, b is in the finite power order, and b times the derivative of the monic form at y'
  -- is d
  pub record IsSep (s : Sep) : Type 0 where
    pub d : IsPoly F s.d
    pub nonzero : (polynomials F.ring).same (poly_of F s.d) (polynomials F.ring).zero ≡ false
    pub b : IsElem L f s.b
    pub in_powers : InPowers (chart_of Finite) (elem_of L f s.b)
    pub product : (algebra_in L f).mul (elem_of L f s.b) (different_of Finite)
        ≡ at_u (chart_of Finite) (poly_of F s.d)

  -- f and its derivative in y have no common factor of positive y-degree
  abbrev pub IsSeparable : Type 0
  IsSeparable = (w : Plane (lawful_field L)) → IsDivisorOver F.ring w (plane_of F f)
      → IsDivisorOver F.ring w y_derivative → length w.coeffs ≤ 1

  -- g and h are the normalised factors of f, and g divides the derivative
  pub record AreSquareFactors (g h : List (List ℕ)) : Type 0 where
    pub first : IsPlane F g
    pub second : IsPlane F h
    pub factored : IsFactored F.ring (plane_of F f) (plane_of F g) (plane_of F h)
    pub divides : IsDivisorOver F.ring (plane_of F g) y_derivative

  -- w is finite-integral, or infinity-integral
  abbrev pub IsIntegral : Chart → (algebra_in L f).carrier → Type 0
  IsIntegral Finite w = IsFiniteIntegral (lawful_field L) (plane_of F f) w
  IsIntegral Infinite w = IsInfinityIntegral (lawful_field L) (plane_of F f) w

  -- the data have the form of an order
  pub record IsOrder (o : Order) : Type 0 where
    pub theta : IsElem L f o.theta
    pub theta_is : elem_of L f o.theta ≡ (chart_of o.chart).theta
    pub d : IsPoly F o.d
    pub modulus : (chart_of o.chart).IsModulus (poly_of F o.d)
    pub space : IsSpaceOf F (y_degree * pred (length o.d)) o.space

  -- the elements of an order: d * w has a residue modulo d in the space
  abbrev pub InOrder : Order → (algebra_in L f).carrier → Type 0
  InOrder o w = InLattice (chart_of o.chart) (poly_of F o.d)
      (InResidues F (pred (length o.d)) o.space) w

  -- an order whose elements are exactly the finite-integral, or the infinity-integral, ones
  pub record IsMaximal (o : Order) : Type 0 where
    pub order : IsOrder o
    pub exact : (w : (algebra_in L f).carrier) → InOrder o w ↔ IsIntegral o.chart w
