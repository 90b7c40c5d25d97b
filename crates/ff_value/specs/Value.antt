-- The rows from which the value of an element at a point is read, for an equation f over a field
-- whose laws are L. This project's own.
use Rattle.std.specs.Prelude.{◌≡◌, ℕ, ◌+◌, ◌*◌, ◌<◌, ◌≤◌, List, length}
use Rattle.ff_theory.specs.Ring.{Elements}
use Rattle.ff_theory.specs.Lawful.{Lawful}
use Rattle.ff_theory.specs.Poly.{coeff, Poly, polynomials}
use Rattle.ff_theory.specs.Division.{size}
use Rattle.ff_theory.specs.Monomial.{variable}
use Rattle.ff_theory.specs.Values.{poly_of, polys_of, IsPoly, ArePolys, IsPlane}
use Rattle.ff_charts.specs.Chart.{at_u, InPowers}
use Rattle.ff_elem.specs.Elem.{algebra_in}
use Rattle.ff_data.specs.declared.order.Chart.{Chart}
use Rattle.ff_data.specs.declared.order.Chart.TheVariants.{Finite}
use Rattle.ff_data.specs.Orders.{chart_of, y_degree, slope_of}
use Rattle.ff_data.specs.Numerators.{IsNumeratorOver}
use Rattle.ff_data.specs.Quotients.{IsRaisedQuotient}
use Rattle.ff_common.specs.Common.{IsOver}

module _ {F : Elements ℕ} (L : Lawful F) (f : List (List ℕ)) where
  -- row i is the quotient of x^(i * e) times row i of the plane by x * den, with e the slope
  pub record AreQuotientsOver (den : List ℕ) (plane : Poly (polynomials F.ring))
      (rows : List (List ℕ)) : Type 0 where
    pub polys : ArePolys F rows
    pub few : length rows ≤ y_degree L f
    pub whole : size (polynomials F.ring) plane ≤ length rows
    pub each : (i : ℕ) → i < length rows → IsRaisedQuotient F
        ((polynomials F.ring).mul (variable F.ring) (poly_of F den)) ((0 + i) * slope_of L f)
        (coeff (polynomials F.ring) plane.coeffs i) (coeff (polynomials F.ring) (polys_of F rows) i)

  -- the rows are the quotients at infinity of w
  pub record HasQuotients (w : (algebra_in L f).carrier) (rows : List (List ℕ)) : Type 0 where
    pub den : List ℕ
    pub poly : IsPoly F den
    pub nonzero : 0 < length den
    pub plane : Poly (polynomials F.ring)
    pub over : IsOver L f den plane w
    pub quotients : AreQuotientsOver den plane rows

  -- The rows are a numerator over d of w, or at infinity of w less t times an element of the power
  -- order.
  pub record IsNear (chart : Chart) (d : List ℕ) (w : (algebra_in L f).carrier)
      (rows : List (List ℕ)) : Type 0 where
    pub plane : IsPlane F rows
    pub few : length rows ≤ y_degree L f
    pub part : (algebra_in L f).carrier
    pub over : IsNumeratorOver L f chart d rows part
    pub rest : (algebra_in L f).carrier
    pub in_powers : InPowers (chart_of L f chart) rest
    pub sum : w ≡ (algebra_in L f).add part ((algebra_in L f).mul (chart_of L f chart).u rest)
    pub exact : chart ≡ Finite → rest ≡ (algebra_in L f).zero

  -- d times w is not in the power order
  abbrev pub IsFar : Chart → List ℕ → (algebra_in L f).carrier → Type 0
  IsFar chart d w = ¬ InPowers (chart_of L f chart)
      ((algebra_in L f).mul (at_u (chart_of L f chart) (poly_of F d)) w)
