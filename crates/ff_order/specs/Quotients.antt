-- The rows that an element of the finite power order makes at infinity, for an equation f over a
-- field whose laws are L.
use Rattle.std.specs.Prelude.{◌≡◌, ℕ, ◌+◌, ◌-◌, ◌*◌, ◌<◌, ◌≤◌, List, length}
use Rattle.ff_theory.specs.Ring.{Elements}
use Rattle.ff_theory.specs.Lawful.{Lawful}
use Rattle.ff_theory.specs.Poly.{coeff, Poly, polynomials}
use Rattle.ff_theory.specs.Division.{size}
use Rattle.ff_theory.specs.Monomial.{variable}
use Rattle.ff_theory.specs.Values.{polys_of, ArePolys}
use Rattle.ff_charts.specs.Chart.{at_theta}
use Rattle.ff_elem.specs.Elem.{algebra_in}
use Rattle.ff_data.specs.declared.order.Chart.TheVariants.{Finite}
use Rattle.ff_data.specs.Orders.{y_degree, chart_of}
use Rattle.ff_data.specs.Quotients.{IsRaisedQuotient}

module _ {F : Elements ℕ} (L : Lawful F) (f : List (List ℕ)) where
  -- row i is the quotient of x^((n - 1 + i) * e) times row i of b in powers of y' by x * d, with n
  -- the y-degree
  pub record AreQuotients (e : ℕ) (d : Poly F.ring) (b : (algebra_in L f).carrier)
      (rows : List (List ℕ)) : Type 0 where
    pub each : ArePolys F rows
    pub within : length rows ≤ y_degree L f
    pub plane : Poly (polynomials F.ring)
    pub few : size (polynomials F.ring) plane ≤ length rows
    pub value : b ≡ at_theta (chart_of L f Finite) plane
    pub quotient : (i : ℕ) → i < length rows → IsRaisedQuotient F
        ((polynomials F.ring).mul (variable F.ring) d) ((y_degree L f - 1 + i) * e)
        (coeff (polynomials F.ring) plane.coeffs i) (coeff (polynomials F.ring) (polys_of F rows) i)
