-- The powers of the leading row of an equation f, and an element w with its denominator cleared of
-- them, over a field whose laws are L.
use Rattle.std.specs.Prelude.{◌≡◌, ℕ, ◌-◌, ◌<◌, List, length, false}
use Rattle.ff_theory.specs.Ring.{Elements, power}
use Rattle.ff_theory.specs.Lawful.{Lawful, lawful_field}
use Rattle.ff_theory.specs.Poly.{Poly, coeff}
use Rattle.ff_theory.specs.Values.{poly_of, polys_of, polys_over, IsPoly, ArePolys, plane_of}
use Rattle.ff_charts.specs.Chart.{at_theta}
use Rattle.ff_charts.specs.FieldCharts.{leading_row, finite_chart}
use Rattle.ff_elem.specs.declared.elem.Elem.{Elem}
use Rattle.ff_elem.specs.Elem.{algebra_in}

-- the powers of a polynomial from that with exponent 0 on
pub record ArePowers (F : Elements ℕ) (base : Poly F.ring) (n : ℕ) (powers : List (List ℕ))
    : Type 0 where
  pub each : ArePolys F powers
  pub count : length powers ≡ n
  pub value : (i : ℕ) → i < n → coeff (polys_over F) (polys_of F powers) i
      ≡ power (polys_over F) base i

module _ {F : Elements ℕ} (L : Lawful F) (f : List (List ℕ)) where
  -- the leading row of f
  abbrev pub lead_of : Poly F.ring
  lead_of = leading_row (lawful_field L) (plane_of F f)

  -- its power by the y-degree of f without 1
  abbrev pub top_power : Poly F.ring
  top_power = power (polys_over F) lead_of (length f - 2)

  -- the polynomial in x and y with these rows at x and y'
  abbrev pub at_monic : List (List ℕ) → (algebra_in L f).carrier
  at_monic rows = at_theta (finite_chart (lawful_field L) (plane_of F f)) (plane_of F rows)

  -- the denominator of w times the square of the top power
  abbrev pub whole_of : Elem → Poly F.ring
  whole_of w = (polys_over F).mul (poly_of F w.den) ((polys_over F).mul top_power top_power)

  -- numerator i of w times the power of the leading row by n - i, with n the y-degree
  abbrev pub raised_row : Elem → ℕ → Poly F.ring
  raised_row w i = (polys_over F).mul (coeff (polys_over F) (polys_of F w.num) i)
      (power (polys_over F) lead_of (length f - 1 - i))

  -- the fractions rows i / d are those of the raised rows over the whole denominator
  pub record HasParts (w : Elem) (d : List ℕ) (rows : List (List ℕ)) : Type 0 where
    pub d_poly : IsPoly F d
    pub nonzero : (polys_over F).same (poly_of F d) (polys_over F).zero ≡ false
    pub each : ArePolys F rows
    pub count : length rows ≡ length f - 1
    pub equal : (i : ℕ) → i < length f - 1
        → (polys_over F).mul (coeff (polys_over F) (polys_of F rows) i) (whole_of w)
        ≡ (polys_over F).mul (raised_row w i) (poly_of F d)
