-- Residues at infinity of elements of E(f), as vectors, for an equation f over a field whose laws
-- are L. This project's own.
use Rattle.std.specs.Prelude.{◌≡◌, ℕ, ◌+◌, ◌*◌, ◌<◌, ◌≤◌, List, length}
use Rattle.ff_theory.specs.Ring.{Elements, power}
use Rattle.ff_theory.specs.Lawful.{Lawful}
use Rattle.ff_theory.specs.Poly.{coeff, Poly, polynomials}
use Rattle.ff_theory.specs.Division.{size}
use Rattle.ff_theory.specs.Monomial.{variable}
use Rattle.ff_charts.specs.Chart.{at_u}
use Rattle.ff_charts.specs.Lattice.{HasShape, flat, IsResidue}
use Rattle.ff_elem.specs.Elem.{algebra_in}
use Rattle.ff_data.specs.declared.order.Chart.TheVariants.{Finite, Infinite}
use Rattle.ff_data.specs.Orders.{chart_of, slope_of, y_degree}

module _ {F : Elements ℕ} (L : Lawful F) (f : List (List ℕ)) where
  -- an element whose numerator over d has the vector v has a pole of order less than h at infinity:
  -- row i of the numerator has no more than h - i * e coefficients above the degree of d, with e
  -- the slope
  abbrev pub IsShortOver : (d : List ℕ) (l h : ℕ) → (ℕ → F.carrier) → Type 0
  IsShortOver d l h v = (N : Poly (polynomials F.ring))
      → HasShape F.ring (chart_of L f Finite).degree l N → ((j : ℕ) → flat F.ring l N j ≡ v j)
      → (i : ℕ) → i < y_degree L f
      → i * slope_of L f + size F.ring (coeff (polynomials F.ring) N.coeffs i)
      ≤ h + length d

  -- v is the vector of the residue modulo t^h of t^h * w
  pub record IsImageOf (h : ℕ) (w : (algebra_in L f).carrier) (v : ℕ → F.carrier) : Type 0 where
    pub residue : Poly (polynomials F.ring)
    pub is_residue : IsResidue (chart_of L f Infinite)
        (power (polynomials F.ring) (variable F.ring) h)
        ((algebra_in L f).mul (at_u (chart_of L f Infinite)
        (power (polynomials F.ring) (variable F.ring) h)) w) residue
    pub image_is : (i : ℕ) → v i ≡ flat F.ring h residue i
