-- Vectors of numerators over the modulus of a pole module, for an equation f over a field whose
-- laws are L.
use Rattle.std.specs.Prelude.{◌≡◌, ℕ, ◌+◌, ◌*◌, ◌<◌, pred, List, length, ◌↔◌}
use Rattle.ff_theory.specs.Ring.{Elements}
use Rattle.ff_theory.specs.Lawful.{Lawful}
use Rattle.ff_theory.specs.Poly.{Poly, polynomials}
use Rattle.ff_theory.specs.Span.{InSpan}
use Rattle.ff_theory.specs.Values.{poly_of}
use Rattle.ff_theory.specs.Vector.{vectors_of}
use Rattle.ff_charts.specs.Lattice.{InLattice, flat}
use Rattle.ff_lin.specs.Space.{rows_of, AreVectors}
use Rattle.ff_elem.specs.Elem.{algebra_in}
use Rattle.ff_data.specs.declared.order.Order.{Order}
use Rattle.ff_data.specs.declared.point.Point.{Point}
use Rattle.ff_data.specs.Orders.{chart_of, y_degree}
use Rattle.ff_data.specs.Poles.{InModule}
use Rattle.ff_common.specs.Common.{IsTimesVector}
use Rattle.ff_frac.specs.declared.numerators.Numerators.{Numerators}
use Rattle.ff_frac.specs.Places.{IsMaximalPlace}
use Rattle.ff_frac.specs.Powers.{HasPowersForm, IsPowerAt}

-- the form of power i, and vectors with as many coefficients in a row as residues modulo its
-- modulus have
pub record HasNumeratorsForm {F : Elements ℕ} (L : Lawful F) (f : List (List ℕ)) (o : Order) (i : ℕ)
    (s : Numerators) : Type 0 where
  pub powers : HasPowersForm L f o i s.powers
  pub vectors : AreVectors F (y_degree L f * pred (length s.powers.modulus)) s.vectors.items

module _ {F : Elements ℕ} (L : Lawful F) (f : List (List ℕ)) where
  -- the products with g of the planes with the old vectors, of l coefficients a row, as vectors of
  -- h, and the vector of the plane N
  pub record IsWithPlane (g : Poly F.ring) (l h : ℕ) (N : Poly (polynomials F.ring))
      (old new : List (List ℕ)) : Type 0 where
    pub count : length new ≡ length old + 1
    pub times : (t : ℕ) → t < length old
        → IsTimesVector L f g l h (vectors_of F old t) (vectors_of F new t)
    pub last : (j : ℕ) → vectors_of F new (length old) j ≡ flat F.ring h N j

  -- the elements w for which m * w has a residue with a vector in the span are those of M_i
  abbrev pub IsModuleSpan : Order → Point → ℕ → List ℕ → List (List ℕ) → Type 0
  IsModuleSpan o p i m rows = (w : (algebra_in L f).carrier)
      → InLattice (chart_of L f o.chart) (poly_of F m) (λ N. InSpan F.ring (length rows)
      (vectors_of F rows) (flat F.ring (pred (length m)) N)) w ↔ InModule L f o p i w

  -- the power of order i, and vectors that span those of M_i
  pub record AreNumeratorsAt (o : Order) (p : Point) (i : ℕ) (s : Numerators) : Type 0 where
    pub power : IsPowerAt L f o p i s.powers
    pub exact : IsModuleSpan o p i s.powers.modulus (rows_of s.vectors.items)

  -- where the ones before are those of order i, these are those of order i + 1
  abbrev pub AreNextNumerators : Order → ℕ → Numerators → Numerators → Type 0
  AreNextNumerators o i s r = (p : Point) → IsMaximalPlace L f o p → AreNumeratorsAt o p i s
      → AreNumeratorsAt o p (i + 1) r
