-- Elements over one common denominator, for an equation f over a field whose laws are L.
use Rattle.std.specs.Prelude.{◌≡◌, ℕ, ◌<◌, ◌≤◌, List, [], length, get_or}
use Rattle.std.specs.List.{All}
use Rattle.ff_theory.specs.Ring.{Elements}
use Rattle.ff_theory.specs.Lawful.{Lawful}
use Rattle.ff_theory.specs.Divides.{Divides}
use Rattle.ff_theory.specs.Values.{poly_of, IsPoly, polys_over, plane_of, IsPlane}
use Rattle.ff_theory.specs.Vector.{vectors_of}
use Rattle.ff_charts.specs.Lattice.{HasShape, flat}
use Rattle.ff_elem.specs.declared.elem.Elem.{Elem}
use Rattle.ff_elem.specs.Elem.{algebra_in, elem_of, poly_in, plane_in}

-- a polynomial, not 0, that all denominators divide
pub record IsCommonDenominator (F : Elements ℕ) (ws : List Elem) (den : List ℕ) : Type 0 where
  pub poly : IsPoly F den
  pub nonzero : 0 < length den
  pub multiple : All (λ (w : Elem). Divides (polys_over F) (poly_of F w.den) (poly_of F den)) ws

-- The rows list the coefficients of the planes, l of each of n rows.
pub record AreCoefficients (F : Elements ℕ) (n : ℕ) (planes : List (List (List ℕ)))
    (rows : List (List ℕ)) : Type 0 where
  pub l : ℕ
  pub count : length rows ≡ length planes
  pub shape : (i : ℕ) → i < length planes
      → HasShape F.ring n l (plane_of F (get_or planes i []))
  pub value : (i j : ℕ) → i < length planes
      → vectors_of F rows i j ≡ flat F.ring l (plane_of F (get_or planes i [])) j

-- a plane with at most n rows
pub record IsPlaneWithin (F : Elements ℕ) (n : ℕ) (a : List (List ℕ)) : Type 0 where
  pub plane : IsPlane F a
  pub few : length a ≤ n

module _ {F : Elements ℕ} (L : Lawful F) (f : List (List ℕ)) where
  -- rows is den * w
  pub record IsNumerator (den : List ℕ) (w : Elem) (rows : List (List ℕ)) : Type 0 where
    pub plane : IsPlane F rows
    pub few : length rows < length f
    pub value : (algebra_in L f).mul (poly_in L f den) (elem_of L f w) ≡ plane_in L f rows

  -- each list of rows is den times the element of the same index
  pub record AreNumerators (den : List ℕ) (ws : List Elem) (planes : List (List (List ℕ)))
      : Type 0 where
    pub count : length planes ≡ length ws
    pub each : (i : ℕ) (d : Elem) → i < length ws
        → IsNumerator den (get_or ws i d) (get_or planes i [])
