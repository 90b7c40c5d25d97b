-- Points of an irreducible equation f, over a field whose laws are L, and the least functions
-- there.
use Rattle.std.specs.Prelude.{◌≡◌, ℕ, suc, ◌+◌, ◌<◌, ◌≤◌, List, []}
use Rattle.ff_theory.specs.Ring.{Elements}
use Rattle.ff_theory.specs.Lawful.{Lawful, lawful_field}
use Rattle.ff_theory.specs.Sum.{sum_below}
use Rattle.ff_theory.specs.Poly.{Poly, polynomials}
use Rattle.ff_theory.specs.Values.{plane_of}
use Rattle.ff_factors.specs.Factors.{IsFactored}
use Rattle.ff_table.specs.Weight.{IsBelow}
use Rattle.ff_elem.specs.declared.elem.Elem.{Elem}
use Rattle.ff_elem.specs.Elem.{algebra_in, elem_of}
use Rattle.ff_data.specs.declared.order.Order.{Order}
use Rattle.ff_data.specs.declared.point.Point.{Point}
use Rattle.ff_data.specs.declared.system.System.{System}
use Rattle.ff_data.specs.Orders.{IsMaximal}
use Rattle.ff_data.specs.Points.{IsPoint}
use Rattle.ff_data.specs.Poles.{HasPoleOf, IsPoleNumber}
use Rattle.ff_data.specs.Substitution.{poly_at}
use Rattle.ff_data.specs.Combinations.{elems_of}
use Rattle.ff_data.specs.Systems.{weight_at, AreLeast}

-- a system with these functions, in which nothing is written
abbrev pub frame : ℕ → Elem → List Elem → List ℕ → System
frame e z b weights = record {
  e = e;
  z = z;
  b = b;
  weights = weights;
  table = [];
  x = record { q = []; c = [] };
  y = record { q = []; c = [] };
}

module _ {F : Elements ℕ} (L : Lawful F) (f : List (List ℕ)) where
  -- f has no factors over k(x), the orders are the maximal ones of both charts, and p is a point of
  -- the first
  pub record IsPlace (o : Order) (p : Point) (other : Order) : Type 0 where
    pub irreducible : (g h : Poly (polynomials F.ring)) → ¬ IsFactored F.ring (plane_of F f) g h
    pub maximal : IsMaximal L f o
    pub opposite : IsMaximal L f other
    pub charts : ¬ (other.chart ≡ o.chart)
    pub point : IsPoint L f o p

  -- e is the least positive pole number, z has a pole of order e, and the b_i stand for the classes
  -- of pole numbers modulo e
  pub record HasLeastFunctions (o : Order) (p : Point) (other : Order) (s : System)
      : Type 0 where
    pub positive : 0 < s.e
    pub is_number : IsPoleNumber L f o p other s.e
    pub least : (j : ℕ) → 0 < j → IsPoleNumber L f o p other j → s.e ≤ j
    pub z : HasPoleOf L f o p other s.e (elem_of L f s.z)
    pub basis : AreLeast L f o p other s

  -- c_0(z) * b_0 + c_1(z) * b_1 + .. , e terms
  abbrev pub coords_value : System → (ℕ → Poly F.ring) → (algebra_in L f).carrier
  coords_value s c = sum_below (algebra_in L f) s.e (λ l. (algebra_in L f).mul
      (poly_at (lawful_field L) (plane_of F f) (elem_of L f s.z) (c l)) (elems_of L f s.b l))

  -- w has coordinates without a term of a weight above the bound
  pub record HasLightCoords (s : System) (bound : ℕ) (w : (algebra_in L f).carrier) : Type 0 where
    pub coords : ℕ → Poly F.ring
    pub value : w ≡ coords_value s coords
    pub light : IsBelow F.ring s.e (λ i. weight_at s i) (suc bound) coords

  -- the functions are independent over k[z], and the products of the b_i have coordinates without
  -- a term of a weight above the sum of theirs
  pub record WritesProducts (s : System) : Type 0 where
    pub independent : (c : ℕ → Poly F.ring) → coords_value s c ≡ (algebra_in L f).zero → (l : ℕ)
        → l < s.e → c l ≡ (polynomials F.ring).zero
    pub product : (i k : ℕ) → i < s.e → k < s.e → HasLightCoords s (weight_at s i + weight_at s k)
        ((algebra_in L f).mul (elems_of L f s.b i) (elems_of L f s.b k))
