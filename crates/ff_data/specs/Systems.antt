-- Pole systems, for an equation f over a field whose laws are L. This project's own, after the
-- pole numbers and the Apery sets of the textbooks.
use Rattle.std.specs.Prelude.{◌≡◌, ℕ, ◌+◌, ◌-◌, ◌*◌, ◌/◌, ◌%◌, ◌<◌, ◌≤◌, List, [], length}
use Rattle.std.specs.Prelude.{get_or}
use Rattle.std.specs.List.{All, sum_by}
use Rattle.ff_theory.specs.Ring.{Elements}
use Rattle.ff_theory.specs.Lawful.{Lawful, lawful_field}
use Rattle.ff_theory.specs.Sum.{sum_below}
use Rattle.ff_theory.specs.Values.{poly_of, IsPoly, ArePolys, plane_of, leading}
use Rattle.ff_elem.specs.Elem.{algebra_in, elem_of, IsElem, x_in, y_in}
use Rattle.ff_data.specs.declared.order.Order.{Order}
use Rattle.ff_data.specs.declared.point.Point.{Point}
use Rattle.ff_data.specs.declared.system.Coords.{Coords}
use Rattle.ff_data.specs.declared.system.System.{System}
use Rattle.ff_data.specs.Substitution.{poly_at}
use Rattle.ff_data.specs.Combinations.{AreElems, elems_of}
use Rattle.ff_data.specs.Poles.{HasPoleUpTo, HasPoleOf, IsPoleNumber}

-- the sum of the whole parts of the weights divided by e
abbrev pub gaps_of : ℕ → List ℕ → ℕ
gaps_of e weights = sum_by (λ m. m / e) weights

-- the weight at an index, and the coordinates of the product of two basis elements
abbrev pub weight_at : System → ℕ → ℕ
weight_at s i = get_or s.weights i 0

abbrev pub product_at : System → ℕ → ℕ → List (List ℕ)
product_at s i k = get_or (get_or s.table i []) k []

-- e * deg(c_l) + m_l, for c_l that is not 0
abbrev pub term_weight : System → List (List ℕ) → ℕ → ℕ
term_weight s c l = s.e * (length (get_or c l []) - 1) + weight_at s l

-- no term of the coordinates has a greater weight
abbrev pub IsWithinWeight : System → ℕ → List (List ℕ) → Type 0
IsWithinWeight s w c = (l : ℕ) → l < length c → 0 < length (get_or c l []) → term_weight s c l ≤ w

-- the greatest weight of a term is w
pub record HasWeight (s : System) (w : ℕ) (c : List (List ℕ)) : Type 0 where
  pub within : IsWithinWeight s w c
  pub term : ℕ
  pub below : term < length c
  pub nonzero : 0 < length (get_or c term [])
  pub attained : term_weight s c term ≡ w

-- as many polynomials as the system has basis elements
pub record AreCoords (F : Elements ℕ) (s : System) (c : List (List ℕ)) : Type 0 where
  pub each : ArePolys F c
  pub count : length c ≡ s.e

-- a monic polynomial q, and coordinates
pub record AreOverMonic (F : Elements ℕ) (s : System) (c : Coords) : Type 0 where
  pub q : IsPoly F c.q
  pub monic : leading F c.q ≡ F.one
  pub coords : AreCoords F s c.c

module _ {F : Elements ℕ} (L : Lawful F) (f : List (List ℕ)) where
  -- p(z)
  abbrev pub at_z : System → List ℕ → (algebra_in L f).carrier
  at_z s p = poly_at (lawful_field L) (plane_of F f) (elem_of L f s.z) (poly_of F p)

  -- c_0(z) * b_0 + c_1(z) * b_1 + ..
  abbrev pub ring_value : System → List (List ℕ) → (algebra_in L f).carrier
  ring_value s c = sum_below (algebra_in L f) (length c)
      (λ l. (algebra_in L f).mul (at_z s (get_or c l [])) (elems_of L f s.b l))

  -- the parts of a system have their forms, and each list has e entries
  pub record HasForm (s : System) : Type 0 where
    pub z : IsElem L f s.z
    pub b : AreElems L f s.b
    pub count : length s.b ≡ s.e
    pub weights : length s.weights ≡ s.e
    pub rows : length s.table ≡ s.e
    pub row : All (λ r. length r ≡ s.e) s.table
    pub table : All (All (AreCoords F s)) s.table
    pub x : AreOverMonic F s s.x
    pub y : AreOverMonic F s s.y

  -- q(z) * w is the sum of the c_l(z) * b_l
  abbrev pub Writes : System → Coords → (algebra_in L f).carrier → Type 0
  Writes s c w = (algebra_in L f).mul (at_z s c.q) w ≡ ring_value s c.c

  -- a monic q of degree at most m, and coordinates of q(z) * w with no term of a weight greater
  -- than
  -- the bound
  pub record IsExpression (s : System) (w : (algebra_in L f).carrier) (m bound : ℕ) (c : Coords)
      : Type 0 where
    pub form : AreOverMonic F s c
    pub degree : length c.q ≤ m + 1
    pub weight : IsWithinWeight s bound c.c
    pub writes : Writes s c w

  -- The pole numbers in the classes modulo e: the weight at i is the least with remainder i, and
  -- b_i has a pole of that order; b_0 is 1.
  pub record AreLeast (o : Order) (p : Point) (other : Order) (s : System) : Type 0 where
    pub first : elems_of L f s.b 0 ≡ (algebra_in L f).one
    pub is_number : (i : ℕ) → i < s.e → IsPoleNumber L f o p other (weight_at s i)
    pub remainder : (i : ℕ) → i < s.e → weight_at s i % s.e ≡ i
    pub least : (j : ℕ) → IsPoleNumber L f o p other j → weight_at s (j % s.e) ≤ j
    pub pole : (i : ℕ) → i < s.e → HasPoleOf L f o p other (weight_at s i) (elems_of L f s.b i)

  -- all parts lie within J: the numbers are at most J, and the elements are in L_J
  pub record AreWithin (o : Order) (p : Point) (other : Order) (J : ℕ) (s : System)
      : Type 0 where
    pub e : s.e ≤ J
    pub weights : All (λ m. m ≤ J) s.weights
    pub z : HasPoleUpTo L f o p other J (elem_of L f s.z)
    pub b : (i : ℕ) → i < s.e → HasPoleUpTo L f o p other J (elems_of L f s.b i)
    pub x_den : HasPoleUpTo L f o p other J (at_z s s.x.q)
    pub y_den : HasPoleUpTo L f o p other J (at_z s s.y.q)
    pub x_num : HasPoleUpTo L f o p other J (ring_value s s.x.c)
    pub y_num : HasPoleUpTo L f o p other J (ring_value s s.y.c)

  -- A pole system within J at the point p of the order o, the other chart's order being `other`: e
  -- is the least positive pole number, and z has a pole of order e; the b_i stand for the classes
  -- of pole numbers modulo e; the table writes their products by weight, and x and y are written.
  pub record IsSystem (o : Order) (p : Point) (other : Order) (J : ℕ) (s : System) : Type 0 where
    pub form : HasForm s
    pub positive : 0 < s.e
    pub is_number : IsPoleNumber L f o p other s.e
    pub least : (j : ℕ) → 0 < j → IsPoleNumber L f o p other j → s.e ≤ j
    pub z : HasPoleOf L f o p other s.e (elem_of L f s.z)
    pub basis : AreLeast o p other s
    pub product : (i k : ℕ) → i < s.e → k < s.e
        → ring_value s (product_at s i k)
        ≡ (algebra_in L f).mul (elems_of L f s.b i) (elems_of L f s.b k)
    pub weight : (i k : ℕ) → i < s.e → k < s.e
        → HasWeight s (weight_at s i + weight_at s k) (product_at s i k)
    pub x : Writes s s.x (x_in L f)
    pub y : Writes s s.y (y_in L f)
    pub within : AreWithin o p other J s
