-- The functions that a relation says, for an equation f over a field whose laws are L. This
-- project's own.
use Rattle.std.specs.Prelude.{◌≡◌, ℕ, ◌+◌, ◌%◌, ◌<◌, List, [], ◌∷◌, ◌++◌, length, get_or}
use Rattle.ff_theory.specs.Ring.{Elements, power}
use Rattle.ff_theory.specs.Lawful.{Lawful}
use Rattle.ff_theory.specs.Poly.{Poly, polynomials}
use Rattle.ff_theory.specs.Values.{poly_of, plane_of}
use Rattle.ff_theory.specs.Vector.{vector_of, vectors_of, combination_of}
use Rattle.ff_charts.specs.Chart.{at_u, at_theta}
use Rattle.ff_lin.specs.Space.{rows_of}
use Rattle.ff_elem.specs.declared.elem.Elem.{Elem}
use Rattle.ff_elem.specs.Elem.{algebra_in, elem_of}
use Rattle.ff_data.specs.declared.order.Chart.{Chart}
use Rattle.ff_data.specs.declared.order.Chart.TheVariants.{Finite, Infinite}
use Rattle.ff_data.specs.Orders.{chart_of}
use Rattle.ff_data.specs.Combinations.{combination_in, constant_in}
use Rattle.ff_common.specs.Common.{HasVectorOver, IsOver}
use Rattle.ff_forms.specs.declared.functions.Functions.{Functions}
use Rattle.ff_functions.specs.declared.frame.Frame.{Frame}
use Rattle.ff_functions.specs.declared.numbers.PoleNumber.{PoleNumber}
use Rattle.ff_functions.specs.declared.search.Trail.{Trail}
use Rattle.ff_functions.specs.declared.search.Search.{Search}

module _ {F : Elements ℕ} (L : Lawful F) (f : List (List ℕ)) where
  -- v is the combination of the numerators of a frame
  abbrev pub IsBaseVector : Frame → (c v : ℕ → F.carrier) → Type 0
  IsBaseVector s c v = (j : ℕ) → v j ≡ combination_of F (rows_of s.numerators.items) c j

  -- the value of the plane is that of g times a and of c times b
  abbrev pub IsPlaneSum : Poly F.ring → Poly (polynomials F.ring) → F.carrier
      → Poly (polynomials F.ring) → List (List ℕ) → Type 0
  IsPlaneSum g a c b r = at_theta (chart_of L f Finite) (plane_of F r) ≡ (algebra_in L f).add
      ((algebra_in L f).mul (at_u (chart_of L f Finite) g) (at_theta (chart_of L f Finite) a))
      ((algebra_in L f).mul (constant_in L f c) (at_theta (chart_of L f Finite) b))

  -- each element has the numerator of the frame over d
  abbrev pub HaveNumerators : List ℕ → Frame → (ℕ → (algebra_in L f).carrier) → Type 0
  HaveNumerators d s g = (l : ℕ) → l < length s.numerators.items
      → HasVectorOver L f d s.l (vectors_of F (rows_of s.numerators.items) l) (g l)

  -- root^n * d
  abbrev pub power_modulus : (d root : List ℕ) → ℕ → Poly F.ring
  power_modulus d root n = (polynomials F.ring).mul
      (power (polynomials F.ring) (poly_of F root) n) (poly_of F d)

  -- m * w is the plane at x and y'
  abbrev pub IsOverPoly : Poly F.ring → List (List ℕ) → (algebra_in L f).carrier → Type 0
  IsOverPoly m N w = (algebra_in L f).mul (at_u (chart_of L f Finite) m) w
      ≡ at_theta (chart_of L f Finite) (plane_of F N)

  -- w i has the plane of the same index over root^(i + 1) * d
  abbrev pub HavePowers : (d root : List ℕ) → List (List (List ℕ))
      → (ℕ → (algebra_in L f).carrier) → Type 0
  HavePowers d root planes w = (i : ℕ) → i < length planes
      → IsOverPoly (power_modulus d root (i + 1)) (get_or planes i []) (w i)

  -- the plane over d is the combination of the elements with the numerators of a frame
  abbrev pub IsBasePlane : Frame → (ℕ → F.carrier) → List (List ℕ) → Type 0
  IsBasePlane s c r = (d : List ℕ) (g : ℕ → (algebra_in L f).carrier) → HaveNumerators d s g
      → IsOver L f d (plane_of F r) (combination_in L f (length s.numerators.items) c g)

  -- the plane over root^n * d is the sum of the element of the base and of a combination of n
  -- powers
  abbrev pub IsWithPowers : (root : List ℕ) (base : List (List ℕ)) (powers : List (List (List ℕ)))
      → ℕ → (ℕ → F.carrier) → List (List ℕ) → Type 0
  IsWithPowers root base powers n c r = (d : List ℕ) (g : (algebra_in L f).carrier)
      (w : ℕ → (algebra_in L f).carrier) → IsOver L f d (plane_of F base) g
      → HavePowers d root powers w → IsOverPoly (power_modulus d root n) r
      ((algebra_in L f).add g (combination_in L f n c w))

  -- the combination of the elements of the frame and of the powers by the relation
  abbrev pub relation_value : Frame → PoleNumber → (g w : ℕ → (algebra_in L f).carrier)
      → (algebra_in L f).carrier
  relation_value s p g w = (algebra_in L f).add (combination_in L f (length s.numerators.items)
      (vector_of F p.relation.items) g) (combination_in L f p.j
      (λ i. vector_of F p.relation.items (length s.numerators.items + i)) w)

  abbrev pub IsFiniteFunction : List ℕ → Frame → Trail → PoleNumber → Elem → Type 0
  IsFiniteFunction d s t p r = (g w : ℕ → (algebra_in L f).carrier) → HaveNumerators d s g
      → HavePowers d t.powers.root t.passed.items w → elem_of L f r ≡ relation_value s p g w

  -- that of the elements of the frame alone
  abbrev pub IsInfiniteFunction : List ℕ → Frame → PoleNumber → Elem → Type 0
  IsInfiniteFunction d s p r = (g : ℕ → (algebra_in L f).carrier) → HaveNumerators d s g
      → elem_of L f r ≡ combination_in L f (length s.numerators.items)
      (vector_of F p.relation.items) g

  -- the function of a number at a point of the chart
  abbrev pub IsFunctionOf : Chart → List ℕ → Frame → Trail → PoleNumber → Elem → Type 0
  IsFunctionOf Finite d s t p r = IsFiniteFunction d s t p r
  IsFunctionOf Infinite d s t p r = IsInfiniteFunction d s p r

-- p is the number with the index
abbrev pub IsNumberAt : List PoleNumber → ℕ → PoleNumber → Type 0
IsNumberAt numbers t p = (t < length numbers) × ((d : PoleNumber) → get_or numbers t d ≡ p)

-- p is one of the numbers, and i modulo e
pub record IsOfClass (numbers : List PoleNumber) (e i : ℕ) (p : PoleNumber) : Type 0 where
  pub index : ℕ
  pub at : IsNumberAt numbers index p
  pub own : p.j % e ≡ i

-- 0, and a number of each other class below n
pub record AreClassWeights (numbers : List PoleNumber) (e n : ℕ) (weights : List ℕ) : Type 0 where
  pub zero : get_or weights 0 0 ≡ 0
  pub each : (i : ℕ) → 0 < i → i < n → (p : PoleNumber)
      × (IsOfClass numbers e i p × (get_or weights i 0 ≡ p.j))

module _ {F : Elements ℕ} (L : Lawful F) (f : List (List ℕ)) (chart : Chart) (d : List ℕ)
    (s : Frame) (r : Search) where
  -- 1, and the function of a number of each other class below n
  pub record AreClassFunctions (e n : ℕ) (list : List Elem) : Type 0 where
    pub one : (a : Elem) → elem_of L f (get_or list 0 a) ≡ (algebra_in L f).one
    pub each : (i : ℕ) → 0 < i → i < n → (a : Elem) → (p : PoleNumber)
        × (IsOfClass r.numbers.items e i p × IsFunctionOf L f chart d s r.trail p (get_or list i a))

  -- the list with the function of a number that is i modulo e at the end
  pub record HasNextFunction (e i : ℕ) (old new : List Elem) : Type 0 where
    pub number : PoleNumber
    pub own : IsOfClass r.numbers.items e i number
    pub function : Elem
    pub value : IsFunctionOf L f chart d s r.trail number function
    pub list : new ≡ old ++ function ∷ []

  -- e is the first number, z its function, and the others are those of the classes modulo e
  pub record AreAssembled (t : Functions) : Type 0 where
    pub first : PoleNumber
    pub at : IsNumberAt r.numbers.items 0 first
    pub e : first.j ≡ t.e
    pub z : IsFunctionOf L f chart d s r.trail first t.z
    pub b : AreClassFunctions t.e t.e t.b
    pub weights : AreClassWeights r.numbers.items t.e t.e t.weights
