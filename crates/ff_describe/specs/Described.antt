-- Systems of given functions, for an equation f over a field whose laws are L. This project's own.
use Rattle.std.specs.Prelude.{◌≡◌, ℕ, ◌+◌, ◌/◌, ◌^◌, ◌<◌, ◌≤◌, List, [], length, get_or}
use Rattle.std.specs.List.{All}
use Rattle.ff_theory.specs.Ring.{Elements}
use Rattle.ff_theory.specs.Lawful.{Lawful}
use Rattle.ff_elem.specs.declared.elem.Elem.{Elem}
use Rattle.ff_elem.specs.Elem.{algebra_in, IsElem, x_in, y_in}
use Rattle.ff_data.specs.declared.system.Coords.{Coords}
use Rattle.ff_data.specs.declared.order.Order.{Order}
use Rattle.ff_data.specs.declared.point.Point.{Point}
use Rattle.ff_data.specs.declared.system.System.{System}
use Rattle.ff_data.specs.Combinations.{AreElems}
use Rattle.ff_data.specs.Systems.{AreCoords, HasForm, IsWithinWeight, IsExpression, ring_value}
use Rattle.ff_data.specs.Systems.{weight_at, product_at, IsSystem}
use Rattle.ff_systems.specs.Places.{frame, IsPlace, HasLeastFunctions, WritesProducts}
use Rattle.ff_forms.specs.declared.functions.Functions.{Functions}
use Rattle.ff_describe.specs.Levels.{product_of}
use Rattle.ff_describe.specs.Readings.{HasTriangleShape}

-- the frame of least functions
abbrev pub frame_of : Functions → System
frame_of s = frame s.e s.z s.b s.weights

-- the system has these functions and their weights
pub record HasFunctions (functions : Functions) (s : System) : Type 0 where
  pub e : s.e ≡ functions.e
  pub z : s.z ≡ functions.z
  pub b : s.b ≡ functions.b
  pub weights : s.weights ≡ functions.weights

module _ {F : Elements ℕ} (L : Lawful F) (f : List (List ℕ)) where
  -- e functions and weights, none greater than the limit
  pub record AreFunctionsWithin (limit : ℕ) (s : Functions) : Type 0 where
    pub small : limit < 2 ^ 31
    pub positive : 0 < s.e
    pub z : IsElem L f s.z
    pub b : AreElems L f s.b
    pub count : length s.b ≡ s.e
    pub weights : length s.weights ≡ s.e
    pub within : All (λ m. m ≤ limit) s.weights

  -- the element is written over a monic q in z with e * deg q, and with weights, up to the limit
  abbrev pub IsWritten : ℕ → Functions → (algebra_in L f).carrier → Type 0
  IsWritten limit s w = (c : Coords) × IsExpression L f (frame_of s) w (limit / s.e) limit c

  -- the functions write their products, and x and y are written
  pub record AllWritten (limit : ℕ) (s : Functions) : Type 0 where
    pub products : WritesProducts L f (frame_of s)
    pub x : IsWritten limit s (x_in L f)
    pub y : IsWritten limit s (y_in L f)

  -- Where the functions are the least functions of a point, and e is within the limit, the system
  -- is a pole system of the point.
  abbrev pub IsSystemWhereLeast : ℕ → Functions → System → Type 0
  IsSystemWhereLeast limit functions s = (o : Order) (p : Point) (other : Order)
      → IsPlace L f o p other → HasLeastFunctions L f o p other (frame_of functions)
      → functions.e ≤ limit → IsSystem L f o p other limit s

  -- where they are the least functions of a point, x or y is not written
  abbrev pub IsUnwrittenWhereLeast : ℕ → Functions → Type 0
  IsUnwrittenWhereLeast limit functions = (o : Order) (p : Point) (other : Order)
      → IsPlace L f o p other → HasLeastFunctions L f o p other (frame_of functions)
      → ¬ (IsWritten limit functions (x_in L f) × IsWritten limit functions (y_in L f))

  -- coordinates of b_i * b_k without a term of a weight above the sum of theirs
  pub record IsProductEntry (s : System) (i k : ℕ) (c : List (List ℕ)) : Type 0 where
    pub coords : AreCoords F s c
    pub value : ring_value L f s c ≡ product_of L f s.b i k
    pub weight : IsWithinWeight s (weight_at s i + weight_at s k) c

  -- list j has the coordinates of b_i * b_j for i up to j
  pub record IsTriangleOf (s : System) (lists : List (List (List (List ℕ)))) : Type 0 where
    pub count : length lists ≡ s.e
    pub shape : HasTriangleShape lists
    pub entry : (i j : ℕ) → i ≤ j → j < s.e
        → IsProductEntry s i j (get_or (get_or lists j []) i [])

  -- Entry (i, k) of the table writes b_i * b_k, without a term of a weight above the sum of theirs.
  pub record IsTableOf (s : System) (table : List (List (List (List ℕ)))) : Type 0 where
    pub rows : length table ≡ s.e
    pub row : All (λ r. length r ≡ s.e) table
    pub each : All (All (AreCoords F s)) table
    pub product : (i k : ℕ) → i < s.e → k < s.e
        → ring_value L f s (get_or (get_or table i []) k []) ≡ product_of L f s.b i k
    pub weight : (i k : ℕ) → i < s.e → k < s.e
        → IsWithinWeight s (weight_at s i + weight_at s k) (get_or (get_or table i []) k [])

  -- The table of a system writes the products of its basis, and x and y are written over monic
  -- polynomials q with e * deg q, and with weights, up to the limit.
  pub record IsDescribed (limit : ℕ) (s : System) : Type 0 where
    pub form : HasForm L f s
    pub positive : 0 < s.e
    pub table : IsTableOf s s.table
    pub x : IsExpression L f s (x_in L f) (limit / s.e) limit s.x
    pub y : IsExpression L f s (y_in L f) (limit / s.e) limit s.y
