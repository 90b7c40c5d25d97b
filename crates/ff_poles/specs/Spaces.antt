-- Lists of spaces, and the pole numbers that their dimensions give, for an equation f over a field
-- whose laws are L.
use Rattle.std.specs.Prelude.{◌≡◌, ℕ, ◌-◌, ◌%◌, ◌<◌, ◌≤◌, List, [], length, get_or, Option, None}
use Rattle.std.specs.Prelude.{Some}
use Rattle.std.specs.List.{All}
use Rattle.std.specs.Global.{Vec}
use Rattle.ff_theory.specs.Ring.{Elements}
use Rattle.ff_theory.specs.Lawful.{Lawful}
use Rattle.ff_theory.specs.Span.{InSpan}
use Rattle.ff_theory.specs.Vector.{vectors_of}
use Rattle.ff_elem.specs.declared.elem.Elem.{Elem}
use Rattle.ff_elem.specs.Elem.{algebra_in, elem_of}
use Rattle.ff_data.specs.declared.order.Order.{Order}
use Rattle.ff_data.specs.declared.point.Point.{Point}
use Rattle.ff_data.specs.declared.point.RRSpace.{RRSpace}
use Rattle.ff_data.specs.Combinations.{AreElems, elems_of, InSpanOf}
use Rattle.ff_data.specs.declared.system.System.{System}
use Rattle.ff_data.specs.Poles.{HasPoleOf, IsPoleNumber, IsSpaceAt}
use Rattle.ff_systems.specs.Places.{frame, IsPlace, HasLeastFunctions}
use Rattle.ff_poles.specs.Found.{IsSystemAt}

-- the bases are lists of elements
abbrev pub HaveElems : {F : Elements ℕ} → Lawful F → List (List ℕ) → List RRSpace → Type 0
HaveElems L f spaces = All (λ (s : RRSpace). AreElems L f s.basis) spaces

-- the dimension of space j
abbrev pub dimension_at : List RRSpace → ℕ → ℕ
dimension_at spaces j = length (get_or spaces j (record { j = 0; basis = [] })).basis

-- the dimension is greater than that of the space before
abbrev pub RisesAt : List RRSpace → ℕ → Type 0
RisesAt spaces j = (0 < j) × (dimension_at spaces (j - 1) < dimension_at spaces j)

-- m is 0 for the class of 0, and else the least index in the class i modulo e at which the
-- dimension rises, or the number of spaces where there is none
pub record IsLeastIndex (spaces : List RRSpace) (e i m : ℕ) : Type 0 where
  pub zero : i ≡ 0 → m ≡ 0
  pub rises : 0 < i → m < length spaces → RisesAt spaces m
  pub own : 0 < i → m < length spaces → m % e ≡ i
  pub least : 0 < i → (j : ℕ) → j < m → j < length spaces → j % e ≡ i → ¬ RisesAt spaces j

-- in some class below e the dimension never rises
pub record HasNoIndex (spaces : List RRSpace) (e : ℕ) : Type 0 where
  pub class : ℕ
  pub below : class < e
  pub index : ℕ
  pub least : IsLeastIndex spaces e class index
  pub past : length spaces ≤ index

-- such an index for each class below e
abbrev pub AreLeastIndices : List RRSpace → (e n : ℕ) → List ℕ → Type 0
AreLeastIndices spaces e n list = (i : ℕ) → i < n → IsLeastIndex spaces e i (get_or list i 0)

-- i is the first index from n on of a vector that is no combination of the first n ones, or the
-- number of the vectors where there is none
pub record IsFirstOutside (F : Elements ℕ) (rows : List (List ℕ)) (n i : ℕ) : Type 0 where
  pub after : i < length rows → n ≤ i
  pub outside : i < length rows → ¬ InSpan F.ring n (vectors_of F rows) (vectors_of F rows i)
  pub inside : (j : ℕ) → n ≤ j → j < i → j < length rows
      → InSpan F.ring n (vectors_of F rows) (vectors_of F rows j)

module _ {F : Elements ℕ} (L : Lawful F) (f : List (List ℕ)) where
  -- space j is L_j of the point, for each j
  abbrev pub AreSpacesAt : Order → Point → Order → List RRSpace → Type 0
  AreSpacesAt o p other spaces = (j : ℕ) (d : RRSpace) → j < length spaces
      → IsSpaceAt L f o p other (get_or spaces j d) × ((get_or spaces j d).j ≡ j)

  -- an element of the second list that is no combination of the first one, or there is none
  abbrev pub IsPicked : (lower upper : List Elem) → Option Elem → Type 0
  IsPicked lower upper (Some w) = (i : ℕ) × ((i < length upper)
      × ((elem_of L f w ≡ elems_of L f upper i)
      × ¬ InSpanOf L f (length lower) (elems_of L f lower) (elem_of L f w)))
  IsPicked lower upper None = (i : ℕ) → i < length upper
      → InSpanOf L f (length lower) (elems_of L f lower) (elems_of L f upper i)

  -- Whatever point the spaces are of:
  -- w has a pole of order m, and is 1 where m is 0; or m is no pole number
  abbrev pub HasFunctionAt : Order → Point → Order → ℕ → Option Elem → Type 0
  HasFunctionAt o p other m (Some w) = HasPoleOf L f o p other m (elem_of L f w)
      × (m ≡ 0 → elem_of L f w ≡ (algebra_in L f).one)
  HasFunctionAt o p other m None = ¬ IsPoleNumber L f o p other m

  abbrev pub IsFunctionWhere : List RRSpace → ℕ → Option Elem → Type 0
  IsFunctionWhere spaces m r = (o : Order) (p : Point) (other : Order) → IsPlace L f o p other
      → AreSpacesAt o p other spaces → HasFunctionAt o p other m r

  -- such functions of all numbers, or one of these is no pole number
  abbrev pub AreFunctionsWhere : List RRSpace → List ℕ → Option (Vec Elem) → Type 0
  AreFunctionsWhere spaces numbers (Some v) = (i : ℕ) (d : Elem) → i < length numbers
      → IsFunctionWhere spaces (get_or numbers i 0) (Some (get_or v.items i d))
  AreFunctionsWhere spaces numbers None = (i : ℕ) × ((i < length numbers)
      × IsFunctionWhere spaces (get_or numbers i 0) None)

  -- a pole system within J, or there is none
  abbrev pub IsAnySystemAt : Order → Point → Order → ℕ → Option System → Type 0
  IsAnySystemAt o p other J r = IsSystemAt L f o p other J (λ s. Unit {0}) r

  abbrev pub IsSystemOfSpaces : List RRSpace → Option System → Type 0
  IsSystemOfSpaces spaces r = (o : Order) (p : Point) (other : Order) → IsPlace L f o p other
      → AreSpacesAt o p other spaces → IsAnySystemAt o p other (length spaces - 1) r

  -- such a system where these are the least functions of the point
  abbrev pub IsSystemOfFunctions : (J : ℕ) → Elem → List Elem → List ℕ → Option System → Type 0
  IsSystemOfFunctions J z b numbers r = (o : Order) (p : Point) (other : Order)
      → IsPlace L f o p other
      → HasLeastFunctions L f o p other (frame (length numbers) z b numbers)
      → IsAnySystemAt o p other J r

-- the numbers are the least indices of the classes modulo e, their number, which is the first index
-- at which the dimension rises
pub record AreNumbersOf (spaces : List RRSpace) (numbers : List ℕ) : Type 0 where
  pub rises : RisesAt spaces (length numbers)
  pub first : (j : ℕ) → j < length numbers → ¬ RisesAt spaces j
  pub least : AreLeastIndices spaces (length numbers) (length numbers) numbers
