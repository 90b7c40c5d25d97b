-- What a search for the least functions of a point holds, for an equation f over a field whose laws
-- are L. This project's own.
use Rattle.std.specs.Prelude.{◌≡◌, ℕ, ◌+◌, ◌*◌, ◌-◌, ◌%◌, ◌<◌, ◌≤◌, List, [], pred, length, get_or}
use Rattle.std.specs.Prelude.{Bool, true, false, Option, None, Some}
use Rattle.std.specs.Global.{Vec}
use Rattle.std.specs.List.{All}
use Rattle.ff_theory.specs.Ring.{Elements, IsElement, power}
use Rattle.ff_theory.specs.Lawful.{Lawful}
use Rattle.ff_theory.specs.Poly.{polynomials}
use Rattle.ff_theory.specs.Monomial.{variable}
use Rattle.ff_theory.specs.Values.{plane_of}
use Rattle.ff_theory.specs.Vector.{vector_of, vectors_of, IsVector}
use Rattle.ff_charts.specs.Lattice.{flat}
use Rattle.ff_lin.specs.Space.{SpaceParts, AreVectors, rows_of}
use Rattle.ff_data.specs.declared.order.Chart.TheVariants.{Finite, Infinite}
use Rattle.ff_data.specs.declared.order.Order.{Order}
use Rattle.ff_data.specs.declared.point.Point.{Point}
use Rattle.ff_data.specs.declared.system.System.{System}
use Rattle.ff_data.specs.Orders.{y_degree, slope_of}
use Rattle.ff_data.specs.Vectors.{IsPlaneWithin}
use Rattle.ff_common.specs.Common.{IsImage, IsTimesSpace, IsTimesVector}
use Rattle.ff_frac.specs.declared.powers.Powers.{Powers}
use Rattle.ff_frac.specs.Places.{IsMaximalPlace}
use Rattle.ff_frac.specs.Powers.{HasPowersForm, IsPowerAt}
use Rattle.ff_functions.specs.Rows.{AreStepped, HoldImages, IsImageBy, IsSpanned}
use Rattle.ff_functions.specs.Images.{IsShortOver}
use Rattle.ff_functions.specs.declared.echelon.Row.{Row}
use Rattle.ff_functions.specs.declared.frame.Frame.{Frame}
use Rattle.ff_functions.specs.declared.numbers.PoleNumber.{PoleNumber}
use Rattle.ff_functions.specs.declared.search.Trail.{Trail}
use Rattle.ff_functions.specs.declared.search.Search.{Search}
use Rattle.ff_functions.specs.declared.search.Outcome.{Outcome}
use Rattle.ff_functions.specs.declared.search.Outcome.TheVariants.{Complete, Differs, Short}
use Rattle.ff_forms.specs.declared.functions.TheConstants.{POLE_LIMIT}

-- e weights of a system, with e positive
pub record HasWeights (s : System) : Type 0 where
  pub positive : 0 < s.e
  pub count : length s.weights ≡ s.e

-- j is at least the weight in its class
abbrev pub HasNumber : System → ℕ → Type 0
HasNumber s j = get_or s.weights (j % s.e) 0 ≤ j

-- j is a pole number of the system where `true` says so, and none where `false` does
abbrev pub AgreesAt : System → ℕ → Bool → Type 0
AgreesAt s j true = HasNumber s j
AgreesAt s j false = ¬ HasNumber s j

-- one of the numbers is i modulo e
abbrev pub HasClass : List PoleNumber → ℕ → ℕ → Type 0
HasClass numbers e i = (t : ℕ) × ((t < length numbers)
    × ((d : PoleNumber) → (get_or numbers t d).j % e ≡ i))

-- there is a first number, and one in each class modulo it
pub record IsComplete (numbers : List PoleNumber) : Type 0 where
  pub nonempty : 0 < length numbers
  pub classes : (d : PoleNumber) (i : ℕ) → i < (get_or numbers 0 d).j
      → HasClass numbers (get_or numbers 0 d).j i

module _ (F : Elements ℕ) where
  -- a vector of the length by its entries from the pivot on, and at most `count` coefficients
  pub record IsRow (len count : ℕ) (r : Row) : Type 0 where
    pub size : r.pivot + length r.tail.items ≡ len
    pub nonempty : 0 < length r.tail.items
    pub tail : All (IsElement F) r.tail.items
    pub origin : All (IsElement F) r.origin.items
    pub few : length r.origin.items ≤ count

  -- rows of this form, each of which is 0 at the pivots of the ones before it
  pub record AreRows (len count : ℕ) (rows : List Row) : Type 0 where
    pub each : All (IsRow len count) rows
    pub stepped : AreStepped F rows

  -- a positive number up to m, with one coefficient for each of c numerators and of its powers
  pub record IsNumber (c m : ℕ) (p : PoleNumber) : Type 0 where
    pub positive : 0 < p.j
    pub within : p.j ≤ m
    pub relation : IsVector F (c + p.j) p.relation.items

  -- image c + j - 1, which is that of power j, is spanned by the target and the images before it
  abbrev pub IsDependentAt : SpaceParts → ℕ → (ℕ → ℕ → F.carrier) → ℕ → Type 0
  IsDependentAt t c images j = IsSpanned F t (c + pred j) images (images (c + pred j))

  -- the combination with these coefficients of the images up to power j, that one with 1, has the
  -- image 0 up to the target
  pub record IsRelationAt (t : SpaceParts) (c : ℕ) (images : ℕ → ℕ → F.carrier) (j : ℕ)
      (v : List ℕ) : Type 0 where
    pub none : IsImageBy F t (c + j) images (vector_of F v) (λ i. F.zero)
    pub last : vector_of F v (c + pred j) ≡ F.one

  -- Relations, for the least order of all up to m whose images are dependent, which is the first,
  -- and for the least one in each class modulo it.
  pub record AreNumbers (t : SpaceParts) (c : ℕ) (images : ℕ → ℕ → F.carrier) (m : ℕ)
      (numbers : List PoleNumber) : Type 0 where
    pub each : All (λ (p : PoleNumber). IsRelationAt t c images p.j p.relation.items) numbers
    pub first : (j : ℕ) → 0 < j → j ≤ m → IsDependentAt t c images j
        → (0 < length numbers) × ((d : PoleNumber) → (get_or numbers 0 d).j ≤ j)
    pub whole : (j : ℕ) → 0 < j → j ≤ m → IsDependentAt t c images j → (d : PoleNumber)
        → HasClass numbers (get_or numbers 0 d).j (j % (get_or numbers 0 d).j)
    pub least : (s j : ℕ) (d : PoleNumber) → s < length numbers → 0 < j → j ≤ m
        → IsDependentAt t c images j
        → j % (get_or numbers 0 d).j ≡ (get_or numbers s d).j % (get_or numbers 0 d).j
        → (get_or numbers s d).j ≤ j

  -- there is a relation exactly where the images are dependent
  abbrev pub IsVerdict : SpaceParts → ℕ → (ℕ → ℕ → F.carrier) → ℕ → Option (Vec ℕ) → Type 0
  IsVerdict t c images j None = ¬ IsDependentAt t c images j
  IsVerdict t c images j (Some v) = IsRelationAt t c images j v.items

  abbrev pub IsDecided : SpaceParts → ℕ → (ℕ → ℕ → F.carrier) → ℕ → Bool → Type 0
  IsDecided t c images j true = IsDependentAt t c images j
  IsDecided t c images j false = ¬ IsDependentAt t c images j

module _ {F : Elements ℕ} (L : Lawful F) (f : List (List ℕ)) where
  -- the slope, numerators with rows of l coefficients, and so many coefficients of a row of an
  -- image that those of proper fractions are whole
  pub record HasFrameForm (s : Frame) : Type 0 where
    pub slope : s.slope ≡ slope_of L f
    pub positive : 0 < s.h
    pub steep : (y_degree L f - 1) * slope_of L f ≤ s.h
    pub numerators : AreVectors F (y_degree L f * s.l) s.numerators.items

  -- rows that hold the residues of the infinite order as their target, and images of the first n
  -- numerators over d, which are whole where these have poles of low order
  pub record HoldNumerators (s : Frame) (d : List ℕ) (o : Order) (n : ℕ) (rows : List Row)
      : Type 0 where
    pub target : SpaceParts
    pub times : IsTimesSpace L f
        (power (polynomials F.ring) (variable F.ring) (s.h - pred (length o.d)))
        (pred (length o.d)) s.h o.space target
    pub images : ℕ → ℕ → F.carrier
    pub each : (l : ℕ) → l < n
        → IsShortOver L f d s.l s.h (vectors_of F (rows_of s.numerators.items) l)
        → IsImage L f d s.l s.h (vectors_of F (rows_of s.numerators.items) l) (images l)
    pub hold : HoldImages F target n images rows

  -- m planes that are done with, and power i
  pub record HasTrailForm (o : Order) (i m : ℕ) (s : Trail) : Type 0 where
    pub powers : HasPowersForm L f o i s.powers
    pub passed : All (IsPlaneWithin F (y_degree L f)) s.passed.items
    pub count : length s.passed.items ≡ m

  -- a search that has looked at m orders, with power i, by c numerators and images of length len
  pub record HasSearchForm (o : Order) (len c i m : ℕ) (s : Search) : Type 0 where
    pub rows : AreRows F len (c + m) s.echelon.rows.items
    pub trail : HasTrailForm o i m s.trail
    pub numbers : All (IsNumber F c m) s.numbers.items

  -- the data are those of power i at p, where p is a point of a maximal order
  abbrev pub IsPowerOf : Order → Point → ℕ → Powers → Type 0
  IsPowerOf o p i s = IsMaximalPlace L f o p → IsPowerAt L f o p i s

  -- v is the image of power i at p, with the numerator N: the vector of t^h times the power modulo
  -- t^h
  pub record IsPowerImage (o : Order) (p : Point) (h i : ℕ) (N : List (List ℕ))
      (v : ℕ → F.carrier) : Type 0 where
    pub powers : Powers
    pub form : HasPowersForm L f o i powers
    pub exact : IsPowerOf o p i powers
    pub numerator : powers.power ≡ N
    pub finite : o.chart ≡ Finite
        → IsImage L f powers.modulus (pred (length powers.modulus)) h
        (flat F.ring (pred (length powers.modulus)) (plane_of F N)) v
    pub infinite : o.chart ≡ Infinite → IsTimesVector L f
        (power (polynomials F.ring) (variable F.ring) (h - pred (length powers.modulus)))
        (pred (length powers.modulus)) h
        (flat F.ring (pred (length powers.modulus)) (plane_of F N)) v

  -- rows that hold the first c images of a family and those of m powers at p, and their pole
  -- numbers, with the data of power n
  pub record HoldSearch (o : Order) (p : Point) (h c n m : ℕ) (t : SpaceParts)
      (first : ℕ → ℕ → F.carrier) (s : Search) : Type 0 where
    pub power : IsPowerOf o p n s.trail.powers
    pub images : ℕ → ℕ → F.carrier
    pub before : (l : ℕ) → l < c → images l ≡ first l
    pub powers : (i : ℕ) → i < m
        → IsPowerImage o p h (i + 1) (get_or s.trail.passed.items i []) (images (c + i))
    pub hold : HoldImages F t (c + m) images s.echelon.rows.items
    pub form : All (IsNumber F c m) s.numbers.items
    pub numbers : AreNumbers F t c images m s.numbers.items

  -- a search whose pole numbers are complete, after as many orders as it has powers
  pub record HasFound (o : Order) (c : ℕ) (s : Search) : Type 0 where
    pub bound : ℕ
    pub within : bound ≤ POLE_LIMIT
    pub trail : HasTrailForm o bound bound s.trail
    pub numbers : All (IsNumber F c bound) s.numbers.items
    pub complete : IsComplete s.numbers.items

  abbrev pub IsOutcome : Order → ℕ → Outcome → Type 0
  IsOutcome o c (Complete s) = HasFound o c s
  IsOutcome o c Differs = Unit {0}
  IsOutcome o c Short = Unit {0}

  -- such a search, and whether its last order is dependent
  pub record HoldDecided (o : Order) (p : Point) (h c m : ℕ) (t : SpaceParts)
      (first : ℕ → ℕ → F.carrier) (s : Search) (b : Bool) : Type 0 where
    pub held : HoldSearch o p h c m m t first s
    pub decided : IsDecided F t c held.images m b

  -- a search up to some order that is dependent where it should not be, or the other way round
  pub record HasUnlike (o : Order) (p : Point) (h c bound : ℕ) (t : SpaceParts)
      (first : ℕ → ℕ → F.carrier) (agrees : ℕ → Bool → Type 0) : Type 0 where
    pub m : ℕ
    pub positive : 0 < m
    pub within : m ≤ bound
    pub search : Search
    pub is_number : Bool
    pub held : HoldDecided o p h c m t first search is_number
    pub unlike : ¬ agrees m is_number

  -- What a search at p up to a bound came to, whose rows held the first images: a search up to some
  -- order; one that is not like the given system; or one up to the bound that is not complete.
  abbrev pub HoldsOutcome : Order → Point → (h c bound : ℕ) → SpaceParts
      → (ℕ → ℕ → F.carrier) → (ℕ → Bool → Type 0) → Outcome → Type 0
  HoldsOutcome o p h c bound t first agrees (Complete s) = (m : ℕ)
      × ((m ≤ bound) × HoldSearch o p h c m m t first s)
  HoldsOutcome o p h c bound t first agrees Differs = HasUnlike o p h c bound t first agrees
  HoldsOutcome o p h c bound t first agrees Short = (s : Search)
      × (HoldSearch o p h c (bound + 1) bound t first s × ¬ IsComplete s.numbers.items)

  -- Whatever images the rows of s hold:
  -- those of r hold that of power j at p too, and b says whether its order is dependent
  abbrev pub IsLook : Order → Point → (h c j : ℕ) → (s r : Search) → Bool → Type 0
  IsLook o p h c j s r b = (t : SpaceParts) (first : ℕ → ℕ → F.carrier)
      → HoldSearch o p h c j (pred j) t first s → HoldDecided o p h c j t first r b

  -- r holds them, up to power j, with the data of the next one
  abbrev pub Keeps : Order → (h c j : ℕ) → (s r : Search) → Type 0
  Keeps o h c j s r = (p : Point) (t : SpaceParts) (first : ℕ → ℕ → F.carrier)
      → HoldSearch o p h c j j t first s → HoldSearch o p h c (j + 1) j t first r

  -- r is what the search from s on came to
  abbrev pub Ends : Order → (h c bound : ℕ) → (ℕ → Bool → Type 0) → Search → Outcome → Type 0
  Ends o h c bound agrees s r = (p : Point) (t : SpaceParts) (first : ℕ → ℕ → F.carrier)
      → HoldSearch o p h c 1 0 t first s → HoldsOutcome o p h c bound t first agrees r

  -- a search before the first power, whose rows hold the images of all numerators over d
  pub record IsBegun (o : Order) (p : Point) (s : Frame) (d : List ℕ) (infinite : Order)
      (r : Search) : Type 0 where
    pub rows : HoldNumerators s d infinite (length s.numerators.items) r.echelon.rows.items
    pub search : HoldSearch o p s.h (length s.numerators.items) 1 0 rows.target rows.images r
