-- Lists of points of an order, for an equation f over a field whose laws are L. This project's own.
use Rattle.std.specs.Prelude.{◌≡◌, ℕ, ◌+◌, ◌-◌, ◌<◌, ◌≤◌, ◌⊎◌, pred, List, [], ◌∷◌, length, map}
use Rattle.std.specs.Prelude.{get_or}
use Rattle.std.specs.List.{All}
use Rattle.std.specs.Global.{Vec}
use Rattle.std.specs.declared.cmp.Ordering.TheVariants.{Less}
use Rattle.ff_theory.specs.Ring.{Elements, IsElement}
use Rattle.ff_theory.specs.Lawful.{Lawful}
use Rattle.ff_theory.specs.Monomial.{monomial}
use Rattle.ff_theory.specs.Poly.{Poly, polynomials}
use Rattle.ff_theory.specs.Eval.{plane_at}
use Rattle.ff_theory.specs.Span.{product, EndsAt}
use Rattle.ff_theory.specs.Values.{poly_of, plane_of}
use Rattle.ff_theory.specs.Vector.{vector_of, vectors_of, IsVector}
use Rattle.ff_charts.specs.Lattice.{HasShape, flat}
use Rattle.ff_lattice.specs.Remainder.{IsCongruent}
use Rattle.ff_elem.specs.Elem.{algebra_in}
use Rattle.ff_elem.specs.Key.{key_cmp}
use Rattle.ff_data.specs.declared.order.Order.{Order}
use Rattle.ff_data.specs.declared.point.Point.{Point}
use Rattle.ff_data.specs.Orders.{chart_of, y_degree, InOrder}
use Rattle.ff_data.specs.Points.{IsPoint}
use Rattle.ff_characters.specs.Characters.{tables_of, IsCharacter, AreCharacters, HasVector}
use Rattle.ff_fibre.specs.declared.parts.Fibre.{Fibre}
use Rattle.ff_fibre.specs.Fibres.{AreCoordinatesOf}
use Rattle.ff_forms.specs.Forms.{HasPointForm}

-- the value is an entry of the list
abbrev pub IsOneOf : {A : Type 0} → List A → A → Type 0
IsOneOf xs x = (i : ℕ) × ((i < length xs) × (x ≡ get_or xs i x))

-- each entry of the first list is one of the second
abbrev pub AreAmong : {A : Type 0} → List A → List A → Type 0
AreAmong {A} xs ys = (i : ℕ) (d : A) → i < length xs → IsOneOf ys (get_or xs i d)

-- the data of a point are elements, n of them for the basis
pub record HasElements (F : Elements ℕ) (n : ℕ) (p : Point) : Type 0 where
  pub a : IsElement F p.a
  pub theta : IsElement F p.theta
  pub values : IsVector F n p.values

-- the indices of the entries
abbrev pub indices_of : Elements ℕ → List ℕ → List ℕ
indices_of F v = map (λ x. F.index (F.value x)) v

-- the indices of a, of theta and of the values
abbrev pub point_key : Elements ℕ → Point → List ℕ
point_key F p = F.index (F.value p.a) ∷ F.index (F.value p.theta) ∷ indices_of F p.values

-- the keys rise strictly
abbrev pub AreRising : Elements ℕ → List Point → Type 0
AreRising F list = (i : ℕ) (d : Point) → i + 1 < length list
    → key_cmp (point_key F (get_or list i d)) (point_key F (get_or list (i + 1) d)) ≡ Less

-- a point belongs at the index i of a list: its key is greater than that of the point before, and
-- less than that of the point there
pub record BelongsAt (F : Elements ℕ) (list : List Point) (p : Point) (i : ℕ) : Type 0 where
  pub within : i ≤ length list
  pub after : (d : Point) → 0 < i
      → key_cmp (point_key F (get_or list (i - 1) d)) (point_key F p) ≡ Less
  pub before : (d : Point) → i < length list
      → key_cmp (point_key F p) (point_key F (get_or list i d)) ≡ Less

-- some point of the list has the key of the point
abbrev pub HasKeyOf : Elements ℕ → List Point → Point → Type 0
HasKeyOf F list p = (i : ℕ) × ((i < length list)
    × (point_key F (get_or list i p) ≡ point_key F p))

-- the list has the old points and one more, and rises where the old one does
pub record IsListWith (F : Elements ℕ) (old : List Point) (p : Point) (list : List Point)
    : Type 0 where
  pub among : AreAmong list (p ∷ old)
  pub kept : AreAmong (p ∷ old) list
  pub rising : AreRising F old → AreRising F list

-- t is a root of the polynomial in theta that the rows are at a
abbrev pub IsRootOver : (F : Elements ℕ) → List (List ℕ) → ℕ → ℕ → Type 0
IsRootOver F rows a t = plane_at F.ring F.ring (λ s. s) (F.value a) (F.value t) (plane_of F rows)
    ≡ F.zero

-- the data that the character chi gives over a, by the coordinates of theta and of the basis
pub record IsPointBy (F : Elements ℕ) (o : Order) (a : ℕ) (theta : List ℕ) (basis : List (List ℕ))
    (chi : List ℕ) (p : Point) : Type 0 where
  pub form : HasPointForm F o p
  pub a_is : p.a ≡ a
  pub theta_is : F.value p.theta
      ≡ product F.ring (length chi) (vector_of F theta) (vector_of F chi)
  pub values_are : (i : ℕ) → i < length basis → vector_of F p.values i
      ≡ product F.ring (length chi) (vectors_of F basis i) (vector_of F chi)

-- the data that one of the first m characters gives
abbrev pub IsPointByOne : (F : Elements ℕ) (o : Order) (a : ℕ) (theta : List ℕ)
    (basis characters : List (List ℕ)) (m : ℕ) → Point → Type 0
IsPointByOne F o a theta basis characters m p = (j : ℕ)
    × ((j < m) × IsPointBy F o a theta basis (get_or characters j []) p)

-- each entry is one of the old ones or is given by one of the first m characters
abbrev pub AreOldOrBy : (F : Elements ℕ) (o : Order) (a : ℕ) (theta : List ℕ)
    (basis characters : List (List ℕ)) (m : ℕ) (old list : List Point) → Type 0
AreOldOrBy F o a theta basis characters m old list = (i : ℕ) (d : Point) → i < length list
    → IsOneOf old (get_or list i d) ⊎ IsPointByOne F o a theta basis characters m (get_or list i d)

-- a rising list of the old points and of those that the first m characters give
pub record AreWithCharacters (F : Elements ℕ) (o : Order) (a : ℕ) (theta : List ℕ)
    (basis characters : List (List ℕ)) (m : ℕ) (old list : List Point) : Type 0 where
  pub form : All (HasPointForm F o) list
  pub rising : AreRising F list
  pub by : AreOldOrBy F o a theta basis characters m old list
  pub kept : AreAmong old list
  pub whole : (j : ℕ) → j < m → (p : Point)
      × (IsOneOf list p × IsPointBy F o a theta basis (get_or characters j []) p)

module _ {F : Elements ℕ} (L : Lawful F) (f : List (List ℕ)) where
  -- the products of elements of the order are in it
  abbrev pub IsClosedOrder : Order → Type 0
  IsClosedOrder o = (v w : (algebra_in L f).carrier) → InOrder L f o v → InOrder L f o w
      → InOrder L f o ((algebra_in L f).mul v w)

  -- data of a point, which are one where the order is closed under products
  pub record IsPointWhereClosed (o : Order) (p : Point) : Type 0 where
    pub form : HasPointForm F o p
    pub sound : IsClosedOrder o → IsPoint L f o p

  -- such data, by rising keys
  pub record AreRisingPoints (o : Order) (list : List Point) : Type 0 where
    pub each : All (IsPointWhereClosed o) list
    pub rising : AreRising F list

  -- where the order is closed, each point of it with the value a of u is in the list
  abbrev pub HasPointsOver : Order → ℕ → List Point → Type 0
  HasPointsOver o a list = IsClosedOrder o → (p : Point) → IsPoint L f o p
      → F.value p.a ≡ F.value a → IsOneOf list p

  -- and each one for which the index of the value of u is less than n
  abbrev pub HasPointsBelow : Order → ℕ → List Point → Type 0
  HasPointsBelow o n list = IsClosedOrder o → (p : Point) → IsPoint L f o p
      → F.index (F.value p.a) < n → IsOneOf list p

  -- and each one at all
  abbrev pub HasAllPoints : Order → List Point → Type 0
  HasAllPoints o list = IsClosedOrder o → (p : Point) → IsPoint L f o p → IsOneOf list p

  -- c has the coordinates of the power of theta with exponent i
  abbrev pub ArePowerCoordinates : Order → Fibre → ℕ → (ℕ → F.carrier) → Type 0
  ArePowerCoordinates o s i c = (N : Poly (polynomials F.ring))
      × (IsCongruent (polynomials F.ring) (chart_of L f o.chart).equation
      (monomial (polynomials F.ring) (poly_of F o.d) i) N × AreCoordinatesOf L f s N c)

  -- c has the coordinates of the element that the vector v of the order's space stands for
  pub record AreVectorCoordinates (o : Order) (s : Fibre) (v c : ℕ → F.carrier) : Type 0 where
    pub plane : Poly (polynomials F.ring)
    pub shape : HasShape F.ring (y_degree L f) (pred (length o.d)) plane
    pub vector : (j : ℕ) → flat F.ring (pred (length o.d)) plane j ≡ v j
    pub coordinates : AreCoordinatesOf L f s plane c

  -- chi keeps 1 and products
  pub record IsCharacterOf (o : Order) (s : Fibre) (chi : ℕ → F.carrier) : Type 0 where
    pub one : List ℕ
    pub coordinates : ArePowerCoordinates o s 0 (vector_of F one)
    pub character : IsCharacter F (length s.planes.items) (tables_of s.table.items) one chi

  -- the list has exactly the characters
  pub record AreCharactersOf (o : Order) (s : Fibre) (list : List (Vec ℕ)) : Type 0 where
    pub one : List ℕ
    pub coordinates : ArePowerCoordinates o s 0 (vector_of F one)
    pub each : AreCharacters F (length s.planes.items) (tables_of s.table.items) one list
    pub all : (chi : ℕ → F.carrier) → EndsAt F.ring (length s.planes.items) chi
        → IsCharacter F (length s.planes.items) (tables_of s.table.items) one chi
        → HasVector F list chi
