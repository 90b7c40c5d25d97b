-- Lists of isomorphisms of two equations f and g over a field whose laws are L, and why there is
-- none.
use Rattle.std.specs.Prelude.{◌≡◌, ℕ, ◌+◌, ◌<◌, ◌≤◌, ◌⊎◌, List, ◌++◌, length, get_or}
use Rattle.std.specs.declared.cmp.Ordering.TheVariants.{Less}
use Rattle.std.specs.List.{All}
use Rattle.ff_theory.specs.Ring.{Elements}
use Rattle.ff_theory.specs.Lawful.{Lawful}
use Rattle.ff_elem.specs.Key.{key_cmp}
use Rattle.ff_data.specs.declared.order.Chart.TheVariants.{Finite, Infinite}
use Rattle.ff_data.specs.declared.order.Order.{Order}
use Rattle.ff_data.specs.declared.order.Refusal.{Refusal}
use Rattle.ff_data.specs.declared.order.Refusal.TheVariants as refusal
use Rattle.ff_data.specs.declared.pair.Entry.{Entry}
use Rattle.ff_data.specs.declared.point.Point.{Point}
use Rattle.ff_data.specs.declared.system.System.{System}
use Rattle.ff_data.specs.Lists.{IsEntry, key_at}
use Rattle.ff_data.specs.Orders.{IsMaximal, IsSeparable}
use Rattle.ff_data.specs.Points.{IsPoint}
use Rattle.ff_data.specs.Systems.{gaps_of, IsSystem}
use Rattle.ff_forms.specs.declared.functions.TheConstants.{POLE_LIMIT}
use Rattle.ff_points.specs.PointLists.{IsOneOf, AreRising}
use Rattle.ff_sep.specs.declared.separability.SepFault.TheVariants as fault
use Rattle.ff_sep.specs.Faults.{IsCause}
use Rattle.ff_const.specs.Fixed.{AreOrderedFactors}
use Rattle.ff_const.specs.Irreducible.{AreStrictFactors, IsIrreducible}

-- ---- One equation

module _ {F : Elements ℕ} (L : Lawful F) (f : List (List ℕ)) where
  -- f is separable in y, and irreducible over k(x)
  pub record IsAdmitted : Type 0 where
    pub separable : IsSeparable L f
    pub irreducible : IsIrreducible L f

  -- f is separable in y, and these are coprime factors of it, the one with the lesser key first
  pub record AreSplitFactors (g h : List (List ℕ)) : Type 0 where
    pub separable : IsSeparable L f
    pub factors : AreOrderedFactors L f g h
    pub strict : AreStrictFactors F g h

  -- the factors with which a reducible f is refused: where f is not separable in y, the first one
  -- divides the derivative, which is not 0
  abbrev pub AreFactors : (g h : List (List ℕ)) → Type 0
  AreFactors g h = IsCause L f (fault.Square g h) ⊎ AreSplitFactors g h

  -- both maximal orders of f
  pub record AreBothOrders (finite infinite : Order) : Type 0 where
    pub finite_is : IsMaximal L f finite
    pub finite_chart : finite.chart ≡ Finite
    pub infinite_is : IsMaximal L f infinite
    pub infinite_chart : infinite.chart ≡ Infinite

  -- data of a point of one of two orders
  abbrev pub IsPointOf : Order → Order → Point → Type 0
  IsPointOf finite infinite p = IsPoint L f finite p ⊎ IsPoint L f infinite p

  -- a point of maximal orders of f
  pub record HasRationalPlace : Type 0 where
    pub finite : Order
    pub infinite : Order
    pub orders : AreBothOrders finite infinite
    pub point : Point
    pub is_point : IsPointOf finite infinite point

  -- p is a point of one of two orders, and s a pole system of it within the limit
  abbrev pub IsSystemOf : Order → Order → Point → System → Type 0
  IsSystemOf finite infinite p s =
      (IsPoint L f finite p × IsSystem L f finite p infinite POLE_LIMIT s)
      ⊎ (IsPoint L f infinite p × IsSystem L f infinite p finite POLE_LIMIT s)

  -- the points of two orders: those at infinity first, and the ones of each order by rising keys
  pub record AreOrderedPoints (finite infinite : Order) (list : List Point) : Type 0 where
    pub first : List Point
    pub second : List Point
    pub joined : list ≡ first ++ second
    pub at_infinity : All (IsPoint L f infinite) first
    pub infinite_rising : AreRising F first
    pub others : All (IsPoint L f finite) second
    pub finite_rising : AreRising F second
    pub all : (p : Point) → IsPointOf finite infinite p → IsOneOf list p

  -- the point at the index is the first of a list with a pole system within the limit, which s is
  pub record IsFirstAt (finite infinite : Order) (list : List Point) (index : ℕ) (s : System)
      : Type 0 where
    pub below : index < length list
    pub system : (d : Point) → IsSystemOf finite infinite (get_or list index d) s
    pub first : (j : ℕ) (d : Point) (t : System) → j < index
        → ¬ IsSystemOf finite infinite (get_or list j d) t

  -- p is the first point of two orders with a pole system within the limit, which s is
  pub record IsKeptSystem (finite infinite : Order) (p : Point) (s : System) : Type 0 where
    pub list : List Point
    pub ordered : AreOrderedPoints finite infinite list
    pub index : ℕ
    pub first : IsFirstAt finite infinite list index s
    pub point : (d : Point) → get_or list index d ≡ p

  -- both maximal orders of f; they have a point, and where f is irreducible, none of their points
  -- has a pole system within the limit
  pub record HasNoSystem : Type 0 where
    pub place : HasRationalPlace
    pub none : IsIrreducible L f → (p : Point) (s : System)
        → IsPointOf place.finite place.infinite p → ¬ IsSystemOf place.finite place.infinite p s

  -- both maximal orders of f; where f is irreducible, s is a pole system of their first point that
  -- has one within the limit
  pub record HasKeptSystem (s : System) : Type 0 where
    pub place : HasRationalPlace
    pub kept : IsIrreducible L f → IsKeptSystem place.finite place.infinite place.point s

  -- both maximal orders of f, which have no point
  pub record HaveNoPlace (finite infinite : Order) : Type 0 where
    pub orders : AreBothOrders finite infinite
    pub none : (p : Point) → ¬ IsPointOf finite infinite p

-- a system of e functions whose gap number is 0 or 1
pub record IsSmall (s : System) : Type 0 where
  pub positive : 0 < s.e
  pub small : gaps_of s.e s.weights ≤ 1

-- ---- Two equations

module _ {F : Elements ℕ} (L : Lawful F) (f g : List (List ℕ)) where
  -- both are admitted
  pub record AreAdmitted : Type 0 where
    pub first : IsAdmitted L f
    pub second : IsAdmitted L g

  -- each entry is a pair of E(g) that satisfies f, with its inverse pair, and the keys of the pairs
  -- rise strictly
  pub record IsTrueList (entries : List Entry) : Type 0 where
    pub each : All (IsEntry L f g) entries
    pub rising : (i : ℕ) (d : Entry) → i + 1 < length entries
        → key_cmp (key_at F entries i d) (key_at F entries (i + 1) d) ≡ Less

  -- P holds for the first of f and g that is not admitted, which is number w
  abbrev pub HoldsOfFirst : (List (List ℕ) → Type 0) → ℕ → Type 0
  HoldsOfFirst P w = ((w ≡ 1) × P f) ⊎ ((w ≡ 2) × IsAdmitted L f × P g)

  -- why there is no list
  abbrev pub IsRefused : Refusal → Type 0
  IsRefused (refusal.Inseparable w) = HoldsOfFirst (λ h. IsCause L h fault.Inseparable) w
  IsRefused (refusal.Reducible w a b) = HoldsOfFirst (λ h. AreFactors L h a b) w
  IsRefused (refusal.NoRationalPlace finite infinite) =
      AreAdmitted × HaveNoPlace L f finite infinite
  IsRefused refusal.PoleLimit = AreAdmitted × HasNoSystem L f
  IsRefused (refusal.SmallGenus s) = AreAdmitted × IsSmall s × HasKeptSystem L f s
  IsRefused refusal.NoMemory = Unit {0}
