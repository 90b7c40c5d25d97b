-- What the search for isomorphisms has: equations with their orders, points and systems, by their
-- forms, for an equation f over a field whose laws are L. This project's own.
use Rattle.std.specs.Prelude.{◌≡◌, ℕ, ◌-◌, ◌<◌, ◌≤◌, ◌⊎◌, List, length, get_or, Option, None, Some}
use Rattle.std.specs.declared.cmp.Ordering.TheVariants.{Less}
use Rattle.std.specs.List.{All}
use Rattle.ff_theory.specs.Ring.{Elements, IsElement}
use Rattle.ff_theory.specs.Lawful.{Lawful}
use Rattle.ff_elem.specs.Key.{key_cmp}
use Rattle.ff_data.specs.declared.order.Order.{Order}
use Rattle.ff_data.specs.declared.order.Refusal.{Refusal}
use Rattle.ff_data.specs.declared.order.Refusal.TheVariants as refusal
use Rattle.ff_data.specs.declared.point.Point.{Point}
use Rattle.ff_data.specs.declared.pair.Pair.{Pair}
use Rattle.ff_data.specs.declared.pair.Entry.{Entry}
use Rattle.ff_data.specs.declared.system.System.{System}
use Rattle.ff_data.specs.Lists.{pair_key, key_at}
use Rattle.ff_data.specs.Orders.{IsSep}
use Rattle.ff_data.specs.Systems.{HasForm, gaps_of}
use Rattle.ff_ring.specs.Ring.{HasTable}
use Rattle.ff_forms.specs.Forms.{HasPointForm, HasRelationForm, IsWithinLimit, AreAlike}
use Rattle.ff_sep.specs.declared.separability.SepFault.TheVariants as fault
use Rattle.ff_sep.specs.Faults.{IsCause}
use Rattle.ff_const.specs.Irreducible.{IsIrreducible}
use Rattle.ff_list.specs.declared.known.Known.{Known}
use Rattle.ff_list.specs.declared.places.Found.{Found}
use Rattle.ff_list.specs.declared.starts.KeptParts.{KeptParts}
use Rattle.ff_list.specs.declared.starts.Start.{Start}
use Rattle.ff_list.specs.declared.starts.StartFault.{StartFault}
use Rattle.ff_list.specs.declared.starts.StartFault.TheVariants as start
use Rattle.ff_list.specs.Lists.{AreFactors, AreBothOrders, IsSmall}
use Rattle.ff_list.specs.Lists.{IsPointOf, HaveNoPlace, HasNoSystem, HasKeptSystem}
use Rattle.ff_list.specs.Lists.{AreOrderedPoints, IsSystemOf, IsFirstAt, IsKeptSystem}

-- ---- Lists by rising key

-- a pair belongs at the index i of a list: its key is greater than that of the entry before, and
-- less than that of the entry there
pub record BelongsAt (F : Elements ℕ) (entries : List Entry) (p : Pair) (i : ℕ) : Type 0 where
  pub within : i ≤ length entries
  pub after : (d : Entry) → 0 < i → key_cmp (key_at F entries (i - 1) d) (pair_key F p) ≡ Less
  pub before : (d : Entry) → i < length entries
      → key_cmp (pair_key F p) (key_at F entries i d) ≡ Less

-- ---- Elements

-- a value stands for an element that is not 0 and has an index below n
pub record IsNonzeroBelow (F : Elements ℕ) (n a : ℕ) : Type 0 where
  pub element : IsElement F a
  pub nonzero : ¬ (F.value a ≡ F.zero)
  pub below : F.index (F.value a) < n

-- the list has the elements that are not 0 and have an index below n: each of them, and each once,
-- by rising index
pub record AreNonzeroBelow (F : Elements ℕ) (n : ℕ) (list : List ℕ) : Type 0 where
  pub each : All (IsNonzeroBelow F n) list
  pub all : (v : F.carrier) → ¬ (v ≡ F.zero) → F.index v < n
      → (i : ℕ) × ((i < length list) × (F.value (get_or list i 0) ≡ v))
  pub rising : (i j : ℕ) → i < j → j < length list
      → F.index (F.value (get_or list i 0)) < F.index (F.value (get_or list j 0))

-- all elements that are not 0, each once
abbrev pub AreSlopes : Elements ℕ → List ℕ → Type 0
AreSlopes F list = AreNonzeroBelow F F.size list

-- alpha and beta are elements, and alpha is not 0
pub record IsChoice (F : Elements ℕ) (a b : ℕ) : Type 0 where
  pub alpha : IsElement F a
  pub nonzero : ¬ (F.value a ≡ F.zero)
  pub beta : IsElement F b

-- ---- Points

-- a point of the order o or of the order q
abbrev pub IsPlace : Elements ℕ → Order → Order → Point → Type 0
IsPlace F o q p = HasPointForm F o p ⊎ HasPointForm F q p

-- ---- One equation

module _ {F : Elements ℕ} (L : Lawful F) (f : List (List ℕ)) where
  -- the maximal orders of the finite chart and of the infinite chart, and all points of them
  pub record ArePlaces (o q : Order) (places : List Point) : Type 0 where
    pub orders : AreBothOrders L f o q
    pub each : All (IsPlace F o q) places
    pub points : All (IsPointOf L f o q) places
    pub ordered : AreOrderedPoints L f o q places

  -- ---- Systems

  -- a system by its form, within the pole limit
  pub record IsFormed (s : System) : Type 0 where
    pub form : HasForm L f s
    pub table : HasTable F s
    pub limit : IsWithinLimit s

  -- a system and a relation of it
  pub record IsKnown (k : Known) : Type 0 where
    pub system : IsFormed k.start.system
    pub relation : HasRelationForm F k.start.system k.relation

  -- ---- Refusals

  -- why f, which is equation number w, is not admitted
  abbrev pub IsNotAdmitted : ℕ → Refusal → Type 0
  IsNotAdmitted w (refusal.Inseparable v) = (v ≡ w) × IsCause L f fault.Inseparable
  IsNotAdmitted w (refusal.Reducible v g h) = (v ≡ w) × AreFactors L f g h
  IsNotAdmitted w refusal.NoMemory = Unit {0}
  IsNotAdmitted w r = ⊥

  -- a system at one of the points, of a gap number above 1
  pub record IsStart (s : Start) : Type 0 where
    pub index : s.index < length s.places.items
    pub system : IsFormed s.system
    pub gaps : 1 < gaps_of s.system.e s.system.weights

  -- a pole system of p, or none that is alike
  abbrev pub IsSystemIfAny : Order → Order → Point → (System → Type 0) → Option System → Type 0
  IsSystemIfAny o q p alike (Some s) = IsSystemOf L f o q p s
  IsSystemIfAny o q p alike None = (s : System) → IsSystemOf L f o q p s → ¬ alike s

  -- the first of the points with a pole system, or none of them has one
  abbrev pub IsFirstIfAny : Order → Order → List Point → Option Found → Type 0
  IsFirstIfAny o q list (Some r) = IsFirstAt L f o q list r.index r.system
  IsFirstIfAny o q list None = (j : ℕ) (d : Point) (s : System) → j < length list
      → ¬ IsSystemOf L f o q (get_or list j d) s

  -- why the orders o and q give no system to begin with
  abbrev pub IsStartFault : Order → Order → StartFault → Type 0
  IsStartFault o q start.NoPlace = HaveNoPlace L f o q
  IsStartFault o q start.PoleLimit = HasNoSystem L f
  IsStartFault o q (start.SmallGenus s) = IsSmall s × HasKeptSystem L f s
  IsStartFault o q start.NoMemory = Unit {0}

  -- the refusal that says so
  abbrev pub HasNoStart : Refusal → Type 0
  HasNoStart (refusal.NoRationalPlace finite infinite) = HaveNoPlace L f finite infinite
  HasNoStart refusal.PoleLimit = HasNoSystem L f
  HasNoStart (refusal.SmallGenus s) = IsSmall s × HasKeptSystem L f s
  HasNoStart refusal.NoMemory = Unit {0}
  HasNoStart r = ⊥

-- ---- Two equations

module _ {F : Elements ℕ} (L : Lawful F) (f g : List (List ℕ)) where
  -- what is known of f, and a system of g with the same pole numbers
  pub record AreMatched (k : Known) (s : System) : Type 0 where
    pub known : IsKnown L f k
    pub system : IsFormed L g s
    pub alike : AreAlike k.start.system s

  -- the parts of f and g: separability, maximal orders, a point of f and a system there
  pub record AreKept (p : KeptParts) : Type 0 where
    pub sep1 : IsSep L f p.sep1
    pub orders1 : AreBothOrders L f p.finite1 p.infinite1
    pub sep2 : IsSep L g p.sep2
    pub orders2 : AreBothOrders L g p.finite2 p.infinite2
    pub point : IsPointOf L f p.finite1 p.infinite1 p.point
    pub system : IsFormed L f p.system
    pub gaps : 1 < gaps_of p.system.e p.system.weights
    pub kept : IsIrreducible L f → IsKeptSystem L f p.finite1 p.infinite1 p.point p.system
