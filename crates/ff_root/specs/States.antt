-- The parts of the search for roots: their forms, and what they are in the ring of the table.
use Rattle.std.specs.Prelude.{◌≡◌, ℕ, ◌+◌, ◌*◌, ◌<◌, suc, cond, List, [], ◌∷◌, ◌++◌, map}
use Rattle.std.specs.List.{All}
use Rattle.ff_theory.specs.Ring.{Elements, IsElement}
use Rattle.ff_theory.specs.Eval.{eval_list}
use Rattle.ff_theory.specs.Values.{poly_of}
use Rattle.ff_table.specs.Table.{Weighs, weight_of}
use Rattle.ff_table.specs.Level.{z_multiple, class_of, at_level, top_constant, power_lead}
use Rattle.ff_table.specs.Roots.{State as SearchState, AreRootsOf, level_count}
use Rattle.ff_data.specs.declared.system.System.{System}
use Rattle.ff_data.specs.Systems.{AreCoords}
use Rattle.ff_ring.specs.Ring.{AreCoordsList, table_in, ring_in, element_in, elements_in}
use Rattle.ff_root.specs.declared.leading.Lead.{Lead}
use Rattle.ff_root.specs.declared.state.State.{State}

-- a class, and an element of the field
pub record IsLead (F : Elements ℕ) (s : System) (a : Lead) : Type 0 where
  pub class : a.class < s.e
  pub c : IsElement F a.c

-- coordinates, and m coordinates
pub record IsState (F : Elements ℕ) (s : System) (m : ℕ) (a : State) : Type 0 where
  pub sum : AreCoords F s a.sum
  pub moved : AreCoordsList F s m a.moved

-- a list of states
abbrev pub AreStates : Elements ℕ → System → ℕ → List State → Type 0
AreStates F s m states = All (IsState F s m) states

-- the value of a list of coefficients
abbrev pub value_of : (F : Elements ℕ) → List ℕ → ℕ → F.carrier
value_of F p c = eval_list F.ring (λ a. a) (F.value c) (map F.value p)

module _ (F : Elements ℕ) (s : System) where
  -- the states in the ring of the table
  abbrev pub state_in : State → SearchState F.ring (table_in F s)
  state_in a = record { sum = element_in F s a.sum; moved = elements_in F s a.moved }

  abbrev pub states_in : List State → List (SearchState F.ring (table_in F s))
  states_in states = map (λ a. state_in a) states

  -- the weight of h plus n, and 0 where h is 0
  abbrev pub weight_by : List (List ℕ) → ℕ → ℕ
  weight_by h n = cond ((ring_in F s).same (element_in F s h) (ring_in F s).zero) 0
      (weight_of F.ring (table_in F s) (element_in F s h) + n)

  -- the leading term of power i of the monomial at the level t
  pub record IsPowerLead (t i : ℕ) (a : Lead) : Type 0 where
    pub class : a.class ≡ class_of (table_in F s) (i * t)
    pub c : F.value a.c ≡ power_lead F.ring (table_in F s) t i

  -- c is the coefficient at the weight n of the product of h and an element with the leading term
  -- `power` and the weight m, where no term of the product is heavier
  pub record IsCoefficientAt (h : List (List ℕ)) (power : Lead) (m n c : ℕ) : Type 0 where
    pub reached : (w : ℕ) → Weighs F.ring (table_in F s) (element_in F s h) w → w + m ≡ n
        → F.value c ≡ F.mul (at_level F.ring (table_in F s) w (element_in F s h))
        (F.mul (F.value power.c)
        (top_constant F.ring (table_in F s) (class_of (table_in F s) w) power.class))
    pub other : (w : ℕ) → Weighs F.ring (table_in F s) (element_in F s h) w → ¬ (w + m ≡ n)
        → F.value c ≡ F.zero
    pub none : element_in F s h ≡ (ring_in F s).zero → F.value c ≡ F.zero

  -- the monic polynomial over the ring with these lower coefficients, which are polynomials in z
  abbrev pub monic_over : List (List ℕ) → List (ring_in F s).carrier
  monic_over coeffs = map (λ p. z_multiple F.ring (table_in F s) (poly_of F p) (ring_in F s).one)
      coeffs ++ (ring_in F s).one ∷ []

  -- the coordinates of the roots of that polynomial that are 0 or of weight n at most, each once
  abbrev pub AreRootsIn : List (List ℕ) → ℕ → List (List (List ℕ)) → Type 0
  AreRootsIn coeffs n roots = AreRootsOf F.ring (table_in F s) (monic_over coeffs) n
      (elements_in F s roots)

  -- the number of levels up to n
  abbrev pub levels_up_to : ℕ → ℕ
  levels_up_to n = level_count F.ring (table_in F s) (suc n)
