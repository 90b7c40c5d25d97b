-- Roots in the ring of a table, and the search for them level by level.
use Rattle.std.specs.Prelude.{◌≡◌, ℕ, zero, suc, max, ◌+◌, ◌%◌, nat_lt, Bool, cond, List, []}
use Rattle.std.specs.Prelude.{◌∷◌, ◌++◌, length, map}
use Rattle.std.specs.List.{All, AllPairs, Contains, filter}
use Rattle.ff_theory.specs.Ring.{RingOps, FieldOps}
use Rattle.ff_theory.specs.Lists.{listed}
use Rattle.ff_theory.specs.Poly.{coeff}
use Rattle.ff_table.specs.Table.{Table, table_ring, WeighsBelow, weight_of}
use Rattle.ff_table.specs.Level.{at_level, scaled, monomial_at}
use Rattle.ff_table.specs.Shift.{shift, leading, value_at}

module _ (k : RingOps) (s : Table k) where
  -- c is zero or of weight at most n, and a root of p
  pub record IsRootOf (p : List (table_ring k s).carrier) (n : ℕ)
      (c : (table_ring k s).carrier) : Type 0 where
    pub small : WeighsBelow k s (suc n) c
    pub vanishes : value_at (table_ring k s) c p ≡ (table_ring k s).zero

  -- the roots of p of weight at most n, each once
  pub record AreRootsOf (p : List (table_ring k s).carrier) (n : ℕ)
      (roots : List (table_ring k s).carrier) : Type 0 where
    pub each : All (IsRootOf p n) roots
    pub all : (c : (table_ring k s).carrier) → IsRootOf p n c → Contains roots c
    pub distinct : AllPairs (λ a b. ¬ (a ≡ b)) roots

  -- a partial sum, and the polynomial moved by it
  pub record State : Type 0 where
    pub sum : (table_ring k s).carrier
    pub moved : List (table_ring k s).carrier

  -- the greatest of the weights of h_i plus i * t plus o, for the h_i that are not zero
  abbrev pub top_weight : ℕ → ℕ → List (table_ring k s).carrier → ℕ
  top_weight t o [] = 0
  top_weight t o (h ∷ p) = max
      (cond ((table_ring k s).same h (table_ring k s).zero) 0 (weight_of k s h + o))
      (top_weight t (o + t) p)

  -- the coefficients of the h_i * u^i at the greatest of their weights, where u is the monomial at
  -- the level t
  abbrev pub leading_poly : ℕ → List (table_ring k s).carrier → List k.carrier
  leading_poly t p = leading (table_ring k s) (at_level k s (top_weight t 0 p))
      (monomial_at k s t) p

  -- the state with the part c at the level t
  abbrev pub child : ℕ → State → k.carrier → State
  child t a c = record {
    sum = (table_ring k s).add a.sum (scaled k s c (monomial_at k s t));
    moved = shift (table_ring k s) (scaled k s c (monomial_at k s t)) a.moved;
  }

  -- whether t is a level, and the number of levels below n
  abbrev pub is_level : ℕ → Bool
  is_level t = nat_lt (s.weight (t % s.rank)) (suc t)

  abbrev pub level_count : ℕ → ℕ
  level_count zero = 0
  level_count (suc t) = cond (is_level t) 1 0 + level_count t

-- the elements of a finite field at which a polynomial is zero
abbrev pub zeros_of : (F : FieldOps) → List F.carrier → List F.carrier
zeros_of F g = filter (λ c. F.same (value_at F.ring c g) F.zero) (listed F.size F.element_at)

module _ (F : FieldOps) (s : Table F.ring) where
  -- the states after the level t
  abbrev pub children : ℕ → State F.ring s → List (State F.ring s)
  children t a = map (child F.ring s t a) (zeros_of F (leading_poly F.ring s t a.moved))

  abbrev pub next_states : ℕ → List (State F.ring s) → List (State F.ring s)
  next_states t [] = []
  next_states t (a ∷ states) = children t a ++ next_states t states

  -- the states after t, where nothing is done if t is no level
  abbrev pub states_after : ℕ → List (State F.ring s) → List (State F.ring s)
  states_after t states = cond (is_level F.ring s t) (next_states t states) states

  -- the states after all levels below n, from the highest one down, and the number of all that
  -- came on the way
  abbrev pub search : ℕ → List (State F.ring s) → List (State F.ring s)
  search zero states = states
  search (suc t) states = search t (states_after t states)

  abbrev pub node_count : ℕ → List (State F.ring s) → ℕ
  node_count zero states = 0
  node_count (suc t) states = cond (is_level F.ring s t) (length (next_states t states)) 0
      + node_count t (states_after t states)

  abbrev pub start : List (table_ring F.ring s).carrier → List (State F.ring s)
  start p = record { sum = (table_ring F.ring s).zero; moved = p } ∷ []

  -- the sums of the states whose polynomials have the root 0
  abbrev pub finished : List (State F.ring s) → List (table_ring F.ring s).carrier
  finished states = map (λ a. a.sum)
      (filter (λ a. (table_ring F.ring s).same (coeff (table_ring F.ring s) a.moved 0)
      (table_ring F.ring s).zero) states)

  -- the roots of p of weight at most n
  abbrev pub roots_of : List (table_ring F.ring s).carrier → ℕ → List (table_ring F.ring s).carrier
  roots_of p n = finished (search (suc n) (start p))
