-- The search finds exactly the roots, each once.
use Rattle.std.proofs.Common.{◌≡◌, ℕ, zero, suc, ◌+◌, ◌*◌, ◌%◌, ◌<◌, ◌≤◌, ◌⊎◌, inl, inr, Bool}
use Rattle.std.proofs.Common.{true, false, cond, nat_lt, List, length, get_or, refl, sym}
use Rattle.std.proofs.Common.{◌∙◌, ap, subst, arith}
use Rattle.std.specs.List.{All, Contains, filter}
use Rattle.std.proofs.lemmas.Bool.{cases_lt, ltb-true, ltb-false}
use Rattle.std.proofs.lemmas.List.Elements.{All-map, All-contains, All-filter, filter_passes}
use Rattle.ff_theory.specs.Ring.{RingOps, IsCommRing, IsTested, Elements}
use Rattle.ff_theory.specs.Lawful.{Lawful, lawful_field}
use Rattle.ff_theory.specs.Poly.{coeff, polynomials}
use Rattle.ff_theory.proofs.Solver.{◌⊕◌, nil, ring1}
use Rattle.ff_table.specs.Coords.{Coords}
use Rattle.ff_table.specs.Table.{Table, IsTable, table_ring}
use Rattle.ff_table.specs.Level.{IsLevel}
use Rattle.ff_table.specs.Shift.{value_at, IsMonicList}
use Rattle.ff_table.specs.Roots.{IsRootOf, AreRootsOf, State, is_level, next_states, states_after}
use Rattle.ff_table.specs.Roots.{search, start, finished, roots_of}
use Rattle.ff_table.proofs.Shift.{value-first}
use Rattle.ff_table.proofs.RootOrders.{roots_bound}
use Rattle.ff_table.proofs.Scalars.{part-zero, part-ext}
use Rattle.ff_table.proofs.Levels.{is-level}
use Rattle.ff_table.proofs.TableRing.{table_laws, table_tests, table_domain}
use Rattle.ff_table.proofs.Pairwise.{pairs-map, pairs-filter, contains-map, contains-filter}
use Rattle.ff_table.proofs.States.{IsStateOf}
use Rattle.ff_table.proofs.Search.{Begins, AreStates, next-states, proper}

module _ {E : Type 0} {F : Elements E} (L : Lawful F) (s : Table F.ring) (table : IsTable F.ring s)
    (p : List (Coords (polynomials F.ring) s.rank)) (n degree : ℕ) where
  abbrev T : RingOps
  T = table_ring F.ring s

  abbrev k : RingOps
  k = F.ring

  abbrev C : Type 0
  C = Coords (polynomials F.ring) s.rank

  TL : IsCommRing T
  TL = table_laws (lawful_field L) s table

  TT : IsTested T
  TT = table_tests (lawful_field L) s table

  abbrev Are : ℕ → List (State F.ring s) → Type 0
  Are t states = AreStates L s table p n degree t states

  -- a number that is no level changes nothing
  skip : (t : ℕ) → ¬ (IsLevel s t) → (states : List (State F.ring s)) → Are (suc t) states
      → Are t states
  skip t off states h = record {
    each = λ i d l. record {
      light = (h.each i d l).light;
      front = λ j x q r. (h.each i d l).front j x q (omega arith);
      value = (h.each i d l).value;
      monic = (h.each i d l).monic;
      past = (h.each i d l).past;
    };
    distinct = h.distinct;
    complete = λ c r. go c (h.complete c r);
  }
    where
      go : (c : C) → Begins L s table (suc t) states c → Begins L s table t states c
      go c g = record {
        state = g.state;
        inside = g.inside;
        rest = g.rest;
        sum = g.sum;
        small = λ l q d r. g.small l q d (above l d q r (cases_lt t (s.rank * d + s.weight l)));
      }
        where
          above : (l d : ℕ) → l < s.rank → t ≤ s.rank * d + s.weight l
              → (t < s.rank * d + s.weight l) ⊎ (s.rank * d + s.weight l ≤ t)
              → suc t ≤ s.rank * d + s.weight l
          above l d q r (inl o) = o
          above l d q r (inr o) = let e : s.rank * d + s.weight l ≡ t = omega arith in
              absurd (off (subst (IsLevel s) e (is-level (lawful_field L) s table l d q)))

  pub states-after : (t : ℕ) → t ≤ n → (states : List (State F.ring s))
      → AreStates L s table p n degree (suc t) states
      → AreStates L s table p n degree t (states_after F.field s t states)
  states-after t b states h = go (is_level k s t) refl
    where
      go : (o : Bool) → nat_lt (s.weight (t % s.rank)) (suc t) ≡ o
          → Are t (cond o (next_states F.field s t states) states)
      go true e = next-states L s table p n degree t
          (let l : s.weight (t % s.rank) < suc t = ltb-true (s.weight (t % s.rank)) (suc t) e in
          omega (arith, l)) b states h
      go false e = skip t (λ l. absurd (omega (
        arith,
        l,
        ltb-false (s.weight (t % s.rank)) (suc t) e,
      ))) states h

  search-states : (t : ℕ) → t ≤ suc n → (states : List (State F.ring s)) → Are t states
      → Are 0 (search F.field s t states)
  search-states zero b states h = h
  search-states (suc t) b states h = search-states t (omega arith) (states_after F.field s t states)
      (states-after t (omega arith) states h)

  zero_add : (a : C) → T.add T.zero a ≡ a
  zero_add a = ring1 T TL (λ a. nil ⊕ a) (λ a. a) refl a

  pub start-states : IsMonicList (table_ring F.ring s) p degree
      → AreStates L s table p n degree (suc n) (start F.field s p)
  start-states h = record {
    each = single;
    distinct = λ i j d l q. absurd (omega arith);
    complete = λ c r. record {
      state = record { sum = T.zero; moved = p };
      inside = (zero, omega arith, refl);
      rest = c;
      sum = sym (zero_add c);
      small = r.small;
    };
  }
    where
      single : All (IsStateOf (lawful_field L) s table p n degree (suc n)) (start F.field s p)
      single zero d l = record {
        light = λ j q x r. part-zero (lawful_field L) s j x q;
        front = λ j x q r. part-zero (lawful_field L) s j x q;
        value = λ y. ap (λ c. value_at T c p) (sym (zero_add y));
        monic = h.leading;
        past = h.past;
      }
      single (suc i) d l = absurd (omega arith)

  -- the states at whose end 0 is a root
  abbrev ends : State F.ring s → Bool
  ends a = T.same (coeff T a.moved 0) T.zero

  finished-roots : (states : List (State F.ring s)) → Are 0 states
      → AreRootsOf F.ring s p n (finished F.field s states)
  finished-roots states h = record {
    each = All-map (IsRootOf k s p n) (λ a. a.sum) (filter ends states)
        (λ i d l. root (get_or (filter ends states) i d)
        (All-filter ends (IsStateOf (lawful_field L) s table p n degree 0) states h.each i d l)
        (filter_passes ends states i d l));
    all = λ c r. found c r (h.complete c r);
    distinct = pairs-map (λ a b. ¬ (a ≡ b)) (λ a. a.sum) (filter ends states)
        (pairs-filter (λ a b. ¬ (a.sum ≡ b.sum)) ends states h.distinct);
  }
    where
      value : (a : State F.ring s) → IsStateOf (lawful_field L) s table p n degree 0 a
          → coeff T a.moved 0 ≡ value_at T a.sum p
      value a g = sym (value-first T TL a.moved) ∙ g.value T.zero
          ∙ ap (λ c. value_at T c p) (TL.add_zero a.sum)

      root : (a : State F.ring s) → IsStateOf (lawful_field L) s table p n degree 0 a
          → T.same (coeff T a.moved 0) T.zero ≡ true → IsRootOf k s p n a.sum
      root a g e = record {
        small = g.light;
        vanishes = sym (value a g) ∙ TT.same_true (coeff T a.moved 0) T.zero e;
      }

      found : (c : C) → IsRootOf k s p n c → Begins L s table 0 states c
          → Contains (finished F.field s states) c
      found c r g = subst (Contains (finished F.field s states)) (sym same)
          (contains-map (λ (a : State F.ring s). a.sum) (filter ends states) g.state
          (contains-filter ends states g.state
          (ap (λ c. T.same c T.zero) (value g.state state ∙ ap (λ c. value_at T c p) (sym same)
          ∙ r.vanishes) ∙ TT.same_refl T.zero) g.inside))
        where
          same : c ≡ g.state.sum
          same = g.sum ∙ ap (T.add g.state.sum)
              (part-ext (lawful_field L) s g.rest T.zero
              (λ l d q. g.small l q d (omega arith) ∙ sym (part-zero (lawful_field L) s l d q)))
              ∙ TL.add_zero g.state.sum

          state : IsStateOf (lawful_field L) s table p n degree 0 g.state
          state = All-contains (IsStateOf (lawful_field L) s table p n degree 0) states g.state
              h.each g.inside

  -- the search finds exactly the roots of weight at most n
  pub roots_exact : IsMonicList (table_ring F.ring s) p degree
      → AreRootsOf F.ring s p n (roots_of F.field s p n)
  roots_exact h = finished-roots (search F.field s (suc n) (start F.field s p))
      (search-states (suc n) (omega arith) (start F.field s p) (start-states h))

  -- and there are no more than the degree
  pub root-count : IsMonicList (table_ring F.ring s) p degree
      → (roots : List (Coords (polynomials F.ring) s.rank)) → AreRootsOf F.ring s p n roots
      → length roots ≤ degree
  root-count h roots r = roots_bound (table_domain (lawful_field L) s table) roots p degree
      h.past degree (λ z. proper L s table (sym h.leading ∙ z)) r.distinct
      (λ i d l. (r.each i d l).vanishes)
