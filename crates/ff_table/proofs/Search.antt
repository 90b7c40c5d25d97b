-- The search for roots finds each root, each once, by few nodes.
use Rattle.std.proofs.Common.{◌≡◌, ℕ, zero, suc, ◌≤◌}
use Rattle.std.proofs.Common.{List, [], ◌∷◌, get_or, refl, sym, ◌∙◌, ap}
use Rattle.std.proofs.Common.{subst, arith}
use Rattle.std.specs.List.{All, AllPairs, Contains}
use Rattle.std.proofs.lemmas.List.Elements.{All-append, All-head, All-tail, All-map, All-contains}
use Rattle.std.proofs.lemmas.List.Elements.{Contains-append_left, Contains-append_right}
use Rattle.ff_theory.specs.Ring.{RingOps, IsCommRing, Elements}
use Rattle.ff_theory.specs.Lawful.{Field, Lawful, lawful_field}
use Rattle.ff_theory.specs.Poly.{polynomials}
use Rattle.ff_theory.proofs.PolyMap.{not_same}
use Rattle.ff_table.specs.Coords.{Coords}
use Rattle.ff_table.specs.Table.{Table, IsTable, table_ring, WeighsBelow}
use Rattle.ff_table.specs.Level.{IsLevel, at_level, scaled, monomial_at}
use Rattle.ff_table.specs.Shift.{value_at}
use Rattle.ff_table.specs.Roots.{IsRootOf, State, child, leading_poly, zeros_of, children}
use Rattle.ff_table.specs.Roots.{next_states}
use Rattle.ff_table.proofs.TableRing.{table_laws, table_tests, table_domain}
use Rattle.ff_table.proofs.Pairwise.{pairs-head, pairs-tail, pairs-append, pairs-map}
use Rattle.ff_table.proofs.Pairwise.{contains-map}
use Rattle.ff_table.proofs.Zeros.{zeros-distinct, zeros-contain}
use Rattle.ff_table.proofs.States.{IsStateOf, child-state, child-equal, root-part, Peeled, peel}

module _ {E : Type 0} {F : Elements E} (L : Lawful F) (s : Table F.ring) (table : IsTable F.ring s)
  where
    abbrev T : RingOps
    T = table_ring F.ring s

    abbrev k : RingOps
    k = F.ring

    abbrev C : Type 0
    C = Coords (polynomials F.ring) s.rank

    K : Field
    K = lawful_field L

    TL : IsCommRing T
    TL = table_laws (lawful_field L) s table

    pub proper : ¬ ((table_ring F.ring s).one ≡ (table_ring F.ring s).zero)
    proper = not_same T (table_tests (lawful_field L) s table) T.one T.zero
        (table_domain (lawful_field L) s table).proper

    -- a state whose sum begins the element c
    pub record Begins (t : ℕ) (states : List (State F.ring s))
        (c : Coords (polynomials F.ring) s.rank) : Type 0 where
      pub state : State F.ring s
      pub inside : Contains states state
      pub rest : Coords (polynomials F.ring) s.rank
      pub sum : c ≡ (table_ring F.ring s).add state.sum rest
      pub small : WeighsBelow F.ring s t rest

    -- all states are of the search, their sums are different, and each root begins with one
    pub record AreStates (p : List (Coords (polynomials F.ring) s.rank)) (n degree t : ℕ)
        (states : List (State F.ring s)) : Type 0 where
      pub each : All (IsStateOf (lawful_field L) s table p n degree t) states
      pub distinct : AllPairs (λ a b. ¬ (a.sum ≡ b.sum)) states
      pub complete : (c : Coords (polynomials F.ring) s.rank) → IsRootOf F.ring s p n c
          → Begins t states c

    module _ (p : List (Coords (polynomials F.ring) s.rank)) (n degree : ℕ) where
      IsState : ℕ → State F.ring s → Type 0
      IsState t a = IsStateOf (lawful_field L) s table p n degree t a

      -- the next states, one by one
      record IsChild (t : ℕ) (states : List (State F.ring s)) (b : State F.ring s) : Type 0 where
        pub parent : State F.ring s
        pub inside : Contains states parent
        pub part : F.carrier
        pub is : b ≡ child F.ring s t parent part

      module _ (t : ℕ) (level : IsLevel s t) where
        each-next : t ≤ n → (states : List (State F.ring s))
            → All (IsStateOf (lawful_field L) s table p n degree (suc t)) states
            → All (IsStateOf (lawful_field L) s table p n degree t) (next_states F.field s t states)
        each-next b [] h = λ i d l. absurd (omega arith)
        each-next b (a ∷ states) h =
            All-append (IsStateOf (lawful_field L) s table p n degree t) (children F.field s t a)
            (next_states F.field s t states)
            (All-map (IsStateOf (lawful_field L) s table p n degree t) (child k s t a)
            (zeros_of F.field (leading_poly k s t a.moved))
            (λ i d l. child-state (lawful_field L) s table p n degree t level proper b a
            (All-head (IsStateOf (lawful_field L) s table p n degree (suc t)) a states h) _))
            (each-next b states
            (All-tail (IsStateOf (lawful_field L) s table p n degree (suc t)) a states h))

        later : (a : State F.ring s) (states : List (State F.ring s)) (b : State F.ring s)
            → IsChild t states b → IsChild t (a ∷ states) b
        later a states b h = let l = h.inside.1 in record {
          parent = h.parent;
          inside = (suc h.inside.0, omega arith, h.inside.2);
          part = h.part;
          is = h.is;
        }

        own : (a : State F.ring s)
            → All (λ b. (c : F.carrier) × (b ≡ child F.ring s t a c)) (children F.field s t a)
        own a = All-map (λ b. (c : F.carrier) × (b ≡ child F.ring s t a c)) (child k s t a)
            (zeros_of F.field (leading_poly k s t a.moved))
            (λ i d l. (get_or (zeros_of F.field (leading_poly k s t a.moved)) i d, refl))

        first_parent : (a : State F.ring s) (states : List (State F.ring s)) (b : State F.ring s)
            → (c : F.carrier) × (b ≡ child F.ring s t a c) → IsChild t (a ∷ states) b
        first_parent a states b c = record {
          parent = a;
          inside = (zero, omega arith, refl);
          part = c.0;
          is = c.1;
        }

        parents : (states : List (State F.ring s))
            → All (IsChild t states) (next_states F.field s t states)
        parents [] = λ i d l. absurd (omega arith)
        parents (a ∷ states) = All-append (IsChild t (a ∷ states)) (children F.field s t a)
            (next_states F.field s t states) (λ i d l. first_parent a states _ (own a i d l))
            (λ i d l. later a states _ (parents states i d l))

        abbrev differ : State F.ring s → State F.ring s → Type 0
        differ a b = ¬ (a.sum ≡ b.sum)

        apart : (a b : State F.ring s) → IsStateOf (lawful_field L) s table p n degree (suc t) a
            → IsStateOf (lawful_field L) s table p n degree (suc t) b → (c d : F.carrier)
            → ¬ (a.sum ≡ b.sum) → ¬ ((child k s t a c).sum ≡ (child k s t b d).sum)
        apart a b ha hb c d m e = m
            (child-equal (lawful_field L) s table p n degree t level a b ha hb c d e).1

        distinct-next : (states : List (State F.ring s))
            → All (IsStateOf (lawful_field L) s table p n degree (suc t)) states
            → AllPairs (λ a b. ¬ (a.sum ≡ b.sum)) states
            → AllPairs (λ a b. ¬ (a.sum ≡ b.sum)) (next_states F.field s t states)
        distinct-next [] h m = λ i j d l q. absurd (omega arith)
        distinct-next (a ∷ states) h m =
            pairs-append differ (children F.field s t a) (next_states F.field s t states)
            (pairs-map differ (child k s t a) (zeros_of F.field (leading_poly k s t a.moved))
            (λ i j d l q e. zeros-distinct L (leading_poly k s t a.moved) i j d l q
            (child-equal (lawful_field L) s table p n degree t level a a first first _ _ e).0))
            (distinct-next states (λ i d l. h (suc i) d (omega arith))
            (pairs-tail differ a states m))
            (λ i d l j o r. cross (own a i d l) (parents states j o r))
          where
            first : IsStateOf (lawful_field L) s table p n degree (suc t) a
            first = h 0 a (omega arith)

            cross : {x y : State F.ring s} → (c : F.carrier) × (x ≡ child F.ring s t a c)
                → IsChild t states y → ¬ (x.sum ≡ y.sum)
            cross {x = x} {y = y} c b e = apart a b.parent first
                (All-contains (IsStateOf (lawful_field L) s table p n degree (suc t)) states
                b.parent
                (λ i d l. h (suc i) d (omega arith)) b.inside) c.0 b.part
                (All-contains (differ a) states b.parent (pairs-head differ a states m) b.inside)
                (ap (λ (x : State F.ring s). x.sum) (sym c.1) ∙ e
                ∙ ap (λ (x : State F.ring s). x.sum) b.is)

        complete-next : (states : List (State F.ring s)) (a : State F.ring s) (c : F.carrier)
            → Contains states a → value_at k c (leading_poly k s t a.moved) ≡ F.zero
            → Contains (next_states F.field s t states) (child k s t a c)
        complete-next [] a c (i, l, e) v = absurd (omega arith)
        complete-next (b ∷ states) a c (zero, l, e) v =
            Contains-append_left (children F.field s t b) (next_states F.field s t states)
            (child k s t a c)
            (subst (λ x. Contains (children F.field s t x) (child k s t a c)) (sym e)
            (contains-map (child k s t a) (zeros_of F.field (leading_poly k s t a.moved)) c
            (zeros-contain L (leading_poly k s t a.moved) c v)))
        complete-next (b ∷ states) a c (suc i, l, e) v =
            Contains-append_right (children F.field s t b) (next_states F.field s t states)
            (child k s t a c) (complete-next states a c (i, omega arith, e) v)

        -- after a level
        pub next-states : t ≤ n → (states : List (State F.ring s))
            → AreStates p n degree (suc t) states
            → AreStates p n degree t (next_states F.field s t states)
        next-states b states h = record {
          each = each-next b states h.each;
          distinct = distinct-next states h.each h.distinct;
          complete = λ c r. go c r (h.complete c r);
        }
          where
            go : (c : Coords (polynomials F.ring) s.rank) → IsRootOf F.ring s p n c
                → Begins (suc t) states c → Begins t (next_states F.field s t states) c
            go c r g = record {
              state = child k s t g.state (at_level k s t g.rest);
              inside = complete-next states g.state (at_level k s t g.rest) g.inside
                  (root-part (lawful_field L) s table p n degree t level proper g.state
                  (All-contains (IsStateOf (lawful_field L) s table p n degree (suc t)) states
                  g.state
                  h.each g.inside) c g.rest r.vanishes g.sum g.small);
              rest = q.rest;
              sum = g.sum ∙ ap (T.add g.state.sum) q.sum
                  ∙ sym (TL.add_assoc g.state.sum
                  (scaled k s (at_level k s t g.rest) (monomial_at k s t)) q.rest);
              small = q.small;
            }
              where
                q : Peeled (lawful_field L) s table t g.rest
                q = peel (lawful_field L) s table t level g.rest g.small
