-- The search goes through no more nodes at a level than the degree of the polynomial.
use Rattle.std.proofs.Common.{◌≡◌, ℕ, zero, suc, ◌+◌, ◌*◌, ◌%◌, ◌<◌, ◌≤◌, Bool, true, false, cond}
use Rattle.std.proofs.Common.{nat_lt, List, [], ◌∷◌, ◌++◌, length, get_or, map, refl, sym, ◌∙◌, ap}
use Rattle.std.proofs.Common.{subst, arith}
use Rattle.std.specs.List.{All, sum_by}
use Rattle.std.proofs.lemmas.Bool.{ltb-true}
use Rattle.std.proofs.lemmas.List.{length-append, length-map}
use Rattle.std.proofs.lemmas.List.Sums.{sum_by-cons}
use Rattle.std.proofs.Math.Nat.{mul-add, mul-zero, mul-one}
use Rattle.ff_theory.specs.Ring.{RingOps, Elements, power}
use Rattle.ff_theory.specs.Lawful.{Lawful, lawful_field}
use Rattle.ff_theory.specs.Poly.{coeff, polynomials}
use Rattle.ff_theory.proofs.Solver.{zero_mul}
use Rattle.ff_theory.proofs.Domains.{field_domain}
use Rattle.ff_table.specs.Coords.{Coords}
use Rattle.ff_table.specs.Table.{Table, IsTable, table_ring}
use Rattle.ff_table.specs.Level.{IsLevel, class_of, power_of, at_level, monomial_at}
use Rattle.ff_table.specs.Shift.{IsMonicList}
use Rattle.ff_table.specs.Order.{HasOrder}
use Rattle.ff_table.specs.Roots.{State, child, top_weight, leading_poly, is_level, level_count}
use Rattle.ff_table.specs.Roots.{zeros_of, children, next_states, states_after, node_count, start}
use Rattle.ff_table.proofs.TableRing.{table_laws}
use Rattle.ff_table.proofs.Scalars.{part-zero}
use Rattle.ff_table.proofs.Levels.{class-below}
use Rattle.ff_table.proofs.LeadingDegrees.{leading-at}
use Rattle.ff_table.proofs.RootOrders.{order_exists, root-order, orders_sum}
use Rattle.ff_table.proofs.Tops.{HasLeading, has_leading}
use Rattle.ff_table.proofs.Zeros.{zeros-vanish, zeros-distinct}
use Rattle.ff_table.proofs.States.{IsStateOf, Allows, allows-child}
use Rattle.ff_table.proofs.Search.{AreStates, proper}
use Rattle.ff_table.proofs.RootsFound.{states-after, start-states}

module _ {E : Type 0} {F : Elements E} (L : Lawful F) (s : Table F.ring) (table : IsTable F.ring s)
    (p : List (Coords (polynomials F.ring) s.rank)) (n degree : ℕ) where
  abbrev T : RingOps
  T = table_ring F.ring s

  abbrev k : RingOps
  k = F.ring

  abbrev IsBefore : ℕ → State F.ring s → Type 0
  IsBefore t a = IsStateOf (lawful_field L) s table p n degree (suc t) a

  -- the degrees that the leading polynomials of the states may have below t add up to b at most
  data Allowed (t : ℕ) : List (State F.ring s) → ℕ → Type 0 where
    none : (b : ℕ) → Allowed t [] b
    more : (a : State F.ring s) (states : List (State F.ring s)) (r c b : ℕ)
        → Allows (lawful_field L) s table t r a.moved → Allowed t states c → r + c ≤ b
        → Allowed t (a ∷ states) b

  allowed-append : (t : ℕ) (xs ys : List (State F.ring s)) (x y b : ℕ) → Allowed t xs x
      → Allowed t ys y → x + y ≤ b → Allowed t (xs ++ ys) b
  allowed-append t [] ys x y b (none x') k l = weaken k (omega arith)
    where
      weaken : {ys : List (State F.ring s)} {y b : ℕ} → Allowed t ys y → y ≤ b → Allowed t ys b
      weaken (none y) l = none _
      weaken (more a states r c y h k l) m = more a states r c _ h k (omega (arith, l, m))
  allowed-append t (a ∷ xs) ys x y b (more a' xs' r c x' h k l) m q =
      more a (xs ++ ys) r (c + y) b h (allowed-append t xs ys c y (c + y) k m (omega arith))
      (omega (arith, l, q))

  allowed-below : (t : ℕ) (xs : List (State F.ring s)) (b : ℕ) → Allowed (suc t) xs b
      → Allowed t xs b
  allowed-below t [] b (none b') = none b
  allowed-below t (a ∷ xs) b (more a' xs' r c b' h k l) =
      more a xs r c b (λ v q. h v (omega arith)) (allowed-below t xs c k) l

  module _ (t : ℕ) (level : IsLevel s t) (small : t ≤ n) where
    -- one state
    module _ (a : State F.ring s) (h : IsStateOf (lawful_field L) s table p n degree (suc t) a)
        (r : ℕ) (allowed : Allows (lawful_field L) s table (suc t) r a.moved) where
      abbrev G : List F.carrier
      G = leading_poly F.ring s t a.moved

      leads : HasLeading (lawful_field L) s table t a.moved
      leads = has_leading (lawful_field L) s table t level a.moved degree
          (λ z. proper L s table (sym h.monic ∙ z))

      past : (i : ℕ) → r < i → coeff k G i ≡ k.zero
      past = allowed t (omega arith) level

      exists : (c : F.carrier) → (o : ℕ) × HasOrder k G c o
      exists c = order_exists (field_domain (lawful_field L)) c G r past leads.index leads.nonzero

      order : F.carrier → ℕ
      order c = (exists c).0

      orders-below : sum_by order (zeros_of F.field G) ≤ r
      unfolding order
      orders-below = orders_sum (field_domain (lawful_field L))
          (zeros_of F.field G) G r order past (zeros-distinct L G)
          (λ i d l. (exists (get_or (zeros_of F.field G) i d)).1)

      enough : (cs : List F.carrier) → All (λ c. 0 < order c) cs → length cs ≤ sum_by order cs
      enough [] g = omega arith
      enough (c ∷ cs) g = omega (
        arith,
        sum_by-cons order c cs,
        g 0 c (omega arith),
        enough cs (λ i d l. g (suc i) d (omega arith)),
      )

      positive : All (λ c. 0 < order c) (zeros_of F.field G)
      unfolding order
      positive i d l = root-order (field_domain (lawful_field L))
          (get_or (zeros_of F.field G) i d) G _
          (zeros-vanish L G i d l) (exists (get_or (zeros_of F.field G) i d)).1

      allowed-map : (cs : List F.carrier) → Allowed t (map (child k s t a) cs) (sum_by order cs)
      unfolding order
      allowed-map [] = none _
      allowed-map (c ∷ cs) = more (child k s t a c) (map (child k s t a) cs) (order c)
          (sum_by order cs) _
          (allows-child (lawful_field L) s table p n degree t level (proper L s table) a h small c
          (order c) (exists c).1)
          (allowed-map cs) (omega (arith, sum_by-cons order c cs))

      few : length (children F.field s t a) ≤ r
      few = omega (
        arith,
        length-map (zeros_of F.field G) (child k s t a),
        enough (zeros_of F.field G) positive,
        orders-below,
      )

    next-allowed : (states : List (State F.ring s)) (b : ℕ)
        → All (IsStateOf (lawful_field L) s table p n degree (suc t)) states
        → Allowed (suc t) states b
        → Allowed t (next_states F.field s t states) b
        × (length (next_states F.field s t states) ≤ b)
    next-allowed [] b h (none b') = (none b, omega arith)
    next-allowed (a ∷ states) b h (more a' states' r c b' g k l) =
        step (next-allowed states c (λ i d q. h (suc i) d (omega arith)) k)
      where
        step : Allowed t (next_states F.field s t states) c
            × (length (next_states F.field s t states) ≤ c)
            → Allowed t (next_states F.field s t (a ∷ states)) b
            × (length (next_states F.field s t (a ∷ states)) ≤ b)
        step q = (
          allowed-append t (children F.field s t a) (next_states F.field s t states)
              (sum_by (order a (h 0 a (omega arith)) r g)
              (zeros_of F.field (leading_poly F.ring s t a.moved))) c b
              (allowed-map a (h 0 a (omega arith)) r g
              (zeros_of F.field (leading_poly F.ring s t a.moved))) q.0
              (omega (arith, l, orders-below a (h 0 a (omega arith)) r g)),
          omega (
            arith,
            l,
            length-append (children F.field s t a) (next_states F.field s t states),
            few a (h 0 a (omega arith)) r g,
            q.1,
          ),
        )

  -- the nodes of the levels below t
  nodes-below : (t : ℕ) → t ≤ suc n → (states : List (State F.ring s)) (b : ℕ)
      → AreStates L s table p n degree t states → Allowed t states b
      → node_count F.field s t states ≤ b * level_count F.ring s t
  nodes-below zero small states b h g = omega arith
  nodes-below (suc t) small states b h g = go (is_level k s t) refl
      (λ o. nodes-below t (omega arith) (states_after F.field s t states) b
      (states-after L s table p n degree t (omega arith) states h) o)
    where
      go : (o : Bool) → nat_lt (s.weight (t % s.rank)) (suc t) ≡ o
          → (Allowed t (states_after F.field s t states) b
          → node_count F.field s t (states_after F.field s t states)
          ≤ b * level_count F.ring s t)
          → node_count F.field s (suc t) states ≤ b * level_count F.ring s (suc t)
      go true e rest = omega (
        arith,
        rest (subst (λ o. Allowed t (cond o (next_states F.field s t states) states) b) (sym e)
            q.0),
        q.1,
        ap (λ o. cond o (length (next_states F.field s t states)) 0) e,
        mul-add b (cond (is_level k s t) 1 0) (level_count F.ring s t),
        ap (λ o. b * cond o 1 0) e,
        mul-one b,
      )
        where
          level : IsLevel s t
          level = let l : s.weight (t % s.rank) < suc t =
              ltb-true (s.weight (t % s.rank)) (suc t) e in omega (arith, l)

          q : Allowed t (next_states F.field s t states) b
              × (length (next_states F.field s t states) ≤ b)
          q = next-allowed t level (omega arith) states b h.each g
      go false e rest = omega (
        arith,
        rest (subst (λ o. Allowed t (cond o (next_states F.field s t states) states) b) (sym e)
            (allowed-below t states b g)),
        ap (λ o. cond o (length (next_states F.field s t states)) 0) e,
        mul-add b (cond (is_level k s t) 1 0) (level_count F.ring s t),
        ap (λ o. b * cond o 1 0) e,
        mul-zero b,
      )

  -- at each level no more nodes than the degree
  pub nodes-bound : IsMonicList (table_ring F.ring s) p degree
      → node_count F.field s (suc n) (start F.field s p)
      ≤ degree * level_count F.ring s (suc n)
  nodes-bound h = nodes-below (suc n) (omega arith) (start F.field s p) degree
      (start-states L s table p n degree h)
      (more (record { sum = T.zero; moved = p }) [] degree 0 degree first (none 0) (omega arith))
    where
      first : Allows (lawful_field L) s table (suc n) degree p
      first v q v_level i l =
          leading-at (lawful_field L) s table (at_level k s (top_weight k s v 0 p))
          zero_part (monomial_at k s v) p i
          ∙ ap (λ c. at_level k s (top_weight k s v 0 p) (T.mul c (power T (monomial_at k s v) i)))
          (h.past i l)
          ∙ ap (at_level k s (top_weight k s v 0 p))
          (zero_mul T (table_laws (lawful_field L) s table) (power T (monomial_at k s v) i))
          ∙ zero_part
        where
          zero_part : at_level k s (top_weight k s v 0 p) T.zero ≡ k.zero
          zero_part = part-zero (lawful_field L) s (class_of s (top_weight k s v 0 p))
              (power_of s (top_weight k s v 0 p))
              (class-below (lawful_field L) s table (top_weight k s v 0 p))
