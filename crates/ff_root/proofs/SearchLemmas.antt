-- What the loops of the search cite: lists that grow while their rests shrink.
use Rattle.std.proofs.Common.{◌≡◌, ℕ, zero, suc, ◌+◌, ◌-◌, ◌%◌, ◌<◌, ◌≤◌, Bool, true, false}
use Rattle.std.proofs.Common.{cond, List, [], ◌∷◌, ◌++◌, length, map, get_or, drop}
use Rattle.std.proofs.Common.{refl, sym, ◌∙◌, ap, ap₂, arith}
use Rattle.std.specs.List.{filter}
use Rattle.std.proofs.lemmas.Bool.{lt-ltb, le-ltb}
use Rattle.std.proofs.lemmas.List.{append_assoc, append-nil, length-append, drop_more, drop_all}
use Rattle.ff_theory.specs.Ring.{Elements}
use Rattle.ff_theory.specs.Lists.{listed}
use Rattle.ff_theory.specs.Poly.{coeff}
use Rattle.ff_theory.proofs.Listed.{listed-length}
use Rattle.ff_table.specs.Table.{Table}
use Rattle.ff_table.specs.Shift.{value_at}
use Rattle.ff_table.specs.Roots.{State as SearchState, child, children, leading_poly, next_states}
use Rattle.ff_table.specs.Roots.{is_level, states_after, search, node_count, finished}
use Rattle.ff_data.specs.declared.system.System.{System}
use Rattle.ff_data.specs.Systems.{weight_at}
use Rattle.ff_ring.specs.Ring.{table_in, ring_in, element_in, elements_in}
use Rattle.ff_root.specs.declared.state.State.{State}
use Rattle.ff_root.specs.States.{value_of, state_in, states_in}

listed-get : {A : Type 0} (n : ℕ) (g : ℕ → A) (i : ℕ) (d : A) → i < n
    → get_or (listed n g) i d ≡ g i
listed-get zero g i d l = absurd (omega (arith, l))
listed-get (suc n) g zero d l = refl
listed-get (suc n) g (suc i) d l = listed-get n (λ j. g (suc j)) i d (omega (arith, l))

module _ {A : Type 0} where
  -- old grows by what its rest begins with
  pub grown : (old new begin rest after whole : List A) → new ≡ old ++ begin → rest ≡ begin ++ after
      → old ++ rest ≡ whole → new ++ after ≡ whole
  grown old new begin rest after whole f g h = ap (λ t. t ++ after) f
      ∙ append_assoc old begin after ∙ ap (λ t. old ++ t) (sym g) ∙ h

  pub grown-all : (old rest whole : List A) → rest ≡ [] → old ++ rest ≡ whole → old ≡ whole
  grown-all old rest whole f h = sym (append-nil old) ∙ ap (λ t. old ++ t) (sym f) ∙ h

  -- and a number by its length
  pub counted : (begin rest after whole : List A) (n m o : ℕ) → rest ≡ begin ++ after
      → m ≤ n + length begin → n + length rest ≤ o + length whole
      → m + length after ≤ o + length whole
  counted begin rest after whole n m o f g h = omega (
    arith,
    g,
    h,
    ap length f,
    length-append begin after,
  )

  pub counted-end : (begin rest after whole : List A) (n m o : ℕ) → rest ≡ begin ++ after
      → m ≤ n + length begin → n + length rest ≤ o + length whole → m ≤ o + length whole
  counted-end begin rest after whole n m o f g h =
      omega (arith, counted begin rest after whole n m o f g h)

module _ (F : Elements ℕ) (s : System) where
  abbrev S : Table F.ring
  S = table_in F s

  pub states-push : (states : List State) (a : State)
      → states_in F s (states ++ a ∷ []) ≡ states_in F s states ++ state_in F s a ∷ []
  states-push [] a = refl
  states-push (x ∷ states) a = ap (λ t. state_in F s x ∷ t) (states-push states a)

  -- the children of a for the elements from index i on
  abbrev pub children_rest : ℕ → SearchState F.ring (table_in F s) → ℕ
      → List (SearchState F.ring (table_in F s))
  children_rest t a i = map (child F.ring (table_in F s) t a)
      (filter (λ c. F.same (value_at F.ring c (leading_poly F.ring (table_in F s) t a.moved))
      F.zero)
      (drop i (listed F.size F.element_at)))

  module _ (t : ℕ) (a : SearchState F.ring (table_in F s)) where
    abbrev test : F.carrier → Bool
    test c = F.same (value_at F.ring c (leading_poly F.ring (table_in F s) t a.moved)) F.zero

    pub children-first : (i : ℕ) → i ≡ 0
        → children_rest t a i ≡ children F.field (table_in F s) t a
    children-first i z = ap (children_rest t a) z

    next-element : (i : ℕ) (c : F.carrier) → i < F.size → c ≡ F.element_at i
        → children_rest t a i ≡ map (child F.ring (table_in F s) t a)
        (cond (test c) (c ∷ filter test (drop (i + 1) (listed F.size F.element_at)))
        (filter test (drop (i + 1) (listed F.size F.element_at))))
    next-element i c l e = ap (λ p. map (child F.ring S t a) (filter test p))
        (drop_more (listed F.size F.element_at) i c
        (omega (arith, l, listed-length F.size F.element_at)))
        ∙ ap (λ x. map (child F.ring S t a)
        (cond (test x) (x ∷ filter test (drop (i + 1) (listed F.size F.element_at)))
        (filter test (drop (i + 1) (listed F.size F.element_at)))))
        (listed-get F.size F.element_at i c l ∙ sym e)

    pub children-yes : (i j : ℕ) (c : F.carrier) → i < F.size → j ≡ i + 1 → c ≡ F.element_at i
        → F.same (value_at F.ring c (leading_poly F.ring (table_in F s) t a.moved)) F.zero ≡ true
        → children_rest t a i
        ≡ (child F.ring (table_in F s) t a c ∷ []) ++ children_rest t a j
    children-yes i j c l f e y = next-element i c l e
        ∙ ap (λ b. map (child F.ring S t a)
        (cond b (c ∷ filter test (drop (i + 1) (listed F.size F.element_at)))
        (filter test (drop (i + 1) (listed F.size F.element_at))))) y
        ∙ ap (λ n. child F.ring S t a c ∷ children_rest t a n) (sym f)

    pub children-no : (i j : ℕ) (c : F.carrier) → i < F.size → j ≡ i + 1 → c ≡ F.element_at i
        → F.same (value_at F.ring c (leading_poly F.ring (table_in F s) t a.moved)) F.zero ≡ false
        → children_rest t a i ≡ [] ++ children_rest t a j
    children-no i j c l f e y = next-element i c l e
        ∙ ap (λ b. map (child F.ring S t a)
        (cond b (c ∷ filter test (drop (i + 1) (listed F.size F.element_at)))
        (filter test (drop (i + 1) (listed F.size F.element_at))))) y
        ∙ ap (children_rest t a) (sym f)

    pub children-none : (i : ℕ) → F.size ≤ i → children_rest t a i ≡ []
    children-none i l = ap (λ p. map (child F.ring S t a) (filter test p))
        (drop_all i (listed F.size F.element_at)
        (omega (arith, l, listed-length F.size F.element_at)))

  -- the test of one element, as the code has it
  pub leading-test : (t : ℕ) (a : State) (c : ℕ) (read list : List ℕ)
      (moved : List (List (List ℕ))) (r b : Bool) → read ≡ list
      → map F.value list ≡ leading_poly F.ring (table_in F s) t (elements_in F s moved)
      → moved ≡ a.moved → r ≡ F.same (value_of F read c) F.zero → r ≡ b
      → F.same (value_at F.ring (F.value c) (leading_poly F.ring (table_in F s) t
      (elements_in F s a.moved))) F.zero ≡ b
  leading-test t a c read list moved r b f g h k e =
      ap (λ l. F.same (value_at F.ring (F.value c) l) F.zero)
      (sym (ap (map F.value) f ∙ g ∙ ap (λ m. leading_poly F.ring S t (elements_in F s m)) h))
      ∙ sym k ∙ e

  -- the states after t of the states from index i on
  abbrev pub next_rest : ℕ → List State → ℕ → List (SearchState F.ring (table_in F s))
  next_rest t states i = next_states F.field (table_in F s) t (states_in F s (drop i states))

  pub next-first : (t : ℕ) (states : List State) (i : ℕ) → i ≡ 0
      → next_rest t states i ≡ next_states F.field (table_in F s) t (states_in F s states)
  next-first t states i z = ap (next_rest t states) z

  pub next-more : (t : ℕ) (states : List State) (i j : ℕ) (a : State) → i < length states
      → j ≡ i + 1 → a ≡ get_or states i a
      → next_rest t states i
      ≡ children F.field (table_in F s) t (state_in F s a) ++ next_rest t states j
  next-more t states i j a l f e = ap (λ p. next_states F.field S t (states_in F s p))
      (drop_more states i a l)
      ∙ ap₂ (λ x n. children F.field S t (state_in F s x) ++ next_rest t states n) (sym e) (sym f)

  pub next-none : (t : ℕ) (states : List State) (i : ℕ) → length states ≤ i
      → next_rest t states i ≡ []
  next-none t states i l = ap (λ p. next_states F.field S t (states_in F s p)) (drop_all i states l)

  -- levels
  pub level-yes : (t : ℕ) → length s.weights ≡ s.e → weight_at s (t % s.e) ≤ t
      → is_level F.ring (table_in F s) t ≡ true
  level-yes t f l = lt-ltb (weight_at s (t % length s.weights)) (suc t)
      (omega (arith, l, ap (λ n. weight_at s (t % n)) f))

  pub level-no : (t : ℕ) → length s.weights ≡ s.e → ¬ (weight_at s (t % s.e) ≤ t)
      → is_level F.ring (table_in F s) t ≡ false
  level-no t f l = le-ltb (weight_at s (t % length s.weights)) (suc t)
      (omega (arith, above (weight_at s (t % s.e)) t l, ap (λ n. weight_at s (t % n)) f))
    where
      above : (a b : ℕ) → ¬ (a ≤ b) → suc b ≤ a
      above a b h = grind arith

  pub after-yes : (t : ℕ) (states : List (SearchState F.ring (table_in F s)))
      → is_level F.ring (table_in F s) t ≡ true
      → next_states F.field (table_in F s) t states ≡ states_after F.field (table_in F s) t states
  after-yes t states e = sym (ap (λ b. cond b (next_states F.field S t states) states) e)

  pub after-no : (t : ℕ) (states : List (SearchState F.ring (table_in F s)))
      → is_level F.ring (table_in F s) t ≡ false
      → states ≡ states_after F.field (table_in F s) t states
  after-no t states e = sym (ap (λ b. cond b (next_states F.field S t states) states) e)

  pub count-yes : (t n o : ℕ) (states : List (SearchState F.ring (table_in F s)))
      → is_level F.ring (table_in F s) t ≡ true
      → n ≤ o + length (next_states F.field (table_in F s) t states)
      → n ≤ o + cond (is_level F.ring (table_in F s) t)
      (length (next_states F.field (table_in F s) t states)) 0
  count-yes t n o states e h = omega (
    arith,
    h,
    ap (λ b. cond b (length (next_states F.field S t states)) 0) e,
  )

  pub count-no : (t n o : ℕ) (states : List (SearchState F.ring (table_in F s)))
      → is_level F.ring (table_in F s) t ≡ false → n ≤ o
      → n ≤ o + cond (is_level F.ring (table_in F s) t)
      (length (next_states F.field (table_in F s) t states)) 0
  count-no t n o states e h = omega (
    arith,
    h,
    ap (λ b. cond b (length (next_states F.field S t states)) 0) e,
  )

  -- the levels below w + 1 - i are left
  pub search-first : (w i : ℕ) (states : List (SearchState F.ring (table_in F s))) → i ≡ 0
      → search F.field (table_in F s) (w + 1 - i) states
      ≡ search F.field (table_in F s) (w + 1) states
  search-first w i states z = ap (λ n. search F.field S n states)
      (let e : w + 1 - i ≡ w + 1 = omega (arith, z) in e)

  pub search-more : (w i j t : ℕ) (states new whole : List (SearchState F.ring (table_in F s)))
      → i < w + 1 → j ≡ i + 1 → t ≡ w - i
      → new ≡ states_after F.field (table_in F s) t states
      → search F.field (table_in F s) (w + 1 - i) states ≡ whole
      → search F.field (table_in F s) (w + 1 - j) new ≡ whole
  search-more w i j t states new whole l f g h k =
      ap₂ (λ n x. search F.field S n x)
      (let e : w + 1 - j ≡ t = omega (arith, l, f, g) in e) h
      ∙ ap (λ n. search F.field S n states)
      (let e : suc t ≡ w + 1 - i = omega (arith, l, g) in e) ∙ k

  pub search-last : (w i : ℕ) (states whole : List (SearchState F.ring (table_in F s)))
      → w + 1 ≤ i → search F.field (table_in F s) (w + 1 - i) states ≡ whole → states ≡ whole
  search-last w i states whole l k = ap (λ n. search F.field S n states)
      (let e : 0 ≡ w + 1 - i = omega (arith, l) in e) ∙ k

  pub nodes-first : (w i n : ℕ) (states : List (SearchState F.ring (table_in F s))) → i ≡ 0
      → n + node_count F.field (table_in F s) (w + 1 - i) states
      ≤ n + node_count F.field (table_in F s) (w + 1) states
  nodes-first w i n states z = omega (
    arith,
    ap (λ m. node_count F.field S m states)
        (let e : w + 1 - i ≡ w + 1 = omega (arith, z) in e),
  )

  nodes-step : (w i j t : ℕ) (states new : List (SearchState F.ring (table_in F s)))
      → i < w + 1 → j ≡ i + 1 → t ≡ w - i
      → new ≡ states_after F.field (table_in F s) t states
      → node_count F.field (table_in F s) (w + 1 - i) states
      ≡ cond (is_level F.ring (table_in F s) t)
      (length (next_states F.field (table_in F s) t states)) 0
      + node_count F.field (table_in F s) (w + 1 - j) new
  nodes-step w i j t states new l f g h =
      ap (λ n. node_count F.field S n states)
      (let e : w + 1 - i ≡ suc t = omega (arith, l, g) in e)
      ∙ ap₂ (λ n x. cond (is_level F.ring S t) (length (next_states F.field S t states)) 0
      + node_count F.field S n x)
      (let e : t ≡ w + 1 - j = omega (arith, l, f, g) in e) (sym h)

  pub nodes-more : (w i j t n m o whole : ℕ)
      (states new : List (SearchState F.ring (table_in F s)))
      → i < w + 1 → j ≡ i + 1 → t ≡ w - i
      → new ≡ states_after F.field (table_in F s) t states
      → m ≤ n + cond (is_level F.ring (table_in F s) t)
      (length (next_states F.field (table_in F s) t states)) 0
      → n + node_count F.field (table_in F s) (w + 1 - i) states ≤ o + whole
      → m + node_count F.field (table_in F s) (w + 1 - j) new ≤ o + whole
  nodes-more w i j t n m o whole states new l f g h k old =
      omega (arith, nodes-step w i j t states new l f g h, k, old)

  pub nodes-cut : (w i t n m o whole : ℕ)
      (states : List (SearchState F.ring (table_in F s)))
      → i < w + 1 → t ≡ w - i
      → m ≤ n + cond (is_level F.ring (table_in F s) t)
      (length (next_states F.field (table_in F s) t states)) 0
      → n + node_count F.field (table_in F s) (w + 1 - i) states ≤ o + whole
      → m ≤ o + whole
  nodes-cut w i t n m o whole states l g k old = omega (
    arith,
    nodes-step w i (i + 1) t states (states_after F.field S t states) l refl g refl,
    k,
    old,
  )

  -- the sums of the states from index i on whose polynomials have the root 0
  abbrev pub finished_rest : List State → ℕ → List (ring_in F s).carrier
  finished_rest states i = finished F.field (table_in F s) (states_in F s (drop i states))

  pub finished-first : (states : List State) (i : ℕ) → i ≡ 0
      → finished_rest states i ≡ finished F.field (table_in F s) (states_in F s states)
  finished-first states i z = ap (finished_rest states) z

  next-finished : (states : List State) (i j : ℕ) (a : State) → i < length states
      → j ≡ i + 1 → a ≡ get_or states i a → finished_rest states i
      ≡ finished F.field (table_in F s) (state_in F s a ∷ states_in F s (drop j states))
  next-finished states i j a l f e = ap (λ p. finished F.field S (states_in F s p))
      (drop_more states i a l)
      ∙ ap₂ (λ x n. finished F.field S (state_in F s x ∷ states_in F s (drop n states)))
      (sym e) (sym f)

  abbrev ends : SearchState F.ring (table_in F s) → Bool
  ends a = (ring_in F s).same (coeff (ring_in F s) a.moved 0) (ring_in F s).zero

  pub finished-yes : (states : List State) (i j : ℕ) (a : State) → i < length states
      → j ≡ i + 1 → a ≡ get_or states i a
      → (ring_in F s).same (coeff (ring_in F s) (elements_in F s a.moved) 0)
      (ring_in F s).zero ≡ true
      → finished_rest states i ≡ (element_in F s a.sum ∷ []) ++ finished_rest states j
  finished-yes states i j a l f e y = next-finished states i j a l f e
      ∙ ap (λ b. map (λ (x : SearchState F.ring S). x.sum)
      (cond b (state_in F s a ∷ filter ends (states_in F s (drop j states)))
      (filter ends (states_in F s (drop j states))))) y

  pub finished-no : (states : List State) (i j : ℕ) (a : State) → i < length states
      → j ≡ i + 1 → a ≡ get_or states i a
      → (ring_in F s).same (coeff (ring_in F s) (elements_in F s a.moved) 0) (ring_in F s).zero
      ≡ false
      → finished_rest states i ≡ [] ++ finished_rest states j
  finished-no states i j a l f e y = next-finished states i j a l f e
      ∙ ap (λ b. map (λ (x : SearchState F.ring S). x.sum)
      (cond b (state_in F s a ∷ filter ends (states_in F s (drop j states)))
      (filter ends (states_in F s (drop j states))))) y

  pub finished-none : (states : List State) (i : ℕ) → length states ≤ i
      → finished_rest states i ≡ []
  finished-none states i l = ap (λ p. finished F.field S (states_in F s p)) (drop_all i states l)
