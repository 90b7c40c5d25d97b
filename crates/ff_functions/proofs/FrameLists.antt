-- Lists of numerators, with one more.
use Rattle.std.proofs.Common.{◌≡◌, ℕ, suc, ◌+◌ as plus_ℕ, ◌*◌ as times_ℕ, ◌<◌, ◌≤◌, ◌⊎◌, inl}
use Rattle.std.proofs.Common.{inr, List, [], ◌∷◌, ◌++◌, length, Bool, true, false, refl}
use Rattle.std.proofs.Common.{sym, ◌∙◌, ap, subst, arith, Vec, Global, ◌↔◌, IsTrue}
use Rattle.std.proofs.lemmas.Bool.{cases_lt}
use Rattle.std.proofs.lemmas.List.{length-map}
use Rattle.ff_theory.specs.Ring.{Elements, power}
use Rattle.ff_theory.specs.Lawful.{Lawful}
use Rattle.ff_theory.specs.Poly.{polynomials}
use Rattle.ff_theory.specs.Monomial.{variable}
use Rattle.ff_theory.specs.Vector.{vector_of, vectors_of}
use Rattle.ff_lin.specs.Space.{rows_of}
use Rattle.ff_lin.proofs.Compare.{true-is-false}
use Rattle.ff_data.specs.Orders.{y_degree, slope_of}
use Rattle.ff_common.specs.Common.{IsTimesVector}
use Rattle.ff_functions.specs.Elements.{IsMultiple, HasMultiple, IsSmallMultiple, HoldMultiples}
use Rattle.ff_functions.specs.Elements.{IsGrown, AreNumerators}
use Rattle.ff_functions.proofs.RowLemmas.{pushed-below, pushed-last}

abbrev items : Vec ℕ Global → List ℕ
items v = v.items

pub rows_length : (xs : List (Vec ℕ Global)) (v : Vec ℕ Global) → length (rows_of (xs ++ v ∷ []))
    ≡ suc (length (rows_of xs))
rows_length [] v = refl
rows_length (x ∷ xs) v = ap suc (rows_length xs v)

module _ (F : Elements ℕ) where
  pub pushed_old : (xs : List (Vec ℕ Global)) (v : Vec ℕ Global) (t : ℕ) → t < length (rows_of xs)
      → vectors_of F (rows_of (xs ++ v ∷ [])) t ≡ vectors_of F (rows_of xs) t
  pushed_old xs v t q = ap (vector_of F) (pushed-below items xs v t []
      (let e : length (rows_of xs) ≡ length xs = length-map xs items in omega (arith, q, e)))

  pub pushed_new : (xs : List (Vec ℕ Global)) (v : Vec ℕ Global)
      → vectors_of F (rows_of (xs ++ v ∷ [])) (length (rows_of xs)) ≡ vector_of F v.items
  pushed_new xs v = ap (λ t. vectors_of F (rows_of (xs ++ v ∷ [])) t) (length-map xs items)
      ∙ ap (vector_of F) (pushed-last items xs v [])

  -- what holds of each vector of a list, and of one more
  pub pushed_each : (P : (ℕ → F.carrier) → Type 0) (xs : List (Vec ℕ Global)) (v : Vec ℕ Global)
      → ((t : ℕ) → t < length (rows_of xs) → P (vectors_of F (rows_of xs) t))
      → P (vector_of F v.items) → (t : ℕ) → t < length (rows_of (xs ++ v ∷ []))
      → P (vectors_of F (rows_of (xs ++ v ∷ [])) t)
  pushed_each P xs v each one t q = go (cases_lt t (length (rows_of xs)))
    where
      go : (t < length (rows_of xs)) ⊎ (length (rows_of xs) ≤ t)
          → P (vectors_of F (rows_of (xs ++ v ∷ [])) t)
      go (inl k) = subst P (sym (pushed_old xs v t k)) (each t k)
      go (inr k) = let e : length (rows_of xs) ≡ t = omega (arith, q, k, rows_length xs v) in
          subst (λ t. P (vectors_of F (rows_of (xs ++ v ∷ [])) t)) e
          (subst P (sym (pushed_new xs v)) one)

  pub pushed_some : (P : (ℕ → F.carrier) → Type 0) (xs : List (Vec ℕ Global)) (v : Vec ℕ Global)
      → (t : ℕ) × ((t < length (rows_of xs)) × P (vectors_of F (rows_of xs) t))
      → (t : ℕ) × ((t < length (rows_of (xs ++ v ∷ [])))
      × P (vectors_of F (rows_of (xs ++ v ∷ [])) t))
  pushed_some P xs v s = (
    s.0,
    (
      (let r = s.1.0 in omega (arith, r, rows_length xs v)),
      subst P (sym (pushed_old xs v s.0 s.1.0)) s.1.1,
    ),
  )

  pub pushed_here : (P : (ℕ → F.carrier) → Type 0) (xs : List (Vec ℕ Global)) (v : Vec ℕ Global)
      → P (vector_of F v.items) → (t : ℕ) × ((t < length (rows_of (xs ++ v ∷ [])))
      × P (vectors_of F (rows_of (xs ++ v ∷ [])) t))
  pushed_here P xs v one = (
    length (rows_of xs),
    (
      (let r = rows_length xs v in omega (arith, r)),
      subst P (sym (pushed_new xs v)) one,
    ),
  )

  module _ (d : List ℕ) (l n m e : ℕ) where
    pub hold_none : (rows : List (Vec ℕ Global)) → rows ≡ []
        → HoldMultiples F d l n m e 0 0 (rows_of rows)
    hold_none rows z = subst (λ rows. HoldMultiples F d l n m e 0 0 (rows_of rows)) (sym z) record {
      each = λ t q. absurd (omega (arith, q));
      before = λ k c q s. absurd (omega (arith, q));
      last = λ c q s. absurd (omega (arith, q));
    }

    pub hold_more : (i b s : ℕ) → i < n → s ≡ plus_ℕ (times_ℕ i l) b → (wanted : Bool)
        → IsTrue wanted ↔ (plus_ℕ (times_ℕ i e) b ≤ m) → (old new : List (Vec ℕ Global))
        → IsGrown F d s wanted old new → HoldMultiples F d l n m e i b (rows_of old)
        → HoldMultiples F d l n m e i (plus_ℕ b 1) (rows_of new)
    hold_more i b s below at true w old new g h = subst
        (λ rows. HoldMultiples F d l n m e i (plus_ℕ b 1) (rows_of rows)) (sym g.1.0) record {
          each = pushed_each (IsSmallMultiple F d l n m e) old g.0 h.each (record {
            row = i;
            shift = b;
            below = below;
            small = w.0 refl;
            value = value;
          });
          before = λ k c q r. pushed_some (IsMultiple F d (plus_ℕ (times_ℕ k l) c)) old g.0
              (h.before k c q r);
          last = λ c q r. go c q r (cases_lt c b);
        }
      where
        value : IsMultiple F d (plus_ℕ (times_ℕ i l) b) (vector_of F g.0.items)
        value = subst (λ s. IsMultiple F d s (vector_of F g.0.items)) at g.1.1

        go : (c : ℕ) → c < plus_ℕ b 1 → plus_ℕ (times_ℕ i e) c ≤ m → (c < b) ⊎ (b ≤ c)
            → HasMultiple F d l i c (rows_of (old ++ g.0 ∷ []))
        go c q r (inl k) = pushed_some (IsMultiple F d (plus_ℕ (times_ℕ i l) c)) old g.0
            (h.last c k r)
        go c q r (inr k) = let z : b ≡ c = omega (arith, q, k) in
            subst (λ c. HasMultiple F d l i c (rows_of (old ++ g.0 ∷ []))) z
            (pushed_here (IsMultiple F d (plus_ℕ (times_ℕ i l) b)) old g.0 value)
    hold_more i b s below at false w old new g h = subst
        (λ rows. HoldMultiples F d l n m e i (plus_ℕ b 1) (rows_of rows)) (sym g) record {
          each = h.each;
          before = h.before;
          last = λ c q r. go c q r (cases_lt c b);
        }
      where
        go : (c : ℕ) → c < plus_ℕ b 1 → plus_ℕ (times_ℕ i e) c ≤ m → (c < b) ⊎ (b ≤ c)
            → HasMultiple F d l i c (rows_of old)
        go c q r (inl k) = h.last c k r
        go c q r (inr k) = let z : c ≡ b = omega (arith, q, k) in
            absurd (true-is-false false refl
            (w.1 (subst (λ c. plus_ℕ (times_ℕ i e) c ≤ m) z r)))

    pub hold_row : (i b : ℕ) → m < b → (rows : List (List ℕ)) → HoldMultiples F d l n m e i b rows
        → HoldMultiples F d l n m e (plus_ℕ i 1) 0 rows
    hold_row i b q rows h = record {
      each = h.each;
      before = λ k c r s. go k c r s (cases_lt k i);
      last = λ c r s. absurd (omega (arith, r));
    }
      where
        go : (k c : ℕ) → k < plus_ℕ i 1 → plus_ℕ (times_ℕ k e) c ≤ m → (k < i) ⊎ (i ≤ k)
            → HasMultiple F d l k c rows
        go k c r s (inl a) = h.before k c a s
        go k c r s (inr a) = let z : i ≡ k = omega (arith, r, a) in
            subst (λ k. HasMultiple F d l k c rows) z
            (h.last c (omega (arith, s, q)) (subst (λ k. plus_ℕ (times_ℕ k e) c ≤ m) (sym z) s))

    pub hold_less : (i j : ℕ) → j ≤ i → (rows : List (List ℕ))
        → HoldMultiples F d l n m e i 0 rows → HoldMultiples F d l n m e j 0 rows
    hold_less i j q rows h = record {
      each = h.each;
      before = λ k c r s. h.before k c (omega (arith, r, q)) s;
      last = λ c r s. absurd (omega (arith, r));
    }

module _ (F : Elements ℕ) (L : Lawful F) (f : List (List ℕ)) (d : List ℕ) (m short l : ℕ)
    (vectors : List (List ℕ)) where
  -- the vector of a list of the index
  abbrev Times : ℕ → (ℕ → F.carrier) → Type 0
  Times i v = IsTimesVector L f (power (polynomials F.ring) (variable F.ring) 0) short l
      (vectors_of F vectors i) v

  -- with those of the first vectors
  pub record AreUpTo (n : ℕ) (rows : List (List ℕ)) : Type 0 where
    pub each : (t : ℕ) → t < length rows
        → IsSmallMultiple F d l (y_degree L f) m (slope_of L f) (vectors_of F rows t)
        ⊎ ((i : ℕ) × ((i < n) × IsTimesVector L f
        (power (polynomials F.ring) (variable F.ring) 0) short l (vectors_of F vectors i)
        (vectors_of F rows t)))
    pub multiples : (i b : ℕ) → i < y_degree L f → plus_ℕ (times_ℕ i (slope_of L f)) b ≤ m
        → HasMultiple F d l i b rows
    pub inside : (i : ℕ) → i < n → (t : ℕ) × ((t < length rows)
        × IsTimesVector L f (power (polynomials F.ring) (variable F.ring) 0) short l
        (vectors_of F vectors i) (vectors_of F rows t))

  pub up_to_none : (rows : List (List ℕ)) → HoldMultiples F d l (y_degree L f) m (slope_of L f)
      (y_degree L f) 0 rows → AreUpTo 0 rows
  up_to_none rows h = record {
    each = λ t q. inl (h.each t q);
    multiples = h.before;
    inside = λ i q. absurd (omega (arith, q));
  }

  pub up_to_more : (n : ℕ) (old : List (Vec ℕ Global)) (v : Vec ℕ Global)
      → IsTimesVector L f (power (polynomials F.ring) (variable F.ring) 0) short l
      (vectors_of F vectors n) (vector_of F v.items) → AreUpTo n (rows_of old)
      → AreUpTo (plus_ℕ n 1) (rows_of (old ++ v ∷ []))
  up_to_more n old v one h = record {
    each = pushed_each F (λ w. IsSmallMultiple F d l (y_degree L f) m (slope_of L f) w
        ⊎ ((i : ℕ) × ((i < plus_ℕ n 1) × Times i w))) old v (λ t q. wider t (h.each t q))
        (inr (n, ((let q : n < plus_ℕ n 1 = omega arith in q), one)));
    multiples = λ i b q s. pushed_some F (IsMultiple F d (plus_ℕ (times_ℕ i l) b)) old v
        (h.multiples i b q s);
    inside = λ i q. go i q (cases_lt i n);
  }
    where
      wider : (t : ℕ) → IsSmallMultiple F d l (y_degree L f) m (slope_of L f)
          (vectors_of F (rows_of old) t) ⊎ ((i : ℕ) × ((i < n) × Times i
          (vectors_of F (rows_of old) t)))
          → IsSmallMultiple F d l (y_degree L f) m (slope_of L f) (vectors_of F (rows_of old) t)
          ⊎ ((i : ℕ) × ((i < plus_ℕ n 1) × Times i (vectors_of F (rows_of old) t)))
      wider t (inl k) = inl k
      wider t (inr k) = inr (k.0, ((let q = k.1.0 in omega (arith, q)), k.1.1))

      go : (i : ℕ) → i < plus_ℕ n 1 → (i < n) ⊎ (n ≤ i)
          → (t : ℕ) × ((t < length (rows_of (old ++ v ∷ [])))
          × Times i (vectors_of F (rows_of (old ++ v ∷ [])) t))
      go i q (inl k) = pushed_some F (Times i) old v (h.inside i k)
      go i q (inr k) = let z : n ≡ i = omega (arith, q, k) in
          subst (λ i. (t : ℕ) × ((t < length (rows_of (old ++ v ∷ [])))
          × Times i (vectors_of F (rows_of (old ++ v ∷ [])) t))) z
          (pushed_here F (Times n) old v one)

  pub up_to_all : (n : ℕ) → length vectors ≤ n → n ≤ length vectors → (rows : List (List ℕ))
      → AreUpTo n rows → AreNumerators L f d m short l vectors rows
  up_to_all n a b rows h = record {
    each = λ t q. wider t (h.each t q);
    multiples = h.multiples;
    vectors_in = λ i q. h.inside i (omega (arith, q, a));
  }
    where
      wider : (t : ℕ) → IsSmallMultiple F d l (y_degree L f) m (slope_of L f)
          (vectors_of F rows t) ⊎ ((i : ℕ) × ((i < n) × Times i (vectors_of F rows t)))
          → IsSmallMultiple F d l (y_degree L f) m (slope_of L f) (vectors_of F rows t)
          ⊎ ((i : ℕ) × ((i < length vectors) × Times i (vectors_of F rows t)))
      wider t (inl k) = inl k
      wider t (inr k) = inr (k.0, ((let q = k.1.0 in omega (arith, q, b)), k.1.1))
