-- Keys, entry after entry, and their order.
use Rattle.std.proofs.Common.{◌≡◌, ℕ, zero, suc, ◌+◌, ◌<◌, ◌≤◌, Bool, true, false, cond, nat_lt}
use Rattle.std.proofs.Common.{◌==◌, List, [], ◌∷◌, ◌++◌, length, map, get_or, take, drop, reverse}
use Rattle.std.proofs.Common.{refl, sym, ◌∙◌, ap, ap₂, arith, append_assoc, All}
use Rattle.std.proofs.lemmas.List.{reverse-append, reverse-reverse, length-map, length-reverse}
use Rattle.std.proofs.lemmas.List.{map-append, take-append-drop}
use Rattle.std.proofs.lemmas.Bool.{eqb-true, eq-eqb, ltb-true}
use Rattle.std.proofs.Math.Seq.{take-suc}
use Rattle.std.specs.declared.cmp.Ordering.{Ordering}
use Rattle.std.specs.declared.cmp.Ordering.TheVariants.{Less, Equal, Greater}
use Rattle.std.specs.Ordering.{nat_cmp, ordering_then, is_ne}
use Rattle.ff_theory.specs.Ring.{Elements, IsElement}
use Rattle.ff_theory.specs.Lawful.{Lawful}
use Rattle.ff_theory.specs.Values.{IsPoly, IsPlane}
use Rattle.ff_elem.specs.Elem.{elem_of, IsElem}
use Rattle.ff_elem.proofs.Quotients.{element-count, element-one}
use Rattle.ff_elem.specs.Key.{poly_key, rows_key, elem_key, key_cmp}
use Rattle.ff_elem.specs.declared.elem.Elem.{Elem}
use Rattle.ff_elem.proofs.Reduction.{drop-entry}

module _ (f : ℕ → ℕ) where
  -- one entry more, at the end of the reversed list
  pub reverse-entry : (xs : List ℕ) (i m : ℕ) (x : ℕ) → m ≡ suc i → i < length xs → x
      ≡ get_or xs i x → reverse (map f (drop i xs)) ≡ reverse (map f (drop m xs)) ++ f x ∷ []
  reverse-entry xs i m x next l e = ap (λ t. reverse (map f t)) (drop-entry xs i m x next l e)
      ∙ reverse-append (f x ∷ []) (map f (drop m xs))

drop-nothing : {X : Type 0} (xs : List X) (n : ℕ) → length xs ≤ n → drop n xs ≡ []
drop-nothing [] zero l = refl
drop-nothing [] (suc n) l = refl
drop-nothing (x ∷ xs) zero l = absurd (omega arith)
drop-nothing (x ∷ xs) (suc n) l = drop-nothing xs n (omega arith)

-- a loop that pushes the entries of a key
pub key-start : (f : ℕ → ℕ) (old key : List ℕ) (xs : List ℕ) (n : ℕ) → n ≡ length xs → key
    ≡ old ++ n ∷ [] → key ≡ old ++ (length xs ∷ reverse (map f (drop n xs)))
key-start f old key xs n len e = e
    ∙ ap₂ (λ m t. old ++ (m ∷ reverse (map f t))) len (sym (drop-nothing xs n (omega (arith, len))))

pub key-step : (f : ℕ → ℕ) (old key new : List ℕ) (xs : List ℕ) (i m v : ℕ) (x : ℕ) → m ≡ suc i
    → i < length xs → x ≡ get_or xs i x → v ≡ f x → new ≡ key ++ v ∷ []
    → key ≡ old ++ (length xs ∷ reverse (map f (drop m xs))) → new
    ≡ old ++ (length xs ∷ reverse (map f (drop i xs)))
key-step f old key new xs i m v x next l e is push before = push
    ∙ ap₂ (λ k v. k ++ v ∷ []) before is
    ∙ append_assoc old (length xs ∷ reverse (map f (drop m xs))) (f x ∷ [])
    ∙ ap (λ t. old ++ (length xs ∷ t)) (sym (reverse-entry f xs i m x next l e))

pub key-end : (f : ℕ → ℕ) (old key : List ℕ) (xs p : List ℕ) (i : ℕ) → i ≡ 0 → xs ≡ p → key
    ≡ old ++ (length xs ∷ reverse (map f (drop i xs))) → key ≡ old ++ (length p ∷ reverse (map f p))
key-end f old key xs p i none is before = before
    ∙ ap₂ (λ n q. old ++ (length q ∷ reverse (map f (drop n q)))) none is

module _ (K : Elements ℕ) where
  rows_key-append : (v w : List (List ℕ)) → rows_key K (v ++ w) ≡ rows_key K v ++ rows_key K w
  rows_key-append [] w = refl
  rows_key-append (p ∷ v) w = ap (λ t. poly_key K p ++ t) (rows_key-append v w)
      ∙ sym (append_assoc (poly_key K p) (rows_key K v) (rows_key K w))

  pub rows-step : (old key new : List ℕ) (rows : List (List ℕ)) (i : ℕ) (p : List ℕ)
      → i < length rows → p ≡ get_or rows i p → new ≡ key ++ poly_key K p → key
      ≡ old ++ rows_key K (take i rows) → new ≡ old ++ rows_key K (take (i + 1) rows)
  rows-step old key new rows i p l e push before = let next : i + 1 ≡ suc i = omega arith in
      push ∙ ap (λ k. k ++ poly_key K p) before
      ∙ append_assoc old (rows_key K (take i rows)) (poly_key K p)
      ∙ ap (λ t. old ++ t) (sym (ap (λ n. rows_key K (take n rows)) next ∙ ap (rows_key K)
      (take-suc rows i p l ∙ ap (λ q. take i rows ++ q ∷ []) (sym e))
      ∙ rows_key-append (take i rows) (p ∷ [])
      ∙ ap (λ t. rows_key K (take i rows) ++ t) (append-nil (poly_key K p))))
    where
      append-nil : (xs : List ℕ) → xs ++ [] ≡ xs
      append-nil [] = refl
      append-nil (x ∷ xs) = ap (λ t. x ∷ t) (append-nil xs)

-- the order of lists that begin alike
cmp-self : (x : ℕ) → nat_cmp x x ≡ Equal
cmp-self x = go (nat_lt x x) refl
  where
    go : (b : Bool) → nat_lt x x ≡ b → cond b Less (cond (x == x) Equal Greater) ≡ Equal
    go true e = absurd (let l : x < x = ltb-true x x e in omega (arith, l))
    go false e = ap (λ t. cond t Equal Greater) (eq-eqb x x refl)

pub key_cmp-same : (r u v : List ℕ) → key_cmp (r ++ u) (r ++ v) ≡ key_cmp u v
key_cmp-same [] u v = refl
key_cmp-same (x ∷ r) u v = ap (λ o. ordering_then o (key_cmp (r ++ u) (r ++ v))) (cmp-self x)
    ∙ key_cmp-same r u v

pub key_cmp-self : (r : List ℕ) → key_cmp r r ≡ Equal
key_cmp-self [] = refl
key_cmp-self (x ∷ r) = ap (λ o. ordering_then o (key_cmp r r)) (cmp-self x) ∙ key_cmp-self r

then-ne : (o p : Ordering) → is_ne o ≡ true → ordering_then o p ≡ o
then-ne Less p h = refl
then-ne Equal p h = cc
then-ne Greater p h = refl

pub cmp-equal : (x y : ℕ) → is_ne (nat_cmp x y) ≡ false → x ≡ y
cmp-equal x y = go (nat_lt x y) (x == y) refl
  where
    go : (b c : Bool) → (x == y) ≡ c → is_ne (cond b Less (cond c Equal Greater)) ≡ false → x ≡ y
    go true c e h = cc
    go false true e h = eqb-true x y e
    go false false e h = cc

key_cmp-equal : (r s : List ℕ) → is_ne (key_cmp r s) ≡ false → r ≡ s
key_cmp-equal [] [] h = refl
key_cmp-equal [] (y ∷ s) h = cc
key_cmp-equal (x ∷ r) [] h = cc
key_cmp-equal (x ∷ r) (y ∷ s) h = ap₂ (λ a b. a ∷ b) (cmp-equal x y (first (nat_cmp x y) h))
    (key_cmp-equal r s (second (nat_cmp x y) h))
  where
    first : (o : Ordering) → is_ne (ordering_then o (key_cmp r s)) ≡ false → is_ne o ≡ false
    first Less h = h
    first Equal h = refl
    first Greater h = h

    second : (o : Ordering) → is_ne (ordering_then o (key_cmp r s)) ≡ false → is_ne (key_cmp r s)
        ≡ false
    second Less h = cc
    second Equal h = h
    second Greater h = cc

-- lists of the same length, and what stands after them
pub key_cmp-append : (r s u v : List ℕ) → length r ≡ length s → key_cmp (r ++ u) (s ++ v)
    ≡ ordering_then (key_cmp r s) (key_cmp u v)
key_cmp-append [] [] u v e = refl
key_cmp-append [] (y ∷ s) u v e = absurd (omega arith)
key_cmp-append (x ∷ r) [] u v e = absurd (omega arith)
key_cmp-append (x ∷ r) (y ∷ s) u v e = ap (ordering_then (nat_cmp x y))
    (key_cmp-append r s u v (omega arith)) ∙ assoc (nat_cmp x y) (key_cmp r s) (key_cmp u v)
  where
    assoc : (o p q : Ordering) → ordering_then o (ordering_then p q)
        ≡ ordering_then (ordering_then o p) q
    assoc Less p q = refl
    assoc Equal p q = refl
    assoc Greater p q = refl

-- two lists from the last entry down: alike above place m, and not at the place below
pub entries-differ : (f : ℕ → ℕ) (a b : List ℕ) (i m : ℕ) (x y : ℕ) (o : Ordering) → m ≡ suc i
    → i < length a → i < length b → x ≡ get_or a i x → y ≡ get_or b i y
    → reverse (map f (drop m a)) ≡ reverse (map f (drop m b)) → o ≡ nat_cmp (f x) (f y) → is_ne o
    ≡ true → o ≡ key_cmp (reverse (map f a)) (reverse (map f b))
entries-differ f a b i m x y o next la lb ea eb same is ne = sym
    (ap₂ key_cmp (split a x la ea)
    (split b y lb eb ∙ ap (λ r. r ++ (f y ∷ reverse (map f (take i b)))) (sym same))
    ∙ key_cmp-same (reverse (map f (drop m a))) _ _
    ∙ ap (λ o. ordering_then o (key_cmp (reverse (map f (take i a))) (reverse (map f (take i
    b))))) (sym is) ∙ then-ne o _ ne)
  where
    split : (xs : List ℕ) (x : ℕ) → i < length xs → x ≡ get_or xs i x → reverse (map f xs)
        ≡ reverse (map f (drop m xs)) ++ (f x ∷ reverse (map f (take i xs)))
    split xs x l e = ap (λ t. reverse (map f t)) (sym (take-append-drop i xs))
        ∙ ap reverse (map-append f (take i xs) (drop i xs))
        ∙ reverse-append (map f (take i xs)) (map f (drop i xs))
        ∙ ap (λ t. t ++ reverse (map f (take i xs))) (reverse-entry f xs i m x next l e)
        ∙ append_assoc (reverse (map f (drop m xs))) (f x ∷ []) (reverse (map f (take i xs)))

pub entries-agree : (f : ℕ → ℕ) (a b : List ℕ) (i m : ℕ) (x y : ℕ) (o : Ordering) → m ≡ suc i
    → i < length a → i < length b → x ≡ get_or a i x → y ≡ get_or b i y
    → reverse (map f (drop m a)) ≡ reverse (map f (drop m b)) → o ≡ nat_cmp (f x) (f y) → is_ne o
    ≡ false → reverse (map f (drop i a)) ≡ reverse (map f (drop i b))
entries-agree f a b i m x y o next la lb ea eb same is eq = reverse-entry f a i m x next la ea
    ∙ ap₂ (λ r v. r ++ v ∷ []) same (cmp-equal (f x) (f y) (ap is_ne (sym is) ∙ eq))
    ∙ sym (reverse-entry f b i m y next lb eb)

pub entries-start : (f : ℕ → ℕ) (a b : List ℕ) (n : ℕ) → length a ≤ n → length b ≤ n
    → reverse (map f (drop n a)) ≡ reverse (map f (drop n b))
entries-start f a b n la lb = ap (λ t. reverse (map f t))
    (drop-nothing a n la ∙ sym (drop-nothing b n lb))

pub entries-end : (f : ℕ → ℕ) (a b : List ℕ) → reverse (map f a) ≡ reverse (map f b) → Equal
    ≡ key_cmp (reverse (map f a)) (reverse (map f b))
entries-end f a b e = sym (ap (key_cmp (reverse (map f a))) (sym e) ∙ key_cmp-self (reverse (map f
    a)))

module _ (K : Elements ℕ) where
  same-length : (p q : List ℕ) → length p ≡ length q
      → length (reverse (map (λ c. K.index (K.value c)) p))
      ≡ length (reverse (map (λ c. K.index (K.value c)) q))
  same-length p q e = length-reverse (map (λ c. K.index (K.value c)) p)
      ∙ length-map p (λ c. K.index (K.value c)) ∙ e
      ∙ sym (length-reverse (map (λ c. K.index (K.value c)) q)
      ∙ length-map q (λ c. K.index (K.value c)))

  -- lengths first, then the coefficients
  pub lengths-differ : (p q : List ℕ) (o : Ordering) → o ≡ nat_cmp (length p) (length q) → is_ne o
      ≡ true → o ≡ key_cmp (poly_key K p) (poly_key K q)
  lengths-differ p q o is ne = sym
      (ap (λ o. ordering_then o (key_cmp (reverse (map (λ c. K.index (K.value c)) p)) (reverse (map
      (λ c. K.index (K.value c)) q)))) (sym is) ∙ then-ne o _ ne)

  pub lengths-agree : (p q : List ℕ) (o : Ordering) → o ≡ nat_cmp (length p) (length q) → is_ne o
      ≡ false → length p ≡ length q
  lengths-agree p q o is eq = cmp-equal (length p) (length q) (ap is_ne (sym is) ∙ eq)

  pub coeffs-decide : (p q : List ℕ) → length p ≡ length q
      → key_cmp (reverse (map (λ c. K.index (K.value c)) p))
      (reverse (map (λ c. K.index (K.value c)) q)) ≡ key_cmp (poly_key K p) (poly_key K q)
  coeffs-decide p q e = sym (ap (λ n. ordering_then (nat_cmp n (length q)) (key_cmp (reverse (map (λ
      c. K.index (K.value c)) p)) (reverse (map (λ c. K.index (K.value c)) q)))) e
      ∙ ap (λ o. ordering_then o (key_cmp (reverse (map (λ c. K.index (K.value c)) p)) (reverse (map
      (λ c. K.index (K.value c)) q)))) (cmp-self (length q)))

  -- the key of a polynomial, and what follows it
  pub poly_key-then : (p q : List ℕ) (u v : List ℕ)
      → key_cmp (poly_key K p ++ u) (poly_key K q ++ v)
      ≡ ordering_then (key_cmp (poly_key K p) (poly_key K q)) (key_cmp u v)
  poly_key-then p q u v = go (is_ne (nat_cmp (length p) (length q))) refl
    where
      go : (b : Bool) → is_ne (nat_cmp (length p) (length q)) ≡ b
          → key_cmp (poly_key K p ++ u) (poly_key K q ++ v)
          ≡ ordering_then (key_cmp (poly_key K p) (poly_key K q)) (key_cmp u v)
      go true e = then-ne (nat_cmp (length p) (length q)) _ e
          ∙ sym (ap (λ o. ordering_then o (key_cmp u v))
          (then-ne (nat_cmp (length p) (length q)) _ e)
          ∙ then-ne (nat_cmp (length p) (length q)) (key_cmp u v) e)
      go false e = key_cmp-append (poly_key K p) (poly_key K q) u v
          (ap suc (same-length p q (cmp-equal (length p) (length q) e)))

  -- rows: alike below place i, and not there
  pub rows-differ : (a b : List (List ℕ)) (i : ℕ) (p q : List ℕ) (o : Ordering) → i < length a
      → i < length b → p ≡ get_or a i p → q ≡ get_or b i q
      → rows_key K (take i a) ≡ rows_key K (take i b) → o ≡ key_cmp (poly_key K p) (poly_key K q)
      → is_ne o ≡ true → o ≡ key_cmp (rows_key K a) (rows_key K b)
  rows-differ a b i p q o la lb ea eb same is ne = sym
      (ap₂ key_cmp (split a p la ea)
      (split b q lb eb ∙ ap (λ r. r ++ (poly_key K q ++ rows_key K (drop (suc i) b))) (sym same))
      ∙ key_cmp-same (rows_key K (take i a)) _ _ ∙ poly_key-then p q _ _
      ∙ ap (λ o. ordering_then o (key_cmp (rows_key K (drop (suc i) a)) (rows_key K (drop (suc
      i) b)))) (sym is) ∙ then-ne o _ ne)
    where
      split : (xs : List (List ℕ)) (p : List ℕ) → i < length xs → p ≡ get_or xs i p → rows_key K xs
          ≡ rows_key K (take i xs) ++ (poly_key K p ++ rows_key K (drop (suc i) xs))
      split xs p l e = ap (rows_key K) (sym (take-append-drop i xs))
          ∙ rows_key-append K (take i xs) (drop i xs)
          ∙ ap (λ t. rows_key K (take i xs) ++ rows_key K t) (drop-entry xs i (suc i) p refl l e)

  pub rows-agree : (a b : List (List ℕ)) (i : ℕ) (p q : List ℕ) (o : Ordering) → i < length a
      → i < length b → p ≡ get_or a i p → q ≡ get_or b i q
      → rows_key K (take i a) ≡ rows_key K (take i b) → o ≡ key_cmp (poly_key K p) (poly_key K q)
      → is_ne o ≡ false → rows_key K (take (i + 1) a) ≡ rows_key K (take (i + 1) b)
  rows-agree a b i p q o la lb ea eb same is eq = more a p la ea ∙ ap₂ (λ r t. r ++ t) same keys
      ∙ sym (more b q lb eb)
    where
      keys : poly_key K p ≡ poly_key K q
      keys = key_cmp-equal (poly_key K p) (poly_key K q) (ap is_ne (sym is) ∙ eq)

      more : (xs : List (List ℕ)) (p : List ℕ) → i < length xs → p ≡ get_or xs i p
          → rows_key K (take (i + 1) xs) ≡ rows_key K (take i xs) ++ poly_key K p
      more xs p l e = sym (rows-step K [] (rows_key K (take i xs))
          (rows_key K (take i xs) ++ poly_key K p) xs i p l e refl refl)

  -- denominators first, then the numerators
  pub den-differ : (a b : Elem) (o : Ordering) → o ≡ key_cmp (poly_key K a.den) (poly_key K b.den)
      → is_ne o ≡ true → o ≡ key_cmp (elem_key K a) (elem_key K b)
  den-differ a b o is ne = sym (poly_key-then a.den b.den (rows_key K a.num) (rows_key K b.num) ∙ ap
      (λ o. ordering_then o (key_cmp (rows_key K a.num) (rows_key K b.num))) (sym is)
      ∙ then-ne o _ ne)

  pub den-agree : (a b : Elem) (o r : Ordering) → o ≡ key_cmp (poly_key K a.den) (poly_key K b.den)
      → is_ne o ≡ false → r ≡ key_cmp (rows_key K a.num) (rows_key K b.num) → r
      ≡ key_cmp (elem_key K a) (elem_key K b)
  den-agree a b o r is eq rest = rest
      ∙ sym (poly_key-then a.den b.den (rows_key K a.num) (rows_key K b.num)
      ∙ ap (λ o. ordering_then o (key_cmp (rows_key K a.num) (rows_key K b.num)))
      (sym is ∙ equal o eq))
    where
      equal : (o : Ordering) → is_ne o ≡ false → o ≡ Equal
      equal Less h = cc
      equal Equal h = refl
      equal Greater h = cc

module _ (K : Elements ℕ) (one_place : (a b : ℕ) → IsElement K a → IsElement K b → K.index (K.value
    a) ≡ K.index (K.value b) → a ≡ b) where
  places-one : (p q : List ℕ) → All (IsElement K) p → All (IsElement K) q
      → map (λ c. K.index (K.value c)) p ≡ map (λ c. K.index (K.value c)) q → p ≡ q
  places-one [] [] hp hq e = refl
  places-one [] (b ∷ q) hp hq e = cc
  places-one (a ∷ p) [] hp hq e = cc
  places-one (a ∷ p) (b ∷ q) hp hq e =
      let h : K.index (K.value a) ≡ K.index (K.value b) = cc in
      let t : map (λ c. K.index (K.value c)) p ≡ map (λ c. K.index (K.value c)) q = cc in
      ap₂ (λ x r. x ∷ r) (one_place a b (hp zero a (omega arith)) (hq zero b (omega arith)) h)
      (places-one p q (λ k d l. hp (suc k) d (omega arith))
      (λ k d l. hq (suc k) d (omega arith)) t)

  -- the key of a polynomial gives it, whatever follows
  poly_key-one : (p q : List ℕ) (u v : List ℕ) → All (IsElement K) p → All (IsElement K) q
      → poly_key K p ++ u ≡ poly_key K q ++ v → (p ≡ q) × (u ≡ v)
  poly_key-one p q u v hp hq e =
      let n : length p ≡ length q = cc in
      let t : reverse (map (λ c. K.index (K.value c)) p) ++ u
      ≡ reverse (map (λ c. K.index (K.value c)) q) ++ v = cc in
      let parts = append-parts (reverse (map (λ c. K.index (K.value c)) p))
      (reverse (map (λ c. K.index (K.value c)) q)) u v (same-length K p q n) t in (
        places-one p q hp hq (sym (reverse-reverse (map (λ c. K.index (K.value c)) p)) ∙ ap reverse
            parts.0 ∙ reverse-reverse (map (λ c. K.index (K.value c)) q)),
        parts.1,
      )
    where
      append-parts : (r s u v : List ℕ) → length r ≡ length s → r ++ u ≡ s ++ v → (r ≡ s) × (u ≡ v)
      append-parts [] [] u v l e = (refl, e)
      append-parts [] (y ∷ s) u v l e = absurd (omega arith)
      append-parts (x ∷ r) [] u v l e = absurd (omega arith)
      append-parts (x ∷ r) (y ∷ s) u v l e =
          let h : x ≡ y = cc in
          let t : r ++ u ≡ s ++ v = cc in
          let rest = append-parts r s u v (omega arith) t in
          (ap₂ (λ x r. x ∷ r) h rest.0, rest.1)

  rows_key-one : (a b : List (List ℕ)) → length a ≡ length b → All (λ p. IsPoly K p) a
      → All (λ p. IsPoly K p) b → rows_key K a ≡ rows_key K b → a ≡ b
  rows_key-one [] [] l ha hb e = refl
  rows_key-one [] (q ∷ b) l ha hb e = absurd (omega arith)
  rows_key-one (p ∷ a) [] l ha hb e = absurd (omega arith)
  rows_key-one (p ∷ a) (q ∷ b) l ha hb e =
      let parts = poly_key-one p q (rows_key K a) (rows_key K b) (ha zero p (omega arith)).each
      (hb zero q (omega arith)).each e in
      ap₂ (λ p a. p ∷ a) parts.0 (rows_key-one a b (omega arith) (λ k d l. ha (suc k) d (omega
      arith)) (λ k d l. hb (suc k) d (omega arith)) parts.1)

  -- elements of one algebra with the same key are the same
  pub elem_key-one : (L : Lawful K) (f : List (List ℕ)) (a b : Elem) → IsPlane K f → 1 < length f
      → IsElem L f a → IsElem L f b → elem_key K a ≡ elem_key K b → a ≡ b
  elem_key-one L f a b hf has ha hb e =
      let parts = poly_key-one a.den b.den (rows_key K a.num) (rows_key K b.num) ha.den.each
      hb.den.each e in
      element-path a b parts.0 (rows_key-one a.num b.num (let m = element-count K L f a hf has ha in
      let n = element-count K L f b hf has hb in omega (arith, m, n)) ha.num hb.num parts.1)
    where
      element-path : (a b : Elem) → a.den ≡ b.den → a.num ≡ b.num → a ≡ b
      element-path a b d n = λ i. record { den = d i; num = n i }

-- an order that is Equal
pub key_cmp-is_equal : (r s : List ℕ) → key_cmp r s ≡ Equal → r ≡ s
key_cmp-is_equal r s e = key_cmp-equal r s (ap is_ne e)

-- the order of keys is Equal exactly where the elements are equal
pub equal-element : (K : Elements ℕ) (L : Lawful K) (f : List (List ℕ))
    → ((a b : ℕ) → IsElement K a → IsElement K b → K.value a ≡ K.value b → a ≡ b)
    → ((a : K.carrier) → K.element_at (K.index a) ≡ a)
    → (a b : Elem) → IsPlane K f → 1 < length f → IsElem L f a → IsElem L f b → (o : Ordering) → o
    ≡ key_cmp (elem_key K a) (elem_key K b) → (o ≡ Equal → elem_of L f a ≡ elem_of L f b)
    × (elem_of L f a ≡ elem_of L f b → o ≡ Equal)
equal-element K L f one_value at_index a b hf has ha hb o is = (
  λ e. ap (elem_of L f) (elem_key-one K (λ x y hx hy h. one_value x y hx hy (sym (at_index (K.value
      x)) ∙ ap K.element_at h ∙ at_index (K.value y))) L f a b hf has ha hb
      (key_cmp-is_equal (elem_key K a) (elem_key K b) (sym is ∙ e))),
  λ e. is ∙ ap (λ t. key_cmp (elem_key K a) (elem_key K t))
      (sym (element-one K L f one_value a b ha hb e)) ∙ key_cmp-self (elem_key K a),
)
