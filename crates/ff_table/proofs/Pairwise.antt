-- Lists whose elements stand in a relation to all later ones, and elements of filtered lists.
use Rattle.std.proofs.Common.{◌≡◌, ℕ, zero, suc, ◌<◌, Bool, true, false, cond, List, [], ◌∷◌, ◌++◌}
use Rattle.std.proofs.Common.{map, refl, sym, ◌∙◌, ap, arith}
use Rattle.std.specs.List.{All, AllPairs, Contains, filter}
use Rattle.std.proofs.lemmas.List.Elements.{All-append, All-head, All-tail, All-map, All-filter}
use Rattle.ff_theory.specs.Lists.{listed}
use Rattle.ff_theory.proofs.Booleans.{differ}

module _ {X : Type 0} (R : X → X → Type 0) where
  pub pairs-cons : (x : X) (xs : List X) → All (R x) xs → AllPairs R xs → AllPairs R (x ∷ xs)
  pairs-cons x xs h k zero zero d l q = absurd (omega arith)
  pairs-cons x xs h k zero (suc j) d l q = h j d (omega arith)
  pairs-cons x xs h k (suc i) zero d l q = absurd (omega arith)
  pairs-cons x xs h k (suc i) (suc j) d l q = k i j d (omega arith) (omega arith)

  pub pairs-head : (x : X) (xs : List X) → AllPairs R (x ∷ xs) → All (R x) xs
  pairs-head x xs h j d l = h 0 (suc j) d (omega arith) (omega arith)

  pub pairs-tail : (x : X) (xs : List X) → AllPairs R (x ∷ xs) → AllPairs R xs
  pairs-tail x xs h i j d l q = h (suc i) (suc j) d (omega arith) (omega arith)

  pub pairs-append : (xs ys : List X) → AllPairs R xs → AllPairs R ys
      → All (λ x. All (R x) ys) xs → AllPairs R (xs ++ ys)
  pairs-append [] ys h k c = k
  pairs-append (x ∷ xs) ys h k c = pairs-cons x (xs ++ ys)
      (All-append (R x) xs ys (pairs-head x xs h) (All-head (λ x. All (R x) ys) x xs c))
      (pairs-append xs ys (pairs-tail x xs h) k (All-tail (λ x. All (R x) ys) x xs c))

  pub pairs-map : {Y : Type 0} (f : Y → X) (ys : List Y) → AllPairs (λ a b. R (f a) (f b)) ys
      → AllPairs R (map f ys)
  pairs-map f [] h = λ i j d l q. absurd (omega arith)
  pairs-map f (y ∷ ys) h = pairs-cons (f y) (map f ys)
      (All-map (R (f y)) f ys (λ j d l. h 0 (suc j) d (omega arith) (omega arith)))
      (pairs-map f ys (λ i j d l q. h (suc i) (suc j) d (omega arith) (omega arith)))

  pub pairs-filter : (test : X → Bool) (xs : List X) → AllPairs R xs
      → AllPairs R (filter test xs)
  pairs-filter test [] h = h
  pairs-filter test (x ∷ xs) h = go (test x) (pairs-filter test xs (pairs-tail x xs h))
    where
      go : (b : Bool) → AllPairs R (filter test xs)
          → AllPairs R (cond b (x ∷ filter test xs) (filter test xs))
      go true k = pairs-cons x (filter test xs)
          (All-filter test (R x) xs (pairs-head x xs h)) k
      go false k = k

  pub pairs-listed : (n : ℕ) (g : ℕ → X) → ((i j : ℕ) → i < j → j < n → R (g i) (g j))
      → AllPairs R (listed n g)
  pairs-listed zero g h = λ i j d l q. absurd (omega arith)
  pairs-listed (suc n) g h = pairs-cons (g 0) (listed n (λ i. g (suc i)))
      (all n (λ i. g (suc i)) (λ i l. h 0 (suc i) (omega arith) (omega arith)))
      (pairs-listed n (λ i. g (suc i)) (λ i j l q. h (suc i) (suc j) (omega arith) (omega arith)))
    where
      all : (n : ℕ) (f : ℕ → X) → ((i : ℕ) → i < n → R (g 0) (f i)) → All (R (g 0)) (listed n f)
      all zero f k j d l = absurd (omega arith)
      all (suc n) f k zero d l = k 0 (omega arith)
      all (suc n) f k (suc j) d l = all n (λ i. f (suc i)) (λ i q. k (suc i) (omega arith)) j d
          (omega arith)

pub contains-map : {X Y : Type 0} (f : X → Y) (xs : List X) (x : X) → Contains xs x
    → Contains (map f xs) (f x)
contains-map f [] x h = absurd (let l = h.1 in omega arith)
contains-map f (y ∷ xs) x (zero, l, e) = (zero, omega arith, ap f e)
contains-map f (y ∷ xs) x (suc i, l, e) = later (contains-map f xs x (i, omega arith, e))
  where
    later : Contains (map f xs) (f x) → Contains (f y ∷ map f xs) (f x)
    later h = let l = h.1 in (suc h.0, omega arith, h.2)

pub contains-filter : {X : Type 0} (test : X → Bool) (xs : List X) (x : X) → test x ≡ true
    → Contains xs x → Contains (filter test xs) x
contains-filter test [] x t h = h
contains-filter test (y ∷ xs) x t (zero, l, e) = go (test y) refl
  where
    go : (b : Bool) → test y ≡ b → Contains (cond b (y ∷ filter test xs) (filter test xs)) x
    go true k = (zero, omega arith, e)
    go false k = differ (test x) t (ap test (sym e) ∙ k)
contains-filter test (y ∷ xs) x t (suc i, l, e) =
    go (test y) (contains-filter test xs x t (i, omega arith, e))
  where
    go : (b : Bool) → Contains (filter test xs) x
        → Contains (cond b (y ∷ filter test xs) (filter test xs)) x
    go true h = let l = h.1 in (suc h.0, omega arith, h.2)
    go false h = h

pub contains-listed : {X : Type 0} (n : ℕ) (g : ℕ → X) (i : ℕ) → i < n → Contains (listed n g) (g i)
contains-listed zero g i l = absurd (omega arith)
contains-listed (suc n) g zero l = (zero, omega arith, refl)
contains-listed (suc n) g (suc i) l = later (contains-listed n (λ i. g (suc i)) i (omega arith))
  where
    later : Contains (listed n (λ i. g (suc i))) (g (suc i))
        → Contains (listed (suc n) g) (g (suc i))
    later h = let l = h.1 in (suc h.0, omega arith, h.2)
