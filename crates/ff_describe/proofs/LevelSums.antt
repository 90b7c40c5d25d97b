-- Sums over blocks, and sums of polynomials at an element times others.
use Rattle.std.proofs.Common.{◌≡◌, ℕ, zero, suc, ◌+◌, ◌-◌, ◌<◌, ◌≤◌, ◌⊎◌, inl, inr}
use Rattle.std.proofs.Common.{◌↔◌, List, get_or}
use Rattle.std.proofs.Common.{refl, sym, ◌∙◌, ap, ap₂, subst, arith}
use Rattle.std.proofs.lemmas.Bool.{cases_lt, cond_below, cond_above}
use Rattle.std.proofs.Math.Dec.{ltb}
use Rattle.std.proofs.Math.Bool.{cond}
use Rattle.ff_theory.specs.Ring.{RingOps, IsCommRing, power}
use Rattle.ff_theory.specs.Map.{IsMap}
use Rattle.ff_theory.specs.Sum.{sum_below}
use Rattle.ff_theory.specs.Span.{unit_at}
use Rattle.ff_theory.proofs.Span.{unit-same, unit-other}
use Rattle.ff_theory.proofs.Sums.{sum-ext, sum-zero, sum-add, sum-mul, sum-front, sum-single}
use Rattle.ff_theory.proofs.Solver.{◌⊕◌, ◌⊗◌, neg, nil, unit, ring2, ring3, zero_mul}
use Rattle.ff_describe.specs.Levels.{offset}

module _ (R : RingOps) (laws : IsCommRing R) where
  infixl 60 ◌⊞◌
  infixl 70 ◌*◌
  open R use {add as ◌⊞◌, mul as ◌*◌, carrier as C}

  split : (q n : ℕ) (f : ℕ → C) → sum_below R (q + n) f
      ≡ sum_below R q f ⊞ sum_below R n (λ i. f (q + i))
  split q zero f = ap (λ k. sum_below R k f) (let e : q + zero ≡ q = omega arith in e)
      ∙ sym (laws.add_zero (sum_below R q f))
  split q (suc n) f = ap (λ k. sum_below R k f)
      (let e : q + suc n ≡ suc (q + n) = omega arith in e)
      ∙ ap (λ t. t ⊞ f (q + n)) (split q n f)
      ∙ laws.add_assoc (sum_below R q f) (sum_below R n (λ i. f (q + i))) (f (q + n))

  -- a sum over blocks
  pub sum-blocks : (counts : List ℕ) (m : ℕ) (g : ℕ → C) → sum_below R (offset counts m) g
      ≡ sum_below R m (λ l. sum_below R (get_or counts l 0) (λ a. g (offset counts l + a)))
  sum-blocks counts zero g = refl
  sum-blocks counts (suc m) g = split (offset counts m) (get_or counts m 0) g
      ∙ ap (λ t. t ⊞ sum_below R (get_or counts m 0) (λ a. g (offset counts m + a)))
      (sum-blocks counts m g)

  -- a sum from the last term to the first
  pub sum-mirror : (n : ℕ) (f g : ℕ → C) → ((i j : ℕ) → i + j + 1 ≡ n → f i ≡ g j)
      → sum_below R n f ≡ sum_below R n g
  sum-mirror zero f g h = refl
  sum-mirror (suc n) f g h =
      ap (λ t. t ⊞ f n) (sum-mirror n f (λ j. g (suc j)) (λ i j e. h i (suc j) (omega (arith, e))))
      ∙ ap (λ t. sum_below R n (λ j. g (suc j)) ⊞ t) (h n zero (omega arith))
      ∙ laws.add_comm (sum_below R n (λ j. g (suc j))) (g zero) ∙ sym (sum-front R laws n g)

  -- a sum times an element
  pub sum-times : (n : ℕ) (f : ℕ → C) (b : C) → sum_below R n (λ a. f a * b) ≡ sum_below R n f * b
  sum-times n f b = sum-ext R laws n (λ a. f a * b) (λ a. b * f a) (λ a l. laws.mul_comm (f a) b)
      ∙ sum-mul R laws n b f ∙ laws.mul_comm b (sum_below R n f)

  module _ (K : RingOps) (h : K.carrier → C) (map : IsMap K R h) where
    -- the sum of the p_a * X^a, and of the v_i * u_i
    abbrev pub poly_sum : C → ℕ → (ℕ → K.carrier) → C
    poly_sum X n p = sum_below R n (λ a. h (p a) * power R X a)

    abbrev pub linear_sum : ℕ → (ℕ → K.carrier) → (ℕ → C) → C
    linear_sum n v u = sum_below R n (λ i. h (v i) * u i)

    pub poly-times : (X b : C) (n : ℕ) (p : ℕ → K.carrier)
        → sum_below R n (λ a. h (p a) * (power R X a * b)) ≡ poly_sum X n p * b
    poly-times X b n p = sum-ext R laws n (λ a. h (p a) * (power R X a * b))
        (λ a. h (p a) * power R X a * b)
        (λ a l. sym (laws.mul_assoc (h (p a)) (power R X a) b))
        ∙ sum-times n (λ a. h (p a) * power R X a) b

    -- one block, and the same with the negatives
    block : (X b : C) (n : ℕ) (p v : ℕ → K.carrier) (u : ℕ → C)
        → ((a : ℕ) → a < n → u a ≡ power R X a * b)
        → ((a : ℕ) → a < n → p a ≡ K.neg (v a))
        → sum_below R n (λ a. h (v a) * u a) ⊞ poly_sum X n p * b ≡ R.zero
    block X b n p v u hu hp = ap (λ t. sum_below R n (λ a. h (v a) * u a) ⊞ t)
        (sym (poly-times X b n p))
        ∙ sym (sum-add R laws n (λ a. h (v a) * u a) (λ a. h (p a) * (power R X a * b)))
        ∙ sum-ext R laws n (λ a. h (v a) * u a ⊞ h (p a) * (power R X a * b)) (λ a. R.zero)
        (λ a l. ap₂ (λ t c. h (v a) * t ⊞ c * (power R X a * b))
        (hu a l) (ap h (hp a l) ∙ map.on_neg (v a))
        ∙ ring2 R laws (λ x y. x ⊗ y ⊕ neg x ⊗ y) (λ x y. nil) refl (h (v a))
        (power R X a * b)) ∙ sum-zero R laws n

    -- the blocks, and the same with the negatives
    module _ (X : C) (b : ℕ → C) (counts : List ℕ) (n : ℕ) (p : ℕ → ℕ → K.carrier)
        (v : ℕ → K.carrier) (u : ℕ → C) (m : ℕ)
        (hu : (l a : ℕ) → l < m → a < get_or counts l 0
        → u (n + (offset counts l + a)) ≡ power R X a * b l)
        (hp : (l a : ℕ) → l < m → a < get_or counts l 0
        → p l a ≡ K.neg (v (n + (offset counts l + a)))) where
      abbrev pub written : C
      written = sum_below R m (λ l. poly_sum X (get_or counts l 0) (p l) * b l)

      opposite : sum_below R (offset counts m) (λ j. h (v (n + j)) * u (n + j)) ⊞ written ≡ R.zero
      opposite = ap (λ t. t ⊞ written)
          (sum-blocks counts m (λ j. h (v (n + j)) * u (n + j)))
          ∙ sym (sum-add R laws m (λ l. sum_below R (get_or counts l 0)
          (λ a. h (v (n + (offset counts l + a))) * u (n + (offset counts l + a))))
          (λ l. poly_sum X (get_or counts l 0) (p l) * b l))
          ∙ sum-ext R laws m (λ l. sum_below R (get_or counts l 0)
          (λ a. h (v (n + (offset counts l + a))) * u (n + (offset counts l + a)))
          ⊞ poly_sum X (get_or counts l 0) (p l) * b l) (λ l. R.zero)
          (λ l q. block X (b l) (get_or counts l 0)
          (p l) (λ a. v (n + (offset counts l + a))) (λ a. u (n + (offset counts l + a)))
          (λ a t. hu l a q t) (λ a t. hp l a q t))
          ∙ sum-zero R laws m

      -- a relation writes the sum of its first terms
      pub relation-writes : linear_sum (n + offset counts m) v u ≡ R.zero
          → linear_sum n v u ≡ written
      relation-writes e = ring2 R laws (λ s t. s) (λ s t. (s ⊕ t) ⊕ neg t) refl
          (linear_sum n v u) rest
          ∙ ap (λ t. t ⊞ R.neg rest) (sym (split n (offset counts m) (λ i. h (v i) * u i)) ∙ e)
          ∙ ring2 R laws (λ r w. nil ⊕ neg r) (λ r w. w ⊕ neg (r ⊕ w)) refl rest written
          ∙ ap (λ t. written ⊞ R.neg t) opposite
          ∙ ring2 R laws (λ w z. w ⊕ neg nil) (λ w z. w) refl written written
        where
          rest : C
          rest = sum_below R (offset counts m) (λ j. h (v (n + j)) * u (n + j))

      -- and what writes the sum of some terms is a relation
      pub written-relation : linear_sum n v u ≡ written
          → linear_sum (n + offset counts m) v u ≡ R.zero
      written-relation e = split n (offset counts m) (λ i. h (v i) * u i)
          ∙ ap (λ t. t ⊞ sum_below R (offset counts m) (λ j. h (v (n + j)) * u (n + j))) e
          ∙ laws.add_comm written _ ∙ opposite

    -- the terms of a row that is one at an index alone
    pub linear-unit : (n r : ℕ) (v : ℕ → K.carrier) (u : ℕ → C) → r < n
        → ((j : ℕ) → j < n → v j ≡ unit_at K r j) → linear_sum n v u ≡ u r
    linear-unit n r v u l hv = sum-single R laws n r (λ i. h (v i) * u i) l
        (λ i q s. ap (λ t. h t * u i) (hv i q ∙ unit-other K r i s) ∙ ap (λ t. t * u i) map.on_zero
        ∙ zero_mul R laws (u i))
        ∙ ap (λ t. h t * u r) (hv r l ∙ unit-same K r) ∙ ap (λ t. t * u r) map.on_one
        ∙ ring2 R laws (λ x z. unit ⊗ x) (λ x z. x) refl (u r) (u r)

    -- the terms of a row of falling powers
    pub linear-falling : (X w : C) (n : ℕ) (q v : ℕ → K.carrier) (u : ℕ → C)
        → ((i j : ℕ) → i + j + 1 ≡ n → v i ≡ q j)
        → ((i j : ℕ) → i + j + 1 ≡ n → u i ≡ power R X j * w)
        → linear_sum n v u ≡ poly_sum X n q * w
    linear-falling X w n q v u hv hu = sum-mirror n (λ i. h (v i) * u i)
        (λ a. h (q a) * (power R X a * w)) (λ i j e. ap₂ (λ s t. h s * t) (hv i j e) (hu i j e))
        ∙ poly-times X w n q

-- an index of a block
pub offset-below : (counts : List ℕ) (m l a : ℕ) → l < m → a < get_or counts l 0
    → offset counts l + a < offset counts m
offset-below counts zero l a h k = absurd (omega (arith, h))
offset-below counts (suc m) l a h k = go (cases_lt l m) (λ q. offset-below counts m l a q k)
  where
    go : (l < m) ⊎ (m ≤ l) → ((l < m) → offset counts l + a < offset counts m)
        → offset counts l + a < offset counts m + get_or counts m 0
    go (inl q) r = let t : offset counts l + a < offset counts m = r q in omega (arith, t)
    go (inr q) r = let e : l ≡ m = omega (arith, q, h) in
        let t : a < get_or counts m 0 = subst (λ l. a < get_or counts l 0) e k in
        let s : offset counts l ≡ offset counts m = ap (offset counts) e in
        omega (arith, t, s)

-- the coefficients of blocks, one after another
module _ {X : Type 0} (d : X) where
  abbrev pub spread : List ℕ → (ℕ → ℕ → X) → ℕ → ℕ → X
  spread counts p zero j = d
  spread counts p (suc m) j = cond (ltb j (offset counts m)) (spread counts p m j)
      (p m (j - offset counts m))

  pub spread-at : (counts : List ℕ) (p : ℕ → ℕ → X) (m l a : ℕ) → l < m → a < get_or counts l 0
      → spread counts p m (offset counts l + a) ≡ p l a
  spread-at counts p zero l a h k = absurd (omega (arith, h))
  spread-at counts p (suc m) l a h k = go (cases_lt l m)
      (λ q. sym (cond_below (offset counts l + a) (offset counts m)
      (spread counts p m (offset counts l + a)) (p m (offset counts l + a - offset counts m))
      (offset-below counts m l a q k)) ∙ spread-at counts p m l a q k)
    where
      go : (l < m) ⊎ (m ≤ l) → ((l < m) → spread counts p (suc m) (offset counts l + a) ≡ p l a)
          → spread counts p (suc m) (offset counts l + a) ≡ p l a
      go (inl q) r = r q
      go (inr q) r = let e : l ≡ m = omega (arith, q, h) in
          let s : offset counts l ≡ offset counts m = ap (offset counts) e in
          let t : offset counts l + a - offset counts m ≡ a = omega (arith, s) in
          sym (cond_above (offset counts l + a) (offset counts m)
          (spread counts p m (offset counts l + a)) (p m (offset counts l + a - offset counts m))
          (p m (offset counts l + a - offset counts m)) (omega (arith, s)) refl)
          ∙ ap₂ p (sym e) t

-- a block ends before the next one
pub offset-next : (counts : List ℕ) (m l : ℕ) → l < m
    → offset counts l + get_or counts l 0 ≤ offset counts m
offset-next counts zero l h = absurd (omega (arith, h))
offset-next counts (suc m) l h = go (cases_lt l m) (λ q. offset-next counts m l q)
  where
    go : (l < m) ⊎ (m ≤ l)
        → ((l < m) → offset counts l + get_or counts l 0 ≤ offset counts m)
        → offset counts l + get_or counts l 0 ≤ offset counts m + get_or counts m 0
    go (inl q) r = let t : offset counts l + get_or counts l 0 ≤ offset counts m = r q in
        omega (arith, t)
    go (inr q) r = let e : l ≡ m = omega (arith, q, h) in
        let s : offset counts l ≡ offset counts m = ap (offset counts) e in
        let t : get_or counts l 0 ≡ get_or counts m 0 = ap (λ l. get_or counts l 0) e in
        omega (arith, s, t)
