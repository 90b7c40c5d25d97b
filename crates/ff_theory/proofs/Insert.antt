-- Families with a member put in at an index.
use Rattle.std.proofs.Common.{◌≡◌, ℕ, zero, suc, ◌<◌, ◌≤◌, refl, sym, ◌∙◌, ap, arith}
use Rattle.ff_theory.specs.Ring.{RingOps, IsCommRing}
use Rattle.ff_theory.specs.Sum.{sum_below}
use Rattle.ff_theory.proofs.Series.{tail}
use Rattle.ff_theory.proofs.Solver.{◌⊕◌, ring3}
use Rattle.ff_theory.proofs.Sums.{sum-front, sum-ext}

-- f with x put in at index p
abbrev pub insert_at : {A : Type 0} → ℕ → A → (ℕ → A) → ℕ → A
insert_at zero x f zero = x
insert_at zero x f (suc i) = f i
insert_at (suc p) x f zero = f zero
insert_at (suc p) x f (suc i) = insert_at p x (λ l. f (suc l)) i

-- the indices but p, in order
abbrev pub skip : ℕ → ℕ → ℕ
skip zero i = suc i
skip (suc p) zero = zero
skip (suc p) (suc i) = suc (skip p i)

pub skip-below : (p i n : ℕ) → i < n → skip p i < suc n
skip-below zero i n l = omega arith
skip-below (suc p) zero n l = omega arith
skip-below (suc p) (suc i) zero l = absurd (omega arith)
skip-below (suc p) (suc i) (suc n) l = let h : skip p i < suc n = skip-below p i n (omega arith) in
    omega (arith, h)

pub insert-skip : {A : Type 0} (p i : ℕ) (x : A) (f : ℕ → A) → insert_at p x f (skip p i) ≡ f i
insert-skip zero i x f = refl
insert-skip (suc p) zero x f = refl
insert-skip (suc p) (suc i) x f = insert-skip p i x (λ l. f (suc l))

pub insert-at : {A : Type 0} (p : ℕ) (x : A) (f : ℕ → A) → insert_at p x f p ≡ x
insert-at zero x f = refl
insert-at (suc p) x f = insert-at p x (λ l. f (suc l))

module _ (R : RingOps) (laws : IsCommRing R) where
  infixl 60 ◌+◌
  infixl 70 ◌*◌
  open R use {add as ◌+◌, mul as ◌*◌, neg as minus, carrier as C}

  -- products at each index
  pub insert-mul : (p : ℕ) (x : C) (c g : ℕ → C) (i : ℕ) → insert_at p x c i * g i
      ≡ insert_at p (x * g p) (λ l. c l * g (skip p l)) i
  insert-mul zero x c g zero = refl
  insert-mul zero x c g (suc i) = refl
  insert-mul (suc p) x c g zero = refl
  insert-mul (suc p) x c g (suc i) = insert-mul p x (λ l. c (suc l)) (λ l. g (suc l)) i

  pub sum-insert : (p n : ℕ) (x : C) (f : ℕ → C) → p ≤ n → sum_below R (suc n) (insert_at p x f)
      ≡ x + sum_below R n f
  sum-insert zero n x f l = sum-front R laws n (insert_at zero x f)
  sum-insert (suc p) zero x f l = absurd (omega arith)
  sum-insert (suc p) (suc n) x f l =
      sum-front R laws (suc n) (insert_at (suc p) x f)
      ∙ ap (λ t. f zero + t) (sum-insert p n x (tail f) (omega arith))
      ∙ ring3 R laws (λ a x s. a ⊕ (x ⊕ s)) (λ a x s. x ⊕ (a ⊕ s)) refl (f zero) x
      (sum_below R n (tail f)) ∙ ap (λ t. x + t) (sym (sum-front R laws n f))

  -- a combination with one term put in
  pub sum-insert_mul : (p n : ℕ) (x : C) (c g : ℕ → C) → p ≤ n
      → sum_below R (suc n) (λ i. insert_at p x c i * g i)
      ≡ x * g p + sum_below R n (λ i. c i * g (skip p i))
  sum-insert_mul p n x c g l = sum-ext R laws (suc n) (λ i. insert_at p x c i * g i)
      (insert_at p (x * g p) (λ i. c i * g (skip p i))) (λ i q. insert-mul p x c g i)
      ∙ sum-insert p n (x * g p) (λ i. c i * g (skip p i)) l
