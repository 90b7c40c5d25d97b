-- The coefficients of a moved polynomial: those past its degree, the leading one, and those of a
-- polynomial that is moved twice.
use Rattle.std.proofs.Common.{◌≡◌, ℕ, zero, suc, ◌<◌, ◌≤◌, List, [], ◌∷◌, length, refl, sym, ◌∙◌}
use Rattle.std.proofs.Common.{ap, ap₂, arith}
use Rattle.ff_theory.specs.Ring.{RingOps, IsCommRing}
use Rattle.ff_theory.specs.Poly.{coeff}
use Rattle.ff_theory.proofs.Solver.{◌⊕◌, ◌⊗◌, nil, ring1, ring2, ring6}
use Rattle.ff_table.specs.Shift.{carry, shift}

module _ (R : RingOps) (laws : IsCommRing R) where
  infixl 60 ◌+◌
  infixl 70 ◌*◌
  open R use {add as ◌+◌, mul as ◌*◌, carrier as C}

  carry-zero : (a h : C) (p : List C) → coeff R (carry R a h p) 0 ≡ h + a * coeff R p 0
  carry-zero a h [] = ring2 R laws (λ a h. h) (λ a h. h ⊕ a ⊗ nil) refl a h
  carry-zero a h (x ∷ p) = refl

  carry-suc : (a h : C) (p : List C) (i : ℕ) → coeff R (carry R a h p) (suc i)
      ≡ coeff R p i + a * coeff R p (suc i)
  carry-suc a h [] i = ring1 R laws (λ a. nil) (λ a. nil ⊕ a ⊗ nil) refl a
  carry-suc a h (x ∷ p) zero = carry-zero a x p
  carry-suc a h (x ∷ p) (suc i) = carry-suc a x p i

  carry-length : (a h : C) (p : List C) → length (carry R a h p) ≡ suc (length p)
  carry-length a h [] = refl
  carry-length a h (x ∷ p) = ap suc (carry-length a x p)

  pub shift-length : (a : C) (p : List C) → length (shift R a p) ≡ length p
  shift-length a [] = refl
  shift-length a (h ∷ p) = carry-length a h (shift R a p) ∙ ap suc (shift-length a p)

  -- the coefficients that are zero from index n on stay zero
  pub shift-past : (a : C) (p : List C) (n : ℕ) → ((i : ℕ) → n ≤ i → coeff R p i ≡ R.zero)
      → (i : ℕ) → n ≤ i → coeff R (shift R a p) i ≡ R.zero
  shift-past a [] n h i l = refl
  shift-past a (x ∷ p) zero h zero l = carry-zero a x (shift R a p)
      ∙ ap₂ (λ s t. s + a * t) (h zero l)
      (shift-past a p zero (λ j q. h (suc j) (omega arith)) zero (omega arith))
      ∙ ring1 R laws (λ a. nil ⊕ a ⊗ nil) (λ a. nil) refl a
  shift-past a (x ∷ p) zero h (suc i) l = carry-suc a x (shift R a p) i
      ∙ ap₂ (λ s t. s + a * t)
      (shift-past a p zero (λ j q. h (suc j) (omega arith)) i (omega arith))
      (shift-past a p zero (λ j q. h (suc j) (omega arith)) (suc i) (omega arith))
      ∙ ring1 R laws (λ a. nil ⊕ a ⊗ nil) (λ a. nil) refl a
  shift-past a (x ∷ p) (suc n) h zero l = absurd (omega arith)
  shift-past a (x ∷ p) (suc n) h (suc i) l = carry-suc a x (shift R a p) i
      ∙ ap₂ (λ s t. s + a * t)
      (shift-past a p n (λ j q. h (suc j) (omega arith)) i (omega arith))
      (shift-past a p n (λ j q. h (suc j) (omega arith)) (suc i) (omega arith))
      ∙ ring1 R laws (λ a. nil ⊕ a ⊗ nil) (λ a. nil) refl a

  -- and coefficient n, where those after it are zero, stays as it is
  pub shift-top : (a : C) (p : List C) (n : ℕ) → ((i : ℕ) → n < i → coeff R p i ≡ R.zero)
      → coeff R (shift R a p) n ≡ coeff R p n
  shift-top a [] n h = refl
  shift-top a (x ∷ p) zero h = carry-zero a x (shift R a p)
      ∙ ap (λ t. x + a * t)
      (shift-past a p zero (λ j q. h (suc j) (omega arith)) zero (omega arith))
      ∙ ring2 R laws (λ a x. x ⊕ a ⊗ nil) (λ a x. x) refl a x
  shift-top a (x ∷ p) (suc n) h = carry-suc a x (shift R a p) n
      ∙ ap₂ (λ s t. s + a * t) (shift-top a p n (λ j q. h (suc j) (omega arith)))
      (shift-past a p (suc n) (λ j q. h (suc j) (omega arith)) (suc n) (omega arith))
      ∙ ring2 R laws (λ a x. x ⊕ a ⊗ nil) (λ a x. x) refl a (coeff R p n)

  -- coefficient i of two polynomials that are carried
  carry-ext : (a h : C) (p q : List C) → ((i : ℕ) → coeff R p i ≡ coeff R q i)
      → (i : ℕ) → coeff R (carry R a h p) i ≡ coeff R (carry R a h q) i
  carry-ext a h p q e zero = carry-zero a h p ∙ ap (λ t. h + a * t) (e zero)
      ∙ sym (carry-zero a h q)
  carry-ext a h p q e (suc i) = carry-suc a h p i ∙ ap₂ (λ s t. s + a * t) (e i) (e (suc i))
      ∙ sym (carry-suc a h q i)

  regroup : (c d x y z : C) → (x + (c + d) * y) + d * (y + (c + d) * z)
      ≡ (x + d * y) + (c + d) * (y + d * z)
  regroup c d x y z = ring6 R laws (λ c d x y z o. (x ⊕ (c ⊕ d) ⊗ y) ⊕ d ⊗ (y ⊕ (c ⊕ d) ⊗ z))
      (λ c d x y z o. (x ⊕ d ⊗ y) ⊕ (c ⊕ d) ⊗ (y ⊕ d ⊗ z)) refl c d x y z z

  carry-carry : (c d h x : C) (q : List C) (i : ℕ)
      → coeff R (carry R d (h + c * x) (carry R (c + d) x q)) i
      ≡ coeff R (carry R (c + d) h (carry R d x q)) i
  carry-carry c d h x q zero = carry-zero d (h + c * x) (carry R (c + d) x q)
      ∙ ap (λ t. h + c * x + d * t) (carry-zero (c + d) x q)
      ∙ ring6 R laws (λ c d h x y o. (h ⊕ c ⊗ x) ⊕ d ⊗ (x ⊕ (c ⊕ d) ⊗ y))
      (λ c d h x y o. h ⊕ (c ⊕ d) ⊗ (x ⊕ d ⊗ y)) refl c d h x (coeff R q 0) h
      ∙ ap (λ t. h + (c + d) * t) (sym (carry-zero d x q))
      ∙ sym (carry-zero (c + d) h (carry R d x q))
  carry-carry c d h x q (suc zero) = carry-suc d (h + c * x) (carry R (c + d) x q) zero
      ∙ ap₂ (λ s t. s + d * t) (carry-zero (c + d) x q) (carry-suc (c + d) x q zero)
      ∙ regroup c d x (coeff R q 0) (coeff R q 1)
      ∙ sym (carry-suc (c + d) h (carry R d x q) zero
      ∙ ap₂ (λ s t. s + (c + d) * t) (carry-zero d x q) (carry-suc d x q zero))
  carry-carry c d h x q (suc (suc i)) = carry-suc d (h + c * x) (carry R (c + d) x q) (suc i)
      ∙ ap₂ (λ s t. s + d * t) (carry-suc (c + d) x q i) (carry-suc (c + d) x q (suc i))
      ∙ regroup c d (coeff R q i) (coeff R q (suc i)) (coeff R q (suc (suc i)))
      ∙ sym (carry-suc (c + d) h (carry R d x q) (suc i)
      ∙ ap₂ (λ s t. s + (c + d) * t) (carry-suc d x q i) (carry-suc d x q (suc i)))

  shift-carry : (c d h : C) (p : List C) (i : ℕ) → coeff R (shift R d (carry R c h p)) i
      ≡ coeff R (carry R (c + d) h (shift R d p)) i
  shift-carry c d h [] i = refl
  shift-carry c d h (x ∷ p) i =
      carry-ext d (h + c * x) (shift R d (carry R c x p)) (carry R (c + d) x (shift R d p))
      (shift-carry c d x p) i ∙ carry-carry c d h x (shift R d p) i

  -- moved by c and then by d
  pub shift-shift : (c d : C) (p : List C) (i : ℕ) → coeff R (shift R d (shift R c p)) i
      ≡ coeff R (shift R (c + d) p) i
  shift-shift c d [] i = refl
  shift-shift c d (h ∷ p) i = shift-carry c d h (shift R c p) i
      ∙ carry-ext (c + d) h (shift R d (shift R c p)) (shift R (c + d) p) (shift-shift c d p) i

  -- a moved polynomial from the one that is moved without its first coefficient
  pub shift-suc : (d h : C) (q : List C) (i : ℕ) → coeff R (shift R d (h ∷ q)) (suc i)
      ≡ coeff R (shift R d q) i + d * coeff R (shift R d q) (suc i)
  shift-suc d h q i = carry-suc d h (shift R d q) i

  pub shift-zero : (d h : C) (q : List C) → h ≡ R.zero → coeff R (shift R d (h ∷ q)) 0
      ≡ d * coeff R (shift R d q) 0
  shift-zero d h q z = carry-zero d h (shift R d q)
      ∙ ap (λ t. t + d * coeff R (shift R d q) 0) z
      ∙ ring2 R laws (λ d x. nil ⊕ d ⊗ x) (λ d x. d ⊗ x) refl d (coeff R (shift R d q) 0)
