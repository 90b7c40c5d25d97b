-- Monomials, and products with them.
use Rattle.std.proofs.Common.{◌≡◌, ℕ, zero, suc, ◌+◌, ◌<◌, ◌≤◌, List, [], ◌∷◌, length, refl, sym}
use Rattle.std.proofs.Common.{◌∙◌, ap, arith}
use mathlib.Core.Path.{fun_ext}
use Rattle.ff_theory.specs.Ring.{RingOps, IsCommRing, IsTested}
use Rattle.ff_theory.specs.Poly.{coeff, trim, list_scale, list_mul, poly, polynomials, poly_mul}
use Rattle.ff_theory.proofs.Solver.{◌⊕◌, ◌⊗◌, nil, ring1, ring2}
use Rattle.ff_theory.proofs.Series.{series_mul, tail, zero_left}
use Rattle.ff_theory.proofs.Poly.{trim-coeff, mul-coeff, scale-coeff}
use Rattle.ff_theory.proofs.Coeffs.{poly_ext, add_by_coeffs}
use Rattle.ff_theory.specs.Monomial.{raised, monomial}

module _ (R : RingOps) where
  pub raised-below : (n : ℕ) (p : List R.carrier) (i : ℕ) → i < n → coeff R (raised R n p) i
      ≡ R.zero
  raised-below zero p i l = absurd (omega arith)
  raised-below (suc n) p zero l = refl
  raised-below (suc n) p (suc i) l = raised-below n p i (omega arith)

  pub raised-at : (n : ℕ) (p : List R.carrier) (i m : ℕ) → m ≡ n + i → coeff R (raised R n p) m
      ≡ coeff R p i
  raised-at zero p i m e = ap (coeff R p) (let k : m ≡ i = omega arith in k)
  raised-at (suc n) p i zero e = absurd (omega arith)
  raised-at (suc n) p i (suc m) e = raised-at n p i m (omega arith)

  pub raised-past : (n : ℕ) (p : List R.carrier) (i : ℕ) → n + length p ≤ i
      → coeff R (raised R n p) i ≡ R.zero
  raised-past zero [] i l = refl
  raised-past zero (c ∷ p) zero l = absurd (omega arith)
  raised-past zero (c ∷ p) (suc i) l = raised-past zero p i (omega arith)
  raised-past (suc n) p zero l = refl
  raised-past (suc n) p (suc i) l = raised-past n p i (omega arith)

  scale-length : (c : R.carrier) (p : List R.carrier) → length (list_scale R c p) ≡ length p
  scale-length c [] = refl
  scale-length c (a ∷ p) = ap suc (scale-length c p)

module _ (R : RingOps) (laws : IsCommRing R) (tests : IsTested R) where
  monomial-series : (n : ℕ) (c : R.carrier) (p : List R.carrier) (i : ℕ)
      → series_mul R (coeff R (raised R n (c ∷ []))) (coeff R p) i
      ≡ coeff R (raised R n (list_scale R c p)) i
  monomial-series zero c p zero = sym (scale-coeff R laws tests c p zero)
  monomial-series zero c p (suc i) = ap (R.add (R.mul c (coeff R p (suc i))))
      (zero_left R laws (tail (coeff R (c ∷ []))) (coeff R p) i (λ j. refl)) ∙ laws.add_zero _
      ∙ sym (scale-coeff R laws tests c p (suc i))
  monomial-series (suc n) c p zero = ring1 R laws (λ a. nil ⊗ a) (λ a. nil) refl (coeff R p 0)
  monomial-series (suc n) c p (suc i) = ap (R.add (R.mul R.zero (coeff R p (suc i))))
      (monomial-series n c p i) ∙ ring2 R laws (λ a b. nil ⊗ a ⊕ b) (λ a b. b) refl
      (coeff R p (suc i)) (coeff R (raised R n (list_scale R c p)) i)

  pub monomial-mul : (n : ℕ) (c : R.carrier) (p : List R.carrier)
      → (polynomials R).mul (monomial R c n) (poly R p) ≡ poly R (raised R n (list_scale R c p))
  unfolding poly poly_mul
  monomial-mul n c p = poly_ext R laws tests (list_mul R (trim R (raised R n (c ∷ []))) (trim R p))
      (raised R n (list_scale R c p)) (λ i. mul-coeff R laws tests (trim R (raised R n (c ∷ [])))
      (trim R p) i
      ∙ ap (λ (f : ℕ → R.carrier). series_mul R f (coeff R (trim R p)) i)
      (fun_ext (trim-coeff R laws tests (raised R n (c ∷ []))))
      ∙ ap (λ (f : ℕ → R.carrier). series_mul R (coeff R (raised R n (c ∷ []))) f i)
      (fun_ext (trim-coeff R laws tests p))
      ∙ monomial-series n c p i)

  -- a list whose coefficients are those of p with those of c * x^n * q added
  pub add_monomial_by_coeffs : (n : ℕ) (c : R.carrier) (p q r : List R.carrier)
      → ((i : ℕ) → coeff R r i ≡ R.add (coeff R p i) (coeff R (raised R n (list_scale R c q)) i))
      → poly R r ≡ (polynomials R).add (poly R p) ((polynomials R).mul (monomial R c n) (poly R q))
  add_monomial_by_coeffs n c p q r h = add_by_coeffs R laws tests p (raised R n (list_scale R c q))
      r h ∙ ap ((polynomials R).add (poly R p)) (sym (monomial-mul n c q))

  -- before and past the entries of c * x^n * q nothing is added
  pub add_monomial-below : (n : ℕ) (c a : R.carrier) (q : List R.carrier) (i : ℕ) → i < n → a
      ≡ R.add a (coeff R (raised R n (list_scale R c q)) i)
  add_monomial-below n c a q i l = sym (ap (R.add a) (raised-below R n (list_scale R c q) i l)
      ∙ laws.add_zero a)

  pub add_monomial-past : (n : ℕ) (c a : R.carrier) (q : List R.carrier) (i : ℕ) → n + length q ≤ i
      → a ≡ R.add a (coeff R (raised R n (list_scale R c q)) i)
  add_monomial-past n c a q i l = sym
      (ap (R.add a) (raised-past R n (list_scale R c q) i (let e : length (list_scale R c q)
      ≡ length q = scale-length R c q in omega (arith, e))) ∙ laws.add_zero a)

  pub add_monomial-at : (n : ℕ) (c a : R.carrier) (q : List R.carrier) (j i : ℕ) → i ≡ n + j
      → R.add a (R.mul c (coeff R q j)) ≡ R.add a (coeff R (raised R n (list_scale R c q)) i)
  add_monomial-at n c a q j i e = sym (ap (R.add a) (raised-at R n (list_scale R c q) j i e
      ∙ scale-coeff R laws tests c q j))

  pub add_monomial-zero : (n : ℕ) (c : R.carrier) (p q : List R.carrier) → c ≡ R.zero → poly R p
      ≡ (polynomials R).add (poly R p) ((polynomials R).mul (monomial R c n) (poly R q))
  add_monomial-zero n c p q e = add_monomial_by_coeffs n c p q p
      (λ i. sym (ap (R.add (coeff R p i)) (none i) ∙ laws.add_zero _))
    where
      scaled : (i : ℕ) → coeff R (list_scale R c q) i ≡ R.zero
      scaled i = scale-coeff R laws tests c q i ∙ ap (λ t. R.mul t (coeff R q i)) e
          ∙ ring1 R laws (λ a. nil ⊗ a) (λ a. nil) refl (coeff R q i)

      raise : (n : ℕ) (i : ℕ) → coeff R (raised R n (list_scale R c q)) i ≡ R.zero
      raise zero i = scaled i
      raise (suc n) zero = refl
      raise (suc n) (suc i) = raise n i

      none : (i : ℕ) → coeff R (raised R n (list_scale R c q)) i ≡ R.zero
      none = raise n
