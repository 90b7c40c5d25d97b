-- The derivative, from rows that a loop multiplied.
use Rattle.std.proofs.Common.{◌≡◌, ℕ, zero, suc, pred, ◌+◌, ◌<◌, ◌≤◌, ◌⊎◌, inl, inr, [], ◌∷◌, List}
use Rattle.std.proofs.Common.{length, map, refl, sym, ◌∙◌, ap, arith}
use Rattle.std.proofs.lemmas.Bool.{cases_lt}
use Rattle.ff_theory.specs.Ring.{RingOps, IsCommRing, IsTested, multiple}
use Rattle.ff_theory.specs.Poly.{coeff, Poly, poly, polynomials}
use Rattle.ff_theory.specs.Division.{size}
use Rattle.ff_theory.specs.Lists.{listed}
use Rattle.ff_theory.specs.Derivative.{derivative}
use Rattle.ff_theory.specs.Monomial.{monomial}
use Rattle.ff_theory.proofs.Solver.{◌⊕◌, ◌⊗◌, unit, ring2, zero_mul}
use Rattle.ff_theory.proofs.Poly.{polynomial_laws}
use Rattle.ff_theory.proofs.Coeffs.{coeff-past, poly_ext, add_by_coeffs}
use Rattle.ff_theory.proofs.Division.{zero_from}
use Rattle.ff_theory.proofs.Frobenius.{multiple-zero}
use Rattle.ff_theory.proofs.Listed.{listed-at, listed-past}
use Rattle.ff_theory.proofs.Product.{poly-coeff, zeros_poly}

module _ (R : RingOps) (laws : IsCommRing R) (tests : IsTested R) where
  PL : IsCommRing (polynomials R)
  PL = polynomial_laws R laws tests

  -- n times a polynomial is the product with the constant n
  pub multiple-constant : (n : ℕ) (p : Poly R) → multiple (polynomials R) n p
      ≡ (polynomials R).mul (monomial R (multiple R n R.one) 0) p
  multiple-constant zero p = sym (ap (λ t. (polynomials R).mul t p) none
      ∙ zero_mul (polynomials R) PL p)
    where
      none : monomial R R.zero 0 ≡ (polynomials R).zero
      none = zeros_poly R laws tests (R.zero ∷ []) go
        where
          go : (i : ℕ) → coeff R (R.zero ∷ []) i ≡ R.zero
          go zero = refl
          go (suc i) = refl
  multiple-constant (suc n) p = ap ((polynomials R).add p) (multiple-constant n p)
      ∙ ring2 (polynomials R) PL (λ p m. p ⊕ m ⊗ p) (λ p m. (unit ⊕ m) ⊗ p) refl p
      (monomial R (multiple R n R.one) 0)
      ∙ ap (λ t. (polynomials R).mul t p) (sym
      (add_by_coeffs R laws tests (R.one ∷ []) (multiple R n R.one ∷ [])
      (R.add R.one (multiple R n R.one) ∷ []) go))
    where
      go : (i : ℕ) → coeff R (R.add R.one (multiple R n R.one) ∷ []) i
          ≡ R.add (coeff R (R.one ∷ []) i) (coeff R (multiple R n R.one ∷ []) i)
      go zero = refl
      go (suc i) = sym (laws.add_zero R.zero)

  derivative-coeff : (p : Poly R) (i : ℕ) → coeff R
      (listed (pred (size R p)) (λ i. multiple R (suc i) (coeff R p.coeffs (suc i)))) i
      ≡ multiple R (suc i) (coeff R p.coeffs (suc i))
  derivative-coeff p i = go (cases_lt i (pred (size R p)))
    where
      g : ℕ → R.carrier
      g i = multiple R (suc i) (coeff R p.coeffs (suc i))

      go : (i < pred (size R p)) ⊎ (pred (size R p) ≤ i) → coeff R (listed (pred (size R p)) g) i
          ≡ g i
      go (inl l) = listed-at R (pred (size R p)) g i l
      go (inr l) = listed-past R (pred (size R p)) g i l
          ∙ sym (ap (multiple R (suc i)) (zero_from R laws tests p (suc i) (omega (arith, l)))
          ∙ multiple-zero R laws (suc i))

  -- a list whose entry i is i + 1 times entry i + 1 of another
  pub derivative_by_loop : {A : Type 0} (f : A → R.carrier) (p q : List A) → length p ≤ length q + 1
      → ((i : ℕ) → i < length q → coeff R (map f q) i
      ≡ multiple R (suc i) (coeff R (map f p) (suc i)))
      → poly R (map f q) ≡ derivative R (poly R (map f p))
  unfolding derivative
  derivative_by_loop f p q l h = poly_ext R laws tests (map f q) _
      (λ i. go i (cases_lt i (length q)) ∙ ap (multiple R (suc i))
      (sym (poly-coeff R laws tests (map f p) (suc i)))
      ∙ sym (derivative-coeff (poly R (map f p)) i))
    where
      go : (i : ℕ) → (i < length q) ⊎ (length q ≤ i) → coeff R (map f q) i
          ≡ multiple R (suc i) (coeff R (map f p) (suc i))
      go i (inl m) = h i m
      go i (inr m) = coeff-past R f q i m ∙ sym
          (ap (multiple R (suc i)) (coeff-past R f p (suc i) (omega (arith, l, m)))
          ∙ multiple-zero R laws (suc i))
