-- The numbers of coefficients of constants and of powers of the variable.
use Rattle.std.proofs.Common.{◌≡◌, ℕ, zero, suc, ◌+◌, ◌<◌, [], ◌∷◌, sym, ◌∙◌, arith}
use Rattle.ff_theory.specs.Ring.{power}
use Rattle.ff_theory.specs.Lawful.{Field}
use Rattle.ff_theory.specs.Poly.{coeff, poly, polynomials}
use Rattle.ff_theory.specs.Division.{size}
use Rattle.ff_theory.specs.Monomial.{variable}
use Rattle.ff_theory.proofs.Poly.{trim-coeff}
use Rattle.ff_theory.proofs.Division.{size-mul}
use Rattle.ff_charts.proofs.Rows.{exact_size}

module _ (K : Field) where
  -- the coefficients of the polynomial 1
  pub one-first : coeff K.ring (polynomials K.ring).one.coeffs 0 ≡ K.one
  unfolding poly
  one-first = trim-coeff K.ring K.laws K.tests (K.one ∷ []) 0

  pub one-later : (i : ℕ) → coeff K.ring (polynomials K.ring).one.coeffs (suc i) ≡ K.zero
  unfolding poly
  one-later i = trim-coeff K.ring K.laws K.tests (K.one ∷ []) (suc i)

  -- a constant that is not zero
  pub constant-size : (c : K.carrier) → ¬ (c ≡ K.zero) → size K.ring (poly K.ring (c ∷ [])) ≡ 1
  unfolding poly
  constant-size c n = exact_size K.ring K.laws K.tests (poly K.ring (c ∷ [])) 0
      (λ z. n (sym (trim-coeff K.ring K.laws K.tests (c ∷ []) 0) ∙ z)) past
    where
      past : (i : ℕ) → 0 < i → coeff K.ring (poly K.ring (c ∷ [])).coeffs i ≡ K.zero
      past zero l = absurd (omega arith)
      past (suc i) l = trim-coeff K.ring K.laws K.tests (c ∷ []) (suc i)

  variable-size : size K.ring (variable K.ring) ≡ 2
  unfolding poly
  variable-size = exact_size K.ring K.laws K.tests (variable K.ring) 1
      (λ z. K.is_field.one_not_zero
      (sym (trim-coeff K.ring K.laws K.tests (K.zero ∷ K.one ∷ []) 1) ∙ z)) past
    where
      past : (i : ℕ) → 1 < i → coeff K.ring (variable K.ring).coeffs i ≡ K.zero
      past zero l = absurd (omega arith)
      past (suc zero) l = absurd (omega arith)
      past (suc (suc i)) l = trim-coeff K.ring K.laws K.tests (K.zero ∷ K.one ∷ []) (suc (suc i))

  -- a power of the variable
  pub power-size : (n : ℕ) → size K.ring (power (polynomials K.ring) (variable K.ring) n) ≡ suc n
  power-size zero = constant-size K.one K.is_field.one_not_zero
  power-size (suc n) = size-mul K (variable K.ring)
      (power (polynomials K.ring) (variable K.ring) n) 1 n variable-size (power-size n)
      ∙ (let e : suc (1 + n) ≡ suc (suc n) = omega arith in e)
