-- Division with remainder and Euclid's algorithm over a field.
use Rattle.std.specs.Prelude.{ℕ, zero, suc, pred, cond, nat_eq as eqb, List, [], ◌∷◌}
use Rattle.ff_theory.specs.Lawful.{Field}
use Rattle.ff_theory.specs.Poly.{coeff, Poly, poly, polynomials}
use Rattle.ff_theory.specs.Division.{size}
use Rattle.ff_theory.specs.Monomial.{variable}

module _ (K : Field) where
  -- c + x * p
  abbrev pub put_before : K.carrier → Poly K.ring → Poly K.ring
  put_before c p = (polynomials K.ring).add (poly K.ring (c ∷ []))
      ((polynomials K.ring).mul (variable K.ring) p)

  -- Coefficient n of s over that of b, where b has n + 1 coefficients and s no more.
  abbrev pub digit : ℕ → Poly K.ring → Poly K.ring → K.carrier
  digit n b s = K.mul (coeff K.ring s.coeffs n) (K.inverse (coeff K.ring b.coeffs n))

  -- s without its multiple of b by that digit
  abbrev pub lowered : ℕ → Poly K.ring → Poly K.ring → Poly K.ring
  lowered n b s = (polynomials K.ring).add s ((polynomials K.ring).neg
      ((polynomials K.ring).mul (poly K.ring (digit n b s ∷ [])) b))

  -- the remainder and the quotient of a list of coefficients by b, from its end
  abbrev pub remainder_list : ℕ → Poly K.ring → List K.carrier → Poly K.ring
  remainder_list n b [] = (polynomials K.ring).zero
  remainder_list n b (c ∷ a) = lowered n b (put_before c (remainder_list n b a))

  abbrev pub quotient_list : ℕ → Poly K.ring → List K.carrier → Poly K.ring
  quotient_list n b [] = (polynomials K.ring).zero
  quotient_list n b (c ∷ a) =
      put_before (digit n b (put_before c (remainder_list n b a))) (quotient_list n b a)

  -- the remainder and the quotient of a by b, which is not 0
  unfoldable pub remainder : Poly K.ring → Poly K.ring → Poly K.ring
  remainder a b = remainder_list (pred (size K.ring b)) b a.coeffs

  unfoldable pub quotient : Poly K.ring → Poly K.ring → Poly K.ring
  quotient a b = quotient_list (pred (size K.ring b)) b a.coeffs

  -- Euclid's algorithm, with n divisions at most
  abbrev pub gcd_within : ℕ → Poly K.ring → Poly K.ring → Poly K.ring
  gcd_within zero a b = a
  gcd_within (suc n) a b = cond (eqb (size K.ring b) 0) a (gcd_within n b (remainder a b))

  -- a greatest common divisor of a and b
  abbrev pub gcd : Poly K.ring → Poly K.ring → Poly K.ring
  gcd a b = gcd_within (size K.ring b) a b

  -- a greatest common divisor of c and h 0, .., h (n - 1)
  abbrev pub common_divisor : Poly K.ring → (ℕ → Poly K.ring) → ℕ → Poly K.ring
  common_divisor c h zero = c
  common_divisor c h (suc n) = gcd (common_divisor c h n) (h n)
