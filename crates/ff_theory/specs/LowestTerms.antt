-- A denominator and numerators in lowest terms.
use Rattle.std.specs.Prelude.{ℕ, ◌<◌, IsTrue, nat_lt, nat_eq as eqb, List, [], ◌∷◌, length}
use Rattle.ff_theory.specs.Lawful.{Field}
use Rattle.ff_theory.specs.Poly.{coeff, Poly, poly, polynomials}
use Rattle.ff_theory.specs.Division.{size, leading_coeff}
use Rattle.ff_theory.specs.Divides.{Divides}
use Rattle.ff_theory.specs.Lists.{listed}
use Rattle.ff_theory.specs.Euclid.{quotient, common_divisor}

-- The denominator is monic, there are n numerators, and no polynomial of positive degree divides
-- all of them.
pub record IsLowest (K : Field) (n : ℕ) (den : Poly K.ring) (nums : List (Poly K.ring))
    : Type 0 where
  pub monic : IsTrue (K.same (leading_coeff K.ring den) K.one)
  pub count : IsTrue (eqb (length nums) n)
  pub lowest : (d : Poly K.ring) → Divides (polynomials K.ring) d den
      → ((i : ℕ) → i < n → Divides (polynomials K.ring) d (coeff (polynomials K.ring) nums i))
      → IsTrue (nat_lt (size K.ring d) 2)

-- The fractions h 0 / c, .., h (n - 1) / c in lowest terms: c and all h i are divided by their
-- greatest common divisor and multiplied by the constant that makes the denominator monic.
module _ (K : Field) (n : ℕ) (c : Poly K.ring) (h : ℕ → Poly K.ring) where
  abbrev pub cancelled : Poly K.ring → Poly K.ring
  cancelled p = quotient K p (common_divisor K c h n)

  abbrev pub monic_factor : Poly K.ring
  monic_factor = poly K.ring (K.inverse (leading_coeff K.ring (cancelled c)) ∷ [])

  unfoldable pub lowest_den : Poly K.ring
  lowest_den = (polynomials K.ring).mul monic_factor (cancelled c)

  unfoldable pub lowest_nums : List (Poly K.ring)
  lowest_nums = listed n (λ i. (polynomials K.ring).mul monic_factor (cancelled (h i)))
