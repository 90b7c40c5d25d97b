-- The algebra E(f) = k(x)[y]/f of a polynomial f in x and y, and its elements.
use Rattle.std.specs.Prelude.{◌≡◌, ℕ, pred, ◌&&◌, cond, nat_eq as eqb, List, [], ◌∷◌, length, refl}
use Rattle.ff_theory.specs.Ring.{RingOps}
use Rattle.ff_theory.specs.Lawful.{Field}
use Rattle.ff_theory.specs.Poly.{coeff, Poly, poly, polynomials}
use Rattle.ff_theory.specs.Division.{size, leading_coeff}
use Rattle.ff_theory.specs.Monomial.{variable}
use Rattle.ff_theory.specs.Planes.{planes, Plane, row_of}
use Rattle.ff_theory.specs.LowestTerms.{IsLowest, lowest_den, lowest_nums}

-- An element is N / d for a polynomial N in x and y and a polynomial d in x that is not 0.
-- N / d and M / e are one element where f divides e * N - d * M over k(x).
-- So an element is kept in lowest terms: N has fewer rows than f, and there is one such form.
module _ (K : Field) where
  -- f, or the constant 1 in place of 0
  abbrev pub proper : Plane K → Plane K
  proper f = cond (eqb (length f.coeffs) 0) (planes K).one f

  -- the degree in y
  abbrev pub degree : Plane K → ℕ
  degree f = pred (size (polynomials K.ring) (proper f))

  module _ (f : Plane K) where
    -- Remainders modulo f without fractions: multiplier N * N is rest N and a multiple of f.
    abbrev pub multiplier : List (Poly K.ring) → Poly K.ring
    multiplier [] = (polynomials K.ring).one
    multiplier (c ∷ N) =
        (polynomials K.ring).mul (leading_coeff (polynomials K.ring) (proper f)) (multiplier N)

    -- the leading row of f times s, without a multiple of f: what is left has no row `degree f`
    abbrev pub lowered : Plane K → Plane K
    lowered s = (planes K).add
        ((planes K).mul (row_of K.ring (leading_coeff (polynomials K.ring) (proper f))) s)
        ((planes K).neg ((planes K).mul
        (row_of K.ring (coeff (polynomials K.ring) s.coeffs (degree f))) (proper f)))

    abbrev pub rest : List (Poly K.ring) → Plane K
    rest [] = (planes K).zero
    rest (c ∷ N) = lowered ((planes K).add
        (row_of K.ring ((polynomials K.ring).mul (multiplier N) c))
        ((planes K).mul (variable (polynomials K.ring)) (rest N)))

    -- N / d, and 0 / 1 in place of N / 0
    abbrev pub over_nonzero : Poly K.ring → Poly K.ring
    over_nonzero d = cond ((polynomials K.ring).same d (polynomials K.ring).zero)
        (polynomials K.ring).one d

    abbrev pub numerator : Plane K → Poly K.ring → Plane K
    numerator N d = cond ((polynomials K.ring).same d (polynomials K.ring).zero) (planes K).zero N

    -- the denominator and the numerators of N / d modulo f in lowest terms
    unfoldable pub den_of : Plane K → Poly K.ring → Poly K.ring
    den_of N d = lowest_den K (degree f)
        ((polynomials K.ring).mul (multiplier (numerator N d).coeffs) (over_nonzero d))
        (coeff (polynomials K.ring) (rest (numerator N d).coeffs).coeffs)

    unfoldable pub nums_of : Plane K → Poly K.ring → List (Poly K.ring)
    nums_of N d = lowest_nums K (degree f)
        ((polynomials K.ring).mul (multiplier (numerator N d).coeffs) (over_nonzero d))
        (coeff (polynomials K.ring) (rest (numerator N d).coeffs).coeffs)

    -- these are the denominator and the numerators of some N / d in lowest terms
    pub record Reduces (den : Poly K.ring) (nums : List (Poly K.ring)) : Type 0 where
      pub numerators : Plane K
      pub denominator : Poly K.ring
      pub den_is : den ≡ den_of numerators denominator
      pub nums_is : nums ≡ nums_of numerators denominator

    -- an element
    pub record Fraction : Type 0 where
      pub den : Poly K.ring
      pub nums : List (Poly K.ring)
      pub reduces : ∥ Reduces den nums ∥₁

    -- the element N / d
    abbrev pub fraction : Plane K → Poly K.ring → Fraction
    fraction N d = record {
      den = den_of N d;
      nums = nums_of N d;
      reduces = ∣ record { numerators = N; denominator = d; den_is = refl; nums_is = refl } ∣₁;
    }

    -- the sum of the numerators times the powers of y
    abbrev pub sum_of : Fraction → Plane K
    sum_of a = poly (polynomials K.ring) a.nums

    -- the algebra E(f); that of the constant 1 in place of f = 0
    unfoldable pub algebra_of : RingOps
    algebra_of = record {
      carrier = Fraction;
      zero = fraction (planes K).zero (polynomials K.ring).one;
      one = fraction (planes K).one (polynomials K.ring).one;
      add = λ a b. fraction ((planes K).add ((planes K).mul (row_of K.ring b.den) (sum_of a))
          ((planes K).mul (row_of K.ring a.den) (sum_of b))) ((polynomials K.ring).mul a.den b.den);
      neg = λ a. fraction ((planes K).neg (sum_of a)) a.den;
      mul = λ a b. fraction ((planes K).mul (sum_of a) (sum_of b))
          ((polynomials K.ring).mul a.den b.den);
      same = λ a b. (polynomials K.ring).same a.den b.den && (planes K).same (sum_of a) (sum_of b);
    }

    -- the value of a polynomial in x and y
    unfoldable pub value_of : Plane K → algebra_of.carrier
    unfolding algebra_of
    value_of N = fraction N (polynomials K.ring).one

    -- the inverse of a polynomial in x, and 0 for 0
    unfoldable pub inverse_of : Poly K.ring → algebra_of.carrier
    unfolding algebra_of
    inverse_of d = fraction (planes K).one d

    -- a polynomial in x and y over a polynomial in x
    abbrev pub over_of : Plane K → Poly K.ring → algebra_of.carrier
    over_of N d = algebra_of.mul (inverse_of d) (value_of N)

    -- the sum of numerators times the powers of y, over a denominator
    unfoldable pub element : Poly K.ring → List (Poly K.ring) → algebra_of.carrier
    element den nums = algebra_of.mul (inverse_of den) (value_of (poly (polynomials K.ring) nums))

    -- the element a in lowest terms
    pub record Form (a : algebra_of.carrier) : Type 0 where
      pub den : Poly K.ring
      pub nums : List (Poly K.ring)
      pub lowest : IsLowest K (degree f) den nums
      pub stands : element den nums ≡ a

    -- constants, x and y as elements
    unfoldable pub constant : K.carrier → algebra_of.carrier
    constant c = value_of (row_of K.ring (poly K.ring (c ∷ [])))

    unfoldable pub x_of : algebra_of.carrier
    x_of = value_of (row_of K.ring (variable K.ring))

    unfoldable pub y_of : algebra_of.carrier
    y_of = value_of (variable (polynomials K.ring))
