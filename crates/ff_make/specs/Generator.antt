-- The field and the equations that the program forms of a number. This project's own.
use Rattle.std.specs.Prelude.{◌≡◌, ℕ, ◌+◌, ◌/◌, ◌%◌, ◌==◌, not, List, [], ◌∷◌, length, get_or}
use Rattle.std.specs.List.{filter}
use Rattle.ff_theory.specs.Ring.{Elements}
use Rattle.ff_theory.specs.PrimeTable.{primes, prime_elements}
use Rattle.ff_theory.specs.Poly.{polynomials}
use Rattle.ff_theory.specs.Values.{plane_of}
use Rattle.ff_poly.specs.Limits.{IsEquation}
use Rattle.ff_prime.specs.declared.prime.Prime.{Prime}
use Rattle.ff_prime.specs.Number.{number_of}
use Rattle.ff_make.specs.Curve.{curve, quintic}

-- one of the 24 odd primes of the table, by the remainder of n
abbrev pub characteristic_of : ℕ → ℕ
characteristic_of n = get_or primes (n % 24 + 1) 0

-- 11, 9, 7 and 5 without multiples of p, and the one of them that n chooses
abbrev pub exponents_for : ℕ → List ℕ
exponents_for p = filter (λ m. not (m % p == 0)) (11 ∷ 9 ∷ 7 ∷ 5 ∷ [])

abbrev pub exponent_of : ℕ → ℕ
exponent_of n =
    let M = exponents_for (characteristic_of n) in get_or M (n / 24 % length M) 0

-- what is added to x, and the coefficient of x in what is added to y
abbrev pub shift_of : ℕ → ℕ
shift_of n = (n / 24 + 1) % characteristic_of n

abbrev pub coefficient_of : ℕ → ℕ
coefficient_of n = n % characteristic_of n

-- The field, y^2 - x^m - 1, and (y + x^5 + c*x)^2 - (x + s)^m - 1, multiplied out; both are within
-- the limits of an equation.
pub record IsGenerated (n : ℕ) (k : Prime) (first second : List (List ℕ)) : Type 0 where
  pub prime : number_of k ≡ characteristic_of n
  pub first_equation : IsEquation (prime_elements (number_of k)) first
  pub second_equation : IsEquation (prime_elements (number_of k)) second
  pub first_is : let F = prime_elements (number_of k) in
      plane_of F first ≡ curve F (polynomials F.ring).zero F.zero (exponent_of n)
  pub second_is : let F = prime_elements (number_of k) in
      plane_of F second
      ≡ curve F (quintic F (F.value (coefficient_of n))) (F.value (shift_of n)) (exponent_of n)
