-- A polynomial by p polynomials: the sum of x^i times their p-th powers.
use Rattle.std.specs.Prelude.{ℕ}
use Rattle.ff_theory.specs.Ring.{RingOps, power}
use Rattle.ff_theory.specs.Sum.{sum_below}
use Rattle.ff_theory.specs.Poly.{Poly, polynomials}
use Rattle.ff_theory.specs.Monomial.{variable}

-- h_0^p + x * h_1^p + .. + x^(p - 1) * h_(p - 1)^p
abbrev pub sum_of_parts : (R : RingOps) → ℕ → (ℕ → Poly R) → Poly R
sum_of_parts R p h = sum_below (polynomials R) p
    (λ i. (polynomials R).mul (power (polynomials R) (variable R) i)
    (power (polynomials R) (h i) p))
