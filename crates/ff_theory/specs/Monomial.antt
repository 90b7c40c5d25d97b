-- Monomials in one variable.
use Rattle.std.specs.Prelude.{ℕ, zero, suc, List, [], ◌∷◌}
use Rattle.ff_theory.specs.Ring.{RingOps}
use Rattle.ff_theory.specs.Poly.{Poly, poly}

-- a list with n zeros before it
abbrev pub raised : (R : RingOps) → ℕ → List R.carrier → List R.carrier
raised R zero p = p
raised R (suc n) p = R.zero ∷ raised R n p

-- c * x ^ n
abbrev pub monomial : (R : RingOps) → R.carrier → ℕ → Poly R
monomial R c n = poly R (raised R n (c ∷ []))

-- x
abbrev pub variable : (R : RingOps) → Poly R
variable R = poly R (R.zero ∷ R.one ∷ [])
