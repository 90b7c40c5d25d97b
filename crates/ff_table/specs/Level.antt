-- Levels of a table, multiples by polynomials in z, and the monomials that stand at the levels.
use Rattle.std.specs.Prelude.{ℕ, zero, suc, ◌+◌, ◌-◌, ◌*◌, ◌/◌, ◌%◌, ◌≤◌, [], ◌∷◌}
use Rattle.ff_theory.specs.Ring.{RingOps, power}
use Rattle.ff_theory.specs.Span.{unit_at}
use Rattle.ff_theory.specs.Poly.{coeff, Poly, poly, polynomials}
use Rattle.ff_theory.specs.Monomial.{variable}
use Rattle.ff_table.specs.Coords.{coords, at}
use Rattle.ff_table.specs.Table.{Table, table_ring}
use Rattle.ff_table.specs.Leading.{part}

module _ {k : RingOps} (s : Table k) where
  -- the basis vector of a level, and the power of z that stands before it
  abbrev pub class_of : ℕ → ℕ
  class_of t = t % s.rank

  abbrev pub power_of : ℕ → ℕ
  power_of t = (t - s.weight (t % s.rank)) / s.rank

  -- t is a level: e * d + m l for l = t % e and some d
  abbrev pub IsLevel : ℕ → Type 0
  IsLevel t = s.weight (t % s.rank) ≤ t

module _ (k : RingOps) (s : Table k) where
  -- the coefficient of a at the level t
  abbrev pub at_level : ℕ → (table_ring k s).carrier → k.carrier
  at_level t a = part k s (class_of s t) (power_of s t) a

  -- p times a, for p in k[z]
  unfoldable pub z_multiple : Poly k → (table_ring k s).carrier → (table_ring k s).carrier
  z_multiple p a = coords (polynomials k) s.rank
      (λ l. (polynomials k).mul p (at (polynomials k) s.rank a l))

  -- c times a, for c in k
  abbrev pub scaled : k.carrier → (table_ring k s).carrier → (table_ring k s).carrier
  scaled c a = z_multiple (poly k (c ∷ [])) a

  -- basis vector l
  abbrev pub basis : ℕ → (table_ring k s).carrier
  basis l = coords (polynomials k) s.rank (unit_at (polynomials k) l)

  -- the power of z times the basis vector that stands at the level t
  abbrev pub monomial_at : ℕ → (table_ring k s).carrier
  monomial_at t = z_multiple (power (polynomials k) (variable k) (power_of s t))
      (basis (class_of s t))

  -- the leading coefficient of the product of basis vectors i and j
  abbrev pub top_constant : ℕ → ℕ → k.carrier
  top_constant i j = coeff k (s.product i j (class_of s (s.weight i + s.weight j))).coeffs
      (power_of s (s.weight i + s.weight j))

  -- the leading coefficient of power i of the monomial at the level t
  abbrev pub power_lead : ℕ → ℕ → k.carrier
  power_lead t zero = k.one
  power_lead t (suc i) = k.mul (power_lead t i)
      (top_constant (class_of s (i * t)) (class_of s t))
