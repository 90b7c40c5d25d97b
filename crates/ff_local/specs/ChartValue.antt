-- The value of an element of an order of a chart by data: the values a of u and b of theta, and
-- those of the elements of the basis of its space, whose vectors are given.
use Rattle.std.specs.Prelude.{◌≡◌, ℕ}
use Rattle.ff_theory.specs.Ring.{RingOps}
use Rattle.ff_theory.specs.Lawful.{Field}
use Rattle.ff_theory.specs.Sum.{sum_below}
use Rattle.ff_theory.specs.Poly.{Poly}
use Rattle.ff_theory.specs.Eval.{eval, plane_at}
use Rattle.ff_theory.specs.Span.{InSpan}
use Rattle.ff_charts.specs.Chart.{Chart, InPowers}
use Rattle.ff_charts.specs.Lattice.{InLattice, flat}

module _ (K : Field) {A : RingOps} (c : Chart K.ring A) (a b : K.carrier) where
  -- theta is a root of the equation where u is a and theta is b
  abbrev pub IsRoot : Type 0
  IsRoot = plane_at K.ring K.ring (λ s. s) a b c.equation ≡ K.zero

  -- the value of an element of the power order: that of its numerators over that of its unit
  abbrev pub power_value : {w : A.carrier} → InPowers c w → K.carrier
  power_value h = K.mul (K.inverse (eval K.ring K.ring (λ s. s) a h.unit))
      (plane_at K.ring K.ring (λ s. s) a b h.nums)

  module _ (m : Poly K.ring) (l r : ℕ) (basis : ℕ → ℕ → K.carrier) (values : ℕ → K.carrier) where
    -- the elements for whose product with m the residue is a combination of the basis
    abbrev pub InSpanLattice : A.carrier → Type 0
    InSpanLattice w = InLattice c m (λ N. InSpan K.ring r basis (flat K.ring l N)) w

    -- the same combination of the values, and the value of what is left
    abbrev pub value_by : {w : A.carrier} → InSpanLattice w → K.carrier
    value_by h = K.add (sum_below K.ring r (λ i. K.mul (h.is_in.coefficients i) (values i)))
        (power_value h.residue.in_powers)

    abbrev pub HasValueBy : A.carrier → K.carrier → Type 0
    HasValueBy w v = (h : InSpanLattice w) × (v ≡ value_by h)
