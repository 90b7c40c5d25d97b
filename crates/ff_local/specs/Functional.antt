-- Functionals on O/(v*O) that keep products: the points of an order by the table of a fibre.
use Rattle.std.specs.Prelude.{◌≡◌, ℕ, ◌<◌}
use Rattle.ff_theory.specs.Span.{product}
use Rattle.ff_local.specs.Point.{OrderIn, IsSpanned}
use Rattle.ff_local.specs.Fibre.{Fibre}

module _ (O : OrderIn) (F : Fibre O) (chi : ℕ → O.field.carrier) where
  -- s is the sum of the coordinates of w, each times the value of its element of the basis
  abbrev pub HasFunctionalValue : O.carrier → O.field.carrier → Type 0
  HasFunctionalValue w s = (h : IsSpanned O F.spanning.count F.spanning.element w)
      × (s ≡ product O.field.ring F.spanning.count h.coefficients chi)

  -- 1 has the value 1, and products of the basis have the products of the values
  pub record IsFunctional : Type 0 where
    pub unit : HasFunctionalValue O.one O.field.one
    pub products : (i j : ℕ) → i < F.spanning.count → j < F.spanning.count
        → product O.field.ring F.spanning.count (F.table i j) chi
        ≡ O.field.mul (chi i) (chi j)
