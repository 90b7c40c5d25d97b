-- The algebra O/(v*O) by a basis and a table of its products, and its socle at the point as a
-- system of linear equations.
use Rattle.std.specs.Prelude.{◌≡◌, ℕ, ◌<◌}
use Rattle.ff_theory.specs.Span.{product, unit_at}
use Rattle.ff_local.specs.Point.{OrderIn, OrderAt, Spanning, IsMultiple, combined}

-- elements of the order that are a basis modulo v*O, and the coordinates of their products
pub record Fibre (O : OrderIn) : Type 0 where
  pub spanning : Spanning O
  pub independent : (c : ℕ → O.field.carrier)
      → IsMultiple O (combined O spanning.count c spanning.element) → (i : ℕ) → i < spanning.count
      → c i ≡ O.field.zero
  pub table : ℕ → ℕ → ℕ → O.field.carrier
  pub products : (i j : ℕ) → i < spanning.count → j < spanning.count
      → IsMultiple O (O.add (O.mul (spanning.element i) (spanning.element j))
      (O.neg (combined O spanning.count (table i j) spanning.element)))

module _ (P : OrderAt) (F : Fibre P.order) where
  -- coordinate l of element i times element j without its value
  abbrev pub shifted_table : ℕ → ℕ → ℕ → P.field.carrier
  shifted_table j i l = P.field.add (F.table i j l)
      (P.field.neg (P.field.mul (unit_at P.field.ring i l) (P.value (F.spanning.element j))))

  -- the combination with these coefficients times each element without its value is in v*O
  abbrev pub IsSocleVector : (ℕ → P.field.carrier) → Type 0
  IsSocleVector c = (j l : ℕ) → j < F.spanning.count → l < F.spanning.count
      → product P.field.ring F.spanning.count c (λ i. shifted_table j i l) ≡ P.field.zero
