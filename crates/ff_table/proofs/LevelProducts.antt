-- The coefficient of a product at the sum of two weights, and those of the leading polynomial.
use Rattle.std.proofs.Common.{◌≡◌, ℕ, ◌+◌, ◌*◌, sym, ◌∙◌, ap, ap₂}
use Rattle.ff_theory.specs.Ring.{RingOps}
use Rattle.ff_theory.specs.Lawful.{Field, Domain}
use Rattle.ff_theory.specs.Poly.{coeff, Poly, polynomials}
use Rattle.ff_theory.proofs.PolyMap.{polynomial_domain}
use Rattle.ff_table.specs.Coords.{Coords, at}
use Rattle.ff_table.specs.Weight.{HasWeight}
use Rattle.ff_table.specs.Table.{Table, IsTable, table_ring, Weighs}
use Rattle.ff_table.specs.Level.{class_of, power_of, at_level, top_constant}
use Rattle.ff_table.proofs.Laws.{mul_at}
use Rattle.ff_table.proofs.Domain.{level, coefficient}
use Rattle.ff_table.proofs.Levels.{level-class, level-power}

module _ (K : Field) (s : Table K.ring) (table : IsTable K.ring s) where
  abbrev k : RingOps
  k = K.ring

  abbrev T : RingOps
  T = table_ring K.ring s

  abbrev C : Type 0
  C = Coords (polynomials K.ring) s.rank

  abbrev P : Domain
  P = polynomial_domain K

  -- the place of a weight is its class, and the degree its power
  pub weight-class : (c : ℕ → Poly K.ring) (w : ℕ) (h : HasWeight K.ring s.rank s.weight c w)
      → class_of s w ≡ h.place
  weight-class c w h = ap (class_of s) h.level
      ∙ level-class K s table h.place h.degree h.in_range

  pub weight-power : (c : ℕ → Poly K.ring) (w : ℕ) (h : HasWeight K.ring s.rank s.weight c w)
      → power_of s w ≡ h.degree
  weight-power c w h = ap (power_of s) h.level
      ∙ level-power K s table h.place h.degree h.in_range

  -- leading coefficients multiply, with that of the product of the two basis vectors
  pub level-product : (a b : Coords (polynomials K.ring) s.rank) (w v : ℕ) → Weighs K.ring s a w
      → Weighs K.ring s b v
      → at_level K.ring s (w + v) ((table_ring K.ring s).mul a b)
      ≡ K.mul (at_level K.ring s w a) (K.mul (at_level K.ring s v b)
      (top_constant K.ring s (class_of s w) (class_of s v)))
  level-product a b w v h g =
      ap₂ (λ i n. coeff k (at P.ring s.rank (T.mul a b) i).coeffs n)
      (ap (class_of s) split ∙ level-class K s table top.place d top.in_range)
      (ap (power_of s) split ∙ level-power K s table top.place d top.in_range)
      ∙ ap (λ (p : Poly K.ring). coeff k p.coeffs d)
      (mul_at P.ring P.laws s.rank s.product a b top.place top.in_range)
      ∙ coefficient K s table (at P.ring s.rank a) (at P.ring s.rank b) w v h g
      ∙ ap₂ K.mul (sym (leading a w h)) (ap₂ K.mul (sym (leading b v g)) (sym constant))
    where
      top : HasWeight k s.rank s.weight (s.product h.place g.place)
          (s.weight h.place + s.weight g.place)
      top = table.weights h.place g.place h.in_range g.in_range

      d : ℕ
      d = h.degree + (g.degree + top.degree)

      split : w + v ≡ s.rank * (h.degree + (g.degree + top.degree)) + s.weight top.place
      split = level K s table (at P.ring s.rank a) (at P.ring s.rank b) w v h g

      leading : (a : C) (w : ℕ) (h : Weighs k s a w) → at_level k s w a
          ≡ coeff k (at P.ring s.rank a h.place).coeffs h.degree
      leading a w h = ap₂ (λ i n. coeff k (at P.ring s.rank a i).coeffs n)
          (weight-class (at P.ring s.rank a) w h) (weight-power (at P.ring s.rank a) w h)

      constant : top_constant k s (class_of s w) (class_of s v)
          ≡ coeff k (s.product h.place g.place top.place).coeffs top.degree
      constant = ap₂ (top_constant k s) (weight-class (at P.ring s.rank a) w h)
          (weight-class (at P.ring s.rank b) v g)
          ∙ ap₂ (λ i n. coeff k (s.product h.place g.place i).coeffs n)
          (weight-class (s.product h.place g.place) (s.weight h.place + s.weight g.place) top)
          (weight-power (s.product h.place g.place) (s.weight h.place + s.weight g.place) top)
