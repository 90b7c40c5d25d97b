-- Levels, and the coefficients of elements at them.
use Rattle.std.proofs.Common.{◌≡◌, ℕ, ◌+◌, ◌-◌, ◌*◌, ◌/◌, ◌%◌, ◌<◌, sym, ◌∙◌, ap, subst, arith}
use Rattle.std.proofs.Math.Nat.{mod-lt, div-add-mod}
use Rattle.ff_theory.specs.Ring.{RingOps}
use Rattle.ff_theory.specs.Lawful.{Field}
use Rattle.ff_theory.specs.Poly.{polynomials}
use Rattle.ff_table.specs.Coords.{Coords}
use Rattle.ff_table.specs.Table.{Table, IsTable, Weighs}
use Rattle.ff_table.specs.Leading.{part}
use Rattle.ff_table.specs.Level.{IsLevel, class_of, power_of, at_level}
use Rattle.ff_table.proofs.Weights.{level_class, mod_sub, cancel}

module _ (K : Field) (s : Table K.ring) (table : IsTable K.ring s) where
  abbrev k : RingOps
  k = K.ring

  pub level-class : (l d : ℕ) → l < s.rank → class_of s (s.rank * d + s.weight l) ≡ l
  level-class l d q = level_class k s.rank s.weight table.classes l d q

  pub level-power : (l d : ℕ) → l < s.rank → power_of s (s.rank * d + s.weight l) ≡ d
  level-power l d q = ap (λ i. (s.rank * d + s.weight l - s.weight i) / s.rank) (level-class l d q)
      ∙ cancel s.rank table.algebra.positive _ d
      (let e : s.rank * d + s.weight l - s.weight l ≡ s.rank * d = omega arith in
      let z : (s.rank * d + s.weight l - s.weight l) % s.rank ≡ 0 =
      mod_sub s.rank table.algebra.positive (s.rank * d + s.weight l) (s.weight l) (omega arith)
      (level-class l d q ∙ sym (table.classes l q)) in
      omega (arith, e, z, div-add-mod (s.rank * d + s.weight l - s.weight l) s.rank))

  pub is-level : (l d : ℕ) → l < s.rank → IsLevel s (s.rank * d + s.weight l)
  is-level l d q = let e : s.weight (class_of s (s.rank * d + s.weight l)) ≡ s.weight l =
      ap s.weight (level-class l d q) in omega (arith, e)

  pub class-below : (t : ℕ) → class_of s t < s.rank
  class-below t = mod-lt t table.algebra.positive

  -- a level is that of its class and power
  pub level-split : (t : ℕ) → IsLevel s t → t ≡ s.rank * power_of s t + s.weight (class_of s t)
  level-split t level = omega (
    arith,
    level,
    div-add-mod (t - s.weight (t % s.rank)) s.rank,
    mod_sub s.rank table.algebra.positive t (s.weight (t % s.rank)) level
        (sym (table.classes (t % s.rank) (class-below t))),
  )

  -- the coefficient at a level is the one of its coordinate and power
  pub part-level : (l d : ℕ) → l < s.rank → (a : Coords (polynomials K.ring) s.rank)
      → at_level K.ring s (s.rank * d + s.weight l) a ≡ part K.ring s l d a
  part-level l d q a = ap (λ i. part k s i (power_of s (s.rank * d + s.weight l)) a)
      (level-class l d q) ∙ ap (λ n. part k s l n a) (level-power l d q)

  -- the coefficient at the weight is not zero
  pub weighs-nonzero : (a : Coords (polynomials K.ring) s.rank) (w : ℕ) → Weighs K.ring s a w
      → ¬ (at_level K.ring s w a ≡ K.zero)
  weighs-nonzero a w h z = h.nonzero (sym (part-level h.place h.degree h.in_range a)
      ∙ ap (λ t. at_level k s t a) (sym h.level) ∙ z)

  pub weighs-level : (a : Coords (polynomials K.ring) s.rank) (w : ℕ) → Weighs K.ring s a w
      → IsLevel s w
  weighs-level a w h = subst (IsLevel s) (sym h.level) (is-level h.place h.degree h.in_range)
