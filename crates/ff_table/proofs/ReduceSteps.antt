-- What a loop that reduces modulo powers cites: one step, and from which level on a class is
-- reached.
use Rattle.std.proofs.Common.{◌≡◌, ℕ, suc, ◌+◌, ◌-◌, ◌*◌, ◌/◌, ◌%◌, ◌<◌, ◌≤◌, ◌⊎◌, inl, inr, Bool}
use Rattle.std.proofs.Common.{true, false, refl, sym, ◌∙◌, ap, ap₂, subst, arith}
use Rattle.std.proofs.lemmas.Bool.{cases_lt, lt-ltb, le-ltb}
use Rattle.std.proofs.Math.Nat.{div-add-mod}
use Rattle.ff_theory.specs.Ring.{RingOps, IsCommRing, power}
use Rattle.ff_theory.specs.Lawful.{Field, Domain}
use Rattle.ff_theory.specs.Span.{unit_at}
use Rattle.ff_theory.specs.Poly.{coeff, Poly, polynomials}
use Rattle.ff_theory.proofs.Solver.{◌⊕◌, neg, ring3}
use Rattle.ff_theory.proofs.PolyMap.{polynomial_domain, same_false}
use Rattle.ff_table.specs.Coords.{Coords}
use Rattle.ff_table.specs.Table.{Table, IsTable, table_ring, Weighs, WeighsBelow}
use Rattle.ff_table.specs.Leading.{part}
use Rattle.ff_table.specs.Level.{IsLevel, at_level, z_multiple}
use Rattle.ff_table.specs.Reduce.{IsClear}
use Rattle.ff_table.specs.Powers.{IsPrimeTo, is_reached, power_sum, IsPowerSum}
use Rattle.ff_table.proofs.Weights.{grows, mod_sub}
use Rattle.ff_table.proofs.TableRing.{table_laws}
use Rattle.ff_table.proofs.One.{one-weight}
use Rattle.ff_table.proofs.Powers.{power-weight}
use Rattle.ff_table.proofs.Scalars.{part_linear, part-neg, zero-coeff}
use Rattle.ff_table.proofs.Levels.{part-level, level-class, weighs-level}
use Rattle.ff_table.proofs.PowerSums.{power_sum-add, power_sum-single}
use Rattle.ff_table.proofs.Multiples.{z_power, of_coefficients, coefficient, spread}
use Rattle.ff_table.proofs.PowerValues.{Dependent, dependent}

module _ (K : Field) (s : Table K.ring) (table : IsTable K.ring s) where
  abbrev k : RingOps
  k = K.ring

  abbrev P : Domain
  P = polynomial_domain K

  abbrev T : RingOps
  T = table_ring K.ring s

  abbrev C : Type 0
  C = Coords (polynomials K.ring) s.rank

  TL : IsCommRing T
  TL = table_laws K s table

  -- less an element g of weight at most t with the same coefficient at the level t
  pub clear-step : (reached : ℕ → Bool) (t : ℕ) (a g : Coords (polynomials K.ring) s.rank)
      → WeighsBelow K.ring s (suc t) g
      → at_level K.ring s t g ≡ at_level K.ring s t a
      → IsClear K.ring s reached (suc t) a
      → IsClear K.ring s reached t
      ((table_ring K.ring s).add a ((table_ring K.ring s).neg g))
  clear-step reached t a g small same clear l d q r on = (part_linear K s l d q).on_add a (T.neg g)
      ∙ ap (K.add (part k s l d a)) (part-neg K s l d q g)
      ∙ go (cases_lt t (s.rank * d + s.weight l))
    where
      go : (t < s.rank * d + s.weight l) ⊎ (s.rank * d + s.weight l ≤ t)
          → K.add (part k s l d a) (K.neg (part k s l d g)) ≡ K.zero
      go (inl o) = ap₂ (λ x y. K.add x (K.neg y)) (clear l d q o on) (small l q d o)
          ∙ K.laws.add_neg K.zero
      go (inr o) = let e : s.rank * d + s.weight l ≡ t = omega arith in
          ap (λ y. K.add (part k s l d a) (K.neg y)) (sym (part-level K s table l d q g)
          ∙ ap (λ i. at_level k s i g) e ∙ same ∙ sym (ap (λ i. at_level k s i a) e)
          ∙ part-level K s table l d q a) ∙ K.laws.add_neg (part k s l d a)

  module _ (w : Coords (polynomials K.ring) s.rank) where
    -- a multiple of a power goes from the rest to the quotient
    pub sum-step : (A : ℕ → Poly K.ring) (a rest : Coords (polynomials K.ring) s.rank)
        (g : Poly K.ring) (j : ℕ) → j < s.rank
        → a ≡ (table_ring K.ring s).add (power_sum K.ring s w s.rank A) rest
        → a ≡ (table_ring K.ring s).add (power_sum K.ring s w s.rank
        (λ l. (polynomials K.ring).add (A l)
        ((polynomials K.ring).mul g (unit_at (polynomials K.ring) j l))))
        ((table_ring K.ring s).add rest ((table_ring K.ring s).neg
        (z_multiple K.ring s g (power (table_ring K.ring s) w j))))
    sum-step A a rest g j q e = e
        ∙ ring3 T TL (λ p r g. p ⊕ r) (λ p r g. (p ⊕ g) ⊕ (r ⊕ neg g)) refl
        (power_sum k s w s.rank A) rest (z_multiple k s g (power T w j))
        ∙ ap (λ x. T.add x (T.add rest (T.neg (z_multiple k s g (power T w j)))))
        (ap (T.add (power_sum k s w s.rank A)) (sym (power_sum-single K s table w j q g))
        ∙ sym (power_sum-add K s table w s.rank A (λ l. P.mul g (unit_at P.ring j l))))

    module _ (W : ℕ) (weighs : Weighs K.ring s w W) (prime : IsPrimeTo s.rank W) where
      -- how many levels of a class are not reached, where j * W is in the class
      abbrev pub limit_of : ℕ → ℕ → ℕ
      limit_of j l = (j * W - s.weight l) / s.rank

      limit-level : (j l : ℕ) → l < s.rank → (j * W) % s.rank ≡ l
          → j * W ≡ s.rank * limit_of j l + s.weight l
      limit-level j l q e = omega (
        arith,
        level,
        div-add-mod (j * W - s.weight l) s.rank,
        mod_sub s.rank table.algebra.positive (j * W) (s.weight l) level
            (e ∙ sym (table.classes l q)),
      )
        where
          level : s.weight l ≤ j * W
          level = let v : IsLevel s (j * W) = weighs-level K s table (power T w j) (j * W)
              (power-weight K s table w W weighs (one-weight K s table) j) in
              let f : s.weight ((j * W) % s.rank) ≡ s.weight l = ap s.weight e in
              omega (arith, v, f)

      exponent-same : (j l d : ℕ) → l < s.rank → j < s.rank → (j * W) % s.rank ≡ l
          → prime.exponent (s.rank * d + s.weight l) ≡ j
      exponent-same j l d q r e = prime.distinct (prime.exponent (s.rank * d + s.weight l)) j
          (prime.in_range (s.rank * d + s.weight l)) r
          (prime.class (s.rank * d + s.weight l) ∙ level-class K s table l d q ∙ sym e)

      pub reached-from : (j l d : ℕ) → l < s.rank → j < s.rank → (j * W) % s.rank ≡ l
          → limit_of j l ≤ d → is_reached prime (s.rank * d + s.weight l) ≡ true
      reached-from j l d q r e high =
          lt-ltb (prime.exponent (s.rank * d + s.weight l) * W) (suc (s.rank * d + s.weight l))
          (omega (
            arith,
            ap (λ i. i * W) (exponent-same j l d q r e),
            limit-level j l q e,
            more (cases_lt (limit_of j l) d),
          ))
        where
          more : (limit_of j l < d) ⊎ (d ≤ limit_of j l) → s.rank * limit_of j l ≤ s.rank * d
          more (inl o) = omega (arith, grows s.rank (limit_of j l) d o)
          more (inr o) = let f : limit_of j l ≡ d = omega (arith, high, o) in
              let g : s.rank * limit_of j l ≡ s.rank * d = ap (λ i. s.rank * i) f in
              omega (arith, g)

      pub reached-below : (j l d : ℕ) → l < s.rank → j < s.rank → (j * W) % s.rank ≡ l
          → d < limit_of j l → is_reached prime (s.rank * d + s.weight l) ≡ false
      reached-below j l d q r e low =
          le-ltb (prime.exponent (s.rank * d + s.weight l) * W) (suc (s.rank * d + s.weight l))
          (omega (
            arith,
            ap (λ i. i * W) (exponent-same j l d q r e),
            limit-level j l q e,
            grows s.rank d (limit_of j l) low,
            table.algebra.positive,
          ))

      -- each element times a polynomial in z that is not zero is a sum of powers
      pub written : (a : Coords (polynomials K.ring) s.rank) → (q : Poly K.ring)
          × ((polynomials K.ring).same q (polynomials K.ring).zero ≡ false)
          × IsPowerSum K.ring s w (z_multiple K.ring s q a)
      written a = (
        of_coefficients K s table (suc (s.rank * W)) d.coefficients,
        same_false P.ring P.tests _ P.zero (λ e. d.nonzero
            (sym (coefficient K s table (suc (s.rank * W)) d.place d.coefficients d.below)
            ∙ ap (λ (p : Poly K.ring). coeff k p.coeffs d.place) e ∙ zero-coeff k d.place)),
        subst (IsPowerSum k s w)
            (sym (spread K s table (suc (s.rank * W)) d.coefficients a)) d.inside,
      )
        where
          d : Dependent K s table w W weighs prime (λ i. z_multiple k s (z_power K s table i) a)
          d = dependent K s table w W weighs prime (λ i. z_multiple k s (z_power K s table i) a)
