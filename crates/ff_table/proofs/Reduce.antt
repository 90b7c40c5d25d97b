-- Each element is one of N plus a rest that is zero at the weights that elements of N have; there
-- is one such rest.
use Rattle.std.proofs.Common.{◌≡◌, ℕ, zero, suc, ◌+◌, ◌*◌, ◌<◌, ◌≤◌, ◌⊎◌, inl, inr, Bool, true}
use Rattle.std.proofs.Common.{false, refl, sym, ◌∙◌, ap, ap₂, subst, arith}
use Rattle.std.proofs.lemmas.Bool.{cases_lt}
use Rattle.ff_theory.specs.Ring.{RingOps, IsCommRing}
use Rattle.ff_theory.specs.Lawful.{Field, Domain}
use Rattle.ff_theory.specs.Poly.{polynomials}
use Rattle.ff_theory.proofs.Solver.{◌⊕◌, ◌⊗◌, neg, nil, unit, ring1, ring2, ring3}
use Rattle.ff_theory.proofs.PolyMap.{polynomial_domain}
use Rattle.ff_table.specs.Coords.{Coords, at}
use Rattle.ff_table.specs.Table.{Table, IsTable, table_ring, Weighs}
use Rattle.ff_table.specs.Weight.{IsUnder}
use Rattle.ff_table.specs.Leading.{part}
use Rattle.ff_table.specs.Reduce.{IsClear, Pivot, Reduction}
use Rattle.ff_table.proofs.Weights.{same_class, bound, cancel}
use Rattle.ff_table.proofs.TableRing.{table_laws, weigh_element}
use Rattle.ff_table.specs.Level.{scaled}
use Rattle.ff_table.proofs.Scalars.{part_linear, neg-scaled}

module _ (K : Field) (s : Table K.ring) (table : IsTable K.ring s) where
  abbrev T : RingOps
  T = table_ring K.ring s

  abbrev k : RingOps
  k = K.ring

  abbrev C : Type 0
  C = Coords (polynomials K.ring) s.rank

  abbrev P : Domain
  P = polynomial_domain K

  TL : IsCommRing T
  TL = table_laws K s table

  -- the coefficient of g that stands at its weight
  abbrev top : (t : ℕ) (g : C) → Weighs k s g t → k.carrier
  top t g h = part k s h.place h.degree g

  -- what makes a zero at the weight of g
  abbrev pub less : (t : ℕ) (a g : Coords (polynomials K.ring) s.rank) → Weighs K.ring s g t
      → Coords (polynomials K.ring) s.rank
  less t a g h = (table_ring K.ring s).add a
      (scaled K.ring s (K.neg (K.mul (part K.ring s h.place h.degree a)
      (K.inverse (part K.ring s h.place h.degree g)))) g)

  part-less : (t : ℕ) (a g : C) (h : Weighs k s g t) (l d : ℕ) → l < s.rank
      → part k s l d (less t a g h) ≡ K.add (part k s l d a)
      (K.mul (K.neg (K.mul (part k s h.place h.degree a) (K.inverse (top t g h)))) (part k s l d g))
  part-less t a g h l d q = (part_linear K s l d q).on_add a _
      ∙ ap (K.add (part k s l d a)) ((part_linear K s l d q).on_scale _ g)

  -- above the weight of g nothing changes, and at it the result is zero
  less-clear : (reached : ℕ → Bool) (t : ℕ) (a g : C) (h : Weighs k s g t)
      → IsClear k s reached (suc t) a → IsClear k s reached t (less t a g h)
  less-clear reached t a g h clear l d q r on = part-less t a g h l d q
      ∙ go (cases_lt t (s.rank * d + s.weight l))
    where
      go : (t < s.rank * d + s.weight l) ⊎ (s.rank * d + s.weight l ≤ t)
          → K.add (part k s l d a) (K.mul
          (K.neg (K.mul (part k s h.place h.degree a) (K.inverse (top t g h)))) (part k s l d g))
          ≡ K.zero
      go (inl o) = ap₂ (λ x y. K.add x
          (K.mul (K.neg (K.mul (part k s h.place h.degree a) (K.inverse (top t g h)))) y))
          (clear l d q o on) (h.below l q d o)
          ∙ ring1 k K.laws (λ x. nil ⊕ x ⊗ nil) (λ x. nil) refl _
      go (inr o) = ap₂ (λ i n. K.add (part k s i n a)
          (K.mul (K.neg (K.mul (part k s h.place h.degree a) (K.inverse (top t g h))))
          (part k s i n g))) place degree
          ∙ ring3 k K.laws (λ x i y. x ⊕ neg (x ⊗ i) ⊗ y) (λ x i y. x ⊕ neg (x ⊗ (y ⊗ i))) refl
          (part k s h.place h.degree a) (K.inverse (top t g h)) (top t g h)
          ∙ ap (λ y. K.add (part k s h.place h.degree a)
          (K.neg (K.mul (part k s h.place h.degree a) y)))
          (K.is_field.mul_inverse (top t g h) h.nonzero)
          ∙ ring1 k K.laws (λ x. x ⊕ neg (x ⊗ unit)) (λ x. nil) refl _
        where
          same : s.rank * d + s.weight l ≡ s.rank * h.degree + s.weight h.place
          same = omega (arith, o, r, h.level)

          place : l ≡ h.place
          place = same_class k s.rank s.weight table.classes l h.place d h.degree q h.in_range same

          degree : d ≡ h.degree
          degree = cancel s.rank table.algebra.positive d h.degree
              (let e : s.weight l ≡ s.weight h.place = ap s.weight place in omega (arith, e, same))

  module _ (N : Coords (polynomials K.ring) s.rank → Type 0)
      (in_zero : N (table_ring K.ring s).zero)
      (in_add : (a b : Coords (polynomials K.ring) s.rank) → N a → N b
      → N ((table_ring K.ring s).add a b))
      (in_scaled : (c : K.carrier) (a : Coords (polynomials K.ring) s.rank) → N a
      → N (scaled K.ring s c a)) (reached : ℕ → Bool) where
    reduce_from : ((t : ℕ) → reached t ≡ true → Pivot k s N t) → (n : ℕ) (a : C)
        → IsClear k s reached n a → Reduction k s N reached a
    reduce_from pivots zero a clear =
        record {
          multiple = T.zero;
          rest = a;
          inside = in_zero;
          sum =
              ring1 T TL (λ a. a) (λ a. nil ⊕ a) refl a;
          clear = clear;
        }
    reduce_from pivots (suc t) a clear = go (reached t) refl (λ b h. reduce_from pivots t b h)
      where
        unreached : reached t ≡ false → IsClear k s reached t a
        unreached off l d q r on = pick (cases_lt t (s.rank * d + s.weight l))
          where
            pick : (t < s.rank * d + s.weight l) ⊎ (s.rank * d + s.weight l ≤ t) → part k s l d a
                ≡ K.zero
            pick (inl o) = clear l d q o on
            pick (inr o) = let e : t ≡ s.rank * d + s.weight l = omega (arith, o, r) in
                absurd (true-false (sym on ∙ ap reached (sym e) ∙ off))
              where
                true-false : ¬ (true ≡ false)
                true-false h = cc

        step : (p : Pivot k s N t) → Reduction k s N reached (less t a p.element p.weight)
            → Reduction k s N reached a
        step p b = record {
          multiple = T.add b.multiple (T.neg (scaled K.ring s c p.element));
          rest = b.rest;
          inside = in_add _ _ b.inside minus;
          sum = ring2 T TL (λ a g. a) (λ a g. (a ⊕ g) ⊕ neg g) refl a (scaled K.ring s c p.element)
              ∙ ap (λ x. T.add x (T.neg (scaled K.ring s c p.element))) b.sum
              ∙ ring3 T TL (λ m r g. (m ⊕ r) ⊕ neg g)
              (λ m r g. (m ⊕ neg g) ⊕ r) refl b.multiple b.rest (scaled K.ring s c p.element);
          clear = b.clear;
        }
          where
            c : K.carrier
            c = K.neg (K.mul (part k s p.weight.place p.weight.degree a)
                (K.inverse (top t p.element p.weight)))

            minus : N (T.neg (scaled K.ring s c p.element))
            minus = subst N (neg-scaled K s (scaled K.ring s c p.element))
                (in_scaled (K.neg K.one) _ (in_scaled c p.element p.inside))

        go : (r : Bool) → reached t ≡ r
            → ((b : C) → IsClear k s reached t b → Reduction k s N reached b)
            → Reduction k s N reached a
        go false off rest = rest a (unreached off)
        go true on rest = step (pivots t on)
            (rest _ (less-clear reached t a (pivots t on).element (pivots t on).weight clear))

    -- where N has an element of each reached weight
    pub reduce : ((t : ℕ) → reached t ≡ true → Pivot K.ring s N t)
        → (a : Coords (polynomials K.ring) s.rank) → Reduction K.ring s N reached a
    reduce pivots a = reduce_from pivots b.0 a (λ l d q r on. b.1 l q d r)
      where
        b : (n : ℕ) × ((l : ℕ) → l < s.rank
            → IsUnder k s.rank (s.weight l) n (at (polynomials k) s.rank a l))
        b = bound k K.laws K.tests s.rank table.algebra.positive s.weight table.classes
            (at (polynomials k) s.rank a) s.rank (omega arith)

  -- an element whose weight would be reached, but that is zero at each reached level, is zero
  pub clear-zero : (reached : ℕ → Bool) (a : Coords (polynomials K.ring) s.rank)
      → ((w : ℕ) → Weighs K.ring s a w → reached w ≡ true)
      → IsClear K.ring s reached 0 a → a ≡ (table_ring K.ring s).zero
  clear-zero reached a h clear = go (weigh_element K s table a)
    where
      go : ((w : ℕ) × Weighs k s a w) ⊎ (a ≡ T.zero) → a ≡ T.zero
      go (inr z) = z
      go (inl v) = absurd (v.1.nonzero
          (clear v.1.place v.1.degree v.1.in_range (omega arith)
          (ap reached (sym v.1.level) ∙ h v.0 v.1)))
