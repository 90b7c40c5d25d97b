-- One state of the search for roots: what its parts are, and its children.
use Rattle.std.proofs.Common.{◌≡◌, ℕ, suc, ◌+◌, ◌*◌, ◌<◌, ◌≤◌, ◌⊎◌, inl, inr, List, [], ◌∷◌, refl}
use Rattle.std.proofs.Common.{sym}
use Rattle.std.proofs.Common.{◌∙◌, ap, ap₂, arith}
use Rattle.std.proofs.lemmas.Bool.{cases_lt}
use Rattle.ff_theory.specs.Ring.{RingOps, IsCommRing}
use Rattle.ff_theory.specs.Lawful.{Field}
use Rattle.ff_theory.specs.Poly.{coeff, poly, polynomials}
use Rattle.ff_theory.proofs.Solver.{◌⊕◌, ◌⊗◌, neg, nil, unit, ring1, ring2}
use Rattle.ff_table.specs.Coords.{Coords}
use Rattle.ff_table.specs.Table.{Table, IsTable, table_ring, WeighsBelow}
use Rattle.ff_table.specs.Leading.{part, IsBelowBy}
use Rattle.ff_table.specs.Level.{IsLevel, class_of, power_of, at_level, scaled, monomial_at}
use Rattle.ff_table.specs.Shift.{shift, leading, value_at}
use Rattle.ff_table.specs.Order.{HasOrder}
use Rattle.ff_table.specs.Roots.{State, child, top_weight, leading_poly}
use Rattle.ff_table.proofs.TableRing.{table_laws}
use Rattle.ff_table.proofs.Scalars.{part_linear, part-neg, multiple-mul}
use Rattle.ff_table.proofs.Levels.{level-split, part-level, class-below}
use Rattle.ff_table.proofs.Monomials.{monomial-one, monomial-zero, monomial-weight}
use Rattle.ff_table.proofs.Shift.{shift-value, leading-shift}
use Rattle.ff_table.proofs.ShiftCoeffs.{shift-past, shift-top}
use Rattle.ff_table.proofs.Roots.{below-add, below-scaled, shift-below, leading-root}
use Rattle.ff_table.proofs.LeadingDegrees.{next-degree}
use Rattle.ff_table.proofs.Tops.{top-below, HasLeading, has_leading}

module _ (K : Field) (s : Table K.ring) (table : IsTable K.ring s) where
  abbrev T : RingOps
  T = table_ring K.ring s

  abbrev k : RingOps
  k = K.ring

  abbrev C : Type 0
  C = Coords (polynomials K.ring) s.rank

  TL : IsCommRing T
  TL = table_laws K s table

  -- the monomial at the level t
  abbrev u : ℕ → C
  u t = monomial_at k s t

  with_offset : (n : ℕ) (a : C) → WeighsBelow k s n a → IsBelowBy k s 0 n a
  with_offset n a h l q d r = h l q d (omega arith)

  without_offset : (n : ℕ) (a : C) → IsBelowBy k s 0 n a → WeighsBelow k s n a
  without_offset n a h l q d r = h l q d (omega arith)

  monomial-below : (t : ℕ) → IsLevel s t → IsBelowBy k s 0 (suc t) (u t)
  monomial-below t level = with_offset (suc t) (u t) (monomial-weight K s table t level).below

  -- the coefficients of a + c * u
  part-child : (t l d : ℕ) (a : C) (c : K.carrier) → l < s.rank
      → part k s l d (T.add a (scaled k s c (u t)))
      ≡ K.add (part k s l d a) (K.mul c (part k s l d (u t)))
  part-child t l d a c q = (part_linear K s l d q).on_add a (scaled k s c (u t))
      ∙ ap (K.add (part k s l d a)) ((part_linear K s l d q).on_scale c (u t))

  -- an element of weight at most t is its part at the level t and a rest below
  pub record Peeled (t : ℕ) (y : Coords (polynomials K.ring) s.rank) : Type 0 where
    pub rest : Coords (polynomials K.ring) s.rank
    pub sum : y ≡ (table_ring K.ring s).add
        (scaled K.ring s (at_level K.ring s t y) (monomial_at K.ring s t)) rest
    pub small : WeighsBelow K.ring s t rest

  pub peel : (t : ℕ) → IsLevel s t → (y : Coords (polynomials K.ring) s.rank)
      → WeighsBelow K.ring s (suc t) y → Peeled t y
  peel t level y small = record {
    rest = T.add y (T.neg g);
    sum = ring2 T TL (λ y g. y) (λ y g. g ⊕ (y ⊕ neg g)) refl y g;
    small = λ l q d r. (part_linear K s l d q).on_add y (T.neg g)
        ∙ ap (K.add (part k s l d y)) (part-neg K s l d q g
        ∙ ap K.neg ((part_linear K s l d q).on_scale (at_level k s t y) (u t)))
        ∙ go l d q r (cases_lt t (s.rank * d + s.weight l));
  }
    where
      g : C
      g = scaled k s (at_level k s t y) (monomial_at k s t)

      go : (l d : ℕ) → l < s.rank → t ≤ s.rank * d + s.weight l
          → (t < s.rank * d + s.weight l) ⊎ (s.rank * d + s.weight l ≤ t)
          → K.add (part k s l d y)
          (K.neg (K.mul (at_level k s t y) (part k s l d (monomial_at k s t)))) ≡ K.zero
      go l d q r (inl o) = ap₂ (λ a b. K.add a (K.neg (K.mul (at_level k s t y) b)))
          (small l q d o) (monomial-zero K s table t l d level q (λ e. absurd (omega arith)))
          ∙ ring1 k K.laws (λ a. nil ⊕ neg (a ⊗ nil)) (λ a. nil) refl (at_level k s t y)
      go l d q r (inr o) = let e : s.rank * d + s.weight l ≡ t = omega arith in
          ap₂ (λ a b. K.add a (K.neg (K.mul (at_level k s t y) b)))
          (sym (part-level K s table l d q y) ∙ ap (λ i. at_level k s i y) e)
          (sym (part-level K s table l d q (monomial_at k s t))
          ∙ ap (λ i. at_level k s i (monomial_at k s t)) e ∙ monomial-one K s table t)
          ∙ ring1 k K.laws (λ a. a ⊕ neg (a ⊗ unit)) (λ a. nil) refl (at_level k s t y)

  -- the state of a search for the roots of p of weight at most n, where p is monic of that degree:
  -- the levels from t on are done
  pub record IsStateOf (p : List (Coords (polynomials K.ring) s.rank)) (n degree t : ℕ)
      (a : State K.ring s) : Type 0 where
    pub light : WeighsBelow K.ring s (suc n) a.sum
    pub front : (l d : ℕ) → l < s.rank → s.rank * d + s.weight l < t
        → part K.ring s l d a.sum ≡ K.zero
    pub value : (y : Coords (polynomials K.ring) s.rank)
        → value_at (table_ring K.ring s) y a.moved
        ≡ value_at (table_ring K.ring s) ((table_ring K.ring s).add a.sum y) p
    pub monic : coeff (table_ring K.ring s) a.moved degree ≡ (table_ring K.ring s).one
    pub past : (i : ℕ) → degree < i
        → coeff (table_ring K.ring s) a.moved i ≡ (table_ring K.ring s).zero

  -- at each level below t the leading polynomial has the degree r at most
  abbrev pub Allows : ℕ → ℕ → List (Coords (polynomials K.ring) s.rank) → Type 0
  Allows t r moved = (v : ℕ) → v < t → IsLevel s v → (i : ℕ) → r < i
      → coeff K.ring (leading_poly K.ring s v moved) i ≡ K.zero

  module _ (p : List (Coords (polynomials K.ring) s.rank)) (n degree t : ℕ)
      (level : IsLevel s t) (proper : ¬ ((table_ring K.ring s).one ≡ (table_ring K.ring s).zero))
    where
      pub child-state : t ≤ n → (a : State K.ring s) → IsStateOf p n degree (suc t) a
          → (c : K.carrier) → IsStateOf p n degree t (child K.ring s t a c)
      child-state b a h c = record {
        light = without_offset (suc n) (T.add a.sum (scaled k s c (u t)))
            (below-add K s table 0 (suc n) a.sum (scaled k s c (u t))
            (with_offset (suc n) a.sum h.light)
            (below-scaled K s table 0 (suc n) c (u t)
            (λ l q d r. monomial-below t level l q d (omega arith))));
        front = λ l d q r. part-child t l d a.sum c q
            ∙ ap₂ (λ x y. K.add x (K.mul c y)) (h.front l d q (omega arith))
            (monomial-zero K s table t l d level q (λ e. absurd (omega arith)))
            ∙ ring1 k K.laws (λ c. nil ⊕ c ⊗ nil) (λ c. nil) refl c;
        value = λ y. shift-value T TL (scaled k s c (u t)) y a.moved
            ∙ h.value (T.add (scaled k s c (u t)) y)
            ∙ ap (λ x. value_at T x p) (sym (TL.add_assoc a.sum (scaled k s c (u t)) y));
        monic = shift-top T TL (scaled k s c (u t)) a.moved degree h.past ∙ h.monic;
        past = λ i q. shift-past T TL (scaled k s c (u t)) a.moved (suc degree) h.past i q;
      }

      leads : (a : State k s) → IsStateOf p n degree (suc t) a → HasLeading K s table t a.moved
      leads a h = has_leading K s table t level a.moved degree (λ z. proper (sym h.monic ∙ z))

      -- a root that begins with the sum goes on with a zero of the leading polynomial
      pub root-part : (a : State K.ring s) → IsStateOf p n degree (suc t) a
          → (c y : Coords (polynomials K.ring) s.rank)
          → value_at (table_ring K.ring s) c p ≡ (table_ring K.ring s).zero
          → c ≡ (table_ring K.ring s).add a.sum y
          → WeighsBelow K.ring s (suc t) y
          → value_at K.ring (at_level K.ring s t y) (leading_poly K.ring s t a.moved) ≡ K.zero
      root-part a h c y vanishes e small =
          leading-root K s table t w (class_of s w) (power_of s w) (u t) y'.rest (at_level k s t y)
          a.moved (class-below K s table w) (level-split K s table w (leads a h).level)
          (monomial-below t level) (with_offset t y'.rest y'.small)
          (top-below K s table t 0 w a.moved (omega arith))
          (ap (λ x. value_at T x a.moved) (sym y'.sum) ∙ h.value y
          ∙ ap (λ x. value_at T x p) (sym e)
          ∙ vanishes)
        where
          w : ℕ
          w = top_weight k s t 0 a.moved

          y' : Peeled t y
          y' = peel t level y small

      -- the order of a zero bounds the degrees that follow
      pub allows-child : (a : State K.ring s) → IsStateOf p n degree (suc t) a → t ≤ n
          → (c : K.carrier) (r : ℕ) → HasOrder K.ring (leading_poly K.ring s t a.moved) c r
          → Allows t r (child K.ring s t a c).moved
      allows-child a h b c r order v less v_level i q =
          next-degree K s table t v w x (class_of s w) (power_of s w) (class_of s x) (power_of s x)
          (u t) (u v) moved (class-below K s table w) (level-split K s table w (leads a h).level)
          (class-below K s table x) (level-split K s table x lower.level)
          (monomial-below t level) (monomial-below v v_level) less
          (shift-below K s table t 0 (suc w) (scaled k s c (u t)) a.moved
          (below-scaled K s table 0 (suc t) c (u t) (monomial-below t level))
          (top-below K s table t 0 w a.moved (omega arith)))
          (top-below K s table v 0 x moved (omega arith))
          r (λ z. order.nonzero (ap (λ g. coeff k g r) (sym shifted) ∙ z)) i q
        where
          w : ℕ
          w = top_weight k s t 0 a.moved

          moved : List C
          moved = shift T (scaled k s c (u t)) a.moved

          x : ℕ
          x = top_weight k s v 0 (shift T (scaled k s c (u t)) a.moved)

          kept : IsStateOf p n degree t (child k s t a c)
          kept = child-state b a h c

          lower : HasLeading K s table v (shift T (scaled k s c (u t)) a.moved)
          lower = has_leading K s table v v_level (shift T (scaled k s c (u t)) a.moved) degree
              (λ z. proper (sym kept.monic ∙ z))

          shifted : leading T (at_level k s w) (u t) (shift T (scaled k s c (u t)) a.moved)
              ≡ shift k c (leading T (at_level k s w) (u t) a.moved)
          shifted = leading-shift T k TL (scaled k s)
              (λ c a b. multiple-mul K s (poly k (c ∷ [])) a b) (at_level k s w) (u t) c a.moved
              (part_linear K s (class_of s w) (power_of s w) (class-below K s table w))

  -- states with equal children have equal sums
  pub child-equal : (p : List (Coords (polynomials K.ring) s.rank)) (n degree t : ℕ)
      → IsLevel s t → (a b : State K.ring s) → IsStateOf p n degree (suc t) a
      → IsStateOf p n degree (suc t) b → (c d : K.carrier)
      → (child K.ring s t a c).sum ≡ (child K.ring s t b d).sum → (c ≡ d) × (a.sum ≡ b.sum)
  child-equal p n degree t level a b ha hb c d e = (same, sums)
    where
      coefficient : (a : State k s) → IsStateOf p n degree (suc t) a → (c : K.carrier)
          → at_level k s t (T.add a.sum (scaled k s c (u t))) ≡ c
      coefficient a h c = part-child t (class_of s t) (power_of s t) a.sum c
          (class-below K s table t)
          ∙ ap₂ (λ x y. K.add x (K.mul c y))
          (h.front (class_of s t) (power_of s t) (class-below K s table t)
          (omega (arith, level-split K s table t level))) (monomial-one K s table t)
          ∙ ring1 k K.laws (λ c. nil ⊕ c ⊗ unit) (λ c. c) refl c

      same : c ≡ d
      same = sym (coefficient a ha c) ∙ ap (at_level k s t) e ∙ coefficient b hb d

      sums : a.sum ≡ b.sum
      sums = ring2 T TL (λ x g. x) (λ x g. (x ⊕ g) ⊕ neg g) refl a.sum (scaled k s c (u t))
          ∙ ap₂ (λ x y. T.add x (T.neg (scaled k s y (u t)))) e same
          ∙ ring2 T TL (λ x g. (x ⊕ g) ⊕ neg g) (λ x g. x) refl b.sum (scaled k s d (u t))
