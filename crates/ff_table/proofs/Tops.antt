-- Weights as numbers, and the greatest weight of the terms of a polynomial, at which the leading
-- polynomial is not zero.
use Rattle.std.proofs.Common.{◌≡◌, ℕ, zero, suc, max, ◌+◌, ◌*◌, ◌<◌, ◌≤◌, ◌⊎◌, inl, inr, Bool, true}
use Rattle.std.proofs.Common.{false, cond, List, [], ◌∷◌, refl, sym, ◌∙◌, ap, subst, arith}
use Rattle.std.proofs.Common.{mul_comm}
use Rattle.std.proofs.lemmas.Bool.{cases_lt}
use Rattle.std.proofs.Math.Nat.{le-max_left, le-max_right, max-le, max-eq_left, max-eq_right}
use Rattle.ff_theory.specs.Ring.{RingOps, power}
use Rattle.ff_theory.specs.Lawful.{Field}
use Rattle.ff_theory.specs.Poly.{coeff, Poly, polynomials}
use Rattle.ff_theory.specs.Division.{size}
use Rattle.ff_theory.proofs.Division.{top_nonzero, coeff-beyond}
use Rattle.ff_theory.proofs.Dependence.{differs}
use Rattle.ff_table.specs.Coords.{Coords, at}
use Rattle.ff_table.specs.Table.{Table, IsTable, table_ring, Weighs, weight_of}
use Rattle.ff_table.specs.Weight.{IsUnder, IsBelow, top_level, weight_below}
use Rattle.ff_table.specs.Leading.{part, IsBelowBy, AreBelow, end, next}
use Rattle.ff_table.specs.Level.{IsLevel, class_of, power_of, at_level, monomial_at}
use Rattle.ff_table.specs.Roots.{top_weight, leading_poly}
use Rattle.ff_table.proofs.Weights.{grows}
use Rattle.ff_table.proofs.TableRing.{table_laws, table_tests, weigh_element, weight-mul}
use Rattle.ff_table.proofs.One.{one-weight}
use Rattle.ff_table.proofs.Powers.{power-weight}
use Rattle.ff_table.proofs.Scalars.{part-zero}
use Rattle.ff_table.proofs.Levels.{weighs-nonzero, weighs-level, class-below}
use Rattle.ff_table.proofs.Monomials.{monomial-weight}
use Rattle.ff_table.proofs.LeadingDegrees.{leading-at}

module _ (K : Field) (s : Table K.ring) (table : IsTable K.ring s) where
  abbrev T : RingOps
  T = table_ring K.ring s

  abbrev k : RingOps
  k = K.ring

  abbrev C : Type 0
  C = Coords (polynomials K.ring) s.rank

  abbrev e : ℕ
  e = s.rank

  -- one coordinate: the level of its leading coefficient
  top-under : (m w : ℕ) (p : Poly K.ring) → IsUnder k e m (suc w) p
      → (n : ℕ) → size k p ≡ n → top_level e m n ≤ w
  top-under m w p h zero q = omega arith
  top-under m w p h (suc d) q = go (cases_lt w (e * d + m))
    where
      go : (w < e * d + m) ⊎ (e * d + m ≤ w) → e * d + m ≤ w
      go (inl l) = absurd (top_nonzero k K.laws K.tests p d q (h d l))
      go (inr l) = l

  top-over : (m d : ℕ) (p : Poly K.ring) → ¬ (coeff k p.coeffs d ≡ k.zero)
      → (n : ℕ) → size k p ≡ n → e * d + m ≤ top_level e m n
  top-over m d p nz zero q = absurd (nz (coeff-beyond k K.laws K.tests p.coeffs d (omega arith)))
  top-over m d p nz (suc n) q = go (cases_lt d n) (cases_lt n d)
    where
      go : (d < n) ⊎ (n ≤ d) → (n < d) ⊎ (d ≤ n) → e * d + m ≤ e * n + m
      go (inl l) b = omega (arith, grows e d n l)
      go (inr l) (inl b) = absurd
          (nz (coeff-beyond k K.laws K.tests p.coeffs d (omega arith)))
      go (inr l) (inr b) = let f : d ≡ n = omega arith in
          let g : e * d ≡ e * n = ap (λ i. e * i) f in omega (arith, g)

  at-most : (c : ℕ → Poly K.ring) (w n : ℕ) → n ≤ e → IsBelow k e s.weight (suc w) c
      → weight_below k e s.weight c n ≤ w
  at-most c w zero q h = omega arith
  at-most c w (suc l) q h = max-le (at-most c w l (omega arith) h)
      (top-under (s.weight l) w (c l) (h l (omega arith)) (size k (c l)) refl)

  at-least : (c : ℕ → Poly K.ring) (l d n : ℕ) → l < n → ¬ (coeff k (c l).coeffs d ≡ k.zero)
      → e * d + s.weight l ≤ weight_below k e s.weight c n
  at-least c l d zero q nz = absurd (omega arith)
  at-least c l d (suc n) q nz = go (cases_lt l n) (λ r. at-least c l d n r nz)
    where
      go : (l < n) ⊎ (n ≤ l) → (l < n → e * d + s.weight l ≤ weight_below k e s.weight c n)
          → e * d + s.weight l ≤ weight_below k e s.weight c (suc n)
      go (inl r) rest = omega (
        arith,
        rest r,
        le-max_left (weight_below k e s.weight c n) (top_level e (s.weight n) (size k (c n))),
      )
      go (inr r) rest = let f : l ≡ n = omega arith in
          omega (
            arith,
            top-over (s.weight n) d (c n) (λ z. nz (ap (λ j. coeff k (c j).coeffs d) f ∙ z))
                (size k (c n)) refl,
            ap s.weight f,
            le-max_right (weight_below k e s.weight c n) (top_level e (s.weight n) (size k (c n))),
          )

  -- the weight as a number
  pub weight_of-is : (a : Coords (polynomials K.ring) s.rank) (w : ℕ) → Weighs K.ring s a w
      → weight_of K.ring s a ≡ w
  weight_of-is a w h = omega (
    arith,
    at-most (at (polynomials k) e a) w e (omega arith) h.below,
    at-least (at (polynomials k) e a) h.place h.degree e h.in_range h.nonzero,
    h.level,
  )

  pub below-weight : (a : Coords (polynomials K.ring) s.rank) (o n : ℕ)
      → weight_of K.ring s a + o ≤ n → IsBelowBy K.ring s o (suc n) a
  below-weight a o n q = go (weigh_element K s table a)
    where
      go : ((w : ℕ) × Weighs k s a w) ⊎ (a ≡ T.zero) → IsBelowBy k s o (suc n) a
      go (inl h) l r d b = h.1.below l r d (omega (arith, weight_of-is a h.0 h.1))
      go (inr z) l r d b = ap (part k s l d) z ∙ part-zero K s l d r

  term : ℕ → C → ℕ
  term o h = cond (T.same h T.zero) 0 (weight_of k s h + o)

  -- all terms are below the greatest weight
  pub top-below : (t o n : ℕ) (p : List (Coords (polynomials K.ring) s.rank))
      → top_weight K.ring s t o p ≤ n → AreBelow K.ring s t o (suc n) p
  top-below t o n [] q = end o (suc n)
  top-below t o n (h ∷ p) q = next o (suc n) h p (one (T.same h T.zero) refl)
      (top-below t (o + t) n p (omega (
        arith,
        q,
        le-max_right (cond (T.same h T.zero) 0 (weight_of k s h + o)) (top_weight k s t (o + t) p),
      )))
    where
      one : (b : Bool) → T.same h T.zero ≡ b → IsBelowBy k s o (suc n) h
      one true f l r d b = ap (part k s l d) ((table_tests K s table).same_true h T.zero f)
          ∙ part-zero K s l d r
      one false f l r d b = below-weight h o n (omega (
        arith,
        q,
        le-max_left (cond (T.same h T.zero) 0 (weight_of k s h + o)) (top_weight k s t (o + t) p),
        ap (λ b. cond b 0 (weight_of k s h + o)) f,
      )) l r d b

  -- all coefficients are zero, or one of them has the greatest weight
  record Reached (t o : ℕ) (p : List C) : Type 0 where
    pub index : ℕ
    pub own : ℕ
    pub weighs : Weighs k s (coeff T p index) own
    pub top : top_weight k s t o p ≡ own + (o + t * index)

  reached : (t o : ℕ) (p : List C) → Reached t o p ⊎
      ((top_weight k s t o p ≡ 0) × ((i : ℕ) → coeff T p i ≡ T.zero))
  reached t o [] = inr (refl, λ i. refl)
  reached t o (h ∷ p) = go (T.same h T.zero) refl (reached t (o + t) p)
    where
      rest : ℕ
      rest = top_weight k s t (o + t) p

      later : max (cond (T.same h T.zero) 0 (weight_of k s h + o)) (top_weight k s t (o + t) p)
          ≡ top_weight k s t (o + t) p → Reached t (o + t) p → Reached t o (h ∷ p)
      later f r = record {
        index = suc r.index;
        own = r.own;
        weighs = r.weighs;
        top = f ∙ r.top ∙ (let g : t * suc r.index ≡ t + t * r.index = omega arith in
            omega (arith, g));
      }

      here : max (cond (T.same h T.zero) 0 (weight_of k s h + o)) (top_weight k s t (o + t) p)
          ≡ weight_of k s h + o → T.same h T.zero ≡ false → Reached t o (h ∷ p)
      here f n = pick (weigh_element K s table h)
        where
          pick : ((w : ℕ) × Weighs k s h w) ⊎ (h ≡ T.zero) → Reached t o (h ∷ p)
          pick (inl w) = record {
            index = 0;
            own = w.0;
            weighs = w.1;
            top = omega (arith, f, weight_of-is h w.0 w.1);
          }
          pick (inr z) = absurd (differs T (table_laws K s table) (table_tests K s table) h n z)

      at_false : T.same h T.zero ≡ false
          → cond (T.same h T.zero) 0 (weight_of k s h + o) ≡ weight_of k s h + o
      at_false f = ap (λ b. cond b 0 (weight_of k s h + o)) f

      at_true : T.same h T.zero ≡ true
          → max (cond (T.same h T.zero) 0 (weight_of k s h + o)) (top_weight k s t (o + t) p)
          ≡ top_weight k s t (o + t) p
      at_true f = ap (λ b. max (cond b 0 (weight_of k s h + o)) (top_weight k s t (o + t) p)) f
          ∙ max-eq_right (omega arith)

      go : (b : Bool) → T.same h T.zero ≡ b
          → Reached t (o + t) p ⊎
          ((top_weight k s t (o + t) p ≡ 0) × ((i : ℕ) → coeff T p i ≡ T.zero))
          → Reached t o (h ∷ p) ⊎
          ((top_weight k s t o (h ∷ p) ≡ 0) × ((i : ℕ) → coeff T (h ∷ p) i ≡ T.zero))
      go true f (inl r) = inl (later (at_true f) r)
      go true f (inr z) = inr (at_true f ∙ z.0, all)
        where
          all : (i : ℕ) → coeff T (h ∷ p) i ≡ T.zero
          all zero = (table_tests K s table).same_true h T.zero f
          all (suc i) = z.1 i
      go false f (inr z) = inl (here (max-eq_left (omega (arith, z.0)) ∙ at_false f) f)
      go false f (inl r) = inl (pick (cases_lt (weight_of k s h + o)
          (top_weight k s t (o + t) p)))
        where
          pick : (weight_of k s h + o < top_weight k s t (o + t) p) ⊎
              (top_weight k s t (o + t) p ≤ weight_of k s h + o) → Reached t o (h ∷ p)
          pick (inl q) = later (max-eq_right (omega (arith, at_false f, q))) r
          pick (inr q) = here (max-eq_left (omega (arith, at_false f, q)) ∙ at_false f) f

  -- the leading polynomial is not zero, and the greatest weight is a level
  pub record HasLeading (t : ℕ) (p : List (Coords (polynomials K.ring) s.rank)) : Type 0 where
    pub level : IsLevel s (top_weight K.ring s t 0 p)
    pub index : ℕ
    pub nonzero : ¬ (coeff K.ring (leading_poly K.ring s t p) index ≡ K.zero)

  pub has_leading : (t : ℕ) → IsLevel s t → (p : List (Coords (polynomials K.ring) s.rank)) (j : ℕ)
      → ¬ (coeff (table_ring K.ring s) p j ≡ (table_ring K.ring s).zero) → HasLeading t p
  has_leading t level p j nz = go (reached t 0 p)
    where
      go : Reached t 0 p ⊎ ((top_weight k s t 0 p ≡ 0) × ((i : ℕ) → coeff T p i ≡ T.zero))
          → HasLeading t p
      go (inr z) = absurd (nz (z.1 j))
      go (inl r) = record {
        level = weighs-level K s table
            (T.mul (coeff T p r.index) (power T (monomial_at k s t) r.index))
            (top_weight k s t 0 p) weighs;
        index = r.index;
        nonzero = λ z. weighs-nonzero K s table
            (T.mul (coeff T p r.index) (power T (monomial_at k s t) r.index))
            (top_weight k s t 0 p) weighs
            (sym (leading-at K s table (at_level k s (top_weight k s t 0 p))
            (part-zero K s (class_of s (top_weight k s t 0 p)) (power_of s (top_weight k s t 0 p))
            (class-below K s table (top_weight k s t 0 p))) (monomial_at k s t) p r.index) ∙ z);
      }
        where
          weighs : Weighs k s (T.mul (coeff T p r.index) (power T (monomial_at k s t) r.index))
              (top_weight k s t 0 p)
          weighs = subst (Weighs k s (T.mul (coeff T p r.index)
              (power T (monomial_at k s t) r.index)))
              (let f : r.own + r.index * t ≡ top_weight k s t 0 p =
              omega (arith, r.top, mul_comm t r.index) in f)
              (weight-mul K s table (coeff T p r.index) (power T (monomial_at k s t) r.index) r.own
              (r.index * t) r.weighs (power-weight K s table (monomial_at k s t) t
              (monomial-weight K s table t level) (one-weight K s table) r.index))
