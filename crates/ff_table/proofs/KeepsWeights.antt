-- A map between the rings of two tables that keeps the weights of the polynomials in z keeps all
-- weights.
use Rattle.std.proofs.Common.{◌≡◌, ℕ, zero, suc, ◌+◌, ◌*◌, ◌<◌, ◌≤◌, ◌⊎◌, inl, inr, [], ◌∷◌, refl}
use Rattle.std.proofs.Common.{sym, ◌∙◌, ap, ap₂, subst, arith}
use Rattle.std.proofs.lemmas.Bool.{cases_lt}
use Rattle.ff_theory.specs.Ring.{RingOps, power}
use Rattle.ff_theory.specs.Lawful.{Field, Domain}
use Rattle.ff_theory.specs.Map.{IsMap}
use Rattle.ff_theory.specs.Sum.{sum_below}
use Rattle.ff_theory.specs.Poly.{Poly, poly, polynomials}
use Rattle.ff_theory.specs.Division.{size}
use Rattle.ff_theory.specs.Monomial.{variable}
use Rattle.ff_theory.proofs.Solver.{zero_mul}
use Rattle.ff_theory.proofs.Sums.{sum-ext}
use Rattle.ff_theory.proofs.Division.{top_nonzero}
use Rattle.ff_theory.proofs.FrobeniusPoly.{map-power}
use Rattle.ff_theory.proofs.Gcd.{no_size}
use Rattle.ff_theory.proofs.PolyMap.{polynomial_domain}
use Rattle.ff_table.proofs.Sizes.{constant-size, power-size}
use Rattle.ff_table.specs.Coords.{Coords, at}
use Rattle.ff_table.specs.Table.{Table, IsTable, table_ring, Weighs, WeighsBelow, weight_of}
use Rattle.ff_table.specs.Leading.{part, IsBelowBy}
use Rattle.ff_table.specs.Level.{at_level, z_multiple, scaled, basis}
use Rattle.ff_table.specs.Level.{monomial_at}
use Rattle.ff_table.proofs.Weights.{grows, one_weight, cancel}
use Rattle.ff_table.proofs.TableRing.{table_laws, weigh_element, zero_weight}
use Rattle.ff_table.proofs.One.{one-weight}
use Rattle.ff_table.proofs.Powers.{power-weight}
use Rattle.ff_table.proofs.Scalars.{part-zero}
use Rattle.ff_table.proofs.Levels.{level-class, level-power, is-level, weighs-nonzero}
use Rattle.ff_table.proofs.Roots.{below-add, below-mul, below-zero}
use Rattle.ff_table.proofs.Tops.{below-weight}
use Rattle.ff_table.proofs.States.{Peeled, peel}
use Rattle.ff_table.proofs.Embedding.{embed, embed_map, multiple-embed, weight-zero, weight-add}
use Rattle.ff_table.proofs.TableRing.{weight-mul}
use Rattle.ff_table.proofs.BasisSums.{map-sum, basis-sum}

module _ (K : Field) (s : Table K.ring) (table : IsTable K.ring s) (s' : Table K.ring)
    (table' : IsTable K.ring s')
    (f : Coords (polynomials K.ring) s.rank → Coords (polynomials K.ring) s'.rank)
    (map : IsMap (table_ring K.ring s) (table_ring K.ring s') f)
    (on_z : (p : Poly K.ring) (d : ℕ) → size K.ring p ≡ suc d
    → Weighs K.ring s' (f (embed K s table p)) (s.rank * d)) where
  abbrev k : RingOps
  k = K.ring

  abbrev P : Domain
  P = polynomial_domain K

  abbrev T : RingOps
  T = table_ring K.ring s

  abbrev T' : RingOps
  T' = table_ring K.ring s'

  abbrev C : Type 0
  C = Coords (polynomials K.ring) s.rank

  abbrev C' : Type 0
  C' = Coords (polynomials K.ring) s'.rank

  -- a weight and a bound
  within : (b : C') (v n : ℕ) → Weighs k s' b v → IsBelowBy k s' 0 (suc n) b → v ≤ n
  within b v n h g = go (cases_lt n v)
    where
      go : (n < v) ⊎ (v ≤ n) → v ≤ n
      go (inr l) = l
      go (inl l) = absurd (h.nonzero (g h.place h.in_range h.degree (omega (arith, l, h.level))))

  -- the weights of the images of the basis, all together
  excess : ℕ → ℕ
  excess zero = 0
  excess (suc n) = excess n + weight_of k s' (f (basis k s n))

  basis-within : (n i : ℕ) → i < n → weight_of k s' (f (basis k s i)) ≤ excess n
  unfolding excess
  basis-within zero i l = absurd (omega arith)
  basis-within (suc n) i l = go (cases_lt i n) (λ o. basis-within n i o)
    where
      go : (i < n) ⊎ (n ≤ i) → (i < n → weight_of k s' (f (basis k s i)) ≤ excess n)
          → weight_of k s' (f (basis k s i)) ≤ excess n + weight_of k s' (f (basis k s n))
      go (inl o) rest = omega (arith, rest o)
      go (inr o) rest = let e : i ≡ n = omega arith in
          omega (arith, ap (λ j. weight_of k s' (f (basis k s j))) e)

  M : ℕ
  M = excess s.rank

  -- the terms of the image of a sum
  term-below : (a : C) (t l : ℕ) → l < s.rank → WeighsBelow k s (suc t) a
      → (n : ℕ) → size k (at P.ring s.rank a l) ≡ n
      → IsBelowBy k s' 0 (suc (t + M))
      (T'.mul (f (embed K s table (at P.ring s.rank a l))) (f (basis k s l)))
  unfolding M
  term-below a t l q small zero e i r d b = ap (part k s' i d)
      (ap (λ x. T'.mul x (f (basis k s l)))
      (ap f (ap (embed K s table) (no_size K
      (at P.ring s.rank a l) e) ∙ (embed_map K s table).on_zero) ∙ map.on_zero)
      ∙ zero_mul T' (table_laws K s' table') (f (basis k s l))) ∙ part-zero K s' i d r
  term-below a t l q small (suc x) e i r d b =
      below-mul K s' table' 0 0 (suc (s.rank * x)) (suc (excess s.rank))
      (suc (s.rank * x + excess s.rank)) (f (embed K s table (at P.ring s.rank a l)))
      (f (basis k s l))
      (λ j o n c. (on_z (at P.ring s.rank a l) x e).below j o n (omega arith))
      (below-weight K s' table' (f (basis k s l)) 0 (excess s.rank)
      (omega (arith, basis-within s.rank l q)))
      (omega arith) i r d (omega (arith, b, level (cases_lt t (s.rank * x + s.weight l))))
    where
      level : (t < s.rank * x + s.weight l) ⊎ (s.rank * x + s.weight l ≤ t)
          → s.rank * x + s.weight l ≤ t
      level (inr o) = o
      level (inl o) = absurd (top_nonzero k K.laws K.tests (at P.ring s.rank a l) x e
          (small l q x o))

  sum-below : (n m : ℕ) (g : ℕ → C') → ((i : ℕ) → i < m → IsBelowBy k s' 0 n (g i))
      → IsBelowBy k s' 0 n (sum_below T' m g)
  sum-below n zero g h = below-zero K s' table' 0 n
  sum-below n (suc m) g h = below-add K s' table' 0 n (sum_below T' m g) (g m)
      (sum-below n m g (λ i l. h i (omega arith))) (h m (omega arith))

  -- weights grow by no more than a constant
  rough : (a : C) (t : ℕ) → WeighsBelow k s (suc t) a → IsBelowBy k s' 0 (suc (t + M)) (f a)
  rough a t small = subst (IsBelowBy k s' 0 (suc (t + M))) (sym sums)
      (sum-below (suc (t + M)) s.rank _
      (λ l q. term-below a t l q small (size k (at P.ring s.rank a l)) refl))
    where
      sums : f a ≡ sum_below T' s.rank
          (λ l. T'.mul (f (embed K s table (at P.ring s.rank a l))) (f (basis k s l)))
      sums = ap f (basis-sum K s a) ∙ map-sum T T' f map s.rank _
          ∙ sum-ext T' (table_laws K s' table') s.rank _ _ (λ l q.
          ap f (multiple-embed K s table (at P.ring s.rank a l) (basis k s l)) ∙ map.on_mul _ _)

  -- so they do not grow, by the powers
  no-growth : (a : C) (t v : ℕ) → Weighs k s a t → Weighs k s' (f a) v → v ≤ t
  no-growth a t v h g = go (cases_lt t v)
    where
      n : ℕ
      n = suc M

      most : suc M * v ≤ suc M * t + M
      most = within (power T' (f a) (suc M)) (suc M * v) (suc M * t + M)
          (power-weight K s' table' (f a) v g (one-weight K s' table') (suc M))
          (subst (IsBelowBy k s' 0 (suc (suc M * t + M))) (map-power T T' f map a (suc M))
          (rough (power T a (suc M)) (suc M * t)
          (power-weight K s table a t h (one-weight K s table) (suc M)).below))

      go : (t < v) ⊎ (v ≤ t) → v ≤ t
      go (inr l) = l
      go (inl l) = absurd (omega (arith, most, grows (suc M) t v l))

  lighter : (a : C) (t : ℕ) → WeighsBelow k s t a → WeighsBelow k s' t (f a)
  lighter a t small = go (weigh_element K s' table' (f a)) (weigh_element K s table a)
    where
      go : ((v : ℕ) × Weighs k s' (f a) v) ⊎ (f a ≡ T'.zero)
          → ((v : ℕ) × Weighs k s a v) ⊎ (a ≡ T.zero) → WeighsBelow k s' t (f a)
      go (inr z) b = λ l q d r. ap (part k s' l d) z ∙ part-zero K s' l d q
      go (inl h) (inr z) = absurd (zero_weight K s' table' h.0
          (subst (λ b. Weighs k s' b h.0) (ap f z ∙ map.on_zero) h.1))
      go (inl h) (inl g) = λ l q d r. h.1.below l q d
          (omega (arith, r, no-growth a g.0 h.0 g.1 h.1, less (cases_lt g.0 t)))
        where
          less : (g.0 < t) ⊎ (t ≤ g.0) → g.0 < t
          less (inl o) = o
          less (inr o) = absurd (g.1.nonzero
              (small g.1.place g.1.in_range g.1.degree (omega (arith, o, g.1.level))))

  -- and they are kept
  pub keeps-weight : (a : Coords (polynomials K.ring) s.rank) (t : ℕ) → Weighs K.ring s a t
      → Weighs K.ring s' (f a) t
  keeps-weight a t h = go (weigh_element K s' table' (f a))
    where
      -- the level of z^t
      L : ℕ
      L = s.rank * t + s.weight 0

      pos : 0 < s.rank
      pos = table.algebra.positive

      y : C
      y = power T a s.rank

      y-weight : Weighs k s y L
      y-weight = subst (Weighs k s y) (omega (arith, weight-zero K s table))
          (power-weight K s table a t h (one-weight K s table) s.rank)

      p : Peeled K s table L y
      p = peel K s table L (is-level K s table 0 t pos) y y-weight.below

      c : K.carrier
      c = at_level k s L y

      c-size : size k (poly k (c ∷ [])) ≡ 1
      c-size = constant-size K c (weighs-nonzero K s table y L y-weight)

      monomial : monomial_at k s L ≡ embed K s table (power P.ring (variable k) t)
      monomial = ap₂ (λ n i. z_multiple k s (power P.ring (variable k) n) (basis k s i))
          (level-power K s table 0 t pos) (level-class K s table 0 t pos)

      lead : Weighs k s' (f (scaled k s c (monomial_at k s L))) (s.rank * t)
      lead = subst (Weighs k s' (f (scaled k s c (monomial_at k s L))))
          (let e : s.rank * 0 + s.rank * t ≡ s.rank * t = omega arith in e)
          (subst (λ b. Weighs k s' b (s.rank * 0 + s.rank * t))
          (sym (ap f (multiple-embed K s table (poly k (c ∷ [])) (monomial_at k s L)
          ∙ ap (T.mul (embed K s table (poly k (c ∷ [])))) monomial) ∙ map.on_mul _ _))
          (weight-mul K s' table' (f (embed K s table (poly k (c ∷ []))))
          (f (embed K s table (power P.ring (variable k) t))) (s.rank * 0) (s.rank * t)
          (on_z (poly k (c ∷ [])) 0 c-size)
          (on_z (power P.ring (variable k) t) t (power-size K t))))

      whole : Weighs k s' (power T' (f a) s.rank) (s.rank * t)
      whole = subst (λ b. Weighs k s' b (s.rank * t))
          (sym (map.on_add _ _) ∙ ap f (sym p.sum) ∙ map-power T T' f map a s.rank)
          (weight-add K s' table' (f (scaled k s c (monomial_at k s L))) (f p.rest) (s.rank * t)
          lead
          (λ l q d r. lighter p.rest L p.small l q d (omega (arith, r, weight-zero K s table))))

      go : ((v : ℕ) × Weighs k s' (f a) v) ⊎ (f a ≡ T'.zero) → Weighs k s' (f a) t
      go (inl v) = subst (Weighs k s' (f a)) (cancel s.rank pos v.0 t
          (one_weight k s'.rank s'.weight table'.classes _ (s.rank * v.0) (s.rank * t)
          (power-weight K s' table' (f a) v.0 v.1 (one-weight K s' table') s.rank) whole)) v.1
      go (inr z) = absurd (none s.rank pos whole)
        where
          none : (n : ℕ) → 0 < n → ¬ (Weighs k s' (power T' (f a) n) (s.rank * t))
          none zero l g = absurd (omega arith)
          none (suc n) l g = zero_weight K s' table' (s.rank * t)
              (subst (λ b. Weighs k s' b (s.rank * t))
              (ap (λ b. T'.mul b (power T' (f a) n)) z
              ∙ zero_mul T' (table_laws K s' table') (power T' (f a) n)) g)
