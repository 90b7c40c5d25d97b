-- More than n elements that are zero at the levels from n on have a relation over k.
use Rattle.std.proofs.Common.{◌≡◌, ℕ, zero, suc, ◌+◌, ◌*◌, ◌<◌, ◌≤◌, ◌⊎◌, inl, inr, refl, sym, ◌∙◌}
use Rattle.std.proofs.Common.{ap, ap₂, arith}
use Rattle.std.proofs.lemmas.Bool.{cases_lt}
use Rattle.ff_theory.specs.Ring.{RingOps}
use Rattle.ff_theory.specs.Lawful.{Field, Domain}
use Rattle.ff_theory.specs.Sum.{sum_below}
use Rattle.ff_theory.specs.Poly.{coeff, polynomials}
use Rattle.ff_theory.proofs.Solver.{◌⊕◌, ◌⊗◌, neg, nil, unit, ring1, ring2, ring3, ring4, mul_zero}
use Rattle.ff_theory.proofs.Solver.{zero_mul}
use Rattle.ff_theory.proofs.Sums.{sum-ext, sum-zero, sum-mul}
use Rattle.ff_theory.proofs.PolyMap.{polynomial_domain}
use Rattle.ff_theory.specs.Span.{Dependence}
use Rattle.ff_theory.proofs.Dependence.{dependence}
use Rattle.ff_theory.specs.Lists.{listed}
use Rattle.ff_theory.proofs.Listed.{listed-at, listed-past}
use Rattle.ff_theory.proofs.Domains.{field_domain}
use Rattle.ff_table.proofs.RootOrders.{last}
use Rattle.ff_table.specs.Coords.{Coords, at}
use Rattle.ff_table.specs.Table.{Table, IsTable, table_ring}
use Rattle.ff_table.specs.Weight.{IsBelow}
use Rattle.ff_table.specs.Leading.{part}
use Rattle.ff_table.specs.Level.{at_level, scaled}
use Rattle.ff_table.proofs.Levels.{part-level}
use Rattle.ff_table.proofs.Scalars.{part-zero, part-sum, part-ext}

-- a k-relation of r elements, not all of whose coefficients are zero
pub record LinearRelation (K : Field) (s : Table K.ring) (r : ℕ)
    (f : ℕ → Coords (polynomials K.ring) s.rank) : Type 0 where
  pub coefficients : ℕ → K.carrier
  pub place : ℕ
  pub below : place < r
  pub nonzero : ¬ (coefficients place ≡ K.zero)
  pub sum : sum_below (table_ring K.ring s) r (λ i. scaled K.ring s (coefficients i) (f i))
      ≡ (table_ring K.ring s).zero

module _ (K : Field) (s : Table K.ring) (table : IsTable K.ring s) where
  abbrev T : RingOps
  T = table_ring K.ring s

  abbrev k : RingOps
  k = K.ring

  abbrev P : Domain
  P = polynomial_domain K

  pub linear_relation : (n : ℕ) (f : ℕ → Coords (polynomials K.ring) s.rank)
      → ((i : ℕ) → i < suc n → IsBelow K.ring s.rank s.weight n
      (at (polynomials K.ring) s.rank (f i)))
      → LinearRelation K s (suc n) f
  linear_relation n f small = record {
    coefficients = d.coefficients;
    place = d.index;
    below = d.below;
    nonzero = d.nonzero;
    sum = part-ext K s _ T.zero (λ l x q. part-sum K s l x q (suc n) d.coefficients f
        ∙ each l x q (cases_lt (s.rank * x + s.weight l) n) ∙ sym (part-zero K s l x q));
  }
    where
      d : Dependence k (suc n) n (λ i t. at_level k s t (f i))
      d = dependence (field_domain K) n (suc n)
          (λ i t. at_level k s t (f i)) (omega arith)

      each : (l x : ℕ) → l < s.rank → (s.rank * x + s.weight l < n) ⊎ (n ≤ s.rank * x + s.weight l)
          → sum_below k (suc n) (λ i. K.mul (d.coefficients i) (part k s l x (f i))) ≡ k.zero
      each l x q (inl r) = sum-ext k K.laws (suc n) _ _
          (λ i o. ap (K.mul (d.coefficients i)) (sym (part-level K s table l x q (f i))))
          ∙ d.sum (s.rank * x + s.weight l) r
      each l x q (inr r) = sum-ext k K.laws (suc n) _ (λ i. k.zero)
          (λ i o. ap (K.mul (d.coefficients i)) (small i o l q x r) ∙ mul_zero k K.laws _)
          ∙ sum-zero k K.laws (suc n)

  cut : (n m : ℕ) (g : ℕ → K.carrier) → m ≤ n → ((i : ℕ) → m ≤ i → i < n → g i ≡ k.zero)
      → sum_below k n g ≡ sum_below k m g
  cut zero m g l h = let e : 0 ≡ m = omega arith in ap (λ i. sum_below k i g) e
  cut (suc n) m g l h = go (cases_lt n m) (λ q. cut n m g q (λ i a b. h i a (omega arith)))
    where
      go : (n < m) ⊎ (m ≤ n) → (m ≤ n → sum_below k n g ≡ sum_below k m g)
          → sum_below k (suc n) g ≡ sum_below k m g
      go (inl q) rest = let e : suc n ≡ m = omega arith in ap (λ i. sum_below k i g) e
      go (inr q) rest = ap₂ K.add (rest q) (h n q (omega arith)) ∙ K.laws.add_zero _

  -- an element that is a combination of those before it
  pub record Combination (f : ℕ → Coords (polynomials K.ring) s.rank) (n : ℕ) : Type 0 where
    pub index : ℕ
    pub below : index ≤ n
    pub coefficients : ℕ → K.carrier
    pub sum : f index ≡ sum_below (table_ring K.ring s) index
        (λ i. scaled K.ring s (coefficients i) (f i))

  pub combination : (n : ℕ) (f : ℕ → Coords (polynomials K.ring) s.rank)
      → ((i : ℕ) → i < suc n → IsBelow K.ring s.rank s.weight n
      (at (polynomials K.ring) s.rank (f i)))
      → Combination f n
  combination n f small = record {
    index = m.0;
    below = below (cases_lt m.0 (suc n));
    coefficients = λ i. K.neg (K.mul inv (c i));
    sum = part-ext K s (f m.0) _ each;
  }
    where
      r : LinearRelation K s (suc n) f
      r = linear_relation n f small

      c : ℕ → K.carrier
      c i = coeff k (listed (suc n) r.coefficients) i

      m : (m : ℕ) × ((i : ℕ) → m < i → c i ≡ K.zero) × ¬ (c m ≡ K.zero)
      m = last (field_domain K) n c (λ i l. listed-past k (suc n) r.coefficients i l) r.place
          (λ z. r.nonzero (sym (listed-at k (suc n) r.coefficients r.place r.below) ∙ z))

      inv : K.carrier
      inv = K.inverse (c m.0)

      below : (m.0 < suc n) ⊎ (suc n ≤ m.0) → m.0 ≤ n
      below (inl l) = omega arith
      below (inr l) = absurd (m.2 (listed-past k (suc n) r.coefficients m.0 l))

      each : (l d : ℕ) → l < s.rank → part k s l d (f m.0)
          ≡ part k s l d (sum_below T m.0 (λ i. scaled k s (K.neg (K.mul inv (c i))) (f i)))
      each l d q =
          solve (part k s l d (f m.0)) (sum_below k m.0 (λ i. K.mul (c i) (part k s l d (f i))))
          zero_sum
          ∙ sym (sum-mul k K.laws m.0 (K.neg inv) (λ i. K.mul (c i) (part k s l d (f i))))
          ∙ sum-ext k K.laws m.0 _ _ (λ i o. ring3 k K.laws (λ v c p. neg v ⊗ (c ⊗ p))
          (λ v c p. neg (v ⊗ c) ⊗ p) refl inv (c i) (part k s l d (f i)))
          ∙ sym (part-sum K s l d q m.0 (λ i. K.neg (K.mul inv (c i))) f)
        where
          zero_sum : K.add (sum_below k m.0 (λ i. K.mul (c i) (part k s l d (f i))))
              (K.mul (c m.0) (part k s l d (f m.0))) ≡ K.zero
          zero_sum = sym (cut (suc n) (suc m.0) (λ i. K.mul (c i) (part k s l d (f i)))
              (omega (arith, below (cases_lt m.0 (suc n))))
              (λ i a b. ap (λ t. K.mul t (part k s l d (f i))) (m.1 i a) ∙ zero_mul k K.laws _))
              ∙ sum-ext k K.laws (suc n) _ _ (λ i o. ap (λ t. K.mul t (part k s l d (f i)))
              (listed-at k (suc n) r.coefficients i o))
              ∙ sym (part-sum K s l d q (suc n) r.coefficients f) ∙ ap (part k s l d) r.sum
              ∙ part-zero K s l d q

          solve : (p t : K.carrier) → K.add t (K.mul (c m.0) p) ≡ K.zero → p ≡ K.mul (K.neg inv) t
          solve p t e = ring1 k K.laws (λ p. p) (λ p. unit ⊗ p) refl p
              ∙ ap (λ o. K.mul o p) (sym (K.is_field.mul_inverse (c m.0) m.2))
              ∙ ring4 k K.laws (λ a v p t. (a ⊗ v) ⊗ p) (λ a v p t. v ⊗ ((t ⊕ a ⊗ p) ⊕ neg t)) refl
              (c m.0) inv p t
              ∙ ap (λ o. K.mul inv (K.add o (K.neg t))) e
              ∙ ring2 k K.laws (λ v t. v ⊗ (nil ⊕ neg t)) (λ v t. neg v ⊗ t) refl inv t
