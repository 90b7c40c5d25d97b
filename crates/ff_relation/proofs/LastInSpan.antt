-- Of more vectors than entries one is a combination of those before it.
use Rattle.std.proofs.Common.{◌≡◌, ℕ, zero, suc, ◌<◌, ◌≤◌, ◌⊎◌, inl, inr, sym, ◌∙◌, ap, ap₂, subst}
use Rattle.std.proofs.Common.{arith, refl}
use Rattle.std.proofs.lemmas.Bool.{cases_lt}
use Rattle.ff_theory.specs.Ring.{RingOps}
use Rattle.ff_theory.specs.Lawful.{Field}
use Rattle.ff_theory.specs.Lists.{listed}
use Rattle.ff_theory.specs.Poly.{coeff}
use Rattle.ff_theory.specs.Span.{InSpan, Dependence, combination}
use Rattle.ff_theory.specs.Sum.{sum_below}
use Rattle.ff_theory.proofs.Dependence.{dependence}
use Rattle.ff_theory.proofs.Listed.{listed-at, listed-past}
use Rattle.ff_theory.proofs.Solver.{◌⊕◌, ◌⊗◌, neg, nil, unit, ring1, ring2, ring4, mul_zero}
use Rattle.ff_theory.proofs.Solver.{zero_mul}
use Rattle.ff_theory.proofs.Sums.{sum-ext, sum-zero, sum-mul}
use Rattle.ff_theory.proofs.Domains.{field_domain}
use Rattle.ff_table.proofs.RootOrders.{last}

-- n vectors of length n, of which none is a combination of those before it, have each vector as a
-- combination
module _ (K : Field) where
  abbrev k : RingOps
  k = K.ring

  cut : (n m : ℕ) (g : ℕ → K.carrier) → m ≤ n → ((i : ℕ) → m ≤ i → i < n → g i ≡ k.zero)
      → sum_below k n g ≡ sum_below k m g
  cut zero m g l h = let e : 0 ≡ m = omega arith in ap (λ i. sum_below k i g) e
  cut (suc n) m g l h = go (cases_lt n m) (λ q. cut n m g q (λ i a b. h i a (omega arith)))
    where
      go : (n < m) ⊎ (m ≤ n) → (m ≤ n → sum_below k n g ≡ sum_below k m g)
          → sum_below k (suc n) g ≡ sum_below k m g
      go (inl q) rest = let e : suc n ≡ m = omega arith in ap (λ i. sum_below k i g) e
      go (inr q) rest = ap₂ K.add (rest q) (h n q (omega arith)) ∙ K.laws.add_zero _

  pub last-in_span : (n : ℕ) (v : ℕ → ℕ → K.carrier)
      → ((i j : ℕ) → i < suc n → n ≤ j → v i j ≡ K.zero)
      → ((i : ℕ) → i < n → ¬ (InSpan K.ring i v (v i))) → InSpan K.ring n v (v n)
  last-in_span n v ends alone = place (cases_lt m.0 n) (cases_lt m.0 (suc n))
    where
      d : Dependence k (suc n) n v
      d = dependence (field_domain K) n (suc n) v (omega arith)

      c : ℕ → K.carrier
      c i = coeff k (listed (suc n) d.coefficients) i

      m : (m : ℕ) × ((i : ℕ) → m < i → c i ≡ K.zero) × ¬ (c m ≡ K.zero)
      m = last (field_domain K) n c (λ i l. listed-past k (suc n) d.coefficients i l) d.index
          (λ z. d.nonzero (sym (listed-at k (suc n) d.coefficients d.index d.below) ∙ z))

      inv : K.carrier
      inv = K.inverse (c m.0)

      span : m.0 < suc n → InSpan k m.0 v (v m.0)
      span l = record {
        coefficients = λ i. K.mul (K.neg inv) (c i);
        sum = λ j. at j (cases_lt j n);
      }
        where
          at : (j : ℕ) → (j < n) ⊎ (n ≤ j)
              → v m.0 j ≡ combination k m.0 (λ i. K.mul (K.neg inv) (c i)) v j
          at j (inr o) = ends m.0 j l o ∙ sym (sum-ext k K.laws m.0 _ (λ i. k.zero)
              (λ i q. ap (K.mul (K.mul (K.neg inv) (c i))) (ends i j (omega (arith, q, l)) o)
              ∙ mul_zero k K.laws _) ∙ sum-zero k K.laws m.0)
          at j (inl o) = solve (v m.0 j) (sum_below k m.0 (λ i. K.mul (c i) (v i j))) whole
              ∙ sym (sum-mul k K.laws m.0 (K.neg inv) (λ i. K.mul (c i) (v i j)))
              ∙ sum-ext k K.laws m.0 _ _ (λ i q. sym (K.laws.mul_assoc (K.neg inv) (c i) (v i j)))
            where
              whole : K.add (sum_below k m.0 (λ i. K.mul (c i) (v i j)))
                  (K.mul (c m.0) (v m.0 j)) ≡ K.zero
              whole = sym (cut (suc n) (suc m.0) (λ i. K.mul (c i) (v i j)) (omega (arith, l))
                  (λ i a b. ap (λ t. K.mul t (v i j)) (m.1 i a) ∙ zero_mul k K.laws _))
                  ∙ sum-ext k K.laws (suc n) _ _ (λ i q. ap (λ t. K.mul t (v i j))
                  (listed-at k (suc n) d.coefficients i q)) ∙ d.sum j o

              solve : (p t : K.carrier) → K.add t (K.mul (c m.0) p) ≡ K.zero
                  → p ≡ K.mul (K.neg inv) t
              solve p t e = ring1 k K.laws (λ p. p) (λ p. unit ⊗ p) refl p
                  ∙ ap (λ o. K.mul o p) (sym (K.is_field.mul_inverse (c m.0) m.2))
                  ∙ ring4 k K.laws (λ a v p t. (a ⊗ v) ⊗ p)
                  (λ a v p t. v ⊗ ((t ⊕ a ⊗ p) ⊕ neg t)) refl (c m.0) inv p t
                  ∙ ap (λ o. K.mul inv (K.add o (K.neg t))) e
                  ∙ ring2 k K.laws (λ v t. v ⊗ (nil ⊕ neg t)) (λ v t. neg v ⊗ t) refl inv t

      place : (m.0 < n) ⊎ (n ≤ m.0) → (m.0 < suc n) ⊎ (suc n ≤ m.0) → InSpan k n v (v n)
      place (inl l) b = absurd (alone m.0 l (span (omega (arith, l))))
      place (inr l) (inr b) = absurd (m.2 (listed-past k (suc n) d.coefficients m.0 b))
      place (inr l) (inl b) = let e : m.0 ≡ n = omega (arith, l, b) in
          subst (λ i. InSpan k i v (v i)) e (span b)
