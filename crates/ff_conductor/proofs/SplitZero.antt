-- Where h_0^p + x*h_1^p + .. + x^(p-1)*h_(p-1)^p is 0 each h_r is 0.
use Rattle.std.proofs.Common.{◌≡◌, ℕ, zero, suc, ◌-◌, ◌+◌ as plus_ℕ, ◌*◌ as times_ℕ, ◌/◌, ◌%◌, ◌<◌}
use Rattle.std.proofs.Common.{◌≤◌, Bool, true, false, refl, sym, ◌∙◌, ap, ap₂, subst, arith}
use Rattle.std.proofs.lemmas.Nat.{div-mul-add, mod-mul-add}
use Rattle.ff_theory.specs.Ring.{power}
use Rattle.ff_theory.specs.Lawful.{Domain, Field}
use Rattle.ff_theory.specs.Sum.{sum_below}
use Rattle.ff_theory.specs.Poly.{coeff, Poly, polynomials}
use Rattle.ff_theory.specs.Division.{size}
use Rattle.ff_theory.specs.Eval.{eval}
use Rattle.ff_theory.proofs.Solver.{◌⊗◌, unit, ring1, ring3, mul_zero}
use Rattle.ff_theory.specs.Map.{IsMap}
use Rattle.ff_theory.proofs.Powers.{power-add, power-mul}
use Rattle.ff_theory.proofs.Frobenius.{HasCharacteristic, power-power}
use Rattle.ff_theory.proofs.FrobeniusPoly.{map-power}
use Rattle.ff_theory.proofs.Sums.{sum-ext, sum-mul, sum-swap}
use Rattle.ff_theory.proofs.Division.{const, x, size_le}
use Rattle.ff_theory.proofs.Evaluate.{const_map, is_eval}
use Rattle.ff_theory.proofs.PolyMap.{polynomial_domain, not_same}
use Rattle.ff_charts.proofs.Rows.{polynomial_of, polynomial_at, polynomial_past, equal_below}
use Rattle.ff_charts.proofs.Rows.{value_sum, value_of_listed}
use Rattle.ff_charts.proofs.InvertedChart.{bound}
use Rattle.ff_conductor.proofs.PowerParts.{power-sums}
use Rattle.ff_conductor.proofs.Trace.{sum-blocks}

module _ (K : Field) where
  -- an element whose power is 0 is 0
  pub power_root : (a : K.carrier) (n : ℕ) → power K.ring a n ≡ K.zero → a ≡ K.zero
  power_root a zero e = absurd (K.is_field.one_not_zero e)
  power_root a (suc n) e = go (K.same a K.zero) refl (power_root a n)
    where
      go : (b : Bool) → K.same a K.zero ≡ b → (power K.ring a n ≡ K.zero → a ≡ K.zero) → a ≡ K.zero
      go true h rest = K.tests.same_true a K.zero h
      go false h rest = rest (ring1 K.ring K.laws (λ p. p) (λ p. unit ⊗ p) refl (power K.ring a n)
          ∙ ap (λ t. K.mul t (power K.ring a n))
          (sym (K.is_field.mul_inverse a (not_same K.ring K.tests a K.zero h)))
          ∙ ring3 K.ring K.laws (λ a i p. (a ⊗ i) ⊗ p) (λ a i p. i ⊗ (a ⊗ p)) refl a (K.inverse a)
          (power K.ring a n) ∙ ap (K.mul (K.inverse a)) e
          ∙ mul_zero K.ring K.laws (K.inverse a))

module _ (K : Field) (q : ℕ) (charP : HasCharacteristic (polynomials K.ring) (suc q)) where
  infixl 70 ◌*◌
  open polynomials K.ring use {mul as ◌*◌}

  abbrev P : Domain
  P = polynomial_domain K

  abbrev X : Poly K.ring
  X = x K.ring K.laws K.tests

  abbrev C : K.carrier → Poly K.ring
  C a = const K.ring K.laws K.tests a

  abbrev p : ℕ
  p = suc q

  CM : IsMap K.ring (polynomials K.ring) (const K.ring K.laws K.tests)
  CM = const_map K.ring K.laws K.tests

  identity : IsMap (polynomials K.ring) (polynomials K.ring) (λ h. h)
  identity = record {
    on_zero = refl;
    on_one = refl;
    on_add = λ a b. refl;
    on_neg = λ a. refl;
    on_mul = λ a b. refl;
  }

  at_itself : (h : Poly K.ring) → h
      ≡ eval K.ring (polynomials K.ring) (const K.ring K.laws K.tests) (x K.ring K.laws K.tests) h
  at_itself h = is_eval K.ring (polynomials K.ring) K.laws K.tests (λ h. h) identity h

  pub split_p_zero : (a : ℕ → Poly K.ring)
      → sum_below (polynomials K.ring) (suc q)
      (λ r. (polynomials K.ring).mul (power (polynomials K.ring) (x K.ring K.laws K.tests) r)
      (power (polynomials K.ring) (a r) (suc q))) ≡ (polynomials K.ring).zero
      → (r : ℕ) → r < suc q → a r ≡ (polynomials K.ring).zero
  split_p_zero a e r l = equal_below K.ring K.laws K.tests (a r) P.zero m (sizes.1 r l) none
      (λ i s. power_root K (coeff K.ring (a r).coeffs i) p (at i s) ∙ sym (zero_coeff i))
    where
      sizes : (b : ℕ) × ((i : ℕ) → i < p → size K.ring (a i) ≤ b)
      sizes = bound p (λ r. size K.ring (a r))

      m : ℕ
      m = sizes.0

      zero_coeff : (i : ℕ) → coeff K.ring P.zero.coeffs i ≡ K.zero
      zero_coeff i = polynomial_past K.ring K.laws K.tests 0 (λ i. K.zero) i (omega arith)

      none : size K.ring P.zero ≤ m
      none = size_le K.ring K.laws K.tests P.zero m (λ i s. zero_coeff i)

      b : ℕ → K.carrier
      b k = power K.ring (coeff K.ring (a (k % p)).coeffs (k / p)) p

      b_at : (i r : ℕ) → r < p → b (plus_ℕ (times_ℕ i p) r)
          ≡ power K.ring (coeff K.ring (a r).coeffs i) p
      b_at i r l = ap₂ (λ s j. power K.ring (coeff K.ring (a s).coeffs j) p) (mod-mul-add i p r l)
          (div-mul-add i p r l)

      one : (i r : ℕ) → r < p → C (b (plus_ℕ (times_ℕ i p) r)) * power P.ring X (plus_ℕ (times_ℕ i
          p) r) ≡ power P.ring X r * power P.ring
          (C (coeff K.ring (a r).coeffs i) * power P.ring X i) p
      one i r l = ap₂ P.mul (ap C (b_at i r l) ∙ map-power K.ring P.ring C CM (coeff K.ring (a
          r).coeffs i) p) (power-add P.ring P.laws X (times_ℕ i p) r
          ∙ ap (λ t. P.mul t (power P.ring X r))
          ((let z : times_ℕ i p ≡ times_ℕ p i = omega arith in ap (power P.ring X) z)
          ∙ sym (power-power P.ring P.laws X i p)))
          ∙ ring3 P.ring P.laws (λ c t w. c ⊗ (t ⊗ w)) (λ c t w. w ⊗ (c ⊗ t)) refl
          (power P.ring (C (coeff K.ring (a r).coeffs i)) p) (power P.ring (power P.ring X i) p)
          (power P.ring X r)
          ∙ ap (P.mul (power P.ring X r))
          (sym (power-mul P.ring P.laws (C (coeff K.ring (a r).coeffs i)) (power P.ring X i) p))

      whole : polynomial_of K.ring K.laws K.tests (times_ℕ m p) b ≡ P.zero
      whole = at_itself (polynomial_of K.ring K.laws K.tests (times_ℕ m p) b)
          ∙ value_of_listed K.ring K.laws K.tests P.ring P.laws C CM.on_zero X (times_ℕ m p) b
          ∙ sum-blocks P.ring P.laws m p _
          ∙ sum-ext P.ring P.laws m _ _ (λ i s. sum-ext P.ring P.laws p _ _ (λ r t. one i r t))
          ∙ sum-swap P.ring P.laws m p (λ i r. power P.ring X r * power P.ring (C (coeff K.ring (a
          r).coeffs i) * power P.ring X i) p)
          ∙ sum-ext P.ring P.laws p _ _ (λ r t. sum-mul P.ring P.laws m (power P.ring X r) _ ∙ ap
          (P.mul (power P.ring X r)) (sym (power-sums P.ring P.laws p charP m _) ∙ ap (λ h.
          power P.ring h p)
          (sym (value_sum K.ring K.laws K.tests P.ring P.laws C CM.on_zero X (a r) m (sizes.1 r t))
          ∙ sym (at_itself (a r)))))
          ∙ e

      inside : (i : ℕ) → i < m → plus_ℕ (times_ℕ i p) r < times_ℕ m p
      inside i s = let z : m ≡ plus_ℕ (suc i) (m - suc i) = omega arith in subst (λ k. plus_ℕ
          (times_ℕ i p) r < times_ℕ k p) (sym z) (more (m - suc i))
        where
          more : (d : ℕ) → plus_ℕ (times_ℕ i p) r < times_ℕ (plus_ℕ (suc i) d) p
          more d = let z : times_ℕ (plus_ℕ (suc i) d) (suc q)
              ≡ plus_ℕ (plus_ℕ (times_ℕ i (suc q)) (suc q)) (times_ℕ d (suc q)) = omega arith in
              omega (arith, z, l)

      at : (i : ℕ) → i < m → power K.ring (coeff K.ring (a r).coeffs i) p ≡ K.zero
      at i s = sym (b_at i r l) ∙ sym (polynomial_at K.ring K.laws K.tests (times_ℕ m p) b (plus_ℕ
          (times_ℕ i p) r) (inside i s))
          ∙ ap (λ (h : Poly K.ring). coeff K.ring h.coeffs (plus_ℕ (times_ℕ i p) r)) whole
          ∙ zero_coeff (plus_ℕ (times_ℕ i p) r)
