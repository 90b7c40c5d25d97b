-- Polynomials in 1/t: the reversal of coefficients, and its value.
use Rattle.std.proofs.Common.{◌≡◌, ℕ, zero, suc, ◌-◌, ◌+◌ as plus_ℕ, ◌<◌, ◌≤◌, refl, sym, ◌∙◌, ap}
use Rattle.std.proofs.Common.{ap₂, arith}
use Rattle.ff_theory.specs.Ring.{RingOps, IsCommRing, power}
use Rattle.ff_theory.specs.Lawful.{Field}
use Rattle.ff_theory.specs.Sum.{sum_below}
use Rattle.ff_theory.specs.Poly.{coeff, Poly, polynomials}
use Rattle.ff_theory.specs.Division.{size}
use Rattle.ff_theory.specs.Eval.{eval}
use Rattle.ff_theory.proofs.Solver.{◌⊗◌, ring3}
use Rattle.ff_theory.specs.Map.{IsMap}
use Rattle.ff_theory.proofs.Series.{tail}
use Rattle.ff_theory.proofs.Sums.{sum-ext, sum-front, sum-mul}
use Rattle.ff_theory.proofs.Powers.{power-add, power-mul, power-one}
use Rattle.ff_theory.proofs.Division.{size_le}
use Rattle.ff_theory.specs.Reversal.{reversal}
use Rattle.ff_charts.proofs.Rows.{polynomial_at, polynomial_past, polynomial_size, equal_below}
use Rattle.ff_charts.proofs.Rows.{value_sum, value_of_listed}

module _ (R : RingOps) (laws : IsCommRing R) where
  infixl 60 ◌+◌
  infixl 70 ◌*◌
  open R use {add as ◌+◌, mul as ◌*◌, carrier as C}

  -- a sum from its last term to its first
  pub sum-reverse : (m : ℕ) (g : ℕ → C) → sum_below R (suc m) g
      ≡ sum_below R (suc m) (λ i. g (m - i))
  sum-reverse zero g = refl
  sum-reverse (suc m) g = sum-front R laws (suc m) g ∙ ap (λ t. g zero + t) (sum-reverse m (tail g))
      ∙ laws.add_comm (g zero) (sum_below R (suc m) (λ i. tail g (m - i)))
      ∙ ap₂ (λ s t. s + t) (sum-ext R laws (suc m) _ _
      (λ i l. let e : suc (m - i) ≡ suc m - i = omega arith in ap g e))
      (let e : 0 ≡ suc m - suc m = omega arith in ap g e)

  -- powers of an element and of its inverse
  pub power-inverse : (u t : C) → t * u ≡ R.one → (n : ℕ) → power R u n * power R t n ≡ R.one
  power-inverse u t h n = sym (power-mul R laws u t n)
      ∙ ap (λ s. power R s n) (laws.mul_comm u t ∙ h) ∙ power-one R laws n

  pub power-less : (u t : C) → t * u ≡ R.one → (m i : ℕ) → i ≤ m → power R u m * power R t i
      ≡ power R u (m - i)
  power-less u t h m i l = let e : m ≡ plus_ℕ (m - i) i = omega arith in
      ap (λ k. power R u k * power R t i) e
      ∙ ap (λ s. s * power R t i) (power-add R laws u (m - i) i)
      ∙ laws.mul_assoc (power R u (m - i)) (power R u i) (power R t i)
      ∙ ap (λ s. power R u (m - i) * s) (power-inverse u t h i) ∙ laws.mul_one (power R u (m - i))

module _ (K : Field) where
  pub reversal_at : (m : ℕ) (h : Poly K.ring) (i : ℕ) → i ≤ m
      → coeff K.ring (reversal K.ring m h).coeffs i ≡ coeff K.ring h.coeffs (m - i)
  unfolding reversal
  reversal_at m h i l = polynomial_at K.ring K.laws K.tests (suc m)
      (λ i. coeff K.ring h.coeffs (m - i)) i (omega arith)

  pub reversal_past : (m : ℕ) (h : Poly K.ring) (i : ℕ) → m < i
      → coeff K.ring (reversal K.ring m h).coeffs i ≡ K.zero
  unfolding reversal
  reversal_past m h i l = polynomial_past K.ring K.laws K.tests (suc m)
      (λ i. coeff K.ring h.coeffs (m - i)) i (omega arith)

  pub reversal_size : (m : ℕ) (h : Poly K.ring) → size K.ring (reversal K.ring m h) ≤ suc m
  unfolding reversal
  reversal_size m h = polynomial_size K.ring K.laws K.tests (suc m)
      (λ i. coeff K.ring h.coeffs (m - i))

  -- twice is once back
  pub reversal_twice : (m : ℕ) (h : Poly K.ring) → size K.ring h ≤ suc m
      → reversal K.ring m (reversal K.ring m h) ≡ h
  reversal_twice m h l = equal_below K.ring K.laws K.tests (reversal K.ring m (reversal K.ring m h))
      h (suc m) (reversal_size m (reversal K.ring m h)) l
      (λ i q. reversal_at m (reversal K.ring m h) i (omega arith)
      ∙ reversal_at m h (m - i) (omega arith)
      ∙ (let e : m - (m - i) ≡ i = omega arith in ap (coeff K.ring h.coeffs) e))

  -- and 0 comes from 0 alone
  pub reversal_nonzero : (m : ℕ) (h : Poly K.ring) → size K.ring h ≤ suc m → reversal K.ring m h
      ≡ (polynomials K.ring).zero → h ≡ (polynomials K.ring).zero
  reversal_nonzero m h l e = sym (reversal_twice m h l) ∙ ap (reversal K.ring m) e
      ∙ equal_below K.ring K.laws K.tests (reversal K.ring m (polynomials K.ring).zero)
      (polynomials K.ring).zero (suc m)
      (reversal_size m (polynomials K.ring).zero) none
      (λ i q. reversal_at m (polynomials K.ring).zero i (omega arith) ∙ zero_coeff (m - i)
      ∙ sym (zero_coeff i))
    where
      zero_coeff : (i : ℕ) → coeff K.ring (polynomials K.ring).zero.coeffs i ≡ K.zero
      zero_coeff i = polynomial_past K.ring K.laws K.tests 0 (λ i. K.zero) i (omega arith)

      none : size K.ring (polynomials K.ring).zero ≤ suc m
      none = size_le K.ring K.laws K.tests (polynomials K.ring).zero (suc m) (λ i l. zero_coeff i)

  -- u^m * h(1/u) is the value of the reversal at u
  module _ (A : RingOps) (AL : IsCommRing A) (constant : K.carrier → A.carrier)
      (map : IsMap K.ring A constant) (u t : A.carrier) (inverse : A.mul t u ≡ A.one) where
    pub reversal_value : (m : ℕ) (h : Poly K.ring) → size K.ring h ≤ suc m
        → A.mul (power A u m) (eval K.ring A constant t h)
        ≡ eval K.ring A constant u (reversal K.ring m h)
    unfolding reversal
    reversal_value m h l =
        ap (A.mul (power A u m)) (value_sum K.ring K.laws K.tests A AL constant map.on_zero t h (suc
        m) l)
        ∙ sym (sum-mul A AL (suc m) (power A u m) _)
        ∙ sum-ext A AL (suc m) _ (λ i. A.mul (constant (coeff K.ring h.coeffs i)) (power A u (m -
        i))) (λ i q.
        ring3 A AL (λ p c q. p ⊗ (c ⊗ q)) (λ p c q. c ⊗ (p ⊗ q)) refl (power A u m)
        (constant (coeff K.ring h.coeffs i)) (power A t i)
        ∙ ap (A.mul (constant (coeff K.ring h.coeffs i)))
        (power-less A AL u t inverse m i (omega arith)))
        ∙ sum-reverse A AL m (λ i. A.mul (constant (coeff K.ring h.coeffs i)) (power A u (m - i)))
        ∙ sum-ext A AL (suc m) _ _ (λ i q. let e : m - (m - i) ≡ i = omega arith in ap (λ j. A.mul
        (constant (coeff K.ring h.coeffs (m - i))) (power A u j)) e)
        ∙ sym (value_of_listed K.ring K.laws K.tests A AL constant map.on_zero u (suc m)
        (λ i. coeff K.ring h.coeffs (m - i)))
