-- Polynomials and planes by their coefficients and rows, and their values as finite sums.
use Rattle.std.proofs.Common.{◌≡◌, ℕ, zero, suc, ◌<◌, ◌≤◌, ◌⊎◌, inl, inr, List, length, refl, sym}
use Rattle.std.proofs.Common.{◌∙◌, ap, arith}
use Rattle.std.proofs.lemmas.Bool.{cases_lt}
use Rattle.ff_theory.specs.Ring.{RingOps, IsCommRing, IsTested, power}
use Rattle.ff_theory.specs.Sum.{sum_below}
use Rattle.ff_theory.specs.Poly.{coeff, Poly, poly}
use Rattle.ff_theory.specs.Division.{size}
use Rattle.ff_theory.specs.Eval.{eval}
use Rattle.ff_theory.proofs.Poly.{trim-coeff, Poly_ext}
use Rattle.ff_theory.proofs.Division.{size_le, zero_from, coeff-beyond}
use Rattle.ff_theory.proofs.Sums.{sum-ext}
use Rattle.ff_theory.proofs.Horner.{eval-horner, horner-sum}
use Rattle.ff_theory.specs.Lists.{listed}

module _ (R : RingOps) where
  pub listed_at : (n : ℕ) (g : ℕ → R.carrier) (i : ℕ) → i < n → coeff R (listed n g) i ≡ g i
  listed_at zero g i l = absurd (omega arith)
  listed_at (suc n) g zero l = refl
  listed_at (suc n) g (suc i) l = listed_at n (λ j. g (suc j)) i (omega arith)

  pub listed_past : (n : ℕ) (g : ℕ → R.carrier) (i : ℕ) → n ≤ i → coeff R (listed n g) i ≡ R.zero
  listed_past zero g i l = refl
  listed_past (suc n) g zero l = absurd (omega arith)
  listed_past (suc n) g (suc i) l = listed_past n (λ j. g (suc j)) i (omega arith)

module _ (R : RingOps) (laws : IsCommRing R) (tests : IsTested R) where
  -- the polynomial with the coefficients g 0, .., g (n - 1)
  abbrev pub polynomial_of : ℕ → (ℕ → R.carrier) → Poly R
  polynomial_of n g = poly R (listed n g)

  pub polynomial_at : (n : ℕ) (g : ℕ → R.carrier) (i : ℕ) → i < n
      → coeff R (polynomial_of n g).coeffs i ≡ g i
  unfolding poly
  polynomial_at n g i l = trim-coeff R laws tests (listed n g) i ∙ listed_at R n g i l

  pub polynomial_past : (n : ℕ) (g : ℕ → R.carrier) (i : ℕ) → n ≤ i
      → coeff R (polynomial_of n g).coeffs i ≡ R.zero
  unfolding poly
  polynomial_past n g i l = trim-coeff R laws tests (listed n g) i ∙ listed_past R n g i l

  pub polynomial_size : (n : ℕ) (g : ℕ → R.carrier) → size R (polynomial_of n g) ≤ n
  polynomial_size n g = size_le R laws tests (polynomial_of n g) n (polynomial_past n g)

  -- polynomials with at most n coefficients that agree below n
  pub equal_below : (p q : Poly R) (n : ℕ) → size R p ≤ n → size R q ≤ n
      → ((i : ℕ) → i < n → coeff R p.coeffs i ≡ coeff R q.coeffs i) → p ≡ q
  equal_below p q n hp hq h = Poly_ext R laws tests p q (λ i. go i (cases_lt i n))
    where
      go : (i : ℕ) → (i < n) ⊎ (n ≤ i) → coeff R p.coeffs i ≡ coeff R q.coeffs i
      go i (inl l) = h i l
      go i (inr l) = zero_from R laws tests p i (omega (arith, hp))
          ∙ sym (zero_from R laws tests q i (omega (arith, hq)))

  pub exact_size : (p : Poly R) (n : ℕ) → ¬ (coeff R p.coeffs n ≡ R.zero)
      → ((i : ℕ) → n < i → coeff R p.coeffs i ≡ R.zero) → size R p ≡ suc n
  exact_size p n top past = go (cases_lt n (size R p))
      (size_le R laws tests p (suc n) (λ i l. past i (omega arith)))
    where
      go : (n < size R p) ⊎ (size R p ≤ n) → size R p ≤ suc n → size R p ≡ suc n
      go (inl l) h = omega (arith, h, l)
      go (inr l) h = absurd (top (zero_from R laws tests p n l))

  pub poly_size : (p : List R.carrier) → size R (poly R p) ≤ length p
  unfolding poly
  poly_size p = size_le R laws tests (poly R p) (length p)
      (λ i l. trim-coeff R laws tests p i ∙ coeff-beyond R laws tests p i l)

  -- values as sums
  module _ (A : RingOps) (AL : IsCommRing A) (h : R.carrier → A.carrier)
      (nothing : h R.zero ≡ A.zero) where
    pub value_sum : (y : A.carrier) (p : Poly R) (n : ℕ) → size R p ≤ n → eval R A h y p
        ≡ sum_below A n (λ i. A.mul (h (coeff R p.coeffs i)) (power A y i))
    value_sum y p n l = eval-horner R A AL h nothing y p n l
        ∙ horner-sum A AL y (λ i. h (coeff R p.coeffs i)) n

    pub value_of_listed : (y : A.carrier) (n : ℕ) (g : ℕ → R.carrier)
        → eval R A h y (polynomial_of n g) ≡ sum_below A n (λ i. A.mul (h (g i)) (power A y i))
    value_of_listed y n g = value_sum y (polynomial_of n g) n (polynomial_size n g)
        ∙ sum-ext A AL n _ _ (λ i l. ap (λ t. A.mul (h t) (power A y i)) (polynomial_at n g i l))
