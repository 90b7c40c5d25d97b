-- Divisors of the coefficients of a product of polynomials.
use Rattle.std.proofs.Common.{◌≡◌, ℕ, zero, suc, ◌+◌, ◌<◌, ◌≤◌, ◌⊎◌, inl, inr, sym, ◌∙◌, ap, arith}
use Rattle.std.proofs.lemmas.Bool.{cases_lt}
use Rattle.ff_theory.specs.Ring.{RingOps, IsCommRing, IsTested}
use Rattle.ff_theory.specs.Poly.{coeff, Poly}
use Rattle.ff_theory.specs.Division.{size}
use Rattle.ff_theory.specs.Divides.{Divides}
use Rattle.ff_factors.specs.Factors.{DividesAll}
use Rattle.ff_theory.proofs.Divides.{divides_zero, divides_add, divides_left, divides_right}
use Rattle.ff_theory.proofs.Divides.{divides_first}
use Rattle.ff_theory.proofs.Series.{series_mul, tail}
use Rattle.ff_theory.proofs.Division.{zero_from}

module _ (R : RingOps) (laws : IsCommRing R) where
  -- d divides the coefficients of g up to n, and so coefficient n of a product
  series_right : (d : R.carrier) (f g : ℕ → R.carrier) (n : ℕ)
      → ((i : ℕ) → i ≤ n → Divides R d (g i)) → Divides R d (series_mul R f g n)
  series_right d f g zero h = divides_left R laws d (f zero) (g zero) (h zero (omega arith))
  series_right d f g (suc n) h = divides_add R laws d _ _
      (divides_left R laws d (f zero) (g (suc n)) (h (suc n) (omega arith)))
      (series_right d (tail f) g n (λ i l. h i (omega arith)))

  -- d divides the coefficients of f below i and of g below j, and coefficient i + j of the product:
  -- then it divides f i * g j
  pub divides_corner : (d : R.carrier) (f g : ℕ → R.carrier) (i j n : ℕ) → n ≡ i + j
      → ((a : ℕ) → a < i → Divides R d (f a)) → ((b : ℕ) → b < j → Divides R d (g b))
      → Divides R d (series_mul R f g n) → Divides R d (R.mul (f i) (g j))
  divides_corner d f g zero zero zero e hf hg h = h
  divides_corner d f g zero zero (suc n) e hf hg h = absurd (omega arith)
  divides_corner d f g zero (suc j) zero e hf hg h = absurd (omega arith)
  divides_corner d f g zero (suc j) (suc n) e hf hg h =
      let k : n ≡ j = omega arith in
      divides_first R laws d (R.mul (f zero) (g (suc j))) (series_mul R (tail f) g n)
      (let p : Divides R d (R.add (R.mul (f zero) (g (suc n))) (series_mul R (tail f) g n)) = h
      in (
        p.0,
        ap (λ m. R.add (R.mul (f zero) (g (suc m))) (series_mul R (tail f) g n)) (sym k)
            ∙ p.1,
      ))
      (series_right d (tail f) g n (λ b l. hg b (omega arith)))
  divides_corner d f g (suc i) j zero e hf hg h = absurd (omega arith)
  divides_corner d f g (suc i) j (suc n) e hf hg h = divides_corner d (tail f) g i j n (omega arith)
      (λ a l. hf (suc a) (omega arith)) hg
      (let p : Divides R d (R.add (series_mul R (tail f) g n) (R.mul (f zero) (g (suc n)))) =
      (h.0, laws.add_comm _ _ ∙ h.1) in divides_first R laws d (series_mul R (tail f) g n)
      (R.mul (f zero) (g (suc n))) p (divides_right R laws d (f zero) (g (suc n))
      (hf zero (omega arith))))

module _ (R : RingOps) (laws : IsCommRing R) (tests : IsTested R) where
  -- what divides the coefficients below the size divides all
  pub divides_all : (d : R.carrier) (g : Poly R)
      → ((i : ℕ) → i < size R g → Divides R d (coeff R g.coeffs i)) → DividesAll R d g
  divides_all d g below i = pick (cases_lt i (size R g))
    where
      pick : (i < size R g) ⊎ (size R g ≤ i) → Divides R d (coeff R g.coeffs i)
      pick (inl l) = below i l
      pick (inr l) = let z : Divides R d R.zero = divides_zero R laws d in
          (z.0, zero_from R laws tests g i l ∙ z.1)
