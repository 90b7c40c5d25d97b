-- The coefficients of a list that a function gives.
use Rattle.std.proofs.Common.{◌≡◌, ℕ, zero, suc, ◌<◌, ◌≤◌, ◌⊎◌, inl, inr, List, length, map, refl}
use Rattle.std.proofs.Common.{sym, ◌∙◌, ap, arith}
use Rattle.std.proofs.lemmas.Bool.{cases_lt}
use Rattle.ff_theory.specs.Ring.{RingOps, IsCommRing, IsTested}
use Rattle.ff_theory.specs.Poly.{coeff, poly}
use Rattle.ff_theory.proofs.Coeffs.{coeff-past, poly_ext}
use Rattle.ff_theory.specs.Lists.{listed}

pub listed-length : {C : Type 0} (n : ℕ) (g : ℕ → C) → length (listed n g) ≡ n
listed-length zero g = refl
listed-length (suc n) g = ap suc (listed-length n (λ i. g (suc i)))

module _ (R : RingOps) where
  pub listed-at : (n : ℕ) (g : ℕ → R.carrier) (i : ℕ) → i < n → coeff R (listed n g) i ≡ g i
  listed-at zero g i l = absurd (omega arith)
  listed-at (suc n) g zero l = refl
  listed-at (suc n) g (suc i) l = listed-at n (λ i. g (suc i)) i (omega arith)

  pub listed-past : (n : ℕ) (g : ℕ → R.carrier) (i : ℕ) → n ≤ i → coeff R (listed n g) i ≡ R.zero
  listed-past zero g i l = refl
  listed-past (suc n) g zero l = absurd (omega arith)
  listed-past (suc n) g (suc i) l = listed-past n (λ i. g (suc i)) i (omega arith)

-- a list whose entries a loop computed
module _ (R : RingOps) (laws : IsCommRing R) (tests : IsTested R) where
  pub listed_by_loop : {A : Type 0} (f : A → R.carrier) (q : List A) (n : ℕ) (g : ℕ → R.carrier)
      → length q ≡ n
      → ((i : ℕ) → i < n → coeff R (map f q) i ≡ g i) → poly R (map f q) ≡ poly R (listed n g)
  listed_by_loop f q n g len h = poly_ext R laws tests (map f q) (listed n g)
      (λ i. go i (cases_lt i n))
    where
      go : (i : ℕ) → (i < n) ⊎ (n ≤ i) → coeff R (map f q) i ≡ coeff R (listed n g) i
      go i (inl l) = h i l ∙ sym (listed-at R n g i l)
      go i (inr l) = coeff-past R f q i (omega (arith, len, l)) ∙ sym (listed-past R n g i l)
