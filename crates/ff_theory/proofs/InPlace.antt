-- Lists of polynomials that are changed in place.
use Rattle.std.proofs.Common.{◌≡◌, ℕ, zero, suc, ◌+◌, ◌<◌, ◌≤◌, ◌⊎◌, inl, inr, List, [], ◌∷◌}
use Rattle.std.proofs.Common.{length, map, set, refl, sym, ◌∙◌, ap, arith}
use Rattle.std.proofs.lemmas.Bool.{cases_lt}
use Rattle.ff_theory.specs.Ring.{RingOps}
use Rattle.ff_theory.specs.Poly.{coeff}

-- the coefficients of a list of which one entry is written
module _ (R : RingOps) {E : Type 0} (f : E → R.carrier) where
  pub set-same : (xs : List E) (i : ℕ) (y : E) → i < length xs → coeff R (map f (set xs i y)) i
      ≡ f y
  set-same [] i y l = absurd (omega arith)
  set-same (x ∷ xs) zero y l = refl
  set-same (x ∷ xs) (suc i) y l = set-same xs i y (omega arith)

  pub set-other : (xs : List E) (i j : ℕ) (y : E) → ¬ (j ≡ i) → coeff R (map f (set xs i y)) j
      ≡ coeff R (map f xs) j
  set-other [] i j y n = refl
  set-other (x ∷ xs) zero zero y n = absurd (n refl)
  set-other (x ∷ xs) zero (suc j) y n = refl
  set-other (x ∷ xs) (suc i) zero y n = refl
  set-other (x ∷ xs) (suc i) (suc j) y n = set-other xs i j y (λ e. n (ap suc e))

  -- a loop that rewrites one entry after another: below m the new entries, from m on the old ones
  pub written-below : (xs : List E) (i m : ℕ) (y : E) (A : ℕ → R.carrier) → i < length xs → m
      ≡ i + 1 → ((j : ℕ) → j < i → coeff R (map f xs) j ≡ A j) → f y ≡ A i
      → (j : ℕ) → j < m → coeff R (map f (set xs i y)) j ≡ A j
  written-below xs i m y A l e h k j q = go (cases_lt j i)
    where
      go : (j < i) ⊎ (i ≤ j) → coeff R (map f (set xs i y)) j ≡ A j
      go (inl r) = set-other xs i j y (λ same. absurd (omega (arith, same))) ∙ h j r
      go (inr r) = let e : j ≡ i = omega arith in ap (coeff R (map f (set xs i y))) e
          ∙ set-same xs i y l ∙ k ∙ ap A (sym e)

  pub written-above : (xs : List E) (i m : ℕ) (y : E) (B : ℕ → R.carrier) → m ≡ i + 1
      → ((j : ℕ) → i ≤ j → coeff R (map f xs) j ≡ B j)
      → (j : ℕ) → m ≤ j → coeff R (map f (set xs i y)) j ≡ B j
  written-above xs i m y B e h j q = set-other xs i j y (λ same. absurd (omega (arith, e, same)))
      ∙ h j (omega arith)

  -- at the end of such a loop
  pub written : (xs : List E) (m : ℕ) (A B : ℕ → R.carrier)
      → ((j : ℕ) → j < m → coeff R (map f xs) j ≡ A j) → ((j : ℕ) → m ≤ j → coeff R (map f xs) j
      ≡ B j) → ((j : ℕ) → m ≤ j → B j ≡ A j)
      → (j : ℕ) → coeff R (map f xs) j ≡ A j
  written xs m A B h k e j = go (cases_lt j m)
    where
      go : (j < m) ⊎ (m ≤ j) → coeff R (map f xs) j ≡ A j
      go (inl l) = h j l
      go (inr l) = k j l ∙ e j l
