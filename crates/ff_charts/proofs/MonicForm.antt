-- The rows of the monic form.
use Rattle.std.proofs.Common.{◌≡◌, ℕ, zero, suc, ◌-◌, ◌<◌, List, [], ◌∷◌, length, refl, sym, ◌∙◌}
use Rattle.std.proofs.Common.{ap, arith}
use Rattle.ff_theory.specs.Ring.{RingOps, IsCommRing, IsTested, power}
use Rattle.ff_theory.specs.Poly.{coeff, Poly, poly}
use Rattle.ff_theory.specs.Division.{size}
use Rattle.ff_theory.proofs.Poly.{trim-coeff}
use Rattle.ff_theory.proofs.Division.{coeff-beyond}
use Rattle.ff_theory.specs.Monic.{monic_rows, monic_form}
use Rattle.ff_charts.proofs.Rows.{exact_size}

module _ (R : RingOps) where
  rows_length : (t : R.carrier) (p : List R.carrier) → length (monic_rows R t p) ≡ length p
  rows_length t [] = refl
  rows_length t (a ∷ []) = refl
  rows_length t (a ∷ b ∷ p) = ap suc (rows_length t (b ∷ p))

  rows_below : (t : R.carrier) (p : List R.carrier) (n i : ℕ) → length p ≡ suc n → i < n
      → coeff R (monic_rows R t p) i ≡ R.mul (coeff R p i) (power R t (n - 1 - i))
  rows_below t [] n i e l = absurd (omega arith)
  rows_below t (a ∷ []) n i e l = absurd (omega arith)
  rows_below t (a ∷ b ∷ p) n zero e l = let k : length p
      ≡ n - 1 - 0 = omega arith in ap (λ m. R.mul a (power R t m)) k
  rows_below t (a ∷ b ∷ p) n (suc i) e l = rows_below t (b ∷ p) (n - 1) i (omega arith)
      (omega arith) ∙ (let k : n - 1 - 1 - i
      ≡ n - 1 - suc i = omega arith in ap (λ m. R.mul (coeff R (b ∷ p) i) (power R t m)) k)

  rows_last : (t : R.carrier) (p : List R.carrier) (n : ℕ) → length p ≡ suc n
      → coeff R (monic_rows R t p) n ≡ R.one
  rows_last t [] n e = absurd (omega arith)
  rows_last t (a ∷ []) zero e = refl
  rows_last t (a ∷ []) (suc n) e = absurd (omega arith)
  rows_last t (a ∷ b ∷ p) zero e = absurd (omega arith)
  rows_last t (a ∷ b ∷ p) (suc n) e = rows_last t (b ∷ p) n (omega arith)

module _ (R : RingOps) (laws : IsCommRing R) (tests : IsTested R) (f : Poly R) (n : ℕ)
    (has : size R f ≡ suc n) where
  abbrev top : R.carrier
  top = coeff R f.coeffs (length f.coeffs - 1)

  pub top_row : coeff R f.coeffs (length f.coeffs - 1) ≡ coeff R f.coeffs n
  top_row = let e : length f.coeffs - 1 ≡ n = omega (arith, has) in ap (coeff R f.coeffs) e

  pub form_below : (i : ℕ) → i < n → coeff R (monic_form R f).coeffs i
      ≡ R.mul (coeff R f.coeffs i) (power R (coeff R f.coeffs (length f.coeffs - 1)) (n - 1 - i))
  unfolding monic_form poly
  form_below i l = trim-coeff R laws tests (monic_rows R top f.coeffs) i
      ∙ rows_below R top f.coeffs n i has l

  pub form_last : coeff R (monic_form R f).coeffs n ≡ R.one
  unfolding monic_form poly
  form_last = trim-coeff R laws tests (monic_rows R top f.coeffs) n ∙ rows_last R top f.coeffs n has

  pub form_size : ¬ (R.one ≡ R.zero) → size R (monic_form R f) ≡ suc n
  unfolding monic_form poly
  form_size proper = exact_size R laws tests (monic_form R f) n (λ e. proper (sym form_last ∙ e))
      past
    where
      past : (i : ℕ) → n < i → coeff R (monic_form R f).coeffs i ≡ R.zero
      past i l = trim-coeff R laws tests (monic_rows R top f.coeffs) i
          ∙ coeff-beyond R laws tests (monic_rows R top f.coeffs) i
          (let e : length (monic_rows R top f.coeffs)
          ≡ length f.coeffs = rows_length R top f.coeffs in omega (arith, e, has))
