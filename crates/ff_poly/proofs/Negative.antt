use Rattle.std.proofs.Common.{◌≡◌, ℕ, ◌≤◌, List, length, map, refl, sym, ◌∙◌, ap}
use Rattle.ff_theory.specs.Ring.{RingOps, IsCommRing, IsTested}
use Rattle.ff_theory.specs.Poly.{coeff, list_neg, trim, poly, polynomials, poly_neg}
use Rattle.ff_theory.proofs.Solver.{neg, nil, ring1}
use Rattle.ff_theory.proofs.Poly.{trim-coeff, neg-coeff}
use Rattle.ff_theory.proofs.Coeffs.{coeff-past, poly_ext}

module _ (R : RingOps) (laws : IsCommRing R) where
  pub neg-zero : R.neg R.zero ≡ R.zero
  neg-zero = ring1 R laws (λ a. neg nil) (λ a. nil) refl R.zero

  pub neg-past : {E : Type 0} (f : E → R.carrier) (p : List E) (i : ℕ) → length p ≤ i
      → coeff R (map f p) i ≡ R.neg (coeff R (map f p) i)
  neg-past f p i l = coeff-past R f p i l ∙ sym (ap R.neg (coeff-past R f p i l) ∙ neg-zero)

  -- a list whose coefficients are the negatives of those of p
  pub neg_by_coeffs : (tests : IsTested R) (p r : List R.carrier)
      → ((i : ℕ) → coeff R r i ≡ R.neg (coeff R p i)) → poly R r ≡ (polynomials R).neg (poly R p)
  unfolding poly poly_neg
  neg_by_coeffs tests p r h = poly_ext R laws tests r (list_neg R (trim R p))
      (λ i. h i ∙ ap R.neg (sym (trim-coeff R laws tests p i))
      ∙ sym (neg-coeff R laws tests (trim R p) i))
