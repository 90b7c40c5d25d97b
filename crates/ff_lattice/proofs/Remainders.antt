-- A step of the division by a monic polynomial.
use Rattle.std.proofs.Common.{◌≡◌, ℕ, suc, ◌+◌, ◌-◌, ◌<◌, ◌≤◌, ◌⊎◌, inl, inr, List, refl, sym, ◌∙◌}
use Rattle.std.proofs.Common.{ap, ap₂, arith}
use Rattle.std.proofs.lemmas.Bool.{cases_lt}
use Rattle.ff_theory.specs.Ring.{RingOps, IsCommRing, IsTested}
use Rattle.ff_theory.specs.Poly.{coeff, Poly, poly, polynomials, list_scale}
use Rattle.ff_theory.specs.Division.{size}
use Rattle.ff_theory.specs.Monomial.{monomial, raised}
use Rattle.ff_theory.proofs.Solver.{◌⊕◌, ◌⊗◌, neg, nil, unit, ring1, ring2, ring3, ring4}
use Rattle.ff_theory.proofs.Poly.{polynomial_laws, scale-coeff, trim-coeff, Poly_path, trim_same}
use Rattle.ff_theory.proofs.Division.{add_at, size_le, zero_from}
use Rattle.ff_theory.proofs.Monomial.{monomial-mul, raised-at}
use Rattle.ff_lattice.specs.Remainder.{IsMonic, IsCongruent}

module _ (R : RingOps) (laws : IsCommRing R) (tests : IsTested R) (A B r : Poly R) (t : R.carrier)
    (n at : ℕ) where
  PL : IsCommRing (polynomials R)
  PL = polynomial_laws R laws tests

  -- what is left is congruent to A
  pub step_value : r ≡ (polynomials R).add ((polynomials R).mul (polynomials R).one A)
      ((polynomials R).mul (monomial R t at) B) → IsCongruent R B A r
  step_value e = record {
    quotient = (polynomials R).neg (monomial R t at);
    sum = ring3 (polynomials R) PL (λ a m b. a) (λ a m b. neg m ⊗ b ⊕ (unit ⊗ a ⊕ m ⊗ b)) refl A
        (monomial R t at) B ∙ ap ((polynomials R).add ((polynomials R).mul ((polynomials R).neg
        (monomial R t at)) B)) (sym e);
  }

  whole : poly R B.coeffs ≡ B
  unfolding poly
  whole = Poly_path R (poly R B.coeffs) B (trim_same R laws tests B.coeffs B.canonical)

  -- the coefficients of the product
  product_at : (i : ℕ) → at ≤ i → coeff R ((polynomials R).mul (monomial R t at) B).coeffs i
      ≡ R.mul t (coeff R B.coeffs (i - at))
  unfolding poly
  product_at i l = ap (λ (p : Poly R). coeff R ((polynomials R).mul (monomial R t at) p).coeffs i)
      (sym whole) ∙ ap (λ (p : Poly R). coeff R p.coeffs i)
      (monomial-mul R laws tests at t B.coeffs)
      ∙ trim-coeff R laws tests (raised R at (list_scale R t B.coeffs)) i
      ∙ raised-at R at (list_scale R t B.coeffs) (i - at) i (omega (arith, l))
      ∙ scale-coeff R laws tests t B.coeffs (i - at)

  -- and shorter: the leading coefficients cancel
  pub step_smaller : r ≡ (polynomials R).add ((polynomials R).mul (polynomials R).one A)
      ((polynomials R).mul (monomial R t at) B) → IsMonic R B
      → size R A ≡ suc n → suc n ≡ at + size R B → 0 < size R B → t ≡ R.neg (coeff R A.coeffs n)
      → size R r ≤ n
  step_smaller e monic sa sb pos top = size_le R laws tests r n (λ i l. ap (λ
      (p : Poly R). coeff R p.coeffs i) (e ∙ ap (λ a. (polynomials R).add a ((polynomials R).mul
      (monomial R t at) B)) (ring1 (polynomials R) PL (λ a. unit ⊗ a) (λ a. a) refl A))
      ∙ add_at R laws tests A ((polynomials R).mul (monomial R t at) B) i
      ∙ ap (R.add (coeff R A.coeffs i)) (product_at i (omega (arith, l, sb, pos)))
      ∙ go i (cases_lt n i) l)
    where
      go : (i : ℕ) → (n < i) ⊎ (i ≤ n) → n ≤ i → R.add (coeff R A.coeffs i) (R.mul t
          (coeff R B.coeffs (i - at))) ≡ R.zero
      go i (inl s) l = ap₂ (λ a b. R.add a (R.mul t b)) (zero_from R laws tests A i (omega
          (arith, sa, s))) (zero_from R laws tests B (i - at) (omega (arith, sb, s)))
          ∙ ring1 R laws (λ t. nil ⊕ t ⊗ nil) (λ t. nil) refl t
      go i (inr s) l = let z : i ≡ n = omega (arith, s, l) in
          let w : i - at ≡ size R B - 1 = omega (arith, sb, z, pos) in
          ap₂ (λ a b. R.add (coeff R A.coeffs a) (R.mul t (coeff R B.coeffs b))) z w
          ∙ ap₂ (λ t b. R.add (coeff R A.coeffs n) (R.mul t b)) top monic
          ∙ ring1 R laws (λ a. a ⊕ neg a ⊗ unit) (λ a. nil) refl (coeff R A.coeffs n)

-- the coefficients of a list's polynomial
pub poly_at : (R : RingOps) (laws : IsCommRing R) (tests : IsTested R) (p : List R.carrier)
    (i : ℕ) → coeff R (poly R p).coeffs i ≡ coeff R p i
unfolding poly
poly_at R laws tests p i = trim-coeff R laws tests p i

module _ (R : RingOps) (laws : IsCommRing R) (tests : IsTested R) (b : Poly R) where
  pub congruent_self : (a r : Poly R) → a ≡ r → IsCongruent R b a r
  congruent_self a r e = record {
    quotient = (polynomials R).zero;
    sum = e
        ∙ ring2 (polynomials R) (polynomial_laws R laws tests) (λ r b. r)
        (λ r b. nil ⊗ b ⊕ r) refl r b;
  }

  pub congruent_trans : (a r s : Poly R) → IsCongruent R b a r → IsCongruent R b r s
      → IsCongruent R b a s
  congruent_trans a r s p q = record {
    quotient = (polynomials R).add p.quotient q.quotient;
    sum = p.sum ∙ ap ((polynomials R).add ((polynomials R).mul p.quotient b)) q.sum
        ∙ ring4 (polynomials R) (polynomial_laws R laws tests) (λ p q b s. p ⊗ b ⊕ (q ⊗ b ⊕ s))
        (λ p q b s. (p ⊕ q) ⊗ b ⊕ s) refl p.quotient q.quotient b s;
  }
