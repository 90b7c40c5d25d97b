-- Division with remainder by a monic polynomial over any commutative ring.
use Rattle.std.proofs.Common.{◌≡◌, ℕ, zero, suc, ◌<◌, ◌≤◌, ◌⊎◌, inl, inr, List, [], ◌∷◌, refl, sym}
use Rattle.std.proofs.Common.{◌∙◌, ap, ap₂, arith}
use Rattle.std.proofs.lemmas.Bool.{cases_lt}
use Rattle.ff_theory.specs.Ring.{RingOps, IsCommRing, IsTested}
use Rattle.ff_theory.specs.Poly.{coeff, Poly, poly, polynomials}
use Rattle.ff_theory.specs.Division.{size}
use Rattle.ff_theory.proofs.Solver.{◌⊕◌, ◌⊗◌, neg, nil, unit, ring1, ring6}
use Rattle.ff_theory.proofs.Poly.{Poly_path, trim_same, trim-coeff, polynomial_laws}
use Rattle.ff_theory.proofs.Division.{const, x, cons, const_mul_at, x_mul_suc, add_at, neg_at}
use Rattle.ff_theory.proofs.Division.{zero_from, size_le}

module _ (R : RingOps) (laws : IsCommRing R) (tests : IsTested R) (F : Poly R) (n : ℕ)
    (rows : size R F ≡ suc n) (monic : coeff R F.coeffs n ≡ R.one) where
  abbrev P : RingOps
  P = polynomials R

  PL : IsCommRing (polynomials R)
  PL = polynomial_laws R laws tests

  -- a is q * F + r, and r has at most n coefficients
  pub record Divided (a : Poly R) : Type 0 where
    pub q : Poly R
    pub r : Poly R
    pub sum : a ≡ (polynomials R).add ((polynomials R).mul q F) r
    pub small : size R r ≤ n

  -- from p to c + x * p
  step : (c : R.carrier) (p : Poly R) → Divided p
      → Divided (P.add (const R laws tests c) (P.mul (x R laws tests) p))
  unfolding poly
  step c p d = record {
    q = P.add (P.mul X d.q) (const R laws tests a);
    r = r;
    sum = whole;
    small = size_le R laws tests r n none;
  }
    where
      X : Poly R
      X = x R laws tests

      w : Poly R
      w = P.add (const R laws tests c) (P.mul X d.r)

      a : R.carrier
      a = coeff R w.coeffs n

      aF : Poly R
      aF = P.mul (const R laws tests a) F

      r : Poly R
      r = P.add w (P.neg aF)

      whole : P.add (const R laws tests c) (P.mul X p)
          ≡ P.add (P.mul (P.add (P.mul X d.q) (const R laws tests a)) F) r
      whole = ap (λ t. P.add (const R laws tests c) (P.mul X t)) d.sum
          ∙ ring6 P PL (λ c x q f r a. c ⊕ x ⊗ (q ⊗ f ⊕ r))
          (λ c x q f r a. (x ⊗ q ⊕ a) ⊗ f ⊕ ((c ⊕ x ⊗ r) ⊕ neg (a ⊗ f))) refl
          (const R laws tests c) X d.q F d.r (const R laws tests a)

      at_r : (i : ℕ) → coeff R r.coeffs i
          ≡ R.add (coeff R w.coeffs i) (R.neg (R.mul a (coeff R F.coeffs i)))
      at_r i = add_at R laws tests w (P.neg aF) i
          ∙ ap (R.add (coeff R w.coeffs i))
          (neg_at R laws tests aF i ∙ ap R.neg (const_mul_at R laws tests a F i))

      past : (j : ℕ) → n ≤ j → coeff R w.coeffs (suc j) ≡ R.zero
      past j l = add_at R laws tests (const R laws tests c) (P.mul X d.r) (suc j)
          ∙ ap₂ R.add (trim-coeff R laws tests (c ∷ []) (suc j))
          (x_mul_suc R laws tests d.r j ∙ zero_from R laws tests d.r j (let s : size R d.r
          ≤ n = d.small in omega (arith, s)))
          ∙ laws.add_zero R.zero

      beyond : (i : ℕ) → n < i → coeff R r.coeffs i ≡ R.zero
      beyond zero l = absurd (omega arith)
      beyond (suc j) l = at_r (suc j)
          ∙ ap₂ (λ s t. R.add s (R.neg (R.mul a t))) (past j (omega arith))
          (zero_from R laws tests F (suc j) (omega (arith, rows)))
          ∙ ring1 R laws (λ a. nil ⊕ neg (a ⊗ nil)) (λ a. nil) refl a

      none : (i : ℕ) → n ≤ i → coeff R r.coeffs i ≡ R.zero
      none i l = go (cases_lt n i)
        where
          go : (n < i) ⊎ (i ≤ n) → coeff R r.coeffs i ≡ R.zero
          go (inl m) = beyond i m
          go (inr m) = let e : i ≡ n = omega arith in ap (coeff R r.coeffs) e ∙ at_r n
              ∙ ap (λ t. R.add a (R.neg (R.mul a t))) monic
              ∙ ring1 R laws (λ a. a ⊕ neg (a ⊗ unit)) (λ a. nil) refl a

  divide_list : (p : List R.carrier) → Divided (poly R p)
  unfolding poly
  divide_list [] = record {
    q = P.zero;
    r = P.zero;
    sum = ring1 P PL (λ f. nil) (λ f. nil ⊗ f ⊕ nil) refl F;
    small = size_le R laws tests P.zero n (λ i l. trim-coeff R laws tests [] i);
  }
  divide_list (c ∷ p) = at (cons R laws tests c p) (step c (poly R p) (divide_list p))
    where
      at : {a b : Poly R} → a ≡ b → Divided b → Divided a
      at e d = record { q = d.q; r = d.r; sum = e ∙ d.sum; small = d.small }

  pub monic_divide : (a : Poly R) → Divided a
  unfolding poly
  monic_divide a = at (sym (Poly_path R (poly R a.coeffs) a (trim_same R laws tests a.coeffs
      a.canonical))) (divide_list a.coeffs)
    where
      at : {a b : Poly R} → a ≡ b → Divided b → Divided a
      at e d = record { q = d.q; r = d.r; sum = e ∙ d.sum; small = d.small }
