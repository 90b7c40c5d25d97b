-- A polynomial as the sum of x^i times p-th powers, where the coefficients of the i-th polynomial
-- are
-- the p-th roots of those at i, i + p, i + 2 p and so on.
use Rattle.std.proofs.Common.{◌≡◌, ℕ, zero, suc, ◌<◌, ◌≤◌, ◌+◌ as plus_ℕ, ◌*◌ as times_ℕ, List, []}
use Rattle.std.proofs.Common.{◌∷◌, length, drop}
use Rattle.std.proofs.Common.{refl, sym, ◌∙◌, ap, ap₂, arith}
use Rattle.std.proofs.lemmas.List.{length-drop}
use Rattle.ff_theory.specs.Ring.{RingOps, IsCommRing, IsTested, power}
use Rattle.ff_theory.specs.Sum.{sum_below}
use Rattle.ff_theory.specs.Poly.{coeff, Poly, poly, polynomials}
use Rattle.ff_theory.specs.Parts.{sum_of_parts}
use Rattle.ff_theory.proofs.Solver.{◌⊕◌, ◌⊗◌, nil, unit, ring1, ring3, ring4, mul_zero}
use Rattle.ff_theory.proofs.Poly.{polynomial_laws}
use Rattle.ff_theory.proofs.Coeffs.{poly_ext}
use Rattle.ff_theory.proofs.Division.{const, x, cons}
use Rattle.ff_theory.proofs.Evaluate.{const_map}
use Rattle.ff_theory.proofs.Powers.{power-mul}
use Rattle.ff_theory.proofs.Product.{zeros_poly}
use Rattle.ff_theory.proofs.Sums.{sum-ext, sum-zero, sum-add, sum-mul}
use Rattle.ff_theory.proofs.Frobenius.{HasCharacteristic, power-zero, frobenius-add}
use Rattle.ff_theory.proofs.FrobeniusPoly.{map-power}

-- a list without its first entry
abbrev pub rest_of : {A : Type 0} → List A → List A
rest_of [] = []
rest_of (a ∷ v) = v

module _ (R : RingOps) (laws : IsCommRing R) (tests : IsTested R) where
  abbrev P : RingOps
  P = polynomials R

  PL : IsCommRing (polynomials R)
  PL = polynomial_laws R laws tests

  abbrev X : Poly R
  X = x R laws tests

  abbrev C : R.carrier → Poly R
  C c = const R laws tests c

  rest-coeff : (v : List R.carrier) (i : ℕ) → coeff R (rest_of v) i ≡ coeff R v (suc i)
  rest-coeff [] i = refl
  rest-coeff (a ∷ v) i = refl

  drop-coeff : (n : ℕ) (c : List R.carrier) (i : ℕ) → coeff R (drop n c) i ≡ coeff R c (plus_ℕ n i)
  drop-coeff zero c i = let e : i ≡ plus_ℕ 0 i = omega arith in ap (coeff R c) e
  drop-coeff (suc n) [] i = refl
  drop-coeff (suc n) (a ∷ c) i = drop-coeff n c i
      ∙ (let e : suc (plus_ℕ n i) ≡ plus_ℕ (suc n) i = omega arith in ap (coeff R (a ∷ c)) e)

  -- the first coefficient and the rest
  first-rest : (v : List R.carrier) → poly R v
      ≡ P.add (C (coeff R v 0)) (P.mul X (poly R (rest_of v)))
  first-rest [] = ring1 P PL (λ t. nil) (λ t. nil ⊕ t ⊗ nil) refl X
      ∙ ap (λ t. P.add t (P.mul X (poly R []))) (sym none)
    where
      none : C R.zero ≡ P.zero
      none = zeros_poly R laws tests (R.zero ∷ []) go
        where
          go : (i : ℕ) → coeff R (R.zero ∷ []) i ≡ R.zero
          go zero = refl
          go (suc i) = refl
  first-rest (a ∷ v) = cons R laws tests a v

  -- the first m coefficients and the rest
  first-many : (m : ℕ) (c : List R.carrier) → poly R c
      ≡ P.add (sum_below P m (λ i. P.mul (power P X i) (C (coeff R c i))))
      (P.mul (power P X m) (poly R (drop m c)))
  first-many zero c = ring1 P PL (λ t. t) (λ t. nil ⊕ unit ⊗ t) refl (poly R c)
  first-many (suc m) c = first-many m c ∙ ap (λ t. P.add s (P.mul (power P X m) t)) split
      ∙ ring4 P PL (λ s q a r. s ⊕ q ⊗ (a ⊕ r)) (λ s q a r. (s ⊕ q ⊗ a) ⊕ q ⊗ r) refl s
      (power P X m) (C (coeff R c m)) (P.mul X (poly R (drop (suc m) c)))
      ∙ ap (P.add (P.add s (P.mul (power P X m) (C (coeff R c m)))))
      (ring3 P PL (λ q a r. q ⊗ (a ⊗ r)) (λ q a r. (a ⊗ q) ⊗ r) refl (power P X m) X
      (poly R (drop (suc m) c)))
    where
      s : Poly R
      s = sum_below P m (λ i. P.mul (power P X i) (C (coeff R c i)))

      split : poly R (drop m c) ≡ P.add (C (coeff R c m)) (P.mul X (poly R (drop (suc m) c)))
      split = first-rest (drop m c) ∙ ap₂ (λ a v. P.add (C a) (P.mul X v)) (drop-coeff m c 0
          ∙ (let e : plus_ℕ m 0 ≡ m = omega arith in ap (coeff R c) e))
          (poly_ext R laws tests (rest_of (drop m c)) (drop (suc m) c) (λ i. rest-coeff (drop m c) i
          ∙ drop-coeff m c (suc i)
          ∙ (let e : plus_ℕ m (suc i) ≡ plus_ℕ (suc m) i = omega arith in ap (coeff R c) e)
          ∙ sym (drop-coeff (suc m) c i)))

  module _ (p : ℕ) (char : HasCharacteristic (polynomials R) p) (one_root : (a : R.carrier)
      → power R a p ≡ R.zero → a ≡ R.zero) where
    abbrev term : ℕ → List R.carrier → Poly R
    term i v = P.mul (power P X i) (power P (poly R v) p)

    -- one coefficient and the rest, to the power p
    term-step : (i : ℕ) (v : List R.carrier) → term i v
        ≡ P.add (P.mul (power P X i) (C (power R (coeff R v 0) p)))
        (P.mul (power P X p) (term i (rest_of v)))
    term-step i v = ap (P.mul (power P X i)) (ap (λ t. power P t p) (first-rest v)
        ∙ frobenius-add P PL p char (C (coeff R v 0)) (P.mul X (poly R (rest_of v)))
        ∙ ap₂ P.add (sym (map-power R P C (const_map R laws tests) (coeff R v 0) p))
        (power-mul P PL X (poly R (rest_of v)) p))
        ∙ ring4 P PL (λ q a s t. q ⊗ (a ⊕ s ⊗ t)) (λ q a s t. q ⊗ a ⊕ s ⊗ (q ⊗ t)) refl
        (power P X i) (C (power R (coeff R v 0) p)) (power P X p) (power P (poly R (rest_of v)) p)

    -- by p coefficients at a time
    pub parts_sum : (n : ℕ) (c : List R.carrier) (v : ℕ → List R.carrier) → length c ≤ times_ℕ n p
        → ((i : ℕ) → i < p → (j : ℕ) → power R (coeff R (v i) j) p
        ≡ coeff R c (plus_ℕ i (times_ℕ j p)))
        → poly R c ≡ sum_of_parts R p (λ i. poly R (v i))
    parts_sum zero c v l h = poly_ext R laws tests c [] past
        ∙ sym (sum-ext P PL p (λ i. term i (v i)) (λ i. P.zero) none ∙ sum-zero P PL p)
      where
        past : (i : ℕ) → coeff R c i ≡ R.zero
        past i = go c i (omega (arith, l))
          where
            go : (c : List R.carrier) (i : ℕ) → length c ≤ 0 → coeff R c i ≡ R.zero
            go [] i l = refl
            go (a ∷ c) i l = absurd (omega (arith, l))

        none : (i : ℕ) → i < p → term i (v i) ≡ P.zero
        none i m = ap (λ t. P.mul (power P X i) (power P t p))
            (zeros_poly R laws tests (v i) (λ j. one_root (coeff R (v i) j) (h i m j
            ∙ past (plus_ℕ i (times_ℕ j p)))))
            ∙ ap (P.mul (power P X i)) (power-zero P PL p char.positive)
            ∙ mul_zero P PL (power P X i)
    parts_sum (suc n) c v l h =
        first-many p c
        ∙ ap₂ P.add (sum-ext P PL p (λ i. P.mul (power P X i) (C (coeff R c i)))
        (λ i. P.mul (power P X i) (C (power R (coeff R (v i) 0) p)))
        (λ i m. ap (λ t. P.mul (power P X i) (C t)) (sym (first i m))))
        (ap (P.mul (power P X p)) (parts_sum n (drop p c) (λ i. rest_of (v i))
        (let w : times_ℕ (suc n) p ≡ plus_ℕ p (times_ℕ n p) = omega arith in omega
        (arith, length-drop p c, l, w)) next)
        ∙ sym (sum-mul P PL p (power P X p) (λ i. term i (rest_of (v i)))))
        ∙ sym (sum-add P PL p (λ i. P.mul (power P X i) (C (power R (coeff R (v i) 0) p)))
        (λ i. P.mul (power P X p) (term i (rest_of (v i)))))
        ∙ sym (sum-ext P PL p (λ i. term i (v i))
        (λ i. P.add (P.mul (power P X i) (C (power R (coeff R (v i) 0) p)))
        (P.mul (power P X p) (term i (rest_of (v i))))) (λ i m. term-step i (v i)))
      where
        first : (i : ℕ) → i < p → power R (coeff R (v i) 0) p ≡ coeff R c i
        first i m = h i m 0 ∙ (let e : plus_ℕ i (times_ℕ 0 p) ≡ i = omega arith in ap (coeff R c) e)

        next : (i : ℕ) → i < p → (j : ℕ) → power R (coeff R (rest_of (v i)) j) p
            ≡ coeff R (drop p c) (plus_ℕ i (times_ℕ j p))
        next i m j = ap (λ t. power R t p) (rest-coeff (v i) j) ∙ h i m (suc j)
            ∙ (let e : plus_ℕ i (times_ℕ (suc j) p) ≡ plus_ℕ p (plus_ℕ i (times_ℕ j p)) = omega
            arith in ap (coeff R c) e) ∙ sym (drop-coeff p c (plus_ℕ i (times_ℕ j p)))
