-- Bounds on the levels of polynomials: sums and products.
use Rattle.std.proofs.Common.{◌≡◌, ℕ, zero, suc, ◌+◌, ◌*◌, ◌-◌, ◌<◌, ◌≤◌, ◌⊎◌, inl, inr, refl, ◌∙◌}
use Rattle.std.proofs.Common.{ap, ap₂, arith}
use Rattle.std.proofs.lemmas.Bool.{cases_lt}
use Rattle.std.proofs.Math.Nat.{mul-add, mul-one}
use Rattle.ff_theory.specs.Ring.{RingOps, IsCommRing, IsTested}
use Rattle.ff_theory.specs.Sum.{sum_below}
use Rattle.ff_theory.specs.Poly.{coeff, Poly, poly, polynomials}
use Rattle.ff_theory.proofs.Solver.{neg, nil, ring1, mul_zero, zero_mul}
use Rattle.ff_theory.proofs.Series.{mul_top}
use Rattle.ff_theory.proofs.Sums.{sum-ext, sum-zero, series_mul-sum}
use Rattle.ff_theory.proofs.Division.{add_at, neg_at, mul_at, const, const_mul_at}
use Rattle.ff_table.specs.Weight.{IsUnder}

module _ (k : RingOps) (laws : IsCommRing k) (tests : IsTested k) (e : ℕ) where
  -- e * (x + y) for levels
  levels : (d x y : ℕ) → d ≡ x + y → e * d ≡ e * x + e * y
  levels d x y h = ap (λ n. e * n) h ∙ mul-add e x y

  pub under-zero : (s n : ℕ) → IsUnder k e s n (polynomials k).zero
  unfolding poly
  under-zero s n d l = refl

  pub under-more : (s n m : ℕ) (p : Poly k) → n ≤ m → IsUnder k e s n p → IsUnder k e s m p
  under-more s n m p l h d q = h d (omega arith)

  pub under-add : (s n : ℕ) (p q : Poly k) → IsUnder k e s n p → IsUnder k e s n q
      → IsUnder k e s n ((polynomials k).add p q)
  under-add s n p q h g d l = add_at k laws tests p q d ∙ ap₂ k.add (h d l) (g d l)
      ∙ laws.add_zero k.zero

  pub under-neg : (s n : ℕ) (p : Poly k) → IsUnder k e s n p
      → IsUnder k e s n ((polynomials k).neg p)
  under-neg s n p h d l = neg_at k laws tests p d ∙ ap k.neg (h d l)
      ∙ ring1 k laws (λ a. neg nil) (λ a. nil) refl k.zero

  pub under-sum : (s n m : ℕ) (f : ℕ → Poly k) → ((i : ℕ) → i < m → IsUnder k e s n (f i))
      → IsUnder k e s n (sum_below (polynomials k) m f)
  under-sum s n zero f h = under-zero s n
  under-sum s n (suc m) f h = under-add s n _ (f m) (under-sum s n m f (λ i l. h i (omega arith)))
      (h m (omega arith))

  -- a product: the bounds add up, as for degrees
  pub under-mul : (s r a b n : ℕ) (p q : Poly k) → a + b ≤ n + 1 → IsUnder k e s a p
      → IsUnder k e r b q
      → IsUnder k e (s + r) n ((polynomials k).mul p q)
  under-mul s r a b n p q l h g d m = mul_at k laws tests p q d
      ∙ series_mul-sum k laws (coeff k p.coeffs) (coeff k q.coeffs) d
      ∙ sum-ext k laws (suc d) _ (λ j. k.zero) term ∙ sum-zero k laws (suc d)
    where
      term : (j : ℕ) → j < suc d → k.mul (coeff k p.coeffs j) (coeff k q.coeffs (d - j)) ≡ k.zero
      term j o = go (cases_lt (e * j + s) a)
        where
          split : e * d ≡ e * j + e * (d - j)
          split = levels d j (d - j) (omega arith)

          go : (e * j + s < a) ⊎ (a ≤ e * j + s)
              → k.mul (coeff k p.coeffs j) (coeff k q.coeffs (d - j)) ≡ k.zero
          go (inl c) = ap (k.mul (coeff k p.coeffs j)) (g (d - j) (omega (arith, split, c, m, l)))
              ∙ mul_zero k laws _
          go (inr c) = ap (λ t. k.mul t (coeff k q.coeffs (d - j))) (h j c) ∙ zero_mul k laws _

  -- the coefficient at the level a + b is the product of those at a and b
  pub top-mul : 0 < e → (s r x y : ℕ) (p q : Poly k) → IsUnder k e s (suc (e * x + s)) p
      → IsUnder k e r (suc (e * y + r)) q
      → coeff k ((polynomials k).mul p q).coeffs (x + y)
      ≡ k.mul (coeff k p.coeffs x) (coeff k q.coeffs y)
  top-mul pos s r x y p q h g = mul_at k laws tests p q (x + y)
      ∙ mul_top k laws (coeff k p.coeffs) (coeff k q.coeffs) x y (x + y)
      (λ i l. h i (above i x s l)) (λ i l. g i (above i y r l)) refl
    where
      above : (i x s : ℕ) → suc x ≤ i → suc (e * x + s) ≤ e * i + s
      above i x s l = let m : e * i ≡ e * x + e * (i - x) = levels i x (i - x) (omega arith) in
          let n : e * (i - x) ≡ e * 1 + e * (i - x - 1) =
          levels (i - x) 1 (i - x - 1) (omega arith) in
          let one : e * 1 ≡ e = mul-one e in
          omega (arith, m, n, one, pos)

  pub coeff-sum : (m : ℕ) (f : ℕ → Poly k) (d : ℕ)
      → coeff k (sum_below (polynomials k) m f).coeffs d
      ≡ sum_below k m (λ i. coeff k (f i).coeffs d)
  unfolding poly
  coeff-sum zero f d = refl
  coeff-sum (suc m) f d = add_at k laws tests (sum_below (polynomials k) m f) (f m) d
      ∙ ap (λ t. k.add t (coeff k (f m).coeffs d)) (coeff-sum m f d)

  -- a multiple by a constant
  pub under-scale : (s n : ℕ) (c : k.carrier) (p : Poly k) → IsUnder k e s n p
      → IsUnder k e s n ((polynomials k).mul (const k laws tests c) p)
  under-scale s n c p h d l = const_mul_at k laws tests c p d ∙ ap (k.mul c) (h d l)
      ∙ mul_zero k laws c
