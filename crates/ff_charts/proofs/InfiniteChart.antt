-- The infinite chart of E(f) is a chart, for each e that fits; there is a least one.
use Rattle.std.proofs.Common.{◌≡◌, ℕ, zero, suc, ◌-◌, ◌+◌, ◌*◌, ◌<◌, ◌≤◌, ◌⊎◌, inl, inr, sym, subst}
use Rattle.std.proofs.Common.{arith}
use Rattle.std.proofs.lemmas.Bool.{cases_lt}
use Rattle.ff_theory.specs.Ring.{RingOps}
use Rattle.ff_theory.specs.Lawful.{Field}
use Rattle.ff_theory.specs.Poly.{coeff, Poly, polynomials}
use Rattle.ff_theory.specs.Division.{size}
use Rattle.ff_theory.proofs.Division.{x}
use Rattle.ff_theory.proofs.PolyMap.{size_nonzero}
use Rattle.ff_theory.specs.Planes.{Plane}
use Rattle.ff_theory.specs.Algebra.{algebra_of, x_of, degree}
use Rattle.ff_theory.proofs.Element.{algebra_is_ring}
use Rattle.ff_theory.specs.Monic.{monic_form}
use Rattle.ff_charts.specs.Chart.{IsChart}
use Rattle.ff_theory.specs.Reversal.{Fits, IsSlope}
use Rattle.ff_charts.specs.FieldCharts.{t_of, finite_chart, infinite_chart}
use Rattle.ff_charts.proofs.FiniteChart.{finite_is_chart, inverts_row}
use Rattle.ff_charts.proofs.InvertedChart.{bound, inverted_is_chart, variable_size}

module _ (K : Field) (f : Plane K) (n : ℕ) (has : size (polynomials K.ring) f ≡ suc n) where
  pub t_inverts : (algebra_of K f).mul (t_of K f) (x_of K f) ≡ (algebra_of K f).one
  unfolding x_of
  t_inverts = inverts_row K f n has (x K.ring K.laws K.tests)
      (size_nonzero K (x K.ring K.laws K.tests) 1 (variable_size K))

  pub infinite_is_chart : (e : ℕ) → Fits K.ring (degree K f) (monic_form (polynomials K.ring) f) e
      → IsChart K.ring (algebra_of K f) (infinite_chart K f e)
  infinite_is_chart e fits = inverted_is_chart K (algebra_of K f) (algebra_is_ring K f)
      (finite_chart K f) (finite_is_chart K f n has) (t_of K f) t_inverts e fits

module _ (k : RingOps) (F : Poly (polynomials k)) where
  -- the rows below n fit, or one does not
  fits_or_not : (n r e : ℕ) → ((i : ℕ) → i < n → size k (coeff (polynomials k) F.coeffs i) ≤ suc ((r
      - i) * e)) ⊎ (¬ ((i : ℕ) → i < n
      → size k (coeff (polynomials k) F.coeffs i) ≤ suc ((r - i) * e)))
  fits_or_not zero r e = inl (λ i l. absurd (omega arith))
  fits_or_not (suc n) r e = go (fits_or_not n r e)
      (cases_lt (suc ((r - n) * e)) (size k (coeff (polynomials k) F.coeffs n)))
    where
      Good : ℕ → Type 0
      Good i = size k (coeff (polynomials k) F.coeffs i) ≤ suc ((r - i) * e)

      go : ((i : ℕ) → i < n → Good i) ⊎ (¬ ((i : ℕ) → i < n → Good i))
          → (suc ((r - n) * e) < size k (coeff (polynomials k) F.coeffs n))
          ⊎ (size k (coeff (polynomials k) F.coeffs n) ≤ suc ((r - n) * e))
          → ((i : ℕ) → i < suc n → Good i) ⊎ (¬ ((i : ℕ) → i < suc n → Good i))
      go (inr fails) _ = inr (λ h. fails (λ i l. h i (omega arith)))
      go (inl h) (inl l) = inr (λ g. let m : Good n = g n (omega arith) in absurd (omega (
        arith,
        m,
        l,
      )))
      go (inl h) (inr l) = inl (λ i q. pick i q (cases_lt i n))
        where
          pick : (i : ℕ) → i < suc n → (i < n) ⊎ (n ≤ i) → Good i
          pick i q (inl m) = h i m
          pick i q (inr m) = let e : n ≡ i = omega arith in subst Good e l

  search : (n fuel d : ℕ) → ((d' : ℕ) → Fits k n F d' → d ≤ d') → Fits k n F (d + fuel) → (e : ℕ)
      × IsSlope k n F e
  search n zero d low h = (
    d,
    record
        { fits = let z : d + 0 ≡ d = omega arith in subst (Fits k n F) z h; least = low },
  )
  search n (suc fuel) d low h = go (fits_or_not n n d) (λ low' h'. search n fuel (suc d) low' h')
    where
      go : (Fits k n F d) ⊎ (¬ (Fits k n F d))
          → (((d' : ℕ) → Fits k n F d' → suc d ≤ d') → Fits k n F (suc d + fuel) → (e : ℕ)
          × IsSlope k n F e) → (e : ℕ) × IsSlope k n F e
      go (inl good) rest = (d, record { fits = good; least = low })
      go (inr fails) rest = rest (λ d' q. above d' q (cases_lt d d'))
          (let z : d + suc fuel ≡ suc d + fuel = omega arith in subst (Fits k n F) z h)
        where
          above : (d' : ℕ) → Fits k n F d' → (d < d') ⊎ (d' ≤ d) → suc d ≤ d'
          above d' q (inl l) = omega arith
          above d' q (inr l) = let m : d ≤ d' = low d' q in let z : d'
              ≡ d = omega (arith, l, m) in absurd (fails (subst (Fits k n F) z q))

  -- there is a least e that fits
  pub slope : (n : ℕ) → (e : ℕ) × IsSlope k n F e
  slope n = search n b.0 0 (λ d' q. omega arith) (λ i l. fit i l (b.1 i l))
    where
      b : (b : ℕ) × ((i : ℕ) → i < n → size k (coeff (polynomials k) F.coeffs i) ≤ b)
      b = bound n (λ i. size k (coeff (polynomials k) F.coeffs i))

      fit : (i : ℕ) → i < n → size k (coeff (polynomials k) F.coeffs i) ≤ b.0
          → size k (coeff (polynomials k) F.coeffs i) ≤ suc ((n - i) * (0 + b.0))
      fit i l q = let z : n - i ≡ suc (n - i - 1) = omega arith in let w : 0 + b.0
          ≡ b.0 = omega arith in
          subst (λ m. size k (coeff (polynomials k) F.coeffs i) ≤ suc (m * (0 + b.0))) (sym z)
          (subst (λ c. size k (coeff (polynomials k) F.coeffs i) ≤ suc (suc (n - i - 1) * c))
          (sym w) (more (n - i - 1) b.0 q))
        where
          more : (m c : ℕ) → size k (coeff (polynomials k) F.coeffs i) ≤ c
              → size k (coeff (polynomials k) F.coeffs i) ≤ suc (suc m * c)
          more m c q = let z : suc m * c ≡ c + m * c = omega arith in omega (arith, z, q)

-- and only one
pub slope_one : (k : RingOps) (F : Poly (polynomials k)) (n d e : ℕ) → IsSlope k n F d
    → IsSlope k n F e → d ≡ e
slope_one k F n d e p q = let a : d ≤ e = p.least e q.fits in let b : e ≤ d = q.least d p.fits in
    omega (arith, a, b)
