-- Degrees of the coordinates of an element, by any denominator of it.
use Rattle.std.proofs.Common.{◌≡◌, ℕ, zero, suc, ◌+◌, ◌*◌, ◌<◌, ◌≤◌, false, [], ◌∷◌, ◌⊎◌, inl, inr}
use Rattle.std.proofs.Common.{length, refl, sym, ◌∙◌, ap, ap₂, arith}
use Rattle.std.proofs.lemmas.Bool.{cases_lt, eqb-true}
use Rattle.ff_theory.specs.Ring.{RingOps, IsCommRing, power}
use Rattle.ff_theory.specs.Lawful.{Domain, Field}
use Rattle.ff_theory.specs.Poly.{coeff, Poly, poly, polynomials}
use Rattle.ff_theory.specs.Division.{size}
use Rattle.ff_theory.proofs.Solver.{◌⊕◌, ◌⊗◌, neg, nil, ring2, ring3, mul_zero}
use Rattle.ff_theory.proofs.Poly.{trim-coeff, polynomial_laws}
use Rattle.ff_theory.proofs.Division.{size-mul, size-mul-le, size-add, size-neg, const_mul_at}
use Rattle.ff_theory.proofs.Division.{zero_from}
use Rattle.ff_theory.proofs.Gcd.{no_size}
use Rattle.ff_theory.proofs.PolyMap.{polynomial_domain, not_same, one_size}
use Rattle.ff_theory.specs.Planes.{planes, Plane, row_of}
use Rattle.ff_theory.specs.Algebra.{algebra_of, value_of, Form, degree}
use Rattle.ff_theory.proofs.Element.{algebra_is_ring, value_map}
use Rattle.ff_theory.proofs.Element.{form, element_clear, lowest_nonzero}
use Rattle.ff_charts.specs.Integral.{HasDegrees}
use Rattle.ff_charts.proofs.Rows.{poly_size}
use Rattle.ff_charts.proofs.FiniteChart.{degree_is, low_zero}
use Rattle.ff_conductor.proofs.Integral.{times-mono}

module _ (K : Field) where
  abbrev D : Domain
  D = polynomial_domain K

  pub zero_size : size K.ring (polynomials K.ring).zero ≡ 0
  unfolding poly
  zero_size = refl

  pub nonzero_size : (p : Poly K.ring) → (polynomials K.ring).same p (polynomials K.ring).zero
      ≡ false → (j : ℕ) × (size K.ring p ≡ suc j)
  nonzero_size p h = go (size K.ring p) refl
    where
      go : (k : ℕ) → size K.ring p ≡ k → (j : ℕ) × (size K.ring p ≡ suc j)
      go zero e = absurd (not_same (polynomials K.ring) D.tests p D.zero h
          (no_size K p e))
      go (suc j) e = (j, e)

  -- in d * p = e * q, p is not much longer than e where q is not much longer than d
  pub factor_size : (d e p q : Poly K.ring) (m s t : ℕ) → size K.ring d ≡ suc s → size K.ring e
      ≡ suc t
      → (polynomials K.ring).mul d p ≡ (polynomials K.ring).mul e q
      → size K.ring q ≤ size K.ring d + m → size K.ring p ≤ size K.ring e + m
  unfolding poly
  factor_size d e p q m s t hd he same small = go (size K.ring p) refl (size K.ring q) refl
    where
      go : (k : ℕ) → size K.ring p ≡ k → (l : ℕ) → size K.ring q ≡ l
          → size K.ring p ≤ size K.ring e + m
      go zero hp l hq = omega (arith, hp)
      go (suc k) hp zero hq = absurd
          (let a : size K.ring (D.mul d p)
          ≡ suc (s + k) = size-mul K d p s k hd hp in
          let z : size K.ring (D.mul e q)
          ≡ 0 = ap (size K.ring) (ap (D.mul e) (no_size K q hq) ∙ mul_zero D.ring D.laws e)
          ∙ refl in
          let b : size K.ring (D.mul d p)
          ≡ size K.ring (D.mul e q) = ap (size K.ring) same in omega (arith, a, z, b))
      go (suc k) hp (suc l) hq = let a : size K.ring (D.mul d p)
          ≡ suc (s + k) = size-mul K d p s k hd hp in
          let z : size K.ring (D.mul e q)
          ≡ suc (t + l) = size-mul K e q t l he hq in
          let b : size K.ring (D.mul d p)
          ≡ size K.ring (D.mul e q) = ap (size K.ring) same in omega
          (arith, a, z, b, hp, hq, hd, he, small)

  -- a power has no more coefficients than the factors together, and one
  pub power_size : (p : Poly K.ring) (i : ℕ)
      → size K.ring (power (polynomials K.ring) p i) ≤ suc (size K.ring p * i)
  power_size p zero = let e : size K.ring (polynomials K.ring).one
      ≡ 1 = one_size K in omega (arith, e)
  power_size p (suc i) = let h : size K.ring (power (polynomials K.ring) p i) ≤ suc
      (size K.ring p * i) = power_size p i in
      let w : size K.ring p * suc i ≡ size K.ring p + size K.ring p * i = omega arith in
      let r : size K.ring (D.mul p (power (polynomials K.ring) p i)) ≤ size K.ring p * suc
      i = size-mul-le K.ring K.laws K.tests p (power (polynomials K.ring) p i)
      (size K.ring p * suc i) (omega (arith, h, w)) in omega (arith, r)

  pub power_size_below : (p : Poly K.ring) (i n : ℕ) → i ≤ n
      → size K.ring (power (polynomials K.ring) p i) ≤ suc (size K.ring p * n)
  power_size_below p i n l = let h : size K.ring (power (polynomials K.ring) p i) ≤ suc
      (size K.ring p * i) = power_size p i in
      let m : size K.ring p * i ≤ size K.ring p * n = times-mono (size K.ring p) i n l in omega
      (arith, h, m)

  -- a product has at least as many coefficients as a factor, where the other is not 0
  pub factor_below : (p q : Poly K.ring) → (polynomials K.ring).same p (polynomials K.ring).zero
      ≡ false → size K.ring q ≤ size K.ring ((polynomials K.ring).mul p q)
  factor_below p q h = let e : (j : ℕ)
      × (size K.ring p ≡ suc j) = nonzero_size p h in go e (size K.ring q) refl
    where
      go : (j : ℕ) × (size K.ring p ≡ suc j) → (k : ℕ) → size K.ring q ≡ k
          → size K.ring q ≤ size K.ring (D.mul p q)
      go e zero hq = omega (arith, hq)
      go e (suc k) hq = let z : size K.ring (D.mul p q)
          ≡ suc (e.0 + k) = size-mul K p q e.0 k e.1 hq in
          omega (arith, z, hq)

module _ (K : Field) (f : Plane K) (n : ℕ) (has : size (polynomials K.ring) f ≡ suc n) where
  abbrev A : RingOps
  A = algebra_of K f

  abbrev P : Domain
  P = polynomial_domain K

  AL : IsCommRing (algebra_of K f)
  AL = algebra_is_ring K f

  PL : IsCommRing (planes K)
  PL = polynomial_laws P.ring P.laws P.tests

  -- planes with at most n rows and one value are equal
  pub low_equal : (M N : Plane K) → size (polynomials K.ring) M ≤ n
      → size (polynomials K.ring) N ≤ n → value_of K f M ≡ value_of K f N → M ≡ N
  low_equal M N hm hn e = ring2 (planes K) PL (λ m n. m) (λ m n. (m ⊕ neg n) ⊕ n) refl M N
      ∙ ap (λ t. (planes K).add t N) none ∙ ring2 (planes K) PL (λ m n. nil ⊕ n) (λ m n. n) refl M N
    where
      none : (planes K).add M ((planes K).neg N) ≡ (planes K).zero
      none = low_zero K f n has ((planes K).add M ((planes K).neg N))
          (let d : degree K f ≡ n = degree_is K f n has in let s : size (polynomials K.ring)
          ((planes K).neg N) ≤ size (polynomials K.ring) N = size-neg P.ring P.laws P.tests N in
          let r : size (polynomials K.ring) ((planes K).add M ((planes K).neg N)) ≤ n = size-add
          P.ring P.laws P.tests M ((planes K).neg N) n hm (omega (arith, s, hn)) in omega
          (arith, d, r))
          ((value_map K f).on_add M ((planes K).neg N) ∙ ap₂ A.add e ((value_map K f).on_neg N)
          ∙ AL.add_neg (value_of K f N))

  pub row_mul_size : (d : Poly K.ring) (N : Plane K) → size (polynomials K.ring) N ≤ n
      → size (polynomials K.ring) ((planes K).mul (row_of K.ring d) N) ≤ n
  row_mul_size d N h = let r : size (polynomials K.ring) (row_of K.ring d) ≤ 1 = poly_size P.ring
      P.laws
      P.tests (d ∷ []) in size-mul-le P.ring P.laws P.tests (row_of K.ring d) N n
      (omega (arith, r, h))

  -- a bound on the degrees of numerators over any denominator is one on those in lowest terms
  pub degrees_by : (s : (algebra_of K f).carrier) (d : Poly K.ring) (N : Plane K) (m k : ℕ)
      → size K.ring d ≡ suc k
      → size (polynomials K.ring) N ≤ n → (algebra_of K f).mul (value_of K f (row_of K.ring d)) s
      ≡ value_of K f N
      → ((i : ℕ) → i < n → size K.ring (coeff (polynomials K.ring) N.coeffs i) ≤ size K.ring d + m)
      → HasDegrees K f m s
  unfolding poly
  degrees_by s d N m k hd few clear small = (t, λ i. bound i)
    where
      t : Form K f s
      t = form K f s

      nd : (polynomials K.ring).same t.den (polynomials K.ring).zero ≡ false
      nd = lowest_nonzero K f (degree K f) t.den t.nums t.lowest

      T : Plane K
      T = poly (polynomials K.ring) t.nums

      few_nums : size (polynomials K.ring) T ≤ n
      few_nums = let p : size (polynomials K.ring) T ≤ length t.nums = poly_size P.ring P.laws
          P.tests t.nums in
          let q : length t.nums ≡ degree K f = eqb-true (length t.nums) (degree K f) t.lowest.count
          in let d : degree K f ≡ n = degree_is K f n has in omega (arith, p, q, d)

      cross : (planes K).mul (row_of K.ring d) T ≡ (planes K).mul (row_of K.ring t.den) N
      cross = low_equal ((planes K).mul (row_of K.ring d) T)
          ((planes K).mul (row_of K.ring t.den) N)
          (row_mul_size d T few_nums) (row_mul_size t.den N few)
          ((value_map K f).on_mul (row_of K.ring d) T
          ∙ ap (A.mul (value_of K f (row_of K.ring d)))
          (sym (element_clear K f t.den t.nums nd)
          ∙ ap (A.mul (value_of K f (row_of K.ring t.den))) t.stands)
          ∙ ring3 A AL (λ d e s. d ⊗ (e ⊗ s)) (λ d e s. e ⊗ (d ⊗ s)) refl
          (value_of K f (row_of K.ring d))
          (value_of K f (row_of K.ring t.den)) s
          ∙ ap (A.mul (value_of K f (row_of K.ring t.den))) clear
          ∙ sym ((value_map K f).on_mul (row_of K.ring t.den) N))

      at : (i : ℕ) → P.mul d (coeff (polynomials K.ring) t.nums i)
          ≡ P.mul t.den (coeff (polynomials K.ring) N.coeffs i)
      at i = ap (P.mul d) (sym (trim-coeff P.ring P.laws P.tests t.nums i))
          ∙ sym (const_mul_at P.ring P.laws P.tests d T i)
          ∙ ap (λ (M : Plane K). coeff (polynomials K.ring) M.coeffs i) cross
          ∙ const_mul_at P.ring P.laws P.tests t.den N i

      few_at : (i : ℕ) → (i < n) ⊎ (n ≤ i)
          → size K.ring (coeff (polynomials K.ring) N.coeffs i) ≤ size K.ring d + m
      few_at i (inl q) = small i q
      few_at i (inr q) = let z : size K.ring (coeff (polynomials K.ring) N.coeffs i)
          ≡ 0 = ap (size K.ring) (zero_from P.ring P.laws P.tests N i (omega (arith, q, few)))
          ∙ zero_size K in omega (arith, z)

      bound : (i : ℕ) → size K.ring (coeff (polynomials K.ring) t.nums i) ≤ size K.ring t.den + m
      bound i = let e : (j : ℕ) × (size K.ring t.den ≡ suc j) = nonzero_size K t.den nd in
          factor_size K d t.den (coeff (polynomials K.ring) t.nums i)
          (coeff (polynomials K.ring) N.coeffs i) m k e.0 hd e.1 (at i)
          (few_at i (cases_lt i n))
