-- The finite chart of E(f) is a chart.
use Rattle.std.proofs.Common.{◌≡◌, ℕ, zero, suc, ◌-◌, ◌+◌ as plus_ℕ, ◌<◌, ◌≤◌, ◌⊎◌, inl, inr, Bool}
use Rattle.std.proofs.Common.{true, false, length, refl, sym, ◌∙◌, ap, ap₂, arith}
use Rattle.std.proofs.lemmas.Bool.{cases_lt, eqb-true}
use Rattle.ff_theory.specs.Divides.{IsCoprime}
use Rattle.ff_theory.specs.Ring.{RingOps, IsCommRing, power}
use Rattle.ff_theory.specs.Lawful.{Domain, Field}
use Rattle.ff_theory.specs.Sum.{sum_below}
use Rattle.ff_theory.specs.Poly.{coeff, Poly, poly, polynomials}
use Rattle.ff_theory.specs.Division.{size}
use Rattle.ff_theory.specs.Eval.{eval}
use Rattle.ff_theory.proofs.Solver.{◌⊕◌, ◌⊗◌, nil, unit, ring1, ring2, ring3, ring4, mul_zero}
use Rattle.ff_theory.specs.Map.{IsMap}
use Rattle.ff_theory.proofs.Powers.{power-add, power-mul}
use Rattle.ff_theory.proofs.Sums.{sum-ext, sum-mul}
use Rattle.ff_theory.proofs.Poly.{polynomial_tests}
use Rattle.ff_theory.proofs.Division.{size-mul, top_nonzero}
use Rattle.ff_theory.proofs.Evaluate.{eval_map, eval-const}
use Rattle.ff_theory.proofs.FrobeniusPoly.{map-power}
use Rattle.ff_theory.proofs.PolyMap.{polynomial_domain, not_same, same_false, size_nonzero}
use Rattle.ff_theory.proofs.PolyMap.{one_size}
use Rattle.ff_theory.proofs.QuotientUnits.{unit_poly}
use Rattle.ff_theory.specs.Planes.{planes, Plane, row_of}
use Rattle.ff_theory.specs.Algebra.{proper, degree, algebra_of, value_of, inverse_of, constant}
use Rattle.ff_theory.specs.Algebra.{x_of, y_of, Form}
use Rattle.ff_theory.proofs.Proper.{proper_is, proper_size}
use Rattle.ff_theory.proofs.Element.{low_value, row_inverse, algebra_is_ring, value_at_xy, form}
use Rattle.ff_theory.proofs.Element.{element_clear}
use Rattle.ff_theory.proofs.Element.{lowest_nonzero, cancel_row}
use Rattle.ff_theory.proofs.Element.{equation}
use Rattle.ff_theory.proofs.Constants.{constant_map}
use Rattle.ff_theory.proofs.Domains.{zero_factor}
use Rattle.ff_theory.specs.Monic.{monic_form}
use Rattle.ff_charts.specs.Chart.{Chart, at_u, at_theta, Cleared, IsChart}
use Rattle.ff_charts.specs.FieldCharts.{leading_row, y_monic, finite_chart}
use Rattle.ff_charts.proofs.Rows.{polynomial_of, polynomial_at, polynomial_size, equal_below}
use Rattle.ff_charts.proofs.Rows.{value_sum, value_of_listed, poly_size}
use Rattle.ff_charts.proofs.MonicForm.{top_row, form_below, form_last, form_size}

-- powers of a and of b in a product with powers
module _ (R : RingOps) (laws : IsCommRing R) where
  pub power_split : (a : R.carrier) (i m n : ℕ) → plus_ℕ m i ≡ n → R.mul (power R a m) (power R a i)
      ≡ power R a n
  power_split a i m n e = sym (power-add R laws a m i) ∙ ap (power R a) e

module _ (D : Domain) where
  pub power_nonzero : (a : D.carrier) → D.same a D.zero ≡ false → (n : ℕ)
      → D.same (power D.ring a n) D.zero ≡ false
  power_nonzero a h zero = D.proper
  power_nonzero a h (suc n) = D.no_divisors a (power D.ring a n) h (power_nonzero a h n)

module _ (K : Field) (f : Plane K) (n : ℕ) (has : size (polynomials K.ring) f ≡ suc n) where
  abbrev A : RingOps
  A = algebra_of K f

  abbrev D : Domain
  D = polynomial_domain K

  AL : IsCommRing (algebra_of K f)
  AL = algebra_is_ring K f

  abbrev a : Poly K.ring
  a = leading_row K f

  abbrev at : Poly K.ring → A.carrier
  at h = eval K.ring A (constant K f) (x_of K f) h

  abbrev y : A.carrier
  y = y_of K f

  nonempty : ¬ (size (polynomials K.ring) f ≡ 0)
  nonempty e = absurd (omega (arith, has, e))

  pub degree_is : degree K f ≡ n
  degree_is = let e : size (polynomials K.ring) (proper K f)
      ≡ size (polynomials K.ring) f = ap (size (polynomials K.ring)) (proper_is K f nonempty) in
      let k : size (polynomials K.ring) (proper K f)
      ≡ suc (degree K f) = proper_size K f in omega (arith, e, k, has)

  pub at_map : IsMap (polynomials K.ring) (algebra_of K f)
      (eval K.ring (algebra_of K f) (constant K f) (x_of K f))
  at_map = eval_map K.ring A K.laws K.tests AL (constant K f) (constant_map K f) (x_of K f)

  -- the value of a polynomial in x
  pub at_is : (h : Poly K.ring) → value_of K f (row_of K.ring h)
      ≡ eval K.ring (algebra_of K f) (constant K f) (x_of K f) h
  at_is h = value_at_xy K f (row_of K.ring h)
      ∙ eval-const (polynomials K.ring) A D.laws D.tests AL at at_map y h

  -- the value of a plane as a sum
  pub value_rows : (N : Plane K) (m : ℕ) → size (polynomials K.ring) N ≤ m
      → value_of K f N ≡ sum_below (algebra_of K f) m
      (λ i. (algebra_of K f).mul (eval K.ring (algebra_of K f) (constant K f) (x_of K f) (coeff
      (polynomials K.ring) N.coeffs i)) (power (algebra_of K f) (y_of K f) i))
  value_rows N m l = value_at_xy K f N
      ∙ value_sum (polynomials K.ring) D.laws D.tests A AL at at_map.on_zero y N m l

  -- a plane of low degree with the value 0 is 0
  pub low_zero : (N : Plane K) → size (polynomials K.ring) N ≤ degree K f → value_of K f N
      ≡ (algebra_of K f).zero → N ≡ (planes K).zero
  low_zero N l e = go ((planes K).same N (planes K).zero) refl
    where
      go : (b : Bool) → (planes K).same N (planes K).zero ≡ b → N ≡ (planes K).zero
      go true h = (polynomial_tests (polynomials K.ring) D.laws D.tests).same_true N (planes K).zero
          h
      go false h = absurd (low_value K f N l
          (not_same (planes K) (polynomial_tests (polynomials K.ring) D.laws D.tests) N
          (planes K).zero h) e)

  pub inverts_row : (h : Poly K.ring) → (polynomials K.ring).same h (polynomials K.ring).zero
      ≡ false → (algebra_of K f).mul (inverse_of K f h) (value_of K f (row_of K.ring h))
      ≡ (algebra_of K f).one
  inverts_row h nh = row_inverse K f h nh

  pub leading_nonzero : (polynomials K.ring).same (leading_row K f) (polynomials K.ring).zero
      ≡ false
  leading_nonzero = same_false (polynomials K.ring) D.tests a D.zero
      (λ e. top_nonzero (polynomials K.ring) D.laws D.tests f n has
      (sym (top_row (polynomials K.ring) D.laws D.tests f n has) ∙ e))

  abbrev F : Plane K
  F = monic_form (polynomials K.ring) f

  abbrev C : Chart K.ring (algebra_of K f)
  C = finite_chart K f

  α : A.carrier
  α = at a

  θ_is : y_monic K f ≡ A.mul α y
  unfolding α
  θ_is = ap (λ t. A.mul t y) (at_is a)

  -- the terms of a plane at x and y'
  term : (h : Poly K.ring) (i : ℕ) → A.mul (at h) (power A (y_monic K f) i)
      ≡ A.mul (at (D.mul h (power D.ring a i))) (power A y i)
  unfolding α
  term h i = ap (λ t. A.mul (at h) (power A t i)) θ_is ∙ ap (A.mul (at h)) (power-mul A AL α y i)
      ∙ ring3 A AL (λ h p q. h ⊗ (p ⊗ q)) (λ h p q. (h ⊗ p) ⊗ q) refl (at h) (power A α i)
      (power A y i)
      ∙ ap (λ t. A.mul t (power A y i))
      (sym (at_map.on_mul h (power D.ring a i)
      ∙ ap (A.mul (at h)) (map-power (polynomials K.ring) A at at_map a i)))

  theta_rows : (N : Plane K) (m : ℕ) → size (polynomials K.ring) N ≤ m → at_theta C N
      ≡ sum_below A m (λ i. A.mul (at (D.mul (coeff (polynomials K.ring) N.coeffs i) (power D.ring a
      i))) (power A y i))
  theta_rows N m l = value_sum (polynomials K.ring) D.laws D.tests A AL at at_map.on_zero
      (y_monic K f) N m l ∙ sum-ext A AL m _ _
      (λ i q. term (coeff (polynomials K.ring) N.coeffs i) i)

  -- a polynomial in x times a term
  into : (g h : Poly K.ring) (p : A.carrier) → A.mul (at g) (A.mul (at h) p)
      ≡ A.mul (at (D.mul g h)) p
  into g h p = sym (AL.mul_assoc (at g) (at h) p) ∙ ap (λ t. A.mul t p) (sym (at_map.on_mul g h))

  size_F : size (polynomials K.ring) F ≡ suc n
  size_F = form_size (polynomials K.ring) D.laws D.tests f n has
      (not_same (polynomials K.ring) D.tests D.one D.zero D.proper)

  root : at_theta C F ≡ A.zero
  root = cancel_row K f a leading_nonzero (at_theta C F) A.zero
      (ap (λ t. A.mul t (at_theta C F)) (at_is a)
      ∙ ap (A.mul (at a)) (theta_rows F (suc n)
      (let e : size (polynomials K.ring) F ≡ suc n = size_F in omega (arith, e)))
      ∙ sym (sum-mul A AL (suc n) (at a) _)
      ∙ sum-ext A AL (suc n) _ _ (λ i l. into a _ (power A y i) ∙ ap (λ h. A.mul (at h) (power A y
      i)) (coefficient i (cases_lt i n) l)
      ∙ sym (into (power D.ring a n) (coeff (polynomials K.ring) f.coeffs i) (power A y i)))
      ∙ sum-mul A AL (suc n) (at (power D.ring a n)) _
      ∙ ap (A.mul (at (power D.ring a n)))
      (sym (value_rows f (suc n) (omega (arith, has))) ∙ equation K f nonempty)
      ∙ mul_zero A AL _ ∙ sym (mul_zero A AL _))
    where
      coefficient : (i : ℕ) → (i < n) ⊎ (n ≤ i) → i < suc n
          → D.mul a (D.mul (coeff (polynomials K.ring) F.coeffs i) (power D.ring a i))
          ≡ D.mul (power D.ring a n) (coeff (polynomials K.ring) f.coeffs i)
      coefficient i (inl l) q = ap (λ t. D.mul a (D.mul t (power D.ring a i)))
          (form_below (polynomials K.ring) D.laws D.tests f n has i l)
          ∙ ring4 D.ring D.laws (λ a c p q. a ⊗ ((c ⊗ p) ⊗ q)) (λ a c p q. (a ⊗ (p ⊗ q)) ⊗ c) refl a
          (coeff (polynomials K.ring) f.coeffs i) (power D.ring a (n - 1 - i))
          (power D.ring a i)
          ∙ ap (λ t. D.mul t (coeff (polynomials K.ring) f.coeffs i))
          (ap (D.mul a) (power_split D.ring D.laws a i (n - 1 - i) (n - 1) (omega arith))
          ∙ (let e : suc (n - 1) ≡ n = omega arith in ap (power D.ring a) e))
      coefficient i (inr l) q = let e : i
          ≡ n = omega arith in ap (λ j. D.mul a (D.mul (coeff (polynomials K.ring) F.coeffs j)
          (power D.ring a j))) e ∙ ap (λ t. D.mul a (D.mul t (power D.ring a n))) (form_last
          (polynomials K.ring) D.laws D.tests f n has)
          ∙ ring2 D.ring D.laws (λ a p. a ⊗ (unit ⊗ p)) (λ a p. p ⊗ a) refl a (power D.ring a n)
          ∙ ap (D.mul (power D.ring a n))
          (top_row (polynomials K.ring) D.laws D.tests f n has
          ∙ ap (coeff (polynomials K.ring) f.coeffs) (sym e))

  independent : (N : Plane K) → size (polynomials K.ring) N ≤ degree K f → at_theta C N ≡ A.zero → N
      ≡ (planes K).zero
  unfolding poly
  independent N l e = equal_below (polynomials K.ring) D.laws D.tests N (planes K).zero (degree K f)
      l (let z : size (polynomials K.ring) (planes K).zero ≤ degree K f = no_rows in z) row_zero
    where
      m : ℕ
      m = degree K f

      no_rows : size (polynomials K.ring) (planes K).zero ≤ m
      no_rows = omega arith

      g : ℕ → Poly K.ring
      g i = D.mul (coeff (polynomials K.ring) N.coeffs i) (power D.ring a i)

      M : Plane K
      M = polynomial_of (polynomials K.ring) D.laws D.tests m g

      M_zero : M ≡ (planes K).zero
      M_zero = low_zero M (polynomial_size (polynomials K.ring) D.laws D.tests m g)
          (value_at_xy K f M ∙ value_of_listed (polynomials K.ring) D.laws D.tests A AL at
          at_map.on_zero y m g ∙ sym (theta_rows N m l) ∙ e)

      row_zero : (i : ℕ) → i < m → coeff (polynomials K.ring) N.coeffs i
          ≡ coeff (polynomials K.ring) (planes K).zero.coeffs i
      row_zero i q = zero_factor D (coeff (polynomials K.ring) N.coeffs i) (power D.ring a i)
          (power_nonzero D a leading_nonzero i)
          (sym (polynomial_at (polynomials K.ring) D.laws D.tests m g i q)
          ∙ ap (λ (P : Plane K). coeff (polynomials K.ring) P.coeffs i) M_zero)

  -- planes at x and y' as planes at x and y, and back
  pub from_theta : (N : Plane K) → size (polynomials K.ring) N ≤ n → (M : Plane K)
      × ((size (polynomials K.ring) M ≤ n) × (at_theta (finite_chart K f) N ≡ value_of K f M))
  from_theta N l = (
    polynomial_of (polynomials K.ring) D.laws D.tests n g,
    (
      polynomial_size (polynomials K.ring) D.laws D.tests n g,
      theta_rows N n l ∙ sym (value_at_xy K f (polynomial_of (polynomials K.ring) D.laws D.tests n
          g) ∙ value_of_listed (polynomials K.ring) D.laws D.tests A AL at at_map.on_zero y n g),
    ),
  )
    where
      g : ℕ → Poly K.ring
      g i = D.mul (coeff (polynomials K.ring) N.coeffs i) (power D.ring a i)

  pub into_theta : (N : Plane K) → size (polynomials K.ring) N ≤ n → (M : Plane K)
      × ((algebra_of K f).mul (at_u (finite_chart K f) (power (polynomials K.ring) (leading_row K f)
      n)) (value_of K f N) ≡ at_theta (finite_chart K f) M)
  into_theta N few = (
    polynomial_of (polynomials K.ring) D.laws D.tests n g,
    ap (A.mul (at (power D.ring a n))) (value_rows N n few)
        ∙ sym (sum-mul A AL n (at (power D.ring a n)) _)
        ∙ sum-ext A AL n _ _ (λ i l. into (power D.ring a n) (coeff (polynomials K.ring) N.coeffs i)
        (power A y i) ∙ ap (λ h. A.mul (at h) (power A y i)) (split i l) ∙ sym (term (g i) i))
        ∙ sym (value_of_listed (polynomials K.ring) D.laws D.tests A AL at at_map.on_zero
        (y_monic K f) n g),
  )
    where
      g : ℕ → Poly K.ring
      g i = D.mul (coeff (polynomials K.ring) N.coeffs i) (power D.ring a (n - i))

      split : (i : ℕ) → i < n → D.mul (power D.ring a n) (coeff (polynomials K.ring) N.coeffs i)
          ≡ D.mul (g i) (power D.ring a i)
      split i l = ap (λ t. D.mul t (coeff (polynomials K.ring) N.coeffs i))
          (sym (power_split D.ring D.laws a i (n - i) n (omega arith)))
          ∙ ring3 D.ring D.laws (λ p q c. (p ⊗ q) ⊗ c) (λ p q c. (c ⊗ p) ⊗ q) refl
          (power D.ring a (n - i)) (power D.ring a i) (coeff (polynomials K.ring) N.coeffs i)

  -- the rows of the two
  pub from_theta_at : (N : Plane K) (l : size (polynomials K.ring) N ≤ n) (i : ℕ) → i < n
      → coeff (polynomials K.ring) (from_theta N l).0.coeffs i
      ≡ (polynomials K.ring).mul (coeff (polynomials K.ring) N.coeffs i)
      (power (polynomials K.ring) (leading_row K f) i)
  unfolding from_theta poly
  from_theta_at N l i q = polynomial_at (polynomials K.ring) D.laws D.tests n
      (λ i. D.mul (coeff (polynomials K.ring) N.coeffs i) (power D.ring a i)) i q

  pub into_theta_at : (N : Plane K) (l : size (polynomials K.ring) N ≤ n) (i : ℕ) → i < n
      → coeff (polynomials K.ring) (into_theta N l).0.coeffs i
      ≡ (polynomials K.ring).mul (coeff (polynomials K.ring) N.coeffs i)
      (power (polynomials K.ring) (leading_row K f) (n - i))
  unfolding into_theta poly
  into_theta_at N l i q = polynomial_at (polynomials K.ring) D.laws D.tests n
      (λ i. D.mul (coeff (polynomials K.ring) N.coeffs i) (power D.ring a (n - i))) i q

  pub into_theta_size : (N : Plane K) (l : size (polynomials K.ring) N ≤ n)
      → size (polynomials K.ring) (into_theta N l).0 ≤ n
  unfolding into_theta poly
  into_theta_size N l = polynomial_size (polynomials K.ring) D.laws D.tests n
      (λ i. D.mul (coeff (polynomials K.ring) N.coeffs i) (power D.ring a (n - i)))

  cleared : (b : A.carrier) → Cleared C b
  cleared b = record {
    den = D.mul (power D.ring a n) s.den;
    nonzero = D.no_divisors (power D.ring a n) s.den (power_nonzero D a leading_nonzero n) nd;
    nums = (into_theta N few).0;
    clears = ap (λ t. A.mul t b) (at_map.on_mul (power D.ring a n) s.den)
        ∙ AL.mul_assoc (at (power D.ring a n)) (at s.den) b
        ∙ ap (A.mul (at (power D.ring a n)))
        (ap₂ A.mul (sym (at_is s.den)) (sym s.stands) ∙ element_clear K f s.den s.nums nd)
        ∙ (into_theta N few).1;
  }
    where
      s : Form K f b
      s = form K f b

      nd : (polynomials K.ring).same s.den (polynomials K.ring).zero ≡ false
      nd = lowest_nonzero K f (degree K f) s.den s.nums s.lowest

      N : Plane K
      N = poly (polynomials K.ring) s.nums

      few : size (polynomials K.ring) N ≤ n
      few = let p : size (polynomials K.ring) N ≤ length s.nums = poly_size (polynomials K.ring)
          D.laws D.tests s.nums in let q : length s.nums
          ≡ degree K f = eqb-true (length s.nums) (degree K f) s.lowest.count in omega
          (arith, p, q, degree_is)

  constant_unit : (s : Poly K.ring) → size K.ring s ≡ 1 → (m : Poly K.ring)
      → IsCoprime (polynomials K.ring) s m
  constant_unit s e m = record {
    u = (unit_poly K s e).0;
    v = D.zero;
    one = ap (λ t. D.add t (D.mul
        D.zero m)) (unit_poly K s e).1
        ∙ ring1 D.ring D.laws (λ m. unit ⊕ nil ⊗ m) (λ m. unit) refl m;
  }

  pub finite_is_chart : IsChart K.ring (algebra_of K f) (finite_chart K f)
  finite_is_chart = record {
    constants = constant_map K f;
    rows = size_F ∙ ap suc (sym degree_is);
    monic = ap (coeff (polynomials K.ring) F.coeffs) degree_is
        ∙ form_last (polynomials K.ring) D.laws D.tests f n has;
    root = root;
    independent = independent;
    inverse = inverse_of K f;
    inverts = λ h nh. ap (A.mul (inverse_of K f h)) (sym (at_is h)) ∙ inverts_row h nh;
    cleared = cleared;
    one_unit = one_size K;
    unit_product = λ s t hs ht. let e : size K.ring (D.mul s t)
        ≡ suc (plus_ℕ 0 0) = size-mul K s t 0 0 hs ht in e;
    one_modulus = D.proper;
    modulus_product = D.no_divisors;
    modulus_nonzero = λ m h. h;
    unit_nonzero = λ s h. size_nonzero K s 0 h;
    coprime = λ s m h k. constant_unit s h m;
    modulus_of = λ h. h;
    unit_of = λ h. D.one;
    is_modulus = λ h nh. nh;
    is_unit = λ h nh. one_size K;
    splits = λ h nh. sym (D.laws.mul_one h);
  }
