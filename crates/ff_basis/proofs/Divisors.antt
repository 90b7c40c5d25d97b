-- Divisors of polynomials: lowest terms, powers of the variable, and rows of planes.
use Rattle.std.proofs.Common.{◌≡◌, ℕ, zero, suc, pred, ◌+◌, ◌<◌, ◌≤◌, ◌⊎◌, inl, inr}
use Rattle.std.proofs.Common.{false, List, [], ◌∷◌, length, refl, sym, ◌∙◌, ap, ap₂, subst, arith}
use Rattle.std.proofs.lemmas.Bool.{cases_lt, ltb-true}
use Rattle.ff_theory.specs.Ring.{RingOps, IsCommRing, power}
use Rattle.ff_theory.specs.Lawful.{Domain, Field}
use Rattle.ff_theory.specs.Poly.{coeff, Poly, poly, polynomials}
use Rattle.ff_theory.specs.Division.{size, leading_coeff}
use Rattle.ff_theory.specs.Divides.{Divides, IsCoprime}
use Rattle.ff_theory.specs.LowestTerms.{IsLowest}
use Rattle.ff_theory.specs.Monomial.{raised, monomial, variable}
use Rattle.ff_theory.specs.Planes.{planes, Plane, row_of}
use Rattle.ff_theory.specs.Map.{IsMap}
use Rattle.ff_theory.proofs.Solver.{◌⊕◌, ◌⊗◌, ring3, ring6, mul_zero, zero_mul}
use Rattle.ff_theory.proofs.Solver.{add_cancel}
use Rattle.ff_theory.proofs.Poly.{Poly_ext, polynomial_laws}
use Rattle.ff_theory.proofs.Product.{power-mul, poly-coeff}
use Rattle.ff_theory.proofs.Monomial.{raised-at, raised-past}
use Rattle.ff_theory.proofs.Divides.{divides_left, divides_coprime}
use Rattle.ff_theory.proofs.Division.{const_mul_at, zero_from, size_le, size-add, size-neg}
use Rattle.ff_theory.proofs.Division.{size-mul}
use Rattle.ff_theory.proofs.Division.{top_nonzero, add_at, neg_at}
use Rattle.ff_theory.proofs.Gcd.{no_size}
use Rattle.ff_theory.proofs.LowestTerms.{ListGcd, list_gcd}
use Rattle.ff_theory.proofs.PolyMap.{polynomial_domain, same_false, not_same, zero_size}
use Rattle.ff_theory.proofs.PolyMap.{nonzero_size}
use Rattle.ff_theory.proofs.PolyMap.{one_size}
use Rattle.ff_theory.proofs.QuotientUnits.{unit_poly}
use Rattle.ff_charts.specs.Chart.{Chart, at_u, at_theta, InPowers, IsChart}
use Rattle.ff_charts.proofs.Rows.{exact_size}
use Rattle.ff_charts.proofs.Chart.{at_theta_map, row_times, powers_reduced}
use Rattle.ff_charts.proofs.VariablePowers.{zeros, after_zeros, splits_list, starts_nonzero}
use Rattle.ff_charts.proofs.VariablePowers.{coprime_power}

module _ (K : Field) where
  abbrev P : Type 0
  P = Poly K.ring

  abbrev R : RingOps
  R = polynomials K.ring

  abbrev D : Domain
  D = polynomial_domain K

  -- the factor of a polynomial that is not zero is not zero
  factor_nonzero : (a b q : P) → b ≡ R.mul q a → R.same b R.zero ≡ false → R.same a R.zero ≡ false
  factor_nonzero a b q e h = same_false R D.tests a R.zero (λ z. not_same R D.tests b R.zero h (e
      ∙ ap (R.mul q) z ∙ mul_zero R D.laws q))

  pub monic_nonzero : (a : Poly K.ring) → leading_coeff K.ring a ≡ K.one
      → (polynomials K.ring).same a (polynomials K.ring).zero ≡ false
  unfolding poly
  monic_nonzero a h = same_false R D.tests a R.zero
      (λ e. K.is_field.one_not_zero (sym h ∙ ap (leading_coeff K.ring) e))

  -- a denominator in lowest terms divides what makes its product with each numerator divisible
  pub lowest_divides : (n : ℕ) (den : Poly K.ring) (nums : List (Poly K.ring))
      → IsLowest K n den nums
      → (m : Poly K.ring) → ((i : ℕ) → i < n → Divides (polynomials K.ring) den
      ((polynomials K.ring).mul m (coeff (polynomials K.ring) nums i)))
      → Divides (polynomials K.ring) den m
  lowest_divides n den nums h m each =
      let small : size K.ring d.g < 2 = ltb-true (size K.ring d.g) 2
      (h.lowest d.g d.of_c (λ i l. (d.part i, d.of_each i l))) in
      let sg : (m : ℕ) × (size K.ring d.g ≡ suc m) = nonzero_size K d.g
      (factor_nonzero d.g den d.of_c.0 d.of_c.1
      (monic_nonzero den (K.tests.same_true _ _ h.monic))) in
      let u : (h : P) × (R.mul h d.g ≡ R.one) = unit_poly K d.g (omega (arith, small, sg.1)) in
      subst (Divides (polynomials K.ring) den) (ring3 R D.laws (λ h m g. h ⊗ (m ⊗ g))
      (λ h m g. m ⊗ (h ⊗ g)) refl u.0 m d.g ∙ ap (R.mul m) u.1 ∙ D.laws.mul_one m)
      (divides_left R D.laws den u.0 (R.mul m d.g) (d.greatest den m (m, refl) each))
    where
      d : ListGcd K den (coeff R nums) n
      d = list_gcd K den (coeff R nums) n

  -- a divisor has not more coefficients
  pub divisor_size : (a b : Poly K.ring) → (polynomials K.ring).same b (polynomials K.ring).zero
      ≡ false → Divides (polynomials K.ring) a b → size K.ring a ≤ size K.ring b
  divisor_size a b nb h = go (nonzero_size K h.0 quotient) (nonzero_size K a divisor)
    where
      divisor : R.same a R.zero ≡ false
      divisor = factor_nonzero a b h.0 h.1 nb

      quotient : R.same h.0 R.zero ≡ false
      quotient = factor_nonzero h.0 b a (h.1 ∙ D.laws.mul_comm h.0 a) nb

      go : (i : ℕ) × (size K.ring h.0 ≡ suc i) → (j : ℕ) × (size K.ring a ≡ suc j)
          → size K.ring a ≤ size K.ring b
      go i j = let s : size K.ring b ≡ suc (i.0 + j.0) = ap (size K.ring) h.1
          ∙ size-mul K h.0 a i.0 j.0 i.1 j.1 in
          omega (arith, s, j.1)

  -- the sizes of equal products
  pub cross_size : (a b c d : Poly K.ring)
      → (polynomials K.ring).same b (polynomials K.ring).zero ≡ false
      → (polynomials K.ring).same d (polynomials K.ring).zero ≡ false
      → (polynomials K.ring).mul a d ≡ (polynomials K.ring).mul c b
      → size K.ring c ≤ pred (size K.ring d) → size K.ring a ≤ pred (size K.ring b)
  cross_size a b c d nb nd e small = go (size K.ring a) refl (size K.ring c) refl
      (nonzero_size K b nb) (nonzero_size K d nd)
    where
      go : (i : ℕ) → size K.ring a ≡ i → (j : ℕ) → size K.ring c ≡ j
          → (m : ℕ) × (size K.ring b ≡ suc m) → (n : ℕ) × (size K.ring d ≡ suc n)
          → size K.ring a ≤ pred (size K.ring b)
      go zero ei j ej m n = omega (arith, ei)
      go (suc i) ei zero ej m n = absurd (let s : size K.ring (R.mul a d) ≡ suc (i + n.0) = size-mul
          K a d i n.0 ei n.1 in
          let z : size K.ring (R.mul a d) ≡ 0 = ap (size K.ring) (e
          ∙ ap (λ t. R.mul t b) (no_size K c ej)
          ∙ zero_mul R D.laws b) ∙ zero_size K in omega (arith, s, z))
      go (suc i) ei (suc j) ej m n = let s : size K.ring (R.mul a d) ≡ suc (i + n.0) = size-mul
          K a d i n.0 ei n.1 in
          let t : size K.ring (R.mul c b) ≡ suc (j + m.0) = size-mul
          K c b j m.0 ej m.1 in
          let w : size K.ring (R.mul a d) ≡ size K.ring (R.mul c b) = ap (size K.ring) e in
          let p : pred (size K.ring d) ≡ n.0 = ap pred n.1 in
          let q : pred (size K.ring b) ≡ m.0 = ap pred m.1 in
          omega (arith, s, t, w, p, q, ei, ej, small)

  abbrev X : P
  X = variable K.ring

  -- c * x^n has the leading coefficient c
  monomial_size : (c : K.carrier) → ¬ (c ≡ K.zero) → (n : ℕ)
      → size K.ring (monomial K.ring c n) ≡ suc n
  monomial_size c nc n = exact_size K.ring K.laws K.tests (monomial K.ring c n) n
      (λ z. nc (sym (poly-coeff K.ring K.laws K.tests (raised K.ring n (c ∷ [])) n
      ∙ raised-at K.ring n (c ∷ []) 0 n (omega arith)) ∙ z))
      (λ i q. poly-coeff K.ring K.laws K.tests (raised K.ring n (c ∷ [])) i
      ∙ raised-past K.ring n (c ∷ []) i (let e : length (c ∷ []) ≡ 1 = refl in omega (arith, e, q)))

  monomial_leading : (c : K.carrier) → ¬ (c ≡ K.zero) → (n : ℕ)
      → leading_coeff K.ring (monomial K.ring c n) ≡ c
  monomial_leading c nc n = ap (λ k. coeff K.ring (monomial K.ring c n).coeffs (pred k))
      (monomial_size c nc n)
      ∙ poly-coeff K.ring K.laws K.tests (raised K.ring n (c ∷ [])) n
      ∙ raised-at K.ring n (c ∷ []) 0 n (omega arith)

  -- a power of the variable has one coefficient more than its exponent
  pub power_size : (n : ℕ) → size K.ring (power (polynomials K.ring) (variable K.ring) n) ≡ suc n
  power_size n = ap (size K.ring) (sym (D.laws.mul_one (power R X n))
      ∙ power-mul K.ring K.laws K.tests n (K.one ∷ []))
      ∙ monomial_size K.one K.is_field.one_not_zero n

  -- the difference of two monic polynomials of one degree has a lower one
  pub difference_size : (a b : Poly K.ring) → leading_coeff K.ring a ≡ K.one
      → leading_coeff K.ring b ≡ K.one → size K.ring a ≡ size K.ring b
      → size K.ring ((polynomials K.ring).add a ((polynomials K.ring).neg b)) < size K.ring a
  difference_size a b la lb e = go (nonzero_size K a (monic_nonzero a la))
    where
      go : (m : ℕ) × (size K.ring a ≡ suc m)
          → size K.ring ((polynomials K.ring).add a ((polynomials K.ring).neg b)) < size K.ring a
      go m = let s : size K.ring (D.add a (D.neg b)) ≤ m.0 = size_le K.ring K.laws K.tests
          (D.add a (D.neg b)) m.0 (λ i q. add_at K.ring K.laws K.tests a (D.neg b) i
          ∙ ap (K.add (coeff K.ring a.coeffs i)) (neg_at K.ring K.laws K.tests b i)
          ∙ each i q (cases_lt m.0 i)) in omega (arith, s, m.1)
        where
          each : (i : ℕ) → m.0 ≤ i → (m.0 < i) ⊎ (i ≤ m.0)
              → K.add (coeff K.ring a.coeffs i) (K.neg (coeff K.ring b.coeffs i)) ≡ K.zero
          each i q (inl s) = ap₂ (λ x y. K.add x (K.neg y))
              (zero_from K.ring K.laws K.tests a i (omega (arith, m.1, s)))
              (zero_from K.ring K.laws K.tests b i (omega (arith, m.1, e, s)))
              ∙ K.laws.add_neg K.zero
          each i q (inr s) = ap₂ (λ x y. K.add x (K.neg y))
              (let t : i ≡ pred (size K.ring a) = omega (arith, m.1, q, s) in
              ap (coeff K.ring a.coeffs) t ∙ la)
              (let t : i ≡ pred (size K.ring b) = omega (arith, m.1, e, q, s) in
              ap (coeff K.ring b.coeffs) t ∙ lb)
              ∙ K.laws.add_neg K.one

  constant_is : (q : P) → size K.ring q ≡ 1 → q ≡ poly K.ring (coeff K.ring q.coeffs 0 ∷ [])
  constant_is q h = Poly_ext K.ring K.laws K.tests q _ (λ i. go i
      ∙ sym (poly-coeff K.ring K.laws K.tests (coeff K.ring q.coeffs 0 ∷ []) i))
    where
      go : (i : ℕ) → coeff K.ring q.coeffs i ≡ coeff K.ring (coeff K.ring q.coeffs 0 ∷ []) i
      go zero = refl
      go (suc i) = zero_from K.ring K.laws K.tests q (suc i) (omega arith)

  -- a monic divisor of a power of the variable is one
  pub monic_divisor_of_power : (a : Poly K.ring) (j : ℕ) → leading_coeff K.ring a ≡ K.one
      → Divides (polynomials K.ring) a (power (polynomials K.ring) (variable K.ring) j)
      → (i : ℕ) × (a ≡ power (polynomials K.ring) (variable K.ring) i)
  monic_divisor_of_power a j monic h = (
    zeros K a.coeffs,
    whole ∙ ap (R.mul xi) one
        ∙ D.laws.mul_one xi,
  )
    where
      na : R.same a R.zero ≡ false
      na = monic_nonzero a monic

      xi : P
      xi = power R X (zeros K a.coeffs)

      s : P
      s = after_zeros K a.coeffs

      self : poly K.ring a.coeffs ≡ a
      self = Poly_ext K.ring K.laws K.tests (poly K.ring a.coeffs) a
          (poly-coeff K.ring K.laws K.tests a.coeffs)

      whole : a ≡ R.mul xi s
      whole = sym self ∙ splits_list K a.coeffs (λ z. not_same R D.tests a R.zero na (sym self ∙ z))

      apart : IsCoprime R s (power R X j)
      apart = coprime_power K s (not_same K.ring K.tests _ _ (starts_nonzero K a.coeffs)) j

      -- s divides a combination of itself and the power, which is 1
      inverse : R.mul (R.add apart.u (R.mul (R.mul apart.v h.0) xi)) s ≡ R.one
      inverse = ring6 R D.laws (λ u v q x s z. (u ⊕ (v ⊗ q) ⊗ x) ⊗ s)
          (λ u v q x s z. u ⊗ s ⊕ v ⊗ (q ⊗ (x ⊗ s))) refl apart.u apart.v h.0 xi s s
          ∙ ap (λ t. R.add (R.mul apart.u s) (R.mul apart.v t))
          (ap (R.mul h.0) (sym whole) ∙ sym h.1) ∙ apart.one

      ns : R.same s R.zero ≡ false
      ns = factor_nonzero s a xi whole na

      small : size K.ring s ≡ 1
      small = let le : size K.ring s ≤ size K.ring R.one = divisor_size s R.one D.proper
          (R.add apart.u (R.mul (R.mul apart.v h.0) xi), sym inverse) in
          let n : (i : ℕ) × (size K.ring s ≡ suc i) = nonzero_size K s ns in
          let o : size K.ring R.one ≡ 1 = one_size K in omega (arith, le, n.1, o)

      c : K.carrier
      c = coeff K.ring s.coeffs 0

      nc : ¬ (c ≡ K.zero)
      nc = top_nonzero K.ring K.laws K.tests s 0 small

      as_monomial : a ≡ monomial K.ring c (zeros K a.coeffs)
      as_monomial = whole ∙ ap (R.mul xi) (constant_is s small)
          ∙ power-mul K.ring K.laws K.tests (zeros K a.coeffs) (c ∷ [])

      is_one : c ≡ K.one
      is_one = sym (monomial_leading c nc (zeros K a.coeffs))
          ∙ ap (leading_coeff K.ring) (sym as_monomial) ∙ monic

      one : s ≡ R.one
      one = constant_is s small ∙ ap (λ k. poly K.ring (k ∷ [])) is_one

module _ (K : Field) (A : RingOps) (AL : IsCommRing A) (c : Chart K.ring A) (l : IsChart K.ring A c)
  where
    infixl 70 ◌*◌
    open A use {mul as ◌*◌, carrier as C}

    PL : IsCommRing (planes K)
    PL = polynomial_laws (D K).ring (D K).laws (D K).tests

    abbrev row_at : Plane K → ℕ → Poly K.ring
    row_at N i = coeff (polynomials K.ring) N.coeffs i

    V : IsMap (planes K) A (at_theta c)
    V = at_theta_map K A AL c l

    pub few_rows : (h : Poly K.ring) (N : Plane K) → size (polynomials K.ring) N ≤ c.degree
        → size (polynomials K.ring) ((planes K).mul (row_of K.ring h) N) ≤ c.degree
    few_rows h N q = size_le (polynomials K.ring) (D K).laws (D K).tests
        ((planes K).mul (row_of K.ring h) N) c.degree
        (λ i r. const_mul_at (polynomials K.ring) (D K).laws (D K).tests h N i
        ∙ ap ((D K).mul h)
        (zero_from (polynomials K.ring) (D K).laws (D K).tests N i (omega (arith, q, r)))
        ∙ mul_zero (D K).ring (D K).laws h)

    -- planes with few rows and one value are equal
    pub one_plane : (M N : Plane K) → size (polynomials K.ring) M ≤ c.degree
        → size (polynomials K.ring) N ≤ c.degree → at_theta c M ≡ at_theta c N → M ≡ N
    one_plane M N p q e = add_cancel (planes K) PL M N ((planes K).neg N)
        (l.independent ((planes K).add M ((planes K).neg N))
        (size-add (polynomials K.ring) (D K).laws (D K).tests M ((planes K).neg N) c.degree p
        (let s : size (polynomials K.ring) ((planes K).neg N) ≤ size (polynomials K.ring) N =
        size-neg (polynomials K.ring) (D K).laws (D K).tests N in omega (arith, s, q)))
        (V.on_add M ((planes K).neg N) ∙ ap₂ A.add e (V.on_neg N) ∙ AL.add_neg (at_theta c N))
        ∙ sym (PL.add_neg N))

    -- where a plane with few rows is m times an element of the power order, m divides its rows
    pub rows_divisible : (m : Poly K.ring) → c.IsModulus m → (N : Plane K)
        → size (polynomials K.ring) N ≤ c.degree → (b : A.carrier) → InPowers c b
        → at_theta c N ≡ A.mul (at_u c m) b → (i : ℕ)
        → Divides (polynomials K.ring) m (coeff (polynomials K.ring) N.coeffs i)
    rows_divisible m hm N small b p e i = divides_coprime (polynomials K.ring) (D K).laws m p.unit
        (row_at N i) cop.v cop.u
        ((D K).laws.add_comm ((D K).mul cop.v m) ((D K).mul cop.u p.unit) ∙ cop.one) (
          row_at M.0 i,
          sym (const_mul_at (polynomials K.ring) (D K).laws (D K).tests p.unit N i)
              ∙ ap (λ (T : Plane K). row_at T i) same
              ∙ const_mul_at (polynomials K.ring) (D K).laws (D K).tests m M.0 i
              ∙ (D K).laws.mul_comm m (row_at M.0 i),
        )
      where
        M : (M : Plane K) × ((size (polynomials K.ring) M ≤ c.degree)
            × (at_u c p.unit * b ≡ at_theta c M))
        M = powers_reduced K A AL c l b p

        cop : IsCoprime (polynomials K.ring) p.unit m
        cop = l.coprime p.unit m p.is_unit hm

        same : (planes K).mul (row_of K.ring p.unit) N ≡ (planes K).mul (row_of K.ring m) M.0
        same = one_plane _ _ (few_rows p.unit N small) (few_rows m M.0 M.1.0)
            (row_times K A AL c l p.unit N ∙ ap (λ t. at_u c p.unit * t) e
            ∙ ring3 A AL (λ s m b. s ⊗ (m ⊗ b)) (λ s m b. m ⊗ (s ⊗ b)) refl (at_u c p.unit)
            (at_u c m) b
            ∙ ap (λ t. at_u c m * t) M.1.1 ∙ sym (row_times K A AL c l m M.0))
