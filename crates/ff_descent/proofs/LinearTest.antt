-- Which residues N have g * N^p in d^p times the power order: a test by linear congruences modulo
-- d.
use Rattle.std.proofs.Common.{[], ◌∷◌, ◌≡◌, ℕ, zero, suc, ◌<◌, ◌≤◌, refl, sym, ◌∙◌}
use Rattle.std.proofs.Common.{ap, ap₂, arith}
use Rattle.ff_theory.specs.Ring.{RingOps, IsCommRing, power}
use Rattle.ff_theory.specs.Lawful.{Domain, Field}
use Rattle.ff_theory.specs.Sum.{sum_below}
use Rattle.ff_theory.specs.Poly.{coeff, Poly, polynomials}
use Rattle.ff_theory.specs.Division.{size}
use Rattle.ff_theory.specs.Divides.{IsCoprime, Divides}
use Rattle.ff_theory.proofs.Solver.{◌⊕◌, ◌⊗◌, neg, nil, ring1, ring2, ring3, ring4}
use Rattle.ff_theory.proofs.Solver.{add_cancel}
use Rattle.ff_theory.specs.Map.{IsMap}
use Rattle.ff_theory.proofs.Powers.{power-mul}
use Rattle.ff_theory.proofs.Frobenius.{HasCharacteristic, frobenius-add}
use Rattle.ff_theory.proofs.FrobeniusPoly.{map-power}
use Rattle.ff_theory.proofs.Sums.{sum-ext, sum-add, sum-mul, sum-swap}
use Rattle.ff_theory.proofs.Gcd.{coprime_divides}
use Rattle.ff_theory.proofs.Poly.{polynomial_laws}
use Rattle.ff_theory.proofs.Division.{const, x, const_mul_at, size-add, size-neg, size-mul-le}
use Rattle.ff_theory.proofs.Evaluate.{const_map, is_eval}
use Rattle.ff_theory.proofs.PolyMap.{polynomial_domain}
use Rattle.ff_theory.specs.Parts.{sum_of_parts}
use Rattle.ff_theory.specs.Planes.{planes, Plane, row_of}
use Rattle.ff_descent.proofs.RowProducts.{row_product}
use Rattle.ff_charts.specs.Chart.{Chart, at_u, at_theta, InPowers, IsChart}
use Rattle.ff_charts.proofs.Rows.{polynomial_of, polynomial_at, polynomial_size, value_sum}
use Rattle.ff_charts.proofs.Rows.{value_of_listed, poly_size}
use Rattle.ff_charts.proofs.Chart.{at_u_map, at_theta_map, row_times, powers_u, powers_at}
use Rattle.ff_charts.proofs.Chart.{powers_add, powers_mul, powers_zero, powers_power}
use Rattle.ff_charts.proofs.Chart.{powers_reduced, powers_neg, cancel_u}
use Rattle.ff_charts.specs.Lattice.{IsResidue}
use Rattle.ff_charts.proofs.FiniteChart.{power_nonzero}
use Rattle.ff_conductor.proofs.Conductor.{powers_theta}
use Rattle.ff_conductor.proofs.Free.{map-sum}
use Rattle.ff_conductor.proofs.PowerParts.{power-sums, HasRoots, part, split_p}
use Rattle.ff_conductor.proofs.SplitZero.{split_p_zero}

module _ (K : Field) where
  abbrev D : Domain
  D = polynomial_domain K

  row_mul_few : (n : ℕ) (h : Poly K.ring) (N : Plane K) → size (polynomials K.ring) N ≤ n
      → size (polynomials K.ring) ((planes K).mul (row_of K.ring h) N) ≤ n
  row_mul_few n h N l = let r : size (polynomials K.ring) (row_of K.ring h) ≤ 1 = poly_size D.ring
      D.laws D.tests (h ∷ []) in size-mul-le D.ring D.laws D.tests (row_of K.ring h) N n
      (omega (arith, r, l))

  -- planes with fewer rows than the equation and one value are equal
  chart_equal : (A : RingOps) (AL : IsCommRing A) (c : Chart K.ring A) (l : IsChart K.ring A c)
      (M N : Plane K) → size (polynomials K.ring) M ≤ c.degree
      → size (polynomials K.ring) N ≤ c.degree → at_theta c M ≡ at_theta c N → M ≡ N
  chart_equal A AL c l M N hm hn e = add_cancel (planes K) PL M N ((planes K).neg N)
      (l.independent ((planes K).add M ((planes K).neg N))
      (size-add D.ring D.laws D.tests M ((planes K).neg N) c.degree hm
      (let s : size (polynomials K.ring) ((planes K).neg N) ≤ size (polynomials K.ring)
      N = size-neg D.ring D.laws D.tests N in omega (arith, s, hn)))
      (V.on_add M ((planes K).neg N) ∙ ap₂ A.add e (V.on_neg N) ∙ AL.add_neg (at_theta c N))
      ∙ sym (PL.add_neg N))
    where
      PL : IsCommRing (planes K)
      PL = polynomial_laws D.ring D.laws D.tests

      V : IsMap (planes K) A (at_theta c)
      V = at_theta_map K A AL c l

module _ (K : Field) (q : ℕ) (charP : HasCharacteristic (polynomials K.ring) (suc q))
    (roots : HasRoots K.ring (suc q)) where
  abbrev P : Domain
  P = polynomial_domain K

  abbrev X : Poly K.ring
  X = x K.ring K.laws K.tests

  abbrev p : ℕ
  p = suc q

  identity : IsMap (polynomials K.ring) (polynomials K.ring) (λ g. g)
  identity = record {
    on_zero = refl;
    on_one = refl;
    on_add = λ a b. refl;
    on_neg = λ a. refl;
    on_mul = λ a b. refl;
  }

  -- each polynomial is such a sum
  pub parts_of : (g : Poly K.ring) → g ≡ sum_of_parts K.ring (suc q) (part K q roots g)
  parts_of g = is_eval K.ring P.ring K.laws K.tests (λ g. g) identity g
      ∙ split_p K q roots P.ring P.laws charP (const K.ring K.laws K.tests)
      (const_map K.ring K.laws K.tests) X g
      ∙ sum-ext P.ring P.laws p _ _ (λ s l. ap (λ t. P.mul (power P.ring X s) (power P.ring t p))
      (sym (is_eval K.ring P.ring K.laws K.tests (λ g. g) identity (part K q roots g s))))

  pub parts_add : (g h : ℕ → Poly K.ring)
      → sum_of_parts K.ring (suc q) (λ s. (polynomials K.ring).add (g s) (h s))
      ≡ (polynomials K.ring).add (sum_of_parts K.ring (suc q) g) (sum_of_parts K.ring (suc q) h)
  parts_add g h = sum-ext P.ring P.laws p _ _
      (λ s l. ap (P.mul (power P.ring X s)) (frobenius-add P.ring P.laws p charP (g s) (h s))
      ∙ P.laws.mul_add _ _ _) ∙ sum-add P.ring P.laws p _ _

  pub parts_mul : (d : Poly K.ring) (h : ℕ → Poly K.ring)
      → sum_of_parts K.ring (suc q) (λ s. (polynomials K.ring).mul d (h s))
      ≡ (polynomials K.ring).mul (power (polynomials K.ring) d (suc q))
      (sum_of_parts K.ring (suc q) h)
  parts_mul d h = sum-ext P.ring P.laws p _ _
      (λ s l. ap (P.mul (power P.ring X s)) (power-mul P.ring P.laws d (h s) p)
      ∙ ring3 P.ring P.laws (λ x d h. x ⊗ (d ⊗ h)) (λ x d h. d ⊗ (x ⊗ h)) refl (power P.ring X s)
      (power P.ring d p) (power P.ring (h s) p)) ∙ sum-mul P.ring P.laws p (power P.ring d p) _

  -- in one way only
  pub parts_one : (g h : ℕ → Poly K.ring) → sum_of_parts K.ring (suc q) g
      ≡ sum_of_parts K.ring (suc q) h → (s : ℕ) → s < suc q
      → g s ≡ h s
  parts_one g h e s l = ring2 P.ring P.laws (λ a b. a) (λ a b. (a ⊕ neg b) ⊕ b) refl (g s) (h s)
      ∙ ap (λ t. P.add t (h s)) (split_p_zero K q charP (λ s. P.add (g s) (P.neg (h s))) none s l)
      ∙ ring1 P.ring P.laws (λ b. nil ⊕ b) (λ b. b) refl (h s)
    where
      none : sum_of_parts K.ring (suc q) (λ s. P.add (g s) (P.neg (h s))) ≡ P.zero
      none = add_cancel P.ring P.laws (sum_of_parts K.ring (suc q) (λ s. P.add (g s) (P.neg (h s))))
          P.zero
          (sum_of_parts K.ring (suc q) h) (sym (parts_add (λ s. P.add (g s) (P.neg (h s))) h)
          ∙ sum-ext P.ring P.laws p _ _ (λ s l. ap (λ t. P.mul (power P.ring X s) (power P.ring t
          p)) (ring2 P.ring P.laws (λ a b. (a ⊕ neg b) ⊕ b) (λ a b. a) refl (g s) (h s)))
          ∙ e ∙ ring1 P.ring P.laws (λ b. b) (λ b. nil ⊕ b) refl (sum_of_parts K.ring (suc q) h))

  -- d^p divides the sum exactly where d divides each part
  pub parts_divided : (d : Poly K.ring) (h : ℕ → Poly K.ring)
      → Divides (polynomials K.ring) (power (polynomials K.ring) d (suc q))
      (sum_of_parts K.ring (suc q) h)
      → (s : ℕ) → s < suc q → Divides (polynomials K.ring) d (h s)
  parts_divided d h e s l = (
    part K q roots e.0 s,
    parts_one h (λ s. P.mul d (part K q roots e.0 s))
        (e.1 ∙ P.laws.mul_comm e.0 _ ∙ ap (P.mul (power P.ring d p)) (parts_of e.0)
        ∙ sym (parts_mul d (part K q roots e.0))) s l ∙ P.laws.mul_comm d _,
  )

  pub parts_zero : sum_of_parts K.ring (suc q) (λ s. (polynomials K.ring).zero)
      ≡ (polynomials K.ring).zero
  parts_zero = add_cancel P.ring P.laws (sum_of_parts K.ring (suc q) (λ s. P.zero)) P.zero
      (sum_of_parts K.ring (suc q) (λ s. P.zero)) (sym (parts_add (λ s. P.zero) (λ s. P.zero))
      ∙ sum-ext P.ring P.laws p _ _ (λ s l. ap (λ t. P.mul (power P.ring X s) (power P.ring t p))
      (P.laws.add_zero P.zero))
      ∙ ring1 P.ring P.laws (λ b. b) (λ b. nil ⊕ b) refl
      (sum_of_parts K.ring (suc q) (λ s. P.zero)))

  pub parts_sum : (n : ℕ) (h : ℕ → ℕ → Poly K.ring)
      → sum_below (polynomials K.ring) n (λ i. sum_of_parts K.ring (suc q) (h i))
      ≡ sum_of_parts K.ring (suc q) (λ s. sum_below (polynomials K.ring) n (λ i. h i s))
  parts_sum zero h = sym parts_zero
  parts_sum (suc n) h = ap (λ t. P.add t (sum_of_parts K.ring (suc q) (h n))) (parts_sum n h)
      ∙ sym (parts_add (λ s. sum_below P.ring n (λ i. h i s)) (h n))

  divides_sum : (d : Poly K.ring) (n : ℕ) (f : ℕ → Poly K.ring)
      → ((i : ℕ) → i < n → Divides (polynomials K.ring) d (f i))
      → Divides (polynomials K.ring) d (sum_below (polynomials K.ring) n f)
  divides_sum d zero f h = (P.zero, ring1 P.ring P.laws (λ d. nil) (λ d. nil ⊗ d) refl d)
  divides_sum d (suc n) f h = at (divides_sum d n f (λ i l. h i (omega arith))) (h n (omega arith))
    where
      at : Divides P.ring d (sum_below P.ring n f) → Divides P.ring d (f n)
          → Divides P.ring d (P.add (sum_below P.ring n f) (f n))
      at a b = (
        P.add a.0 b.0,
        ap₂ P.add a.1 b.1
            ∙ ring3 P.ring P.laws (λ a b d. a ⊗ d ⊕ b ⊗ d) (λ a b d. (a ⊕ b) ⊗ d) refl a.0 b.0 d,
      )

  pub parts_multiple : (d : Poly K.ring) (h : ℕ → Poly K.ring)
      → ((s : ℕ) → s < suc q → Divides (polynomials K.ring) d (h s))
      → Divides (polynomials K.ring) (power (polynomials K.ring) d (suc q))
      (sum_of_parts K.ring (suc q) h)
  parts_multiple d h e = divides_sum (power P.ring d p) p _ (λ s l. at s (e s l))
    where
      at : (s : ℕ) → Divides P.ring d (h s)
          → Divides P.ring (power P.ring d p) (P.mul (power P.ring X s) (power P.ring (h s) p))
      at s w = (
        P.mul (power P.ring X s) (power P.ring w.0 p),
        ap
            (λ t. P.mul (power P.ring X s) (power P.ring t p)) w.1
            ∙ ap (P.mul (power P.ring X s)) (power-mul P.ring P.laws w.0 d p)
            ∙ sym (P.laws.mul_assoc _ _ _),
      )

  -- over a chart: g times the p-th power of theta^i is the plane M i, whose row j is the sum of the
  -- parts i j
  module _ (A : RingOps) (AL : IsCommRing A) (c : Chart K.ring A) (l : IsChart K.ring A c)
      (char : HasCharacteristic A (suc q)) (g : A.carrier) (M : ℕ → Plane K)
      (parts : ℕ → ℕ → ℕ → Poly K.ring)
      (few : (i : ℕ) → i < c.degree → size (polynomials K.ring) (M i) ≤ c.degree)
      (powers : (i : ℕ) → i < c.degree → A.mul g (power A (power A c.theta i) (suc q))
      ≡ at_theta c (M i))
      (split : (i j : ℕ) → i < c.degree → j < c.degree → coeff (polynomials K.ring) (M i).coeffs j
      ≡ sum_of_parts K.ring (suc q) (parts i j)) where
    abbrev n : ℕ
    n = c.degree

    abbrev θ : A.carrier
    θ = c.theta

    U : IsMap (polynomials K.ring) A (at_u c)
    U = at_u_map K A AL c l

    abbrev row_at : Plane K → ℕ → Poly K.ring
    row_at N i = coeff (polynomials K.ring) N.coeffs i

    theta_sum : (N : Plane K) → size (polynomials K.ring) N ≤ n → at_theta c N
        ≡ sum_below A n (λ j. A.mul (at_u c (row_at N j)) (power A θ j))
    theta_sum N q = value_sum (polynomials K.ring) P.laws P.tests A AL (at_u c) U.on_zero θ N n q

    -- the polynomials whose residues modulo d are tested
    abbrev pub combined : Plane K → ℕ → ℕ → Poly K.ring
    combined N j s = row_product K c.degree (λ i. parts i j s) N

    rows_combined : (N : Plane K) (j : ℕ) → j < n
        → sum_below (polynomials K.ring) n
        (λ i. P.mul (power P.ring (row_at N i) p) (row_at (M i) j))
        ≡ sum_of_parts K.ring (suc q) (combined N j)
    rows_combined N j s = sum-ext P.ring P.laws n _ _
        (λ i r. ap (P.mul (power P.ring (row_at N i) p)) (split i j r s)
        ∙ sym (parts_mul (row_at N i) (parts i j)))
        ∙ parts_sum n (λ i s. P.mul (row_at N i) (parts i j s))

    pub power_value : (N : Plane K) → size (polynomials K.ring) N ≤ c.degree
        → A.mul g (power A (at_theta c N) (suc q))
        ≡ sum_below A c.degree (λ j. A.mul (at_u c (sum_of_parts K.ring (suc q) (combined N j)))
        (power A c.theta
        j))
    power_value N small = ap (λ t. A.mul g (power A t p)) (theta_sum N small)
        ∙ ap (A.mul g) (power-sums A AL p char n _) ∙ sym (sum-mul A AL n g _)
        ∙ sum-ext A AL n _ _ (λ i r. ap (A.mul g)
        (power-mul A AL (at_u c (row_at N i)) (power A θ i) p)
        ∙ ring3 A AL (λ g a t. g ⊗ (a ⊗ t)) (λ g a t. a ⊗ (g ⊗ t)) refl g
        (power A (at_u c (row_at N i)) p) (power A (power A θ i) p)
        ∙ ap₂ A.mul (sym (map-power P.ring A (at_u c) U (row_at N i) p))
        (powers i r ∙ theta_sum (M i) (few i r))
        ∙ sym (sum-mul A AL n (at_u c (power P.ring (row_at N i) p)) _)
        ∙ sum-ext A AL n _ _ (λ j s. sym (AL.mul_assoc _ _ _)
        ∙ ap (λ t. A.mul t (power A θ j))
        (sym (U.on_mul (power P.ring (row_at N i) p) (row_at (M i) j)))))
        ∙ sum-swap A AL n n (λ i j. A.mul
        (at_u c (P.mul (power P.ring (row_at N i) p) (row_at (M i) j))) (power A θ j))
        ∙ sum-ext A AL n _ _ (λ j s. sum-ext A AL n _ _ (λ i r. AL.mul_comm _ _)
        ∙ sum-mul A AL n (power A θ j) _ ∙ AL.mul_comm _ _
        ∙ ap (λ t. A.mul t (power A θ j))
        (sym (map-sum P.ring A (at_u c) U n
        (λ i. P.mul (power P.ring (row_at N i) p) (row_at (M i) j)))
        ∙ ap (at_u c) (rows_combined N j s)))

    -- g * N^p is d^p times an element of the power order
    abbrev pub IsTested : Poly K.ring → Plane K → Type 0
    IsTested d N = (r : A.carrier)
        × (InPowers c r × (A.mul g (power A (at_theta c N) (suc q))
        ≡ A.mul (power A (at_u c d) (suc q)) r))

    multiples : (m : A.carrier) (k : ℕ) (f : ℕ → A.carrier)
        → ((j : ℕ) → j < k → (r : A.carrier) × (InPowers c r × (f j ≡ A.mul m r))) → (r : A.carrier)
        × (InPowers c r × (sum_below A k f ≡ A.mul m r))
    multiples m zero f h = (
      A.zero,
      (powers_zero K A AL c l, ring1 A AL (λ m. nil) (λ m. m ⊗ nil) refl m),
    )
    multiples m (suc k) f h = at (multiples m k f (λ j s. h j (omega arith))) (h k (omega arith))
      where
        at : (r : A.carrier) × (InPowers c r × (sum_below A k f ≡ A.mul m r)) → (r : A.carrier)
            × (InPowers c r × (f k ≡ A.mul m r)) → (r : A.carrier)
            × (InPowers c r × (A.add (sum_below A k f) (f k) ≡ A.mul m r))
        at a b = (
          A.add a.0 b.0,
          (
            powers_add K A AL c l _ _ a.1.0 b.1.0,
            ap₂ A.add a.1.1 b.1.1 ∙ sym
                (AL.mul_add m a.0 b.0),
          ),
        )

    power_d : (d : Poly K.ring) → at_u c (power P.ring d p) ≡ power A (at_u c d) p
    power_d d = map-power P.ring A (at_u c) U d p

    theta_in : InPowers c θ
    theta_in = powers_theta K A AL c l

    -- the test is enough
    pub tested_back : (d : Poly K.ring) (N : Plane K) → size (polynomials K.ring) N ≤ c.degree
        → ((j s : ℕ) → j < c.degree → s < suc q → Divides (polynomials K.ring) d (combined N j s))
        → IsTested d N
    tested_back d N small h = at (multiples (power A (at_u c d) p) n _ (λ j s. term j
        (parts_multiple d (combined N j) (λ r t. h j r s t))))
      where
        term : (j : ℕ) → Divides P.ring (power P.ring d p)
            (sum_of_parts K.ring (suc q) (combined N j))
            → (r : A.carrier) × (InPowers c r
            × (A.mul (at_u c (sum_of_parts K.ring (suc q) (combined N j))) (power A θ j)
            ≡ A.mul (power A (at_u c d) p) r))
        term j w = (
          A.mul (at_u c w.0) (power A θ j),
          (
            powers_mul K A AL c l _ _ (powers_u K A AL c l w.0)
                (powers_power K A AL c l θ theta_in j),
            ap (λ t. A.mul t (power A θ j))
                (ap (at_u c) w.1 ∙ U.on_mul w.0 (power P.ring d p)
                ∙ ap (A.mul (at_u c w.0)) (power_d d))
                ∙ ring3 A AL (λ w d t. (w ⊗ d) ⊗ t) (λ w d t. d ⊗ (w ⊗ t)) refl (at_u c w.0)
                (power A (at_u c d) p) (power A θ j),
          ),
        )

        at : (r : A.carrier) × (InPowers c r
            × (sum_below A n (λ j. A.mul (at_u c (sum_of_parts K.ring (suc q) (combined N j)))
            (power A θ j))
            ≡ A.mul (power A (at_u c d) p) r)) → IsTested d N
        at r = (r.0, (r.1.0, power_value N small ∙ r.1.1))

    modulus_power : (d : Poly K.ring) → c.IsModulus d → (m : ℕ) → c.IsModulus (power P.ring d m)
    modulus_power d hd zero = l.one_modulus
    modulus_power d hd (suc m) = l.modulus_product d (power P.ring d m) hd (modulus_power d hd m)

    -- and it is needed
    pub tested_into : (d : Poly K.ring) → c.IsModulus d → (N : Plane K)
        → size (polynomials K.ring) N ≤ c.degree → IsTested d N → (j s : ℕ) → j < c.degree
        → s < suc q → Divides (polynomials K.ring) d (combined N j s)
    tested_into d hd N small t j s hj hs = parts_divided d (combined N j)
        (divided (powers_reduced K A AL c l t.0 t.1.0)) s hs
      where
        unit_t : Poly K.ring
        unit_t = t.1.0.unit

        dp : Poly K.ring
        dp = power P.ring d p

        G : Plane K
        G = polynomial_of (polynomials K.ring) P.laws P.tests n
            (λ j. sum_of_parts K.ring (suc q) (combined N j))

        cop : IsCoprime (polynomials K.ring) unit_t dp
        cop = l.coprime unit_t dp t.1.0.is_unit (modulus_power d hd p)

        divided : (R : Plane K) × ((size (polynomials K.ring) R ≤ c.degree) × (A.mul (at_u c unit_t)
            t.0 ≡ at_theta c R)) → Divides P.ring dp (sum_of_parts K.ring (suc q) (combined N j))
        divided R = (
          w,
          coprime_divides K dp unit_t
              (sum_of_parts K.ring (suc q) (combined N j)) (row_at R.0 j) cop.v cop.u
              (P.laws.add_comm (P.mul cop.v dp) (P.mul cop.u unit_t) ∙ cop.one)
              (ap (P.mul unit_t) (sym (polynomial_at (polynomials K.ring) P.laws P.tests n (λ j.
              sum_of_parts K.ring (suc q) (combined N j)) j hj))
              ∙ sym (const_mul_at (polynomials K.ring) P.laws P.tests unit_t G j)
              ∙ ap (λ (T : Plane K). row_at T j) same
              ∙ const_mul_at (polynomials K.ring) P.laws P.tests dp R.0 j) ∙ P.laws.mul_comm dp _,
        )
          where
            w : Poly K.ring
            w = P.add (P.mul cop.v (sum_of_parts K.ring (suc q) (combined N j)))
                (P.mul cop.u (row_at R.0 j))

            values : at_theta c ((planes K).mul (row_of K.ring unit_t) G)
                ≡ at_theta c ((planes K).mul (row_of K.ring dp) R.0)
            values = row_times K A AL c l unit_t G
                ∙ ap (A.mul (at_u c unit_t)) (value_of_listed (polynomials K.ring) P.laws P.tests A
                AL (at_u c) U.on_zero θ n (λ j. sum_of_parts K.ring (suc q) (combined N j))
                ∙ sym (power_value N small) ∙ t.1.1)
                ∙ ring3 A AL (λ u d r. u ⊗ (d ⊗ r)) (λ u d r. d ⊗ (u ⊗ r)) refl (at_u c unit_t)
                (power A (at_u c d) p) t.0
                ∙ ap₂ A.mul (sym (power_d d)) R.1.1 ∙ sym (row_times K A AL c l dp R.0)

            same : (planes K).mul (row_of K.ring unit_t) G ≡ (planes K).mul (row_of K.ring dp) R.0
            same = chart_equal K A AL c l _ _
                (row_mul_few K c.degree unit_t G
                (polynomial_size (polynomials K.ring) P.laws P.tests n
                (λ j. sum_of_parts K.ring (suc q) (combined N j))))
                (row_mul_few K c.degree dp R.0 R.1.0) values

  -- level 1 by the test
  module _ (A : RingOps) (AL : IsCommRing A) (c : Chart K.ring A) (l : IsChart K.ring A c)
      (char : HasCharacteristic A (suc q)) (b : A.carrier) (hb : InPowers c b) (d : Poly K.ring)
      (hd : c.IsModulus d) where
    δ : A.carrier
    δ = at_u c d

    lifted : (w r : A.carrier) (N : Plane K) → A.mul (at_u c d) w
        ≡ A.add (at_theta c N) (A.mul (at_u c d) r)
        → A.mul (power A (at_u c d) (suc q)) (A.mul b (power A w (suc q)))
        ≡ A.add (A.mul b (power A (at_theta c N) (suc q)))
        (A.mul (power A (at_u c d) (suc q)) (A.mul b (power A r (suc q))))
    lifted w r N e = ring3 A AL (λ d b w. d ⊗ (b ⊗ w)) (λ d b w. b ⊗ (d ⊗ w)) refl
        (power A (at_u c d) p) b (power A w p)
        ∙ ap (A.mul b) (sym (power-mul A AL (at_u c d) w p) ∙ ap (λ t. power A t p) e
        ∙ frobenius-add A AL p char (at_theta c N) (A.mul (at_u c d) r)
        ∙ ap (A.add (power A (at_theta c N) p)) (power-mul A AL (at_u c d) r p))
        ∙ ring4 A AL (λ b n d r. b ⊗ (n ⊕ d ⊗ r)) (λ b n d r. b ⊗ n ⊕ d ⊗ (b ⊗ r)) refl b
        (power A (at_theta c N) p) (power A (at_u c d) p) (power A r p)

    -- b carries w^p into the power order exactly where b * N^p is d^p times an element of it, N the
    -- residue of d * w
    pub level_tested : (w : A.carrier) (N : Plane K) → IsResidue c d (A.mul (at_u c d) w) N
        → InPowers c (A.mul b (power A w (suc q)))
        → (r : A.carrier) × (InPowers c r
        × (A.mul b (power A (at_theta c N) (suc q)) ≡ A.mul (power A (at_u c d) (suc q)) r))
    level_tested w N h k = (
      A.add (A.mul b (power A w p)) (A.neg (A.mul b (power A h.rest p))),
      (
        powers_add K A AL c l _ _ k (powers_neg K A AL c l _ (powers_mul K A AL c l _ _ hb
            (powers_power K A AL c l _ h.in_powers p))),
        ring2 A AL (λ n g. n) (λ n g. (n ⊕ g) ⊕ neg g) refl (A.mul b (power A (at_theta c N) p))
            (A.mul (power A (at_u c d) p) (A.mul b (power A h.rest p)))
            ∙ ap (λ t. A.add t (A.neg (A.mul (power A (at_u c d) p) (A.mul b (power A h.rest p)))))
            (sym (lifted w h.rest N h.sum))
            ∙ ring3 A AL (λ d w r. d ⊗ w ⊕ neg (d ⊗ r)) (λ d w r. d ⊗ (w ⊕ neg r)) refl
            (power A (at_u c d) p) (A.mul b (power A w p)) (A.mul b (power A h.rest p)),
      ),
    )

    pub tested_level : (w : A.carrier) (N : Plane K) → IsResidue c d (A.mul (at_u c d) w) N
        → (r : A.carrier) × (InPowers c r
        × (A.mul b (power A (at_theta c N) (suc q)) ≡ A.mul (power A (at_u c d) (suc q)) r))
        → InPowers c (A.mul b (power A w (suc q)))
    tested_level w N h r = powers_at K A AL c l
        (sym (cancel_u K A AL c l (power P.ring d p) (power_nonzero P d (l.modulus_nonzero d hd) p)
        _ _ (ap (λ t. A.mul t (A.mul b (power A w p))) power_is ∙ lifted w h.rest N h.sum
        ∙ ap (λ t. A.add t (A.mul (power A (at_u c d) p) (A.mul b (power A h.rest p)))) r.1.1
        ∙ sym (AL.mul_add _ _ _) ∙ ap (λ t. A.mul t (A.add r.0 (A.mul b (power A h.rest p))))
        (sym power_is))))
        (powers_add K A AL c l _ _ r.1.0
        (powers_mul K A AL c l _ _ hb (powers_power K A AL c l _ h.in_powers p)))
      where
        power_is : at_u c (power P.ring d p) ≡ power A (at_u c d) p
        power_is = map-power P.ring A (at_u c) (at_u_map K A AL c l) d p
