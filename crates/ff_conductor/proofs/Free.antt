-- Where the derivative of the equation divides a polynomial in u that is not 0, the p-th powers of
-- the powers of theta are independent, and so are the powers of u
-- over p-th powers: power_sum_unique.
use Rattle.std.proofs.Common.{◌≡◌, ℕ, zero, suc, ◌-◌, ◌+◌ as plus_ℕ, ◌*◌ as times_ℕ, ◌<◌, ◌≤◌, ◌⊎◌}
use Rattle.std.proofs.Common.{inl, inr, Bool, true, false, refl, sym, ◌∙◌, ap, ap₂, subst, arith}
use Rattle.std.proofs.lemmas.Bool.{cases_lt}
use Rattle.ff_theory.specs.Ring.{RingOps, IsCommRing, power}
use Rattle.ff_theory.specs.Lawful.{Domain, Field}
use Rattle.ff_theory.specs.Sum.{sum_below}
use Rattle.ff_theory.specs.Poly.{coeff, Poly, polynomials}
use Rattle.ff_theory.specs.Division.{size}
use Rattle.ff_theory.specs.Eval.{eval}
use Rattle.ff_theory.proofs.Solver.{◌⊕◌, ◌⊗◌, neg, nil, ring1, ring2, ring3, ring6, mul_zero}
use Rattle.ff_theory.specs.Map.{IsMap}
use Rattle.ff_theory.proofs.Powers.{power-mul, power-one}
use Rattle.ff_theory.proofs.Frobenius.{HasCharacteristic, power-zero}
use Rattle.ff_theory.proofs.FrobeniusPoly.{map-power}
use Rattle.ff_theory.proofs.Sums.{sum-ext, sum-zero, sum-add, sum-mul, sum-swap}
use Rattle.ff_theory.proofs.Division.{x, size_le}
use Rattle.ff_theory.proofs.Evaluate.{eval_map}
use Rattle.ff_theory.proofs.PolyMap.{polynomial_domain, not_same}
use Rattle.ff_theory.specs.Planes.{planes, Plane, row_of}
use Rattle.ff_charts.specs.Chart.{Chart, at_u, at_theta, Cleared, InPowers, IsChart}
use Rattle.ff_theory.specs.Span.{Dependence}
use Rattle.ff_theory.proofs.Insert.{skip}
use Rattle.ff_theory.proofs.Dependence.{dependence}
use Rattle.ff_theory.proofs.Domains.{zero_factor}
use Rattle.ff_charts.proofs.Rows.{polynomial_of, polynomial_at, polynomial_past, polynomial_size}
use Rattle.ff_charts.proofs.Rows.{equal_below, exact_size, value_sum, value_of_listed}
use Rattle.ff_charts.proofs.MonicDivision.{Divided, monic_divide}
use Rattle.ff_charts.proofs.Chart.{at_u_map, at_theta_map, row_times, cancel_u, reduced}
use Rattle.ff_charts.proofs.FiniteChart.{power_nonzero}
use Rattle.ff_charts.proofs.InvertedChart.{at_x}
use Rattle.ff_conductor.proofs.Trace.{trace_identity}
use Rattle.ff_conductor.proofs.PowerParts.{power-sums, power-exchange, HasRoots}
use Rattle.ff_conductor.proofs.SplitZero.{split_p_zero}
use Rattle.ff_conductor.proofs.Conductor.{different, IsFree}

-- each place but l is reached by skipping l
unskip : (m l j : ℕ) → l < suc m → j < suc m → ¬ (j ≡ l) → (i : ℕ) × ((i < m) × (skip l i ≡ j))
unskip zero l j hl hj ne = let e : j ≡ l = omega arith in absurd (ne e)
unskip (suc m) zero zero hl hj ne = absurd (ne refl)
unskip (suc m) zero (suc j) hl hj ne = (j, (omega arith, refl))
unskip (suc m) (suc l) zero hl hj ne = (0, (omega arith, refl))
unskip (suc m) (suc l) (suc j) hl hj ne = up
    (unskip m l j (omega arith) (omega arith) (λ e. ne (ap suc e)))
  where
    up : (i : ℕ) × ((i < m) × (skip l i ≡ j)) → (i : ℕ) × ((i < suc m) × (skip (suc l) i ≡ suc j))
    up h = (suc h.0, (let s : h.0 < m = h.1.0 in omega (arith, s), ap suc h.1.1))

-- the value of a sum is the sum of the values
pub map-sum : (S R : RingOps) (f : S.carrier → R.carrier) → IsMap S R f
    → (n : ℕ) (g : ℕ → S.carrier) → f (sum_below S n g) ≡ sum_below R n (λ i. f (g i))
map-sum S R f m zero g = m.on_zero
map-sum S R f m (suc n) g = m.on_add (sum_below S n g) (g n)
    ∙ ap (λ t. R.add t (f (g n))) (map-sum S R f m n g)

module _ (K : Field) (A : RingOps) (AL : IsCommRing A) (c : Chart K.ring A) (l : IsChart K.ring A c)
    (q : ℕ) (char : HasCharacteristic A (suc q))
    (b : A.carrier) (d : Poly K.ring) (hb : InPowers c b)
    (nd : (polynomials K.ring).same d (polynomials K.ring).zero ≡ false)
    (product : A.mul b (different K A AL c l) ≡ at_u c d) where
  infixl 60 ◌+◌
  infixl 70 ◌*◌
  open A use {add as ◌+◌, mul as ◌*◌, neg as minus, carrier as C}

  abbrev P : Domain
  P = polynomial_domain K

  abbrev p : ℕ
  p = suc q

  abbrev n : ℕ
  n = c.degree

  abbrev θ : C
  θ = c.theta

  abbrev Θ : C
  Θ = power A θ (suc q)

  abbrev D : C
  D = different K A AL c l

  abbrev U : IsMap (polynomials K.ring) A (at_u c)
  U = at_u_map K A AL c l

  abbrev V : IsMap (planes K) A (at_theta c)
  V = at_theta_map K A AL c l

  abbrev row_at : Plane K → ℕ → Poly K.ring
  row_at N i = coeff (polynomials K.ring) N.coeffs i

  -- a plane at u and theta^p
  abbrev pub at_p : Plane K → A.carrier
  at_p N = eval (polynomials K.ring) A (at_u c) (power A c.theta (suc q)) N

  W : IsMap (planes K) A at_p
  W = eval_map (polynomials K.ring) A P.laws P.tests AL (at_u c) U Θ

  theta_sum : (N : Plane K) (m : ℕ) → size (polynomials K.ring) N ≤ m → at_theta c N
      ≡ sum_below A m (λ i. at_u c (row_at N i) * power A θ i)
  theta_sum N m s = value_sum (polynomials K.ring) P.laws P.tests A AL (at_u c) U.on_zero θ N m s

  p_sum : (N : Plane K) (m : ℕ) → size (polynomials K.ring) N ≤ m → at_p N
      ≡ sum_below A m (λ i. at_u c (row_at N i) * power A Θ i)
  p_sum N m s = value_sum (polynomials K.ring) P.laws P.tests A AL (at_u c) U.on_zero Θ N m s

  p_listed : (m : ℕ) (g : ℕ → Poly K.ring)
      → at_p (polynomial_of (polynomials K.ring) P.laws P.tests m g)
      ≡ sum_below A m (λ i. at_u c (g i) * power A Θ i)
  p_listed m g = value_of_listed (polynomials K.ring) P.laws P.tests A AL (at_u c) U.on_zero Θ m g

  -- the equation of theta^p
  g_p : ℕ → Poly K.ring
  g_p j = power P.ring (row_at c.equation j) p

  abbrev F : Plane K
  F = polynomial_of (polynomials K.ring) P.laws P.tests (suc n) g_p

  F_monic : row_at F n ≡ P.one
  unfolding g_p
  F_monic = polynomial_at (polynomials K.ring) P.laws P.tests (suc n) g_p n (omega arith)
      ∙ ap (λ h. power P.ring h p) l.monic ∙ power-one P.ring P.laws p

  F_size : size (polynomials K.ring) F ≡ suc n
  F_size = exact_size (polynomials K.ring) P.laws P.tests F n
      (λ z. not_same (polynomials K.ring) P.tests P.one P.zero P.proper (sym F_monic ∙ z))
      (λ i s. polynomial_past (polynomials K.ring) P.laws P.tests (suc n) g_p i (omega arith))

  -- a term to the p
  p_term : (h : Poly K.ring) (i : ℕ) → at_u c (power P.ring h p) * power A Θ i
      ≡ power A (at_u c h * power A θ i) p
  p_term h i = ap₂ A.mul (map-power P.ring A (at_u c) U h p) (power-exchange A AL p char θ i)
      ∙ sym (power-mul A AL (at_u c h) (power A θ i) p)

  F_root : at_p F ≡ A.zero
  unfolding g_p
  F_root = p_listed (suc n) g_p ∙ sum-ext A AL (suc n) _ _ (λ i s. p_term (row_at c.equation i) i)
      ∙ sym (power-sums A AL p char (suc n) _)
      ∙ ap (λ t. power A t p) (sym (theta_sum c.equation (suc n) (let s : size (polynomials K.ring)
      c.equation ≡ suc n = l.rows in omega (arith, s))) ∙ l.root)
      ∙ power-zero A AL p char.positive

  p_reduce : (N : Plane K) → (M : Plane K) × ((size (polynomials K.ring) M ≤ n) × (at_p N ≡ at_p M))
  p_reduce N = at (monic_divide P.ring P.laws P.tests F n F_size F_monic N)
    where
      at : Divided P.ring P.laws P.tests F n F_size F_monic N → (M : Plane K)
          × ((size (polynomials K.ring) M ≤ n) × (at_p N ≡ at_p M))
      at s = (
        s.r,
        (
          s.small,
          ap at_p s.sum ∙ W.on_add _ _
              ∙ ap (λ t. t + at_p s.r) (W.on_mul s.q F ∙ ap (λ t. at_p s.q * t) F_root)
              ∙ ring2 A AL (λ q r. q ⊗ nil ⊕ r) (λ q r. r) refl (at_p s.q) (at_p s.r),
        ),
      )

  -- e * theta^i is a plane at u and theta^p with at most n rows
  e : Poly K.ring
  e = power P.ring (P.mul hb.unit d) q

  e_nonzero : (polynomials K.ring).same e (polynomials K.ring).zero ≡ false
  unfolding e
  e_nonzero = power_nonzero P (P.mul hb.unit d)
      (P.no_divisors hb.unit d (l.unit_nonzero hb.unit hb.is_unit) nd) q

  e_is : at_u c e ≡ power A D q * power A (at_theta c hb.nums) q
  unfolding e
  e_is = map-power P.ring A (at_u c) U (P.mul hb.unit d) q
      ∙ ap (λ t. power A t q) (U.on_mul hb.unit d ∙ ap (λ t. at_u c hb.unit * t) (sym product)
      ∙ ring3 A AL (λ s b d. s ⊗ (b ⊗ d)) (λ s b d. d ⊗ (s ⊗ b)) refl (at_u c hb.unit) b D
      ∙ ap (λ t. D * t) hb.clears)
      ∙ power-mul A AL D (at_theta c hb.nums) q

  below : (i : ℕ) → (M : Plane K)
      × ((size (polynomials K.ring) M ≤ n) × (at_u c e * power A θ i ≡ at_p M))
  unfolding different
  below i = at (p_reduce (polynomial_of (polynomials K.ring) P.laws P.tests m g))
    where
      Y : Plane K
      Y = x (polynomials K.ring) P.laws P.tests

      G : Plane K
      G = (planes K).mul (power (planes K) hb.nums q) (power (planes K) Y i)

      H : Plane K
      H = (planes K).mul (power (planes K) c.equation q) G

      m : ℕ
      m = size (polynomials K.ring) H

      enough : (m : ℕ) → m ≤ times_ℕ m p
      enough m = let z : times_ℕ m (suc q)
          ≡ plus_ℕ m (times_ℕ m q) = omega arith in omega (arith, z)

      g : ℕ → Poly K.ring
      g i = row_at H (plus_ℕ (times_ℕ i p) q)

      value_G : at_theta c G ≡ power A (at_theta c hb.nums) q * power A θ i
      value_G = V.on_mul _ _ ∙ ap₂ A.mul (map-power (planes K) A (at_theta c) V hb.nums q)
          (map-power (planes K) A (at_theta c) V Y i
          ∙ ap (λ t. power A t i) (at_x (polynomials K.ring) P.laws P.tests A AL (at_u c) U θ))

      at : (M : Plane K) × ((size (polynomials K.ring) M ≤ n)
          × (at_p (polynomial_of (polynomials K.ring) P.laws P.tests m g) ≡ at_p M)) → (M : Plane K)
          × ((size (polynomials K.ring) M ≤ n) × (at_u c e * power A θ i ≡ at_p M))
      at M = (
        M.0,
        (
          M.1.0,
          ap (λ t. t * power A θ i) e_is ∙ AL.mul_assoc _ _ _
              ∙ ap (λ t. power A D q * t) (sym value_G)
              ∙ trace_identity (polynomials K.ring) P.laws P.tests A AL (at_u c) U θ q char
              c.equation G
              m l.root (enough m) ∙ sym (p_listed m g) ∙ M.1.1,
        ),
      )

  -- theta_p_free
  pub theta_p_free : (N : Plane K) → size (polynomials K.ring) N ≤ c.degree → at_p N ≡ A.zero → N
      ≡ (planes K).zero
  theta_p_free N small zero_value = equal_below (polynomials K.ring) P.laws P.tests N
      (planes K).zero n small (size_le (polynomials K.ring) P.laws P.tests (planes K).zero n (λ i s.
      zero_row i))
      (λ i s. each i s (P.same (row_at N i) P.zero) refl ∙ sym (zero_row i))
    where
      zero_row : (i : ℕ) → row_at (planes K).zero i ≡ P.zero
      zero_row i = polynomial_past (polynomials K.ring) P.laws P.tests 0 (λ i. P.zero) i
          (omega arith)

      r : ℕ → ℕ → Poly K.ring
      r i j = row_at (below i).0 j

      w : ℕ → ℕ → ℕ → Poly K.ring
      w o i j = P.add (P.mul (row_at N o) (r i j)) (P.neg (P.mul (r i o) (row_at N j)))

      combined : (o i : ℕ) → at_u c (P.mul (row_at N o) e) * power A θ i
          ≡ sum_below A n (λ j. at_u c (w o i j) * power A Θ j)
      combined o i = ap (λ t. t * power A θ i) (U.on_mul (row_at N o) e) ∙ AL.mul_assoc _ _ _
          ∙ ap (λ t. at_u c (row_at N o) * t) ((below i).1.1 ∙ p_sum (below i).0 n (below i).1.0)
          ∙ sym (sum-mul A AL n (at_u c (row_at N o)) _)
          ∙ ring1 A AL (λ s. s) (λ s. s ⊕ neg nil) refl _
          ∙ ap (λ t. sum_below A n (λ j. at_u c (row_at N o) * (at_u c (r i j) * power A Θ j)) +
          minus t) (sym (mul_zero A AL (at_u c (r i o)))
          ∙ ap (λ t. at_u c (r i o) * t) (sym zero_value ∙ p_sum N n small))
          ∙ ring3 A AL (λ s a t. s ⊕ neg (a ⊗ t)) (λ s a t. s ⊕ neg a ⊗ t) refl _ (at_u c (r i o)) _
          ∙ ap (λ t. sum_below A n (λ j. at_u c (row_at N o) * (at_u c (r i j) * power A Θ j)) +
          t) (sym (sum-mul A AL n (minus (at_u c (r i o))) _))
          ∙ sym (sum-add A AL n _ _)
          ∙ sum-ext A AL n _ _ (λ j s. ring6 A AL (λ a h t b k z. a ⊗ (h ⊗ t) ⊕ neg b ⊗ (k ⊗ t))
          (λ a h t b k z. (a ⊗ h ⊕ neg (b ⊗ k)) ⊗ t) refl (at_u c (row_at N o)) (at_u c (r i j))
          (power A Θ j) (at_u c (r i o)) (at_u c (row_at N j)) Θ
          ∙ ap (λ t. t * power A Θ j) (sym (U.on_add _ _ ∙ ap₂ A.add (U.on_mul _ _) (U.on_neg _ ∙ ap
          minus (U.on_mul _ _)))))

      -- n vectors whose entry o is 0
      relation : (o m : ℕ) → o < n → n ≡ suc m
          → (polynomials K.ring).same (row_at N o) (polynomials K.ring).zero ≡ false
          → Dependence (polynomials K.ring) n m (λ i j. w o i (skip o j)) → ⊥
      relation o m s size_n nz dep = dep.nonzero
          (zero_factor P (dep.coefficients dep.index) (P.mul (row_at N o) e)
          (P.no_divisors (row_at N o) e nz e_nonzero)
          (sym (polynomial_at (polynomials K.ring) P.laws P.tests n h dep.index dep.below)
          ∙ ap (λ (T : Plane K). row_at T dep.index) vanishes ∙ zero_row dep.index))
        where
          h : ℕ → Poly K.ring
          h i = P.mul (dep.coefficients i) (P.mul (row_at N o) e)

          column : (j : ℕ) → j < n → sum_below (polynomials K.ring) n (λ i. P.mul (dep.coefficients
              i) (w o i j)) ≡ P.zero
          column j t = pick (cases_lt j o) (cases_lt o j)
            where
              there : ¬ (j ≡ o) → sum_below (polynomials K.ring) n
                  (λ i. P.mul (dep.coefficients i) (w o i j)) ≡ P.zero
              there ne = found (unskip m o j (omega (arith, s, size_n)) (omega (arith, t, size_n))
                  ne)
                where
                  found : (i : ℕ) × ((i < m) × (skip o i ≡ j))
                      → sum_below (polynomials K.ring) n (λ i. P.mul (dep.coefficients i) (w o i j))
                      ≡ P.zero
                  found k = ap (λ v. sum_below (polynomials K.ring) n
                      (λ i. P.mul (dep.coefficients i) (w o i v))) (sym k.1.1) ∙ dep.sum k.0 k.1.0

              pick : (j < o) ⊎ (o ≤ j) → (o < j) ⊎ (j ≤ o)
                  → sum_below (polynomials K.ring) n (λ i. P.mul (dep.coefficients i) (w o i j))
                  ≡ P.zero
              pick (inl a) _ = there (λ z. absurd (omega (arith, a, z)))
              pick (inr a) (inl b) = there (λ z. absurd (omega (arith, b, z)))
              pick (inr a) (inr b) = let z : j
                  ≡ o = omega arith in ap (λ v. sum_below (polynomials K.ring) n (λ i. P.mul
                  (dep.coefficients i) (w o i v))) z
                  ∙ sum-ext P.ring P.laws n _ (λ i. P.zero)
                  (λ i k. ring3 P.ring P.laws (λ a c r. a ⊗ (c ⊗ r ⊕ neg (r ⊗ c)))
                  (λ a c r. nil) refl (dep.coefficients i) (row_at N o) (r i o))
                  ∙ sum-zero P.ring P.laws n

          vanishes : polynomial_of (polynomials K.ring) P.laws P.tests n h ≡ (planes K).zero
          vanishes = l.independent _ (polynomial_size (polynomials K.ring) P.laws P.tests n h)
              (value_of_listed (polynomials K.ring) P.laws P.tests A AL (at_u c) U.on_zero θ n h
              ∙ sum-ext A AL n _ (λ i. sum_below A n
              (λ j. at_u c (P.mul (dep.coefficients i) (w o i j)) * power A Θ j))
              (λ i k. ap (λ t. t * power A θ i)
              (U.on_mul (dep.coefficients i) (P.mul (row_at N o) e)) ∙ AL.mul_assoc _ _ _
              ∙ ap (λ t. at_u c (dep.coefficients i) * t) (combined o i)
              ∙ sym (sum-mul A AL n (at_u c (dep.coefficients i)) _)
              ∙ sum-ext A AL n _ _ (λ j v. sym (AL.mul_assoc _ _ _)
              ∙ ap (λ t. t * power A Θ j) (sym (U.on_mul (dep.coefficients i) (w o i j)))))
              ∙ sum-swap A AL n n (λ i j. at_u c (P.mul (dep.coefficients i) (w o i j)) * power A Θ
              j)
              ∙ sum-ext A AL n _ (λ j. A.zero)
              (λ j v. sum-ext A AL n _ (λ i. power A Θ j * at_u c (P.mul (dep.coefficients i) (w
              o i j))) (λ i k. AL.mul_comm _ _) ∙ sum-mul A AL n (power A Θ j) _
              ∙ ap (λ t. power A Θ j * t) (sym (map-sum P.ring A (at_u c) U n (λ i. P.mul
              (dep.coefficients i) (w o i j))) ∙ ap (at_u c) (column j v) ∙ U.on_zero)
              ∙ mul_zero A AL _)
              ∙ sum-zero A AL n)

      each : (i : ℕ) → i < n → (v : Bool) → P.same (row_at N i) P.zero ≡ v → row_at N i ≡ P.zero
      each i s true h = P.tests.same_true (row_at N i) P.zero h
      each i s false h = absurd (relation i (n - 1) s (omega arith) h (dependence P
          (n - 1) n (λ a j. w i a (skip i j)) (omega arith)))

  -- a common denominator of z 0, .., z (m - 1)
  record IsCleared (h : Poly K.ring) (z : A.carrier) : Type 0 where
    pub plane : Plane K
    pub clears : A.mul (at_u c h) z ≡ at_theta c plane

  record Common (m : ℕ) (z : ℕ → A.carrier) : Type 0 where
    pub h : Poly K.ring
    pub nonzero : (polynomials K.ring).same h (polynomials K.ring).zero ≡ false
    pub each : (r : ℕ) → r < m → IsCleared h (z r)

  common : (m : ℕ) (z : ℕ → C) → Common m z
  common zero z = record { h = P.one; nonzero = P.proper; each = λ r s. absurd (omega arith) }
  common (suc m) z = go (common m z) (l.cleared (z m))
    where
      go : Common m z → Cleared c (z m) → Common (suc m) z
      go k s = record {
        h = P.mul k.h s.den;
        nonzero = P.no_divisors k.h s.den k.nonzero s.nonzero;
        each = λ r t. pick r (cases_lt r m) t;
      }
        where
          pick : (r : ℕ) → (r < m) ⊎ (m ≤ r) → r < suc m → IsCleared (P.mul k.h s.den) (z r)
          pick r (inl t) _ = record {
            plane = (planes K).mul (row_of K.ring s.den) (k.each r t).plane;
            clears = ap (λ a. a * z r) (U.on_mul k.h s.den)
                ∙ ring3 A AL (λ h d z. (h ⊗ d) ⊗ z) (λ h d z. d ⊗ (h ⊗ z)) refl (at_u c k.h)
                (at_u c s.den) (z r)
                ∙ ap (λ a. at_u c s.den * a) (k.each r t).clears
                ∙ sym (row_times K A AL c l s.den (k.each r t).plane);
          }
          pick r (inr t) v = let e : m ≡ r = omega arith in subst (λ i. IsCleared (P.mul k.h s.den)
              (z i)) e (record {
                plane = (planes K).mul (row_of K.ring k.h) s.nums;
                clears = ap (λ a. a * z m) (U.on_mul k.h s.den) ∙ AL.mul_assoc _ _ _
                    ∙ ap (λ a. at_u c k.h * a) s.clears ∙ sym (row_times K A AL c l k.h s.nums);
              })

  module _ (charP : HasCharacteristic (polynomials K.ring) (suc q))
      (roots : HasRoots K.ring (suc q)) where
    -- power_sum_unique
    pub power_sum_unique : IsFree K A AL c l q char roots
    power_sum_unique z vanishes r hr = cancel_u K A AL c l k.h k.nonzero (z r) A.zero
        (value r hr ∙ ap (at_theta c) (plane_zero r hr) ∙ V.on_zero
        ∙ sym (mul_zero A AL (at_u c k.h)))
      where
        k : Common p z
        k = common p z

        choose : (r : ℕ) → (r < p) ⊎ (p ≤ r) → Plane K
        choose r (inl s) = (reduced K A AL c l (k.each r s).plane).plane
        choose r (inr s) = (planes K).zero

        N : ℕ → Plane K
        N r = choose r (cases_lt r p)

        zero_row : (i : ℕ) → row_at (planes K).zero i ≡ P.zero
        zero_row i = polynomial_past (polynomials K.ring) P.laws P.tests 0 (λ i. P.zero) i
            (omega arith)

        few : (r : ℕ) → size (polynomials K.ring) (N r) ≤ n
        few r = pick (cases_lt r p)
          where
            pick : (b : (r < p) ⊎ (p ≤ r)) → size (polynomials K.ring) (choose r b) ≤ n
            pick (inl s) = (reduced K A AL c l (k.each r s).plane).small
            pick (inr s) = size_le (polynomials K.ring) P.laws P.tests (planes K).zero n
                (λ i s. zero_row i)

        value : (r : ℕ) → r < p → at_u c k.h * z r ≡ at_theta c (N r)
        value r s = pick (cases_lt r p)
          where
            pick : (b : (r < p) ⊎ (p ≤ r)) → at_u c k.h * z r ≡ at_theta c (choose r b)
            pick (inl t) = (k.each r t).clears ∙ (reduced K A AL c l (k.each r t).plane).same_value
            pick (inr t) = absurd (omega (arith, s, t))

        M : ℕ → Poly K.ring
        M j = sum_below (polynomials K.ring) p
            (λ r. P.mul (power P.ring (x K.ring K.laws K.tests) r)
            (power P.ring (row_at (N r) j) p))

        at_M : (j : ℕ) → at_u c (M j) * power A Θ j
            ≡ sum_below A p (λ r. power A c.u r * power A (at_u c (row_at (N r) j) * power A θ j) p)
        at_M j = ap (λ t. t * power A Θ j) (map-sum P.ring A (at_u c) U p _) ∙ AL.mul_comm _ _
            ∙ sym (sum-mul A AL p (power A Θ j) _)
            ∙ sum-ext A AL p _ _ (λ r s. ap (λ t. power A Θ j * t)
            (U.on_mul _ _ ∙ ap (λ t. t * at_u c (power P.ring (row_at (N r) j) p))
            (map-power P.ring A (at_u c) U (x K.ring K.laws K.tests) r
            ∙ ap (λ t. power A t r) (at_x K.ring K.laws K.tests A AL c.constant l.constants
            c.u)))
            ∙ ring3 A AL (λ t u h. t ⊗ (u ⊗ h)) (λ t u h. u ⊗ (h ⊗ t)) refl (power A Θ j)
            (power A c.u r) (at_u c (power P.ring (row_at (N r) j) p))
            ∙ ap (λ t. power A c.u r * t) (p_term (row_at (N r) j) j))

        whole : polynomial_of (polynomials K.ring) P.laws P.tests n M ≡ (planes K).zero
        whole = theta_p_free _ (polynomial_size (polynomials K.ring) P.laws P.tests n M)
            (p_listed n M
            ∙ sum-ext A AL n _ _ (λ j s. at_M j)
            ∙ sum-swap A AL n p (λ j r. power A c.u r * power A
            (at_u c (row_at (N r) j) * power A θ j) p)
            ∙ sum-ext A AL p _ (λ r. power A (at_u c k.h) p * (power A c.u r * power A (z r) p))
            (λ r s. sum-mul A AL n (power A c.u r) _
            ∙ ap (λ t. power A c.u r * t) (sym (power-sums A AL p char n _) ∙ ap (λ t. power A t p)
            (sym (theta_sum (N r) n (few r)) ∙ sym (value r s))
            ∙ power-mul A AL (at_u c k.h) (z r) p)
            ∙ ring3 A AL (λ u h z. u ⊗ (h ⊗ z)) (λ u h z. h ⊗ (u ⊗ z)) refl (power A c.u r)
            (power A (at_u c k.h) p) (power A (z r) p))
            ∙ sum-mul A AL p (power A (at_u c k.h) p) _
            ∙ ap (λ t. power A (at_u c k.h) p * t) vanishes ∙ mul_zero A AL _)

        plane_zero : (r : ℕ) → r < p → N r ≡ (planes K).zero
        plane_zero r s = equal_below (polynomials K.ring) P.laws P.tests (N r) (planes K).zero n
            (few r) (size_le (polynomials K.ring) P.laws P.tests (planes K).zero n
            (λ i s. zero_row i))
            (λ j t. split_p_zero K q charP (λ r. row_at (N r) j)
            (sym (polynomial_at (polynomials K.ring) P.laws P.tests n M j t)
            ∙ ap (λ (T : Plane K). row_at T j) whole ∙ zero_row j) r s ∙ sym (zero_row j))
