-- Integral in the infinite chart is infinity-integral.
use Rattle.std.proofs.Common.{length, ◌≡◌, ℕ, suc, ◌-◌, ◌+◌ as plus_ℕ, ◌*◌ as times_ℕ, ◌<◌, ◌≤◌}
use Rattle.std.proofs.Common.{false, refl, sym, ◌∙◌, ap, ap₂, arith}
use Rattle.std.proofs.lemmas.Bool.{eqb-true}
use Rattle.ff_theory.specs.Ring.{RingOps, IsCommRing, power}
use Rattle.ff_theory.specs.Lawful.{Domain, Field}
use Rattle.ff_theory.specs.Poly.{coeff, Poly, poly, polynomials}
use Rattle.ff_theory.specs.Division.{size}
use Rattle.ff_theory.specs.Eval.{eval}
use Rattle.ff_theory.proofs.Solver.{◌⊗◌, unit, ring1, ring6}
use Rattle.ff_theory.specs.Map.{IsMap}
use Rattle.ff_theory.proofs.Powers.{power-add}
use Rattle.ff_theory.proofs.FrobeniusPoly.{map-power}
use Rattle.ff_theory.proofs.Sums.{sum-ext, sum-mul}
use Rattle.ff_theory.proofs.Poly.{trim-coeff}
use Rattle.ff_theory.proofs.Division.{x, top_nonzero, size-mul-le}
use Rattle.ff_theory.proofs.Evaluate.{eval_map}
use Rattle.ff_theory.proofs.PolyMap.{polynomial_domain, not_same, same_false, size_nonzero}
use Rattle.ff_theory.specs.Planes.{Plane}
use Rattle.ff_theory.specs.Algebra.{algebra_of, constant, value_of, x_of, degree}
use Rattle.ff_theory.proofs.Element.{algebra_is_ring}
use Rattle.ff_theory.proofs.Element.{element_clear, lowest_nonzero}
use Rattle.ff_theory.specs.Monic.{monic_form}
use Rattle.ff_charts.specs.Chart.{Chart, at_u, at_theta, InPowers, IsIntegral, IsChart}
use Rattle.ff_theory.specs.Reversal.{reversal, Fits}
use Rattle.ff_charts.specs.FieldCharts.{leading_row, t_of, finite_chart}
use Rattle.ff_charts.specs.FieldCharts.{infinite_chart}
use Rattle.ff_charts.specs.Integral.{HasDegrees, IsInfinityIntegral}
use Rattle.ff_charts.proofs.Rows.{polynomial_of, polynomial_at, polynomial_size, exact_size}
use Rattle.ff_charts.proofs.Rows.{value_of_listed, poly_size}
use Rattle.ff_charts.proofs.Reversal.{power-inverse, reversal_at, reversal_past, reversal_size}
use Rattle.ff_charts.proofs.Chart.{at_u_map, powers_at, powers_reduced}
use Rattle.ff_charts.proofs.FiniteChart.{degree_is, at_is, from_theta, from_theta_at, into_theta}
use Rattle.ff_charts.proofs.FiniteChart.{into_theta_at, into_theta_size, leading_nonzero}
use Rattle.ff_charts.proofs.FiniteChart.{power_nonzero, finite_is_chart}
use Rattle.ff_charts.proofs.InvertedChart.{bound, variable_size, at_variable, to_t, to_u}
use Rattle.ff_charts.proofs.InvertedChart.{powers_of, theta_sum, theta_sum_t, term_t, term_u}
use Rattle.ff_charts.proofs.InfiniteChart.{t_inverts, infinite_is_chart}
use Rattle.ff_conductor.proofs.Integral.{integral_by}
use Rattle.ff_conductor.proofs.Degrees.{nonzero_size, power_size, power_size_below, factor_below}
use Rattle.ff_conductor.proofs.Degrees.{degrees_by}

module _ (K : Field) (f : Plane K) (n : ℕ) (has : size (polynomials K.ring) f ≡ suc n) (e : ℕ)
    (fits : Fits K.ring (degree K f) (monic_form (polynomials K.ring) f) e) where
  abbrev A : RingOps
  A = algebra_of K f

  AL : IsCommRing (algebra_of K f)
  AL = algebra_is_ring K f

  abbrev D : Domain
  D = polynomial_domain K

  abbrev C : Chart K.ring (algebra_of K f)
  C = finite_chart K f

  CL : IsChart K.ring (algebra_of K f) (finite_chart K f)
  CL = finite_is_chart K f n has

  abbrev B : Chart K.ring (algebra_of K f)
  B = infinite_chart K f e

  BL : IsChart K.ring (algebra_of K f) (infinite_chart K f e)
  BL = infinite_is_chart K f n has e fits

  abbrev X : Poly K.ring
  X = x K.ring K.laws K.tests

  abbrev t : A.carrier
  t = t_of K f

  tu : (algebra_of K f).mul (t_of K f) (x_of K f) ≡ (algebra_of K f).one
  tu = t_inverts K f n has

  abbrev E : A.carrier
  E = power A t e

  abbrev θ : A.carrier
  θ = C.theta

  map_t : IsMap (polynomials K.ring) (algebra_of K f) (at_u (infinite_chart K f e))
  map_t = at_u_map K A AL B BL

  map_u : IsMap (polynomials K.ring) (algebra_of K f) (at_u (finite_chart K f))
  map_u = at_u_map K A AL C CL

  -- degrees are at most m above that of the denominator: t^m * (t^e)^n carries the element into the
  -- power order
  pub degrees_in_powers : (s : (algebra_of K f).carrier) (d : Poly K.ring) (N : Plane K) (m k : ℕ)
      → size K.ring d ≡ suc k → size (polynomials K.ring) N ≤ n
      → (algebra_of K f).mul (at_u (finite_chart K f) d) s ≡ at_theta (finite_chart K f) N
      → ((i : ℕ) → i < n → size K.ring (coeff (polynomials K.ring) N.coeffs i) ≤ plus_ℕ
      (size K.ring d) m)
      → InPowers (infinite_chart K f e)
      ((algebra_of K f).mul ((algebra_of K f).mul (power (algebra_of K f) (t_of K f) m) (power
      (algebra_of K f) (power (algebra_of K f) (t_of K f) e) n)) s)
  degrees_in_powers s d N m k hd few clear small = record {
    unit = reversal K.ring k d;
    is_unit = ap (λ c. K.same c K.zero)
        (reversal_at K k d 0 (omega arith)
        ∙ (let z : k - 0 ≡ k = omega arith in ap (coeff K.ring d.coeffs) z))
        ∙ same_false K.ring K.tests _ K.zero (λ z. top_nonzero K.ring K.laws K.tests d k hd z);
    nums = polynomial_of (polynomials K.ring) D.laws D.tests n g;
    clears = ap (λ p. A.mul p (A.mul (A.mul (power A t m) (power A E n)) s))
        (sym (to_t K A AL C CL t tu e fits' k d (omega (arith, hd))))
        ∙ ring6 A AL (λ p d m q s z. (p ⊗ d) ⊗ ((m ⊗ q) ⊗ s))
        (λ p d m q s z. ((m ⊗ p) ⊗ q) ⊗ (d ⊗ s)) refl (power A t k) (at_u C d) (power A t m)
        (power A E n) s s
        ∙ ap₂ (λ p q. A.mul (A.mul p (power A E n)) q) (sym (power-add A AL t m k))
        (clear ∙ theta_sum K A AL C CL t tu e fits' N n few)
        ∙ sym (sum-mul A AL n (A.mul (power A t (plus_ℕ m k)) (power A E n)) _)
        ∙ sum-ext A AL n _ _ (λ i q. term_t K A AL C CL t tu e fits' (plus_ℕ m k) n i
        (coeff (polynomials K.ring) N.coeffs i)
        (let z : size K.ring (coeff (polynomials K.ring) N.coeffs i) ≤ plus_ℕ (size K.ring d)
        m = small i q in omega (arith, z, hd)) (omega arith))
        ∙ sym (value_of_listed (polynomials K.ring) D.laws D.tests A AL (at_u B) map_t.on_zero
        (A.mul E θ) n g);
  }
    where
      fits' : Fits K.ring C.degree C.equation e
      fits' = fits

      g : ℕ → Poly K.ring
      g i = D.mul (reversal K.ring (plus_ℕ m k) (coeff (polynomials K.ring) N.coeffs i))
          (power D.ring (power D.ring X e) (n - i))

  abbrev a : Poly K.ring
  a = leading_row K f

  -- how far the degrees of coordinates move between powers of y and of y'
  abbrev extra : ℕ
  extra = suc (times_ℕ (size K.ring (leading_row K f)) n)

  row_bound : (h : Poly K.ring) (i b : ℕ) → i ≤ n → size K.ring h ≤ b
      → size K.ring ((polynomials K.ring).mul h (power (polynomials K.ring) (leading_row K f) i))
      ≤ plus_ℕ b extra
  row_bound h i b l s = let p : size K.ring (power (polynomials K.ring) a i) ≤ suc
      (times_ℕ (size K.ring a) n) = power_size_below K a i n l in
      size-mul-le K.ring K.laws K.tests h (power (polynomials K.ring) a i) (plus_ℕ b extra)
      (omega (arith, p, s))

  pub infinity_integral : (s : (algebra_of K f).carrier) → IsInfinityIntegral K f s
      → IsIntegral (infinite_chart K f e) s
  unfolding poly
  infinity_integral s h = integral_by K A AL B BL
      (D.mul (power D.ring X m) (power D.ring (power D.ring X e) n))
      (D.no_divisors _ _ (power_nonzero D X nx m)
      (power_nonzero D (power D.ring X e) (power_nonzero D X nx e) n)) s (λ j. at j (h.powers j))
    where
      m : ℕ
      m = plus_ℕ h.bound extra

      nx : (polynomials K.ring).same X (polynomials K.ring).zero ≡ false
      nx = size_nonzero K X 1 (variable_size K)

      modulus : at_u B (D.mul (power D.ring X m) (power D.ring (power D.ring X e) n))
          ≡ A.mul (power A t m) (power A E n)
      modulus = map_t.on_mul (power D.ring X m) (power D.ring (power D.ring X e) n)
          ∙ ap₂ A.mul (map-power D.ring A (at_u B) map_t X m
          ∙ ap (λ s. power A s m) (at_variable K A AL C CL t tu e fits t))
          (powers_of K A AL C CL t tu e fits t n)

      at : (j : ℕ) → HasDegrees K f h.bound (power A s j)
          → InPowers B (A.mul (at_u B (D.mul (power D.ring X m) (power D.ring (power D.ring X e)
          n))) (power A s j))
      at j g = powers_at K A AL B BL (ap (λ p. A.mul p (power A s j)) (sym modulus))
          (degrees_in_powers (power A s j) d M.0 m k.0 k.1 (into_theta_size K f n has N few)
          (ap (λ p. A.mul p (power A s j)) (map_u.on_mul (power D.ring a n) g.0.den)
          ∙ AL.mul_assoc (at_u C (power D.ring a n)) (at_u C g.0.den) (power A s j)
          ∙ ap (A.mul (at_u C (power D.ring a n)))
          (ap₂ A.mul (sym (at_is K f n has g.0.den)) (sym g.0.stands)
          ∙ element_clear K f g.0.den g.0.nums nd) ∙ M.1)
          (λ i q. rows i q))
        where
          nd : (polynomials K.ring).same g.0.den (polynomials K.ring).zero ≡ false
          nd = lowest_nonzero K f (degree K f) g.0.den g.0.nums g.0.lowest

          N : Plane K
          N = poly (polynomials K.ring) g.0.nums

          few : size (polynomials K.ring) N ≤ n
          few = let p : size (polynomials K.ring) N ≤ length g.0.nums = poly_size
              (polynomials K.ring) D.laws D.tests g.0.nums in
              let q : length g.0.nums ≡ degree K f = eqb-true (length g.0.nums) (degree K f)
              g.0.lowest.count in let r : degree K f
              ≡ n = degree_is K f n has in omega (arith, p, q, r)

          M : (M : Plane K) × (A.mul (at_u C (power (polynomials K.ring) a n)) (value_of K f N)
              ≡ at_theta C M)
          M = into_theta K f n has N few

          d : Poly K.ring
          d = D.mul (power D.ring a n) g.0.den

          na : (polynomials K.ring).same (power D.ring a n) (polynomials K.ring).zero ≡ false
          na = power_nonzero D a (leading_nonzero K f n has) n

          k : (k : ℕ) × (size K.ring d ≡ suc k)
          k = nonzero_size K d (D.no_divisors (power D.ring a n) g.0.den na nd)

          rows : (i : ℕ) → i < n → size K.ring (coeff (polynomials K.ring) M.0.coeffs i) ≤ plus_ℕ
              (size K.ring d) m
          rows i q = let b : size K.ring (coeff (polynomials K.ring) g.0.nums i) ≤ plus_ℕ
              (size K.ring g.0.den) h.bound = g.1 i in
              let r : size K.ring (D.mul (coeff (polynomials K.ring) N.coeffs i)
              (power D.ring a (n - i))) ≤ plus_ℕ (plus_ℕ (size K.ring g.0.den) h.bound) extra
              = row_bound (coeff (polynomials K.ring) N.coeffs i) (n - i)
              (plus_ℕ (size K.ring g.0.den) h.bound) (omega arith)
              (let z : size K.ring (coeff (polynomials K.ring) N.coeffs i)
              ≡ size K.ring (coeff (polynomials K.ring) g.0.nums i) = ap (size K.ring)
              (trim-coeff D.ring D.laws D.tests g.0.nums i) in omega (arith, z, b)) in
              let y : size K.ring (coeff (polynomials K.ring) M.0.coeffs i)
              ≡ size K.ring (D.mul (coeff (polynomials K.ring) N.coeffs i)
              (power D.ring a (n - i))) = ap (size K.ring) (into_theta_at K f n has N few i q)
              in
              let w : size K.ring g.0.den ≤ size K.ring d = factor_below K (power D.ring a n)
              g.0.den na in omega (arith, r, y, w)

  pub integral_infinity : (s : (algebra_of K f).carrier) → IsIntegral (infinite_chart K f e) s
      → IsInfinityIntegral K f s
  integral_infinity s h = record
      { bound = most; powers = λ j. at j (powers_reduced K A AL B BL _ (h.powers j)) }
    where
      m : ℕ
      m = h.is_modulus.0

      nx : (polynomials K.ring).same X (polynomials K.ring).zero ≡ false
      nx = size_nonzero K X 1 (variable_size K)

      most : ℕ
      most = plus_ℕ (plus_ℕ (suc (times_ℕ (size K.ring X) m))
          (suc (times_ℕ (size K.ring (power D.ring X e)) n))) extra

      shift : Poly K.ring
      shift = power D.ring X m

      shift_at : (y : A.carrier) → eval K.ring A (constant K f) y shift ≡ power A y m
      shift_at y = map-power D.ring A (eval K.ring A (constant K f) y)
          (eval_map K.ring A K.laws K.tests AL (constant K f) CL.constants y) X m
          ∙ ap (λ s. power A s m) (at_variable K A AL C CL t tu e fits y)

      at : (j : ℕ) → (N : Plane K) × ((size (polynomials K.ring) N ≤ degree K f) × (A.mul (at_u B
          (h.powers j).unit) (A.mul (at_u B h.modulus) (power A s j)) ≡ at_theta B N))
          → HasDegrees K f most (power A s j)
      at j N = degrees_by K f n has (power A s j) d (from_theta K f n has G few).0 most k.0 k.1
          (from_theta K f n has G few).1.0
          (ap (λ p. A.mul p (power A s j)) (at_is K f n has d) ∙ clear
          ∙ (from_theta K f n has G few).1.1) rows
        where
          unit_j : Poly K.ring
          unit_j = (h.powers j).unit

          b : (b : ℕ) × ((i : ℕ) → i < n
              → size K.ring (coeff (polynomials K.ring) N.0.coeffs i) ≤ b)
          b = bound n (λ i. size K.ring (coeff (polynomials K.ring) N.0.coeffs i))

          r : ℕ
          r = plus_ℕ b.0 (size K.ring unit_j)

          R : Poly K.ring
          R = reversal K.ring r unit_j

          room : size K.ring unit_j ≤ suc r
          room = omega arith

          R_size : size K.ring R ≡ suc r
          R_size = exact_size K.ring K.laws K.tests R r
              (λ z. not_same K.ring K.tests (coeff K.ring unit_j.coeffs 0) K.zero
              (h.powers j).is_unit (sym (reversal_at K r unit_j r (omega arith) ∙ (let w : r - r
              ≡ 0 = omega arith in ap (coeff K.ring unit_j.coeffs) w)) ∙ z))
              (λ i l. reversal_past K r unit_j i l)

          d : Poly K.ring
          d = D.mul (power D.ring (power D.ring X e) n) R

          k : (k : ℕ) × (size K.ring d ≡ suc k)
          k = nonzero_size K d (D.no_divisors _ _
              (power_nonzero D (power D.ring X e) (power_nonzero D X nx e) n)
              (size_nonzero K R r R_size))

          above : suc r ≤ size K.ring d
          above = let w : size K.ring R ≤ size K.ring d = factor_below K
              (power D.ring (power D.ring X e) n) R
              (power_nonzero D (power D.ring X e) (power_nonzero D X nx e) n) in omega
              (arith, w, R_size)

          g : ℕ → Poly K.ring
          g i = D.mul shift (D.mul (reversal K.ring r (coeff (polynomials K.ring) N.0.coeffs i))
              (power D.ring (power D.ring X e) (n - i)))

          G : Plane K
          G = polynomial_of (polynomials K.ring) D.laws D.tests n g

          few : size (polynomials K.ring) G ≤ n
          few = polynomial_size (polynomials K.ring) D.laws D.tests n g

          few_N : size (polynomials K.ring) N.0 ≤ n
          few_N = let w : degree K f ≡ n = degree_is K f n has in let v : size (polynomials K.ring)
              N.0 ≤ degree K f = N.1.0 in omega (arith, w, v)

          U : A.carrier
          U = power A (x_of K f) e

          row_room : (i : ℕ) → i < n → size K.ring (coeff (polynomials K.ring) N.0.coeffs i) ≤ suc r
          row_room i q = let w : size K.ring (coeff (polynomials K.ring) N.0.coeffs i) ≤ b.0 = b.1 i
              q in omega (arith, w)

          -- u^m * t^m is 1
          whole : (w : A.carrier) → A.mul (power A (x_of K f) m) (A.mul (at_u B h.modulus) w) ≡ w
          whole w = ap (λ p. A.mul (power A (x_of K f) m) (A.mul p w))
              (ap (at_u B) h.is_modulus.1 ∙ shift_at t) ∙ sym (AL.mul_assoc _ _ _)
              ∙ ap (λ p. A.mul p w) (power-inverse A AL (x_of K f) t tu m)
              ∙ ring1 A AL (λ w. unit ⊗ w) (λ w. w) refl w

          clear : A.mul (at_u C d) (power A s j) ≡ at_theta C G
          clear = ap₂ A.mul (map_u.on_mul (power D.ring (power D.ring X e) n) R
              ∙ ap₂ A.mul (powers_of K A AL C CL t tu e fits (x_of K f) n)
              (sym (to_u K A AL C CL t tu e fits r unit_j room))) (sym (whole (power A s j)))
              ∙ ring6 A AL (λ q p v m w z. (q ⊗ (p ⊗ v)) ⊗ (m ⊗ w))
              (λ q p v m w z. m ⊗ ((p ⊗ q) ⊗ (v ⊗ w))) refl (power A U n) (power A (x_of K f) r)
              (at_u B unit_j) (power A (x_of K f) m) (A.mul (at_u B h.modulus) (power A s j)) U
              ∙ ap (λ p. A.mul (power A (x_of K f) m)
              (A.mul (A.mul (power A (x_of K f) r) (power A U n)) p))
              (N.1.1 ∙ theta_sum_t K A AL C CL t tu e fits N.0 n few_N)
              ∙ ap (A.mul (power A (x_of K f) m)) (sym (sum-mul A AL n _ _)
              ∙ sum-ext A AL n _ _ (λ i q. term_u K A AL C CL t tu e fits r n i
              (coeff (polynomials K.ring) N.0.coeffs i) (row_room i q) (omega arith)))
              ∙ sym (sum-mul A AL n (power A (x_of K f) m) _)
              ∙ sum-ext A AL n _ _ (λ i q. sym (AL.mul_assoc _ _ _)
              ∙ ap (λ p. A.mul p (power A θ i))
              (ap (λ p. A.mul p (at_u C (D.mul (reversal K.ring r (coeff (polynomials K.ring)
              N.0.coeffs i)) (power D.ring (power D.ring X e) (n - i)))))
              (sym (shift_at (x_of K f))) ∙ sym (map_u.on_mul shift _)))
              ∙ sym (value_of_listed (polynomials K.ring) D.laws D.tests A AL (at_u C) map_u.on_zero
              θ n g)

          rows : (i : ℕ) → i < n → size K.ring (coeff (polynomials K.ring) (from_theta K f n has G
              few).0.coeffs i) ≤ plus_ℕ (size K.ring d) most
          rows i q = let y : size K.ring
              (coeff (polynomials K.ring) (from_theta K f n has G few).0.coeffs i)
              ≡ size K.ring (D.mul (g i) (power D.ring a i))
              = ap (size K.ring) (from_theta_at K f n has G few i q
              ∙ ap (λ h. D.mul h (power D.ring a i))
              (polynomial_at (polynomials K.ring) D.laws D.tests n g i q)) in
              let s1 : size K.ring (reversal K.ring r (coeff (polynomials K.ring) N.0.coeffs i))
              ≤ suc r = reversal_size K r (coeff (polynomials K.ring) N.0.coeffs i) in
              let s2 : size K.ring (power D.ring (power D.ring X e) (n - i)) ≤ suc
              (times_ℕ (size K.ring (power D.ring X e)) n) = power_size_below K
              (power D.ring X e) (n - i) n (omega arith) in
              let s3 : size K.ring shift ≤ suc (times_ℕ (size K.ring X) m) = power_size K X m in
              let p1 : size K.ring (D.mul (reversal K.ring r (coeff (polynomials K.ring) N.0.coeffs
              i)) (power D.ring (power D.ring X e) (n - i))) ≤ plus_ℕ (suc r)
              (suc (times_ℕ (size K.ring (power D.ring X e)) n))
              = size-mul-le K.ring K.laws K.tests _ _
              (plus_ℕ (suc r) (suc (times_ℕ (size K.ring (power D.ring X e)) n)))
              (omega (arith, s1, s2)) in
              let p2 : size K.ring (g i) ≤ plus_ℕ (suc (times_ℕ (size K.ring X) m))
              (plus_ℕ (suc r) (suc (times_ℕ (size K.ring (power D.ring X e)) n)))
              = size-mul-le K.ring K.laws K.tests shift _
              (plus_ℕ (suc (times_ℕ (size K.ring X) m))
              (plus_ℕ (suc r) (suc (times_ℕ (size K.ring (power D.ring X e)) n))))
              (omega (arith, s3, p1)) in
              let p3 : size K.ring (D.mul (g i) (power D.ring a i)) ≤ plus_ℕ
              (plus_ℕ (suc (times_ℕ (size K.ring X) m))
              (plus_ℕ (suc r) (suc (times_ℕ (size K.ring (power D.ring X e)) n)))) extra
              = row_bound (g i) i _ (omega arith) p2 in omega (arith, y, p3, above)
