-- The derivative of the monic form at y' and that of f at y: one is the other times powers of the
-- leading row; and when they have inverses.
use Rattle.std.proofs.Common.{◌≡◌, ℕ, zero, suc, pred, ◌-◌, ◌<◌, ◌≤◌, ◌⊎◌, inl, inr, false, refl}
use Rattle.std.proofs.Common.{sym, ◌∙◌, ap, ap₂, arith}
use Rattle.std.proofs.lemmas.Bool.{cases_lt}
use Rattle.ff_theory.specs.Ring.{RingOps, IsCommRing, power, multiple}
use Rattle.ff_theory.specs.Lawful.{Domain, Field}
use Rattle.ff_theory.specs.Poly.{coeff, Poly, polynomials}
use Rattle.ff_theory.specs.Division.{size}
use Rattle.ff_theory.proofs.Solver.{◌⊗◌, unit, ring1, ring2, ring3, ring4}
use Rattle.ff_theory.proofs.Frobenius.{multiple-mul}
use Rattle.ff_theory.proofs.FrobeniusPoly.{map-power}
use Rattle.ff_theory.specs.Map.{IsMap}
use Rattle.ff_theory.proofs.Powers.{power-mul}
use Rattle.ff_theory.proofs.Sums.{sum-ext, sum-mul}
use Rattle.ff_theory.proofs.PolyMap.{polynomial_domain, not_same}
use Rattle.ff_theory.specs.Planes.{planes, Plane, IsDivisorOver}
use Rattle.ff_theory.specs.Algebra.{algebra_of, inverse_of, value_of, y_of, degree}
use Rattle.ff_theory.proofs.Element.{algebra_is_ring}
use Rattle.ff_factors.proofs.ZeroDivisors.{FactorOf, inverse_or_factor, no_inverse_with_factor}
use Rattle.ff_theory.specs.Monic.{monic_form}
use Rattle.ff_charts.specs.Chart.{Chart, at_u, at_theta, IsChart}
use Rattle.ff_charts.specs.FieldCharts.{leading_row, y_monic, finite_chart}
use Rattle.ff_theory.specs.Derivative.{derivative}
use Rattle.ff_charts.proofs.Rows.{polynomial_at, polynomial_size, value_sum}
use Rattle.ff_charts.proofs.Chart.{at_u_map}
use Rattle.ff_charts.proofs.MonicForm.{top_row, form_below, form_last, form_size}
use Rattle.ff_conductor.proofs.Trace.{derivative_sum}
use Rattle.ff_conductor.proofs.Conductor.{different}
use Rattle.ff_charts.proofs.FiniteChart.{power_split, degree_is, at_is, value_rows, inverts_row}
use Rattle.ff_charts.proofs.FiniteChart.{low_zero, power_nonzero, leading_nonzero}
use Rattle.ff_charts.proofs.FiniteChart.{finite_is_chart}

-- a map of rings carries multiples to multiples
pub map-multiple : (S R : RingOps) (f : S.carrier → R.carrier) → IsMap S R f
    → (n : ℕ) (a : S.carrier) → f (multiple S n a) ≡ multiple R n (f a)
map-multiple S R f m zero a = m.on_zero
map-multiple S R f m (suc n) a = m.on_add a (multiple S n a)
    ∙ ap (R.add (f a)) (map-multiple S R f m n a)

-- the coefficients of a derivative
module _ (K : Field) where
  abbrev D : Domain
  D = polynomial_domain K

  pub derivative_at : (f : Plane K) (n i : ℕ) → size (polynomials K.ring) f ≡ suc n → i < n
      → coeff (polynomials K.ring) (derivative (polynomials K.ring) f).coeffs i
      ≡ multiple (polynomials K.ring) (suc i) (coeff (polynomials K.ring) f.coeffs (suc i))
  unfolding derivative
  derivative_at f n i e l = polynomial_at (polynomials K.ring) D.laws D.tests
      (pred (size (polynomials K.ring) f))
      (λ i. multiple (polynomials K.ring) (suc i) (coeff (polynomials K.ring) f.coeffs (suc i))) i
      (let z : pred (size (polynomials K.ring) f) ≡ n = ap pred e in omega (arith, z, l))

  pub derivative_size : (f : Plane K) (n : ℕ) → size (polynomials K.ring) f ≡ suc n
      → size (polynomials K.ring) (derivative (polynomials K.ring) f) ≤ n
  unfolding derivative
  derivative_size f n e = let z : pred (size (polynomials K.ring) f) ≡ n = ap pred e in
      let s : size (polynomials K.ring) (derivative (polynomials K.ring) f) ≤ pred
      (size (polynomials K.ring) f) = polynomial_size (polynomials K.ring) D.laws D.tests
      (pred (size (polynomials K.ring) f))
      (λ i. multiple (polynomials K.ring) (suc i) (coeff (polynomials K.ring) f.coeffs (suc i)))
      in omega (arith, z, s)

-- the different is the value of the derivative of the equation at theta
pub different_is : (K : Field) (A : RingOps) (AL : IsCommRing A) (c : Chart K.ring A)
    (l : IsChart K.ring A c)
    → different K A AL c l ≡ at_theta c (derivative (polynomials K.ring) c.equation)
unfolding different
different_is K A AL c l = derivative_sum (polynomials K.ring) P.laws P.tests A AL (at_u c) U c.theta
    c.equation n (let s : size (polynomials K.ring) c.equation ≡ suc n = l.rows in omega (arith, s))
    ∙ sum-ext A AL n _ _ (λ i q. ap
    (A.mul (at_u c (coeff (polynomials K.ring) c.equation.coeffs (suc i))))
    (ap (multiple A (suc i)) (ring1 A AL (λ p. p) (λ p. p ⊗ unit) refl (power A c.theta i))
    ∙ multiple-mul A AL (suc i) (power A c.theta i) A.one)
    ∙ ring3 A AL (λ a t m. a ⊗ (t ⊗ m)) (λ a t m. (a ⊗ m) ⊗ t) refl
    (at_u c (coeff (polynomials K.ring) c.equation.coeffs (suc i))) (power A c.theta i)
    (multiple A (suc i) A.one)
    ∙ ap (λ t. A.mul t (power A c.theta i))
    (sym (multiple-mul A AL (suc i)
    (at_u c (coeff (polynomials K.ring) c.equation.coeffs (suc i))) A.one)
    ∙ ap (multiple A (suc i)) (AL.mul_one _)
    ∙ sym (map-multiple (polynomials K.ring) A (at_u c) U (suc i)
    (coeff (polynomials K.ring) c.equation.coeffs (suc i)))
    ∙ ap (at_u c) (sym (derivative_at K c.equation n i l.rows q))))
    ∙ sym (value_sum (polynomials K.ring) P.laws P.tests A AL (at_u c) U.on_zero c.theta
    (derivative (polynomials K.ring) c.equation) n (derivative_size K c.equation n l.rows))
  where
    P : Domain
    P = polynomial_domain K

    n : ℕ
    n = c.degree

    U : IsMap (polynomials K.ring) A (at_u c)
    U = at_u_map K A AL c l

-- n + 1 is the degree of f
module _ (K : Field) (f : Plane K) (n : ℕ) (has : size (polynomials K.ring) f ≡ suc (suc n)) where
  abbrev A : RingOps
  A = algebra_of K f

  AL : IsCommRing (algebra_of K f)
  AL = algebra_is_ring K f

  abbrev P : Domain
  P = polynomial_domain K

  abbrev a : Poly K.ring
  a = leading_row K f

  abbrev C : Chart K.ring (algebra_of K f)
  C = finite_chart K f

  abbrev at : Poly K.ring → A.carrier
  at h = at_u C h

  abbrev y : A.carrier
  y = y_of K f

  abbrev F : Plane K
  F = monic_form (polynomials K.ring) f

  abbrev pub different_of : (algebra_of K f).carrier
  different_of = different K (algebra_of K f) (algebra_is_ring K f) (finite_chart K f)
      (finite_is_chart K f (suc n) has)

  abbrev pub derivative_of : (algebra_of K f).carrier
  derivative_of = value_of K f (derivative (polynomials K.ring) f)

  size_F : size (polynomials K.ring) F ≡ suc (suc n)
  size_F = form_size (polynomials K.ring) P.laws P.tests f (suc n) has
      (not_same (polynomials K.ring) P.tests P.one P.zero P.proper)

  -- a_n * F_(i+1) * a_n^i is a_n^n * f_(i+1), for n + 1 in the place of n
  coefficient : (i : ℕ) → (suc i < suc n) ⊎ (suc n ≤ suc i) → i < suc n
      → P.mul a (P.mul (coeff (polynomials K.ring) F.coeffs (suc i)) (power P.ring a i))
      ≡ P.mul (power P.ring a n) (coeff (polynomials K.ring) f.coeffs (suc i))
  coefficient i (inl l) q = ap (λ t. P.mul a (P.mul t (power P.ring a i)))
      (form_below (polynomials K.ring) P.laws P.tests f (suc n) has (suc i) l)
      ∙ ring4 P.ring P.laws (λ a c p q. a ⊗ ((c ⊗ p) ⊗ q)) (λ a c p q. (a ⊗ (p ⊗ q)) ⊗ c) refl a
      (coeff (polynomials K.ring) f.coeffs (suc i)) (power P.ring a (suc n - 1 - suc i))
      (power P.ring a i)
      ∙ ap (λ t. P.mul t (coeff (polynomials K.ring) f.coeffs (suc i)))
      (ap (P.mul a) (power_split P.ring P.laws a i (suc n - 1 - suc i) (n - 1) (omega arith))
      ∙ (let e : suc (n - 1) ≡ n = omega arith in ap (power P.ring a) e))
  coefficient i (inr l) q = let e : i
      ≡ n = omega arith in ap (λ j. P.mul a (P.mul (coeff (polynomials K.ring) F.coeffs (suc j))
      (power P.ring a j))) e ∙ ap (λ t. P.mul a (P.mul t (power P.ring a n))) (form_last
      (polynomials K.ring) P.laws P.tests f (suc n) has)
      ∙ ring2 P.ring P.laws (λ a p. a ⊗ (unit ⊗ p)) (λ a p. p ⊗ a) refl a (power P.ring a n)
      ∙ ap (P.mul (power P.ring a n))
      (top_row (polynomials K.ring) P.laws P.tests f (suc n) has
      ∙ ap (λ j. coeff (polynomials K.ring) f.coeffs (suc j)) (sym e))

  abbrev U : IsMap (polynomials K.ring) (algebra_of K f) (at_u (finite_chart K f))
  U = at_u_map K A AL C (finite_is_chart K f (suc n) has)

  -- derivative_scales
  pub derivative_scales : (algebra_of K f).mul (at_u (finite_chart K f) (leading_row K f))
      different_of ≡ (algebra_of K f).mul
      (at_u (finite_chart K f) (power (polynomials K.ring) (leading_row K f) n)) derivative_of
  unfolding different AL
  derivative_scales = ap (A.mul (at a))
      (derivative_sum (polynomials K.ring) P.laws P.tests A AL at U (y_monic K f) F (suc n)
      (let e : size (polynomials K.ring) F ≡ suc (suc n) = size_F in omega (arith, e)))
      ∙ sym (sum-mul A AL (suc n) (at a) _)
      ∙ sum-ext A AL (suc n) _ _ (λ i q. term i q)
      ∙ sum-mul A AL (suc n) (at (power P.ring a n))
      (λ i. A.mul (at (coeff (polynomials K.ring) (derivative (polynomials K.ring) f).coeffs i))
      (power A y i))
      ∙ ap (A.mul (at (power P.ring a n)))
      (sym (value_rows K f (suc n) has (derivative (polynomials K.ring) f) (suc n)
      (derivative_size K f (suc n) has)))
    where
      y_is : y_monic K f ≡ A.mul (at a) y
      y_is = ap (λ t. A.mul t y) (at_is K f (suc n) has a)

      term : (i : ℕ) → i < suc n → A.mul (at a) (A.mul (at (coeff (polynomials K.ring) F.coeffs (suc
          i))) (multiple A (suc i) (power A (y_monic K f) i)))
          ≡ A.mul (at (power P.ring a n))
          (A.mul (at (coeff (polynomials K.ring) (derivative (polynomials K.ring) f).coeffs i))
          (power A y i))
      term i q = ap (λ t. A.mul (at a)
          (A.mul (at (coeff (polynomials K.ring) F.coeffs (suc i))) (multiple A (suc i) t)))
          (ap (λ t. power A t i) y_is ∙ power-mul A AL (at a) y i
          ∙ ap (λ t. A.mul t (power A y i)) (sym (map-power (polynomials K.ring) A at U a i)))
          ∙ ap (A.mul (at a)) (sym (multiple-mul A AL (suc i) (at (coeff (polynomials K.ring)
          F.coeffs (suc i))) _)) ∙ sym (multiple-mul A AL (suc i) (at a) _)
          ∙ ap (multiple A (suc i)) (ring4 A AL (λ a c p y. a ⊗ (c ⊗ (p ⊗ y))) (λ a c p y. (a ⊗ (c ⊗
          p)) ⊗ y) refl (at a) (at (coeff (polynomials K.ring) F.coeffs (suc i)))
          (at (power P.ring a i)) (power A y i)
          ∙ ap (λ t. A.mul t (power A y i))
          (ap (A.mul (at a)) (sym (U.on_mul _ _)) ∙ sym (U.on_mul a _)
          ∙ ap at (coefficient i (cases_lt (suc i) (suc n)) q) ∙ U.on_mul (power P.ring a n) _)
          ∙ ring3 A AL (λ p c y. (p ⊗ c) ⊗ y) (λ p c y. p ⊗ (y ⊗ c)) refl (at (power P.ring a n))
          (at (coeff (polynomials K.ring) f.coeffs (suc i))) (power A y i))
          ∙ multiple-mul A AL (suc i) (at (power P.ring a n)) _
          ∙ ap (A.mul (at (power P.ring a n))) (multiple-mul A AL (suc i) (power A y i) _
          ∙ ap (A.mul (power A y i)) (sym (map-multiple (polynomials K.ring) A at U (suc i) (coeff
          (polynomials K.ring) f.coeffs (suc i)))
          ∙ ap at (sym (derivative_at K f (suc n) i has q))) ∙ AL.mul_comm _ _)

  nonempty : ¬ (size (polynomials K.ring) f ≡ 0)
  nonempty z = absurd (omega (arith, has, z))

  power_inverse : (h : Poly K.ring) → (polynomials K.ring).same h (polynomials K.ring).zero ≡ false
      → (i : A.carrier) × (A.mul i (at h) ≡ A.one)
  power_inverse h nh = (
    inverse_of K f h,
    ap (A.mul (inverse_of K f h))
        (sym (at_is K f (suc n) has h)) ∙ inverts_row K f (suc n) has h nh,
  )

  -- an inverse of the derivative of f gives one of the different
  pub different_inverse : (w : (algebra_of K f).carrier) → (algebra_of K f).mul w derivative_of
      ≡ (algebra_of K f).one → (v : (algebra_of K f).carrier)
      × ((algebra_of K f).mul v different_of ≡ (algebra_of K f).one)
  different_inverse w e = (
    A.mul i.0 (A.mul w (at a)),
    ring4 A AL (λ i w a d. (i ⊗ (w ⊗ a)) ⊗ d)
        (λ i w a d. (i ⊗ w) ⊗ (a ⊗ d)) refl i.0 w (at a) different_of
        ∙ ap (A.mul (A.mul i.0 w)) derivative_scales
        ∙ ring4 A AL (λ i w p v. (i ⊗ w) ⊗ (p ⊗ v)) (λ i w p v. (i ⊗ p) ⊗ (w ⊗ v)) refl i.0 w
        (at (power P.ring a n)) derivative_of ∙ ap₂ A.mul i.1 e ∙ AL.mul_one A.one,
  )
    where
      i : (i : A.carrier) × (A.mul i (at (power P.ring a n)) ≡ A.one)
      i = power_inverse (power P.ring a n) (power_nonzero P a (leading_nonzero K f (suc n) has) n)

  -- and the other way round
  pub derivative_inverse : (v : (algebra_of K f).carrier) → (algebra_of K f).mul v different_of
      ≡ (algebra_of K f).one → (w : (algebra_of K f).carrier)
      × ((algebra_of K f).mul w derivative_of ≡ (algebra_of K f).one)
  derivative_inverse v e = (
    A.mul i.0 (A.mul v (at (power P.ring a n))),
    ring4 A AL
        (λ i v p d. (i ⊗ (v ⊗ p)) ⊗ d) (λ i v p d. (i ⊗ v) ⊗ (p ⊗ d)) refl i.0 v
        (at (power P.ring a n)) derivative_of ∙ ap (A.mul (A.mul i.0 v)) (sym derivative_scales)
        ∙ ring4 A AL (λ i v a d. (i ⊗ v) ⊗ (a ⊗ d)) (λ i v a d. (i ⊗ a) ⊗ (v ⊗ d)) refl i.0 v (at a)
        different_of ∙ ap₂ A.mul i.1 e ∙ AL.mul_one A.one,
  )
    where
      i : (i : A.carrier) × (A.mul i (at a) ≡ A.one)
      i = power_inverse a (leading_nonzero K f (suc n) has)

  -- where f has a derivative that is not 0, the different has an inverse, or a normalised factor of
  -- f divides the derivative
  pub separable_or_factor : ¬ (derivative (polynomials K.ring) f ≡ (planes K).zero)
      → ((v : (algebra_of K f).carrier)
      × ((algebra_of K f).mul v different_of ≡ (algebra_of K f).one))
      ⊎ FactorOf K f (derivative (polynomials K.ring) f)
  separable_or_factor nonzero = go
      (inverse_or_factor K f nonempty (derivative (polynomials K.ring) f)
      (λ z. nonzero (low_zero K f (suc n) has (derivative (polynomials K.ring) f)
      (let d : degree K f ≡ suc n = degree_is K f (suc n) has in let s : size
      (polynomials K.ring) (derivative (polynomials K.ring) f) ≤ suc n = derivative_size K f
      (suc n) has in omega (arith, d, s)) z)))
    where
      go : ((w : A.carrier) × (A.mul w derivative_of ≡ A.one))
          ⊎ FactorOf K f (derivative (polynomials K.ring) f)
          → ((v : A.carrier) × (A.mul v different_of ≡ A.one))
          ⊎ FactorOf K f (derivative (polynomials K.ring) f)
      go (inl w) = inl (different_inverse w.0 w.1)
      go (inr s) = inr s

  -- and not both: a common divisor of positive degree leaves it without an inverse
  pub no_inverse_with_common : (w : Plane K) → IsDivisorOver K.ring w f
      → IsDivisorOver K.ring w (derivative (polynomials K.ring) f) → 1 < size (polynomials K.ring) w
      → (v : (algebra_of K f).carrier)
      → ¬ ((algebra_of K f).mul v different_of ≡ (algebra_of K f).one)
  no_inverse_with_common w df dg l v e = no_inverse_with_factor K f nonempty w
      (derivative (polynomials K.ring) f) df dg l (derivative_inverse v e).0
      (derivative_inverse v e).1
