-- Integral in the finite chart is finite-integral.
use Rattle.std.proofs.Common.{◌≡◌, ℕ, zero, suc, pred, ◌≤◌, IsTrue, length, refl, sym, ◌∙◌, ap}
use Rattle.std.proofs.Common.{arith}
use Rattle.std.proofs.lemmas.Bool.{eqb-true, eq-eqb, lt-ltb}
use Rattle.ff_theory.specs.Ring.{RingOps, IsCommRing, power}
use Rattle.ff_theory.specs.Lawful.{Domain, Field}
use Rattle.ff_theory.specs.Poly.{coeff, Poly, poly, polynomials}
use Rattle.ff_theory.specs.Division.{size, leading_coeff}
use Rattle.ff_theory.proofs.Solver.{◌⊗◌, unit, ring1}
use Rattle.ff_theory.proofs.PolyMap.{polynomial_domain, one_size}
use Rattle.ff_theory.proofs.QuotientUnits.{unit_poly}
use Rattle.ff_theory.specs.Planes.{planes, Plane, row_of}
use Rattle.ff_theory.specs.Algebra.{algebra_of, value_of, element, degree}
use Rattle.ff_theory.proofs.Element.{algebra_is_ring, value_map, element_clear, cancel_row}
use Rattle.ff_factors.proofs.Gauss.{one_divisor}
use Rattle.ff_charts.specs.Chart.{Chart, at_u, at_theta, InPowers, IsIntegral, IsChart}
use Rattle.ff_theory.specs.Lists.{listed}
use Rattle.ff_charts.specs.FieldCharts.{leading_row, finite_chart}
use Rattle.ff_charts.specs.Integral.{HasNoDenominator}
use Rattle.ff_charts.specs.Integral.{IsFiniteIntegral}
use Rattle.ff_charts.proofs.Rows.{polynomial_of, polynomial_at, polynomial_size, equal_below}
use Rattle.ff_charts.proofs.Rows.{poly_size}
use Rattle.ff_charts.proofs.Chart.{at_u_map, powers_at, row_times, powers_reduced, powers_plane}
use Rattle.ff_charts.proofs.Chart.{Reduced, reduced}
use Rattle.ff_charts.proofs.VariablePowers.{one_at_zero}
use Rattle.ff_charts.proofs.FiniteChart.{degree_is, at_is, at_map, power_nonzero, leading_nonzero}
use Rattle.ff_charts.proofs.FiniteChart.{from_theta, into_theta, finite_is_chart}
use Rattle.ff_conductor.proofs.Integral.{integral_by}

pub listed_length : {C : Type 0} (n : ℕ) (g : ℕ → C) → length (listed n g) ≡ n
listed_length zero g = refl
listed_length (suc n) g = ap suc (listed_length n (λ i. g (suc i)))

module _ (K : Field) (f : Plane K) (n : ℕ) (has : size (polynomials K.ring) f ≡ suc n) where
  abbrev A : RingOps
  A = algebra_of K f

  abbrev D : Domain
  D = polynomial_domain K

  AL : IsCommRing (algebra_of K f)
  AL = algebra_is_ring K f

  row_one : A.mul (value_of K f (row_of K.ring D.one)) A.one ≡ A.one
  row_one = ap (λ t. A.mul t A.one) (value_map K f).on_one ∙ AL.mul_one A.one

  -- a plane with at most n rows has the denominator 1
  pub plane_form : (M : Plane K) → size (polynomials K.ring) M ≤ n
      → HasNoDenominator K f (value_of K f M)
  plane_form M l = (
    record {
      den = D.one;
      nums = listed n g;
      lowest = record {
        monic = lead;
        count = eq-eqb (length (listed n g)) (degree K f)
            (listed_length n g ∙ sym (degree_is K f n has));
        lowest = λ d h _. lt-ltb (size K.ring d) 2
            (let s : size K.ring d ≤ 1 = one_divisor K d h in omega (arith, s));
      };
      stands = cancel_row K f D.one D.proper _ _
          (element_clear K f D.one (listed n g) D.proper ∙ ap (value_of K f) same
          ∙ ring1 A AL (λ v. v) (λ v. unit ⊗ v) refl (value_of K f M)
          ∙ ap (λ t. A.mul t (value_of K f M)) (sym (value_map K f).on_one));
    },
    refl,
  )
    where
      g : ℕ → Poly K.ring
      g i = coeff (polynomials K.ring) M.coeffs i

      same : polynomial_of (polynomials K.ring) D.laws D.tests n g ≡ M
      same = equal_below (polynomials K.ring) D.laws D.tests
          (polynomial_of (polynomials K.ring) D.laws D.tests n g) M n
          (polynomial_size (polynomials K.ring) D.laws D.tests n g) l
          (λ i q. polynomial_at (polynomials K.ring) D.laws D.tests n g i q)

      lead : IsTrue (K.same (leading_coeff K.ring D.one) K.one)
      lead = ap (λ t. K.same t K.one)
          (ap (λ k. coeff K.ring (polynomials K.ring).one.coeffs (pred k)) (one_size K)
          ∙ one_at_zero K) ∙ K.tests.same_refl K.one

  -- and the other way round
  pub form_plane : (a : (algebra_of K f).carrier) → HasNoDenominator K f a → (N : Plane K)
      × ((size (polynomials K.ring) N ≤ n) × (a ≡ value_of K f N))
  form_plane a h = (
    poly (polynomials K.ring) h.0.nums,
    (
      (let p : size (polynomials K.ring) (poly (polynomials K.ring) h.0.nums) ≤ length
          h.0.nums = poly_size (polynomials K.ring) D.laws D.tests h.0.nums in
          let q : length h.0.nums ≡ degree K f = eqb-true (length h.0.nums) (degree K f)
          h.0.lowest.count in let d : degree K f
          ≡ n = degree_is K f n has in omega (arith, p, q, d)),
      sym h.0.stands ∙ ap (λ d. element K f d h.0.nums) h.1
          ∙ ring1 A AL (λ v. v) (λ v. unit ⊗ v) refl (element K f D.one h.0.nums)
          ∙ ap (λ t. A.mul t (element K f D.one h.0.nums)) (sym (value_map K f).on_one)
          ∙ element_clear K f D.one h.0.nums D.proper,
    ),
  )

  abbrev C : Chart K.ring (algebra_of K f)
  C = finite_chart K f

  CL : IsChart K.ring (algebra_of K f) (finite_chart K f)
  CL = finite_is_chart K f n has

  -- the power order of the finite chart has no denominators
  pub powers_form : (a : (algebra_of K f).carrier) → InPowers (finite_chart K f) a
      → HasNoDenominator K f a
  powers_form a p = at (powers_reduced K A AL C CL a p) (unit_poly K p.unit p.is_unit)
    where
      move : (b d : A.carrier) → b ≡ d → HasNoDenominator K f b → HasNoDenominator K f d
      move b d e h = (
        record {
          den = h.0.den;
          nums = h.0.nums;
          lowest = h.0.lowest;
          stands = h.0.stands ∙ e;
        },
        h.1,
      )

      at : (N : Plane K) × ((size (polynomials K.ring) N ≤ degree K f)
          × (A.mul (at_u C p.unit) a ≡ at_theta C N)) → (i : Poly K.ring) × (D.mul i p.unit ≡ D.one)
          → HasNoDenominator K f a
      at N i = by_rows (reduced K A AL C CL ((planes K).mul (row_of K.ring i.0) N.0))
        where
          value : at_theta C ((planes K).mul (row_of K.ring i.0) N.0) ≡ a
          value = row_times K A AL C CL i.0 N.0 ∙ ap (A.mul (at_u C i.0)) (sym N.1.1)
              ∙ sym (AL.mul_assoc (at_u C i.0) (at_u C p.unit) a)
              ∙ ap (λ t. A.mul t a) (sym ((at_u_map K A AL C CL).on_mul i.0 p.unit) ∙ ap (at_u C)
              i.1 ∙ (at_u_map K A AL C CL).on_one) ∙ ring1 A AL (λ a. unit ⊗ a) (λ a. a) refl a

          by_rows : Reduced K A AL C CL ((planes K).mul (row_of K.ring i.0) N.0)
              → HasNoDenominator K f a
          by_rows r = finish (from_theta K f n has r.plane
              (let d : degree K f ≡ n = degree_is K f n has in let s : size (polynomials K.ring)
              r.plane ≤ degree K f = r.small in omega (arith, s, d)))
            where
              finish : (M : Plane K) × ((size (polynomials K.ring) M ≤ n) × (at_theta C r.plane
                  ≡ value_of K f M)) → HasNoDenominator K f a
              finish M = move (value_of K f M.0) a (sym M.1.1 ∙ sym r.same_value ∙ value)
                  (plane_form M.0 M.1.0)

  -- integral_chart, for the finite chart
  pub finite_integral : (s : (algebra_of K f).carrier) → IsIntegral (finite_chart K f) s
      → IsFiniteIntegral K f s
  finite_integral s h = record {
    h = h.modulus;
    nonzero = h.is_modulus;
    powers = λ j. powers_form _ (powers_at K A AL C CL (ap (λ t. A.mul t (power A s j)) (sym (at_is
        K f n has h.modulus))) (h.powers j));
  }

  pub integral_finite : (s : (algebra_of K f).carrier) → IsFiniteIntegral K f s
      → IsIntegral (finite_chart K f) s
  integral_finite s h = integral_by K A AL C CL (D.mul (power D.ring (leading_row K f) n) h.h)
      (D.no_divisors _ _ (power_nonzero D (leading_row K f) (leading_nonzero K f n has) n)
      h.nonzero) s
      (λ j. at j (form_plane _ (h.powers j)))
    where
      at : (j : ℕ) → (N : Plane K) × ((size (polynomials K.ring) N ≤ n) × (A.mul (value_of K f
          (row_of K.ring
          h.h)) (power A s j) ≡ value_of K f N))
          → InPowers C (A.mul (at_u C (D.mul (power D.ring (leading_row K f) n) h.h)) (power A s j))
      at j N = powers_at K A AL C CL
          (sym (into_theta K f n has N.0 N.1.0).1
          ∙ ap (A.mul (at_u C (power D.ring (leading_row K f) n)))
          (sym N.1.1 ∙ ap (λ t. A.mul t (power A s j)) (at_is K f n has h.h))
          ∙ sym (AL.mul_assoc _ _ _) ∙ ap (λ t. A.mul t (power A s j)) (sym ((at_map K f n
          has).on_mul (power D.ring (leading_row K f) n) h.h)))
          (powers_plane K A AL C CL (into_theta K f n has N.0 N.1.0).0)
