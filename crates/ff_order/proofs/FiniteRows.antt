-- The rows of an element of the finite power order in powers of y', from its numerators.
use Rattle.std.proofs.Common.{◌≡◌, ℕ, suc, ◌<◌, ◌≤◌, false, refl, sym, ◌∙◌, ap, ap₂, arith}
use Rattle.ff_theory.specs.Ring.{RingOps, IsCommRing, power}
use Rattle.ff_theory.specs.Lawful.{Domain, Field}
use Rattle.ff_theory.specs.Map.{IsMap}
use Rattle.ff_theory.specs.Poly.{coeff, Poly, polynomials}
use Rattle.ff_theory.specs.Division.{size, IsDivision}
use Rattle.ff_theory.specs.Planes.{planes, Plane, row_of}
use Rattle.ff_theory.specs.Algebra.{algebra_of, value_of}
use Rattle.ff_theory.proofs.Solver.{◌⊕◌, ◌⊗◌, nil, unit, ring1, ring2, ring3}
use Rattle.ff_theory.proofs.Division.{const_mul_at, one_division}
use Rattle.ff_theory.proofs.PolyMap.{polynomial_domain, zero_size}
use Rattle.ff_theory.proofs.QuotientUnits.{unit_poly}
use Rattle.ff_theory.proofs.Element.{algebra_is_ring, value_map}
use Rattle.ff_charts.specs.Chart.{Chart, at_u, at_theta, InPowers, IsChart}
use Rattle.ff_charts.specs.FieldCharts.{leading_row, finite_chart}
use Rattle.ff_charts.proofs.Rows.{equal_below}
use Rattle.ff_charts.proofs.Chart.{at_u_map, row_times, Reduced, reduced}
use Rattle.ff_charts.proofs.FiniteChart.{degree_is, at_is, from_theta, from_theta_at}
use Rattle.ff_charts.proofs.FiniteChart.{power_nonzero, leading_nonzero, finite_is_chart}
use Rattle.ff_conductor.proofs.Degrees.{nonzero_size, low_equal, row_mul_size}

module _ (K : Field) (f : Plane K) (n : ℕ) (has : size (polynomials K.ring) f ≡ suc n) where
  abbrev A : RingOps
  A = algebra_of K f

  AL : IsCommRing (algebra_of K f)
  AL = algebra_is_ring K f

  abbrev P : Domain
  P = polynomial_domain K

  abbrev C : Chart K.ring (algebra_of K f)
  C = finite_chart K f

  CL : IsChart K.ring (algebra_of K f) (finite_chart K f)
  CL = finite_is_chart K f n has

  U : IsMap (polynomials K.ring) (algebra_of K f) (at_u (finite_chart K f))
  U = at_u_map K A AL C CL

  -- an element of the power order is a plane at x and y'
  order_plane : (b : (algebra_of K f).carrier) → InPowers (finite_chart K f) b → (N : Plane K)
      × ((size (polynomials K.ring) N ≤ n) × (b ≡ at_theta (finite_chart K f) N))
  order_plane b p = (
    r.plane,
    (
      let s : size (polynomials K.ring) r.plane ≤ C.degree = r.small in let d : C.degree
          ≡ n = degree_is K f n has in omega (arith, s, d),
      ring1 A AL (λ b. b) (λ b. unit ⊗ b) refl b
          ∙ ap (λ t. A.mul t b) (sym (ap (at_u C) i.1 ∙ U.on_one) ∙ U.on_mul i.0 p.unit)
          ∙ AL.mul_assoc (at_u C i.0) (at_u C p.unit) b ∙ ap (A.mul (at_u C i.0)) p.clears
          ∙ sym (row_times K A AL C CL i.0 p.nums) ∙ r.same_value,
    ),
  )
    where
      i : (h : Poly K.ring) × ((polynomials K.ring).mul h p.unit ≡ (polynomials K.ring).one)
      i = unit_poly K p.unit p.is_unit

      r : Reduced K A AL C CL ((planes K).mul (row_of K.ring i.0) p.nums)
      r = reduced K A AL C CL ((planes K).mul (row_of K.ring i.0) p.nums)

  module _ (b : (algebra_of K f).carrier) (den : Poly K.ring) (N : Plane K)
      (few : size (polynomials K.ring) N ≤ n)
      (nd : (polynomials K.ring).same den (polynomials K.ring).zero ≡ false)
      (clears : (algebra_of K f).mul (at_u (finite_chart K f) den) b ≡ value_of K f N) where
    abbrev by : ℕ → Poly K.ring
    by i = P.mul den (power P.ring (leading_row K f) i)

    -- the numerators are exact multiples
    exact_rows : (M : Plane K) → size (polynomials K.ring) M ≤ n
        → b ≡ at_theta (finite_chart K f) M → (i : ℕ) → i < n
        → coeff (polynomials K.ring) N.coeffs i
        ≡ (polynomials K.ring).mul (coeff (polynomials K.ring) M.coeffs i)
        ((polynomials K.ring).mul den (power (polynomials K.ring) (leading_row K f) i))
    exact_rows M small e i l =
        ap (λ (T : Plane K). coeff (polynomials K.ring) T.coeffs i) same
        ∙ const_mul_at (polynomials K.ring) P.laws P.tests den t.0 i
        ∙ ap (P.mul den) (from_theta_at K f n has M small i l)
        ∙ ring3 P.ring P.laws (λ d m p. d ⊗ (m ⊗ p)) (λ d m p. m ⊗ (d ⊗ p)) refl den
        (coeff (polynomials K.ring) M.coeffs i) (power P.ring (leading_row K f) i)
      where
        t : (T : Plane K) × ((size (polynomials K.ring) T ≤ n)
            × (at_theta (finite_chart K f) M ≡ value_of K f T))
        t = from_theta K f n has M small

        same : N ≡ (planes K).mul (row_of K.ring den) t.0
        same = low_equal K f n has N ((planes K).mul (row_of K.ring den) t.0) few
            (row_mul_size K f n has den t.0 t.1.0)
            (sym clears ∙ ap₂ A.mul (sym (at_is K f n has den)) (e ∙ t.1.1)
            ∙ sym ((value_map K f).on_mul (row_of K.ring den) t.0))

    -- the quotients by division with remainder
    pub quotients_value : InPowers (finite_chart K f) b → (Q : Plane K)
        → size (polynomials K.ring) Q ≤ n
        → ((i : ℕ) → i < n → (s : Poly K.ring) × IsDivision K.ring
        (coeff (polynomials K.ring) N.coeffs i)
        ((polynomials K.ring).mul den (power (polynomials K.ring) (leading_row K f) i))
        (coeff (polynomials K.ring) Q.coeffs i) s)
        → b ≡ at_theta (finite_chart K f) Q
    quotients_value p Q small h = M.1.1 ∙ ap (at_theta C) (sym (equal_below (polynomials K.ring)
        P.laws P.tests Q M.0 n small M.1.0 row))
      where
        M : (M : Plane K) × ((size (polynomials K.ring) M ≤ n)
            × (b ≡ at_theta (finite_chart K f) M))
        M = order_plane b p

        row : (i : ℕ) → i < n → coeff (polynomials K.ring) Q.coeffs i
            ≡ coeff (polynomials K.ring) M.0.coeffs i
        row i l = (one_division K (by i) k.0 k.1
            (coeff (polynomials K.ring) N.coeffs i) (coeff (polynomials K.ring) Q.coeffs i)
            (h i l).0
            (coeff (polynomials K.ring) M.0.coeffs i) P.zero (h i l).1 (record {
              sum = exact_rows M.0 M.1.0 M.1.1 i l
                  ∙ ring2 P.ring P.laws (λ m d. m ⊗ d) (λ m d. m ⊗ d ⊕ nil) refl
                  (coeff (polynomials K.ring) M.0.coeffs i) (by i);
              smaller = let z : size K.ring P.zero ≡ 0 = zero_size K in let e : size K.ring (by i)
                  ≡ suc k.0 = k.1 in omega (arith, z, e);
            })).0
          where
            k : (k : ℕ) × (size K.ring (by i) ≡ suc k)
            k = nonzero_size K (by i) (P.no_divisors den (power P.ring (leading_row K f) i) nd
                (power_nonzero P (leading_row K f) (leading_nonzero K f n has) i))
