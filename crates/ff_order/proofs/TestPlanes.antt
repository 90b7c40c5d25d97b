-- The planes of the different times p-th powers of the theta^i.
use Rattle.std.proofs.Common.{◌≡◌, ℕ, suc, ◌+◌ as plus_ℕ, ◌<◌, ◌≤◌, List, length, sym, ◌∙◌, ap}
use Rattle.std.proofs.Common.{[], get_or, arith, refl}
use Rattle.ff_theory.specs.Ring.{RingOps, IsCommRing, Elements, power}
use Rattle.ff_theory.specs.Lawful.{Lawful, lawful_field, Domain}
use Rattle.ff_theory.specs.Poly.{coeff, poly, polynomials}
use Rattle.ff_theory.specs.Division.{size}
use Rattle.ff_theory.specs.Derivative.{derivative}
use Rattle.ff_theory.specs.Values.{poly_of, polys_of, plane_of, IsPlane}
use Rattle.ff_theory.proofs.Coeffs.{coeff-past}
use Rattle.ff_theory.proofs.PolyMap.{polynomial_domain}
use Rattle.ff_theory.proofs.Powers.{power-mul, power-one}
use Rattle.ff_theory.proofs.Solver.{◌⊗◌, unit, ring1, ring3}
use Rattle.ff_charts.specs.Chart.{Chart as ChartOf, at_theta, IsChart}
use Rattle.ff_conductor.proofs.Separable.{derivative_size}
use Rattle.ff_lattice.specs.Remainder.{IsCongruent}
use Rattle.ff_lattice.proofs.Remainders.{poly_at}
use Rattle.ff_poly.proofs.RowLists.{row-value}
use Rattle.ff_elem.specs.Elem.{algebra_in}
use Rattle.ff_elem.proofs.Reduction.{plane-size}
use Rattle.ff_data.specs.declared.order.Chart.{Chart}
use Rattle.ff_data.specs.Orders.{chart_of, different_of, y_degree}
use Rattle.ff_order.specs.declared.chart.ChartRows.{ChartRows}
use Rattle.ff_order.specs.Rows.{IsChartRows}
use Rattle.ff_order.specs.Level.{test_element, IsTestPlane}
use Rattle.ff_data.proofs.ChartLaws.{algebra_laws, chart_laws, chart_degree}
use Rattle.ff_order.proofs.Closing.{product_value}
use Rattle.ff_order.proofs.Products.{power_step}
use Rattle.ff_order.proofs.Residues.{equation_len}

module _ (F : Elements ℕ) (L : Lawful F) where
  abbrev PD : Domain
  PD = polynomial_domain (lawful_field L)

  -- a row of a plane
  pub row_at : (rows : List (List ℕ)) (j : ℕ)
      → coeff (polynomials F.ring) (plane_of F rows).coeffs j
      ≡ poly_of F (get_or rows j [])
  row_at rows j = poly_at (polynomials F.ring) PD.laws PD.tests (polys_of F rows) j
      ∙ sym (row-value F rows j)

  pub row_past : (rows : List (List ℕ)) (j : ℕ) → length rows ≤ j
      → coeff (polynomials F.ring) (plane_of F rows).coeffs j ≡ poly_of F []
  unfolding poly
  row_past rows j l = poly_at (polynomials F.ring) PD.laws PD.tests (polys_of F rows) j
      ∙ coeff-past (polynomials F.ring) (λ p. poly_of F p) rows j l

module _ (F : Elements ℕ) (L : Lawful F) (f : List (List ℕ)) (hf : IsPlane F f) (two : 1 < length f)
    (chart : Chart) where
  abbrev A : RingOps
  A = algebra_in L f

  abbrev AL : IsCommRing (algebra_in L f)
  AL = algebra_laws F L f hf two

  abbrev c : ChartOf F.ring (algebra_in L f)
  c = chart_of L f chart

  abbrev l : IsChart F.ring (algebra_in L f) (chart_of L f chart)
  l = chart_laws F L f hf two chart

  -- one factor theta^p more
  pub next_element : (i : ℕ) → (algebra_in L f).mul (test_element L f chart i)
      (power (algebra_in L f) (chart_of L f chart).theta F.characteristic)
      ≡ test_element L f chart (suc i)
  next_element i = ring3 A AL (λ d s t. (d ⊗ s) ⊗ t) (λ d s t. d ⊗ (t ⊗ s)) refl
      (different_of L f chart) (power A (power A c.theta i) F.characteristic)
      (power A c.theta F.characteristic)
      ∙ ap (A.mul (different_of L f chart))
      (sym (power-mul A AL c.theta (power A c.theta i) F.characteristic))

  pub next_test : (i n : ℕ) (a b r : List (List ℕ)) → IsTestPlane L f chart i a
      → at_theta (chart_of L f chart) (plane_of F b) ≡ (chart_of L f chart).theta
      → n ≡ F.characteristic → IsPlane F r → length r ≤ y_degree L f
      → at_theta (chart_of L f chart) (plane_of F r) ≡ (algebra_in L f).mul
      (at_theta (chart_of L f chart) (plane_of F a))
      (power (algebra_in L f) (at_theta (chart_of L f chart) (plane_of F b)) n)
      → IsTestPlane L f chart (plus_ℕ i 1) r
  next_test i n a b r h theta hn plane few value = record {
    plane = plane;
    few = few;
    value = value ∙ ap (λ t. A.mul t (power A (at_theta c (plane_of F b)) n)) h.value
        ∙ ap (λ t. A.mul (test_element L f chart i) (power A t n)) theta
        ∙ ap (λ n. A.mul (test_element L f chart i) (power A c.theta n)) hn
        ∙ next_element i
        ∙ (let e : suc i ≡ plus_ℕ i 1 = omega arith in ap (test_element L f chart) e);
  }

  module _ (rows : ChartRows) (h : IsChartRows L f chart rows) where
    pub few_rows : (t : List (List ℕ)) → length t < length rows.equation → length t ≤ y_degree L f
    few_rows t small = let e = equation_len F L f hf two chart rows h in
        let n = chart_degree F L f hf two chart in omega (arith, e, n, small)

    pub first_test : (r : List (List ℕ)) → IsPlane F r → plane_of F r
        ≡ derivative (polynomials F.ring) (plane_of F rows.equation) → IsTestPlane L f chart 0 r
    first_test r plane value = record {
      plane = plane;
      few = let s : size (polynomials F.ring) (plane_of F r) ≡ length r = plane-size F L r plane in
          let t : size (polynomials F.ring)
          (derivative (polynomials F.ring) (chart_of L f chart).equation) ≤
          (chart_of L f chart).degree
          = derivative_size (lawful_field L) (chart_of L f chart).equation
          (chart_of L f chart).degree l.rows in
          let u = ap (size (polynomials F.ring)) is in
          let n = chart_degree F L f hf two chart in omega (arith, s, t, u, n);
      value = ap (at_theta c) is ∙ sym (ap (A.mul (different_of L f chart))
          (power-one A AL F.characteristic)
          ∙ ring1 A AL (λ d. d ⊗ unit) (λ d. d) refl (different_of L f chart));
    }
      where
        is : plane_of F r ≡ derivative (polynomials F.ring) (chart_of L f chart).equation
        is = value ∙ ap (derivative (polynomials F.ring)) h.equation_is

    -- a power and one factor more
    pub power_more : (a b p t : List (List ℕ)) (i : ℕ)
        → IsCongruent (polynomials F.ring) (plane_of F rows.equation)
        ((polynomials (polynomials F.ring)).mul (plane_of F p) (plane_of F b)) (plane_of F t)
        → at_theta (chart_of L f chart) (plane_of F p) ≡ (algebra_in L f).mul
        (at_theta (chart_of L f chart) (plane_of F a))
        (power (algebra_in L f) (at_theta (chart_of L f chart) (plane_of F b)) i)
        → at_theta (chart_of L f chart) (plane_of F t) ≡ (algebra_in L f).mul
        (at_theta (chart_of L f chart) (plane_of F a))
        (power (algebra_in L f) (at_theta (chart_of L f chart) (plane_of F b)) (plus_ℕ i 1))
    power_more a b p t i congruent value =
        sym (product_value F L f hf two chart rows h p b t congruent)
        ∙ ap (λ s. A.mul s (at_theta c (plane_of F b))) value
        ∙ power_step A AL (at_theta c (plane_of F a)) (at_theta c (plane_of F b)) i
        ∙ (let e : suc i ≡ plus_ℕ i 1 = omega arith in
        ap (λ n. A.mul (at_theta c (plane_of F a)) (power A (at_theta c (plane_of F b)) n)) e)
