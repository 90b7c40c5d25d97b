-- d and b from the inverse of the derivative and the powers of the leading row.
use Rattle.std.proofs.Common.{◌≡◌, ℕ, suc, ◌-◌, ◌+◌, ◌<◌, ◌≤◌, List, length, get_or, sym, ◌∙◌}
use Rattle.std.proofs.Common.{ap, ap₂, arith, false}
use Rattle.ff_theory.specs.Ring.{RingOps, IsCommRing, Elements, power}
use Rattle.ff_theory.specs.Lawful.{Lawful, lawful_field, Domain, Field}
use Rattle.ff_theory.specs.Poly.{poly, polynomials, coeff}
use Rattle.ff_theory.specs.Division.{size}
use Rattle.ff_theory.specs.Planes.{Plane}
use Rattle.ff_theory.specs.LowestTerms.{IsLowest}
use Rattle.ff_theory.specs.Algebra.{value_of}
use Rattle.ff_theory.specs.Values.{poly_of, polys_of, plane_of, IsPoly, ArePolys, IsPlane}
use Rattle.ff_theory.proofs.Poly.{trim-coeff}
use Rattle.ff_theory.proofs.Coeffs.{coeff-map}
use Rattle.ff_theory.proofs.PolyMap.{polynomial_domain}
use Rattle.ff_theory.proofs.Element.{algebra_is_ring, element_clear, lowest_nonzero}
use Rattle.ff_charts.specs.Chart.{Chart, IsChart, at_u, at_theta}
use Rattle.ff_charts.specs.FieldCharts.{finite_chart}
use Rattle.ff_charts.proofs.Chart.{powers_at, powers_plane}
use Rattle.ff_charts.proofs.Rows.{equal_below}
use Rattle.ff_charts.proofs.FiniteChart.{power_nonzero, leading_nonzero, at_is, from_theta}
use Rattle.ff_charts.proofs.FiniteChart.{from_theta_at, finite_is_chart}
use Rattle.ff_conductor.proofs.SepForm.{sep_product}
use Rattle.ff_conductor.proofs.Separable.{different_is}
use Rattle.ff_elem.specs.declared.elem.Elem.{Elem}
use Rattle.ff_elem.specs.Elem.{algebra_in, elem_of, IsElem, ElemIs}
use Rattle.ff_elem.proofs.Reduction.{plane-size}
use Rattle.ff_elem.proofs.CommonRows.{lowest-count}
use Rattle.ff_elem.proofs.PolyLemmas.{nonzero-length}
use Rattle.ff_elem.proofs.Quotients.{element-count, element-nonzero, rows-size}
use Rattle.ff_data.specs.declared.order.Sep.{Sep}
use Rattle.ff_data.specs.Orders.{IsSep, y_derivative, different_of}
use Rattle.ff_data.specs.declared.order.Chart.TheVariants.{Finite}
use Rattle.ff_sep.specs.Parts.{ArePowers, HasParts, lead_of, at_monic, whole_of, top_power}

module _ (F : Elements ℕ) (L : Lawful F) (f : List (List ℕ)) (hf : IsPlane F f) (two : 1 < length f)
  where
    abbrev K : Field
    K = lawful_field L

    abbrev D : Domain
    D = polynomial_domain (lawful_field L)

    abbrev A : RingOps
    A = algebra_in L f

    AL : IsCommRing (algebra_in L f)
    AL = algebra_is_ring (lawful_field L) (plane_of F f)

    has : size (polynomials F.ring) (plane_of F f) ≡ suc (suc (length f - 2))
    has = let e : size (polynomials F.ring) (plane_of F f) ≡ length f = plane-size F L f hf in
        omega (arith, e, two)

    has-one : size (polynomials F.ring) (plane_of F f) ≡ suc (length f - 1)
    has-one = let e : size (polynomials F.ring) (plane_of F f) ≡ length f = plane-size F L f hf in
        omega (arith, e, two)

    rows-at : (a : List (List ℕ)) (i : ℕ) → coeff (polynomials F.ring) (plane_of F a).coeffs i
        ≡ coeff (polynomials F.ring) (polys_of F a) i
    unfolding poly
    rows-at a i = trim-coeff D.ring D.laws D.tests (polys_of F a) i

    -- the last row, as the code reads it
    pub lead-is : (a : List ℕ) (n : ℕ) → n ≡ length f - 1 → a ≡ get_or f n a → poly_of F a
        ≡ lead_of L f
    lead-is a n e h = ap (poly_of F) h
        ∙ sym (coeff-map D.ring (poly_of F) f n a (omega (arith, e, two)))
        ∙ sym (rows-at f n) ∙ ap (coeff D.ring (plane_of F f).coeffs)
        (let s : size (polynomials F.ring) (plane_of F f) ≡ length f = plane-size F L f hf in
        let t : n ≡ length (plane_of F f).coeffs - 1 = omega (arith, s, e) in t)

    top-is : (powers : List (List ℕ)) (top : List ℕ) → ArePowers F (lead_of L f) (length f) powers
        → top ≡ get_or powers (length powers - 2) top → poly_of F top ≡ top_power L f
    top-is powers top hp ht = ap (poly_of F) ht
        ∙ sym (coeff-map D.ring (poly_of F) powers (length powers - 2) top
        (omega (arith, hp.count, two))) ∙ hp.value (length powers - 2)
        (omega (arith, hp.count, two))
        ∙ (let e : length powers - 2 ≡ length f - 2 = omega (arith, hp.count) in
        ap (power D.ring (lead_of L f)) e)

    -- the denominator is not 0
    pub whole-nonzero : (w : Elem) (powers : List (List ℕ)) (den top : List ℕ) → IsElem L f w
        → ArePowers F (lead_of L f) (length f) powers → top ≡ get_or powers (length powers - 2) top
        → poly_of F den ≡ (polynomials F.ring).mul (poly_of F w.den)
        ((polynomials F.ring).mul (poly_of F top) (poly_of F top)) → 0 < length den
    whole-nonzero w powers den top hw hp ht hden = nonzero-length F L den
        (ap (λ t. D.same t D.zero) (hden ∙ ap (λ t. D.mul (poly_of F w.den) (D.mul t t))
        (top-is powers top hp ht)) ∙ D.no_divisors (poly_of F w.den)
        (D.mul (top_power L f) (top_power L f)) (element-nonzero F L f w hw)
        (D.no_divisors (top_power L f) (top_power L f) some some))
      where
        some : D.same (top_power L f) D.zero ≡ false
        some = power_nonzero D (lead_of L f)
            (leading_nonzero K (plane_of F f) (length f - 1) has-one)
            (length f - 2)

    pub has-parts : (w : Elem) (powers : List (List ℕ)) (den top d : List ℕ)
        (num rows : List (List ℕ)) → IsElem L f w → ArePowers F (lead_of L f) (length f) powers
        → top ≡ get_or powers (length powers - 2) top
        → poly_of F den ≡ (polynomials F.ring).mul (poly_of F w.den)
        ((polynomials F.ring).mul (poly_of F top) (poly_of F top))
        → length num ≡ length w.num
        → ((i : ℕ) → i < length w.num → coeff (polynomials F.ring) (polys_of F num) i
        ≡ (polynomials F.ring).mul (coeff (polynomials F.ring) (polys_of F w.num) i)
        (coeff (polynomials F.ring) (polys_of F powers) (length w.num - i)))
        → IsPoly F d → ArePolys F rows
        → IsLowest (lawful_field L) (length num) (poly_of F d) (polys_of F rows)
        → ((i : ℕ) → i < length num → (polynomials F.ring).mul
        (coeff (polynomials F.ring) (polys_of F rows) i) (poly_of F den)
        ≡ (polynomials F.ring).mul (coeff (polynomials F.ring) (polys_of F num) i) (poly_of F d))
        → HasParts L f w d rows
    has-parts w powers den top d num rows hw hp ht hden len value hd each low equal = record {
      d_poly = hd;
      nonzero = lowest_nonzero K (plane_of F f) (length num) (poly_of F d) (polys_of F rows) low;
      each = each;
      count = omega (arith, lowest-count F L (length num) d rows low, len, count);
      equal = λ i l. ap (D.mul (coeff D.ring (polys_of F rows) i))
          (ap (λ t. D.mul (poly_of F w.den) (D.mul t t)) (sym (top-is powers top hp ht)) ∙ sym hden)
          ∙ equal i (omega (arith, l, len, count))
          ∙ ap (λ t. D.mul t (poly_of F d)) (value i (omega (arith, l, count))
          ∙ ap (D.mul (coeff D.ring (polys_of F w.num) i))
          (hp.value (length w.num - i) (omega (arith, count))
          ∙ (let e : length w.num - i ≡ length f - 1 - i = omega (arith, count) in
          ap (power D.ring (lead_of L f)) e)));
    }
      where
        count : length w.num + 1 ≡ length f
        count = element-count F L f w hf two hw

    -- rows times powers, at x and y, are the rows at x and y'
    pub at-monic-is : (powers rows num : List (List ℕ))
        → ArePowers F (lead_of L f) (length f) powers → length rows ≡ length f - 1
        → length num ≡ length rows
        → ((i : ℕ) → i < length rows → coeff (polynomials F.ring) (polys_of F num) i
        ≡ (polynomials F.ring).mul (coeff (polynomials F.ring) (polys_of F rows) i)
        (coeff (polynomials F.ring) (polys_of F powers) i))
        → value_of (lawful_field L) (plane_of F f) (plane_of F num) ≡ at_monic L f rows
    at-monic-is powers rows num hp count len value = ap (value_of K (plane_of F f)) same ∙ sym t.1.1
      where
        small : size (polynomials F.ring) (plane_of F rows) ≤ length f - 1
        small = omega (arith, rows-size F L f rows, count)

        t : (M : Plane (lawful_field L)) × ((size (polynomials F.ring) M ≤ length f - 1)
            × (at_theta (finite_chart K (plane_of F f)) (plane_of F rows)
            ≡ value_of K (plane_of F f) M))
        t = from_theta K (plane_of F f) (length f - 1) has-one (plane_of F rows) small

        same : plane_of F num ≡ t.0
        same = equal_below D.ring D.laws D.tests (plane_of F num) t.0 (length f - 1)
            (omega (arith, rows-size F L f num, count, len)) t.1.0
            (λ i l. rows-at num i ∙ value i (omega (arith, l, count))
            ∙ ap₂ D.mul (sym (rows-at rows i)) (hp.value i (omega (arith, l)))
            ∙ sym (from_theta_at K (plane_of F f) (length f - 1) has-one (plane_of F rows) small i
            l))

    pub is-sep : (w : Elem) (rows : List (List ℕ)) (s : Sep) → IsElem L f w
        → (algebra_in L f).mul (elem_of L f w)
        (value_of (lawful_field L) (plane_of F f) (y_derivative L f)) ≡ (algebra_in L f).one
        → HasParts L f w s.d rows → ElemIs L f (at_monic L f rows) s.b → IsSep L f s
    unfolding AL
    is-sep w rows s hw inverts parts b = record {
      d = parts.d_poly;
      nonzero = parts.nonzero;
      b = b.element;
      in_powers = powers_at K A AL C chart (sym b.value) (powers_plane K A AL C chart
          (plane_of F rows));
      product = ap (λ t. A.mul t (different_of L f Finite)) b.value
          ∙ ap (A.mul (at_monic L f rows)) (sym (different_is K A AL C chart))
          ∙ sep_product K (plane_of F f) (length f - 2) has (elem_of L f w) (poly_of F w.den)
          (plane_of F w.num) few (element-nonzero F L f w hw) clears inverts (poly_of F s.d)
          (plane_of F rows) few-rows
          (λ i l. ap (λ t. D.mul t (whole_of L f w)) (rows-at rows i)
          ∙ parts.equal i (omega (arith, l, two))
          ∙ ap (λ t. D.mul t (poly_of F s.d)) (ap₂ D.mul (sym (rows-at w.num i))
          (let e : length f - 1 - i ≡ suc (length f - 2) - i = omega (arith, two) in
          ap (power D.ring (lead_of L f)) e)));
    }
      where
        C : Chart F.ring (algebra_in L f)
        C = finite_chart (lawful_field L) (plane_of F f)

        chart : IsChart F.ring (algebra_in L f) (finite_chart (lawful_field L) (plane_of F f))
        chart = finite_is_chart K (plane_of F f) (suc (length f - 2)) has

        few : size (polynomials F.ring) (plane_of F w.num) ≤ suc (length f - 2)
        few = omega (arith, rows-size F L f w.num, element-count F L f w hf two hw)

        few-rows : size (polynomials F.ring) (plane_of F rows) ≤ suc (length f - 2)
        few-rows = omega (arith, rows-size F L f rows, parts.count)

        clears : A.mul (at_u C (poly_of F w.den)) (elem_of L f w)
            ≡ value_of K (plane_of F f) (plane_of F w.num)
        clears = ap (λ t. A.mul t (elem_of L f w))
            (sym (at_is K (plane_of F f) (suc (length f - 2)) has (poly_of F w.den)))
            ∙ element_clear K (plane_of F f) (poly_of F w.den) (polys_of F w.num)
            (element-nonzero F L f w hw)
