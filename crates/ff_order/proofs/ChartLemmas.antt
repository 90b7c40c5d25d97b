-- The rows of the two charts from what the calls answer.
use Rattle.std.proofs.Common.{◌≡◌, ℕ, zero, suc, ◌+◌, ◌-◌, ◌*◌, ◌<◌, ◌≤◌, ◌⊎◌, inl, inr, List, []}
use Rattle.std.proofs.Common.{◌∷◌}
use Rattle.std.proofs.Common.{Result, Ok, Err, IfOk, length, get_or, false, sym, ◌∙◌, ap, ap₂}
use Rattle.std.proofs.Common.{subst, arith}
use Rattle.std.proofs.lemmas.Bool.{cases_lt}
use Rattle.ff_theory.specs.Ring.{RingOps, IsCommRing, Elements, power}
use Rattle.ff_theory.specs.Lawful.{Domain, Field, Lawful, lawful_field}
use Rattle.ff_theory.specs.Poly.{coeff, Poly, poly, polynomials}
use Rattle.ff_theory.specs.Division.{size, IsDivision}
use Rattle.ff_theory.specs.Monic.{monic_form}
use Rattle.ff_theory.specs.Monomial.{variable}
use Rattle.ff_theory.specs.Planes.{Plane, row_of}
use Rattle.ff_theory.specs.Reversal.{reversal, reversed, slope, Fits}
use Rattle.ff_theory.specs.Algebra.{value_of, degree}
use Rattle.ff_theory.specs.Values.{poly_of, polys_of, plane_of, IsPoly, ArePolys, IsPlane, x_size}
use Rattle.ff_theory.proofs.Poly.{trim-coeff}
use Rattle.ff_theory.proofs.Coeffs.{coeff-map}
use Rattle.ff_theory.proofs.PolyMap.{polynomial_domain, not_same, size_nonzero}
use Rattle.ff_theory.proofs.FrobeniusPoly.{map-power}
use Rattle.ff_theory.proofs.Evaluate.{const_map}
use Rattle.ff_theory.proofs.Element.{algebra_is_ring, value_map, element_clear, over_one}
use Rattle.ff_charts.specs.Chart.{Chart, at_u, at_theta, InPowers, IsChart}
use Rattle.ff_charts.specs.FieldCharts.{leading_row, t_of, finite_chart}
use Rattle.ff_charts.specs.Lattice.{IsResidue}
use Rattle.ff_charts.proofs.Chart.{at_u_map, at_theta_map, row_times, powers_plane}
use Rattle.ff_charts.proofs.MonicForm.{form_size}
use Rattle.ff_charts.proofs.FiniteChart.{degree_is, at_is, power_nonzero, finite_is_chart}
use Rattle.ff_charts.proofs.InfiniteChart.{t_inverts}
use Rattle.ff_charts.proofs.InvertedChart.{inverted_is_chart, variable_size, at_x}
use Rattle.ff_charts.proofs.Lattice.{powers_residue}
use Rattle.ff_charts.proofs.Reversal.{power-inverse}
use Rattle.ff_charts.proofs.Slope.{slope_is}
use Rattle.ff_conductor.proofs.Degrees.{nonzero_size}
use Rattle.ff_conductor.proofs.Separable.{different_is}
use Rattle.ff_poly.proofs.LongDivision.{poly-size-le}
use Rattle.ff_elem.specs.declared.elem.Elem.{Elem}
use Rattle.ff_elem.specs.Elem.{algebra_in, elem_of, over_in, IsElem}
use Rattle.ff_elem.proofs.PolyLemmas.{poly-nonzero, nonzero-length}
use Rattle.ff_elem.proofs.Reduction.{plane-size, last-row}
use Rattle.ff_elem.proofs.Quotients.{element-count, element-nonzero, rows-size, over-one-value}
use Rattle.ff_lattice.specs.Residues.{AreResidues}
use Rattle.ff_data.specs.declared.order.Sep.{Sep}
use Rattle.ff_data.specs.declared.order.Chart.TheVariants.{Finite, Infinite}
use Rattle.ff_data.specs.Orders.{IsSep, chart_of, different_of, slope_of, y_degree}
use Rattle.ff_order.specs.declared.chart.ChartRows.{ChartRows}
use Rattle.ff_order.specs.Rows.{IsChartRows}
use Rattle.ff_data.specs.Quotients.{IsRaisedQuotient}
use Rattle.ff_order.specs.Quotients.{AreQuotients}
use Rattle.ff_order.proofs.FiniteRows.{quotients_value}
use Rattle.ff_quotients.proofs.QuotientResidues.{inverted_b, quotients_residue}
use Rattle.ff_order.proofs.InfiniteRows.{quotients_product}

-- a division by an equal divisor
pub division-by : (R : RingOps) (a b d q r : Poly R) → b ≡ d → IsDivision R a b q r → (s : Poly R)
    × IsDivision R a d q s
division-by R a b d q r e h = (r, subst (λ b. IsDivision R a b q r) e h)

-- a row is not wider than the widest
pub row-width : (rows : List (List ℕ)) (i : ℕ) → length (get_or rows i []) ≤ x_size rows
row-width [] i = omega arith
row-width (p ∷ rows) zero = omega arith
row-width (p ∷ rows) (suc i) = let h : length (get_or rows i []) ≤ x_size rows = row-width rows i in
    omega (arith, h)

-- den * lead^i is not 0
pub divisor-length : (F : Elements ℕ) (L : Lawful F) (by den lead : List ℕ) (i : ℕ) → IsPoly F den
    → IsPoly F lead → 0 < length den → 0 < length lead → poly_of F by
    ≡ (polynomials F.ring).mul (poly_of F den) (power (polynomials F.ring) (poly_of F lead) i)
    → 0 < length by
divisor-length F L by den lead i hd hl ld ll e = let D = polynomial_domain (lawful_field L) in
    nonzero-length F L by (ap (λ t. D.same t D.zero) e ∙ D.no_divisors (poly_of F den)
    (power D.ring (poly_of F lead) i) (poly-nonzero F L den hd ld)
    (power_nonzero D (poly_of F lead) (poly-nonzero F L lead hl ll) i))

-- what follows from three facts of a result
pub ok_three : {T E : Type 0} (P Q S V : T → Type 0) (r : Result T E)
    → ((x : T) → P x → Q x → S x → V x) → IfOk r P → IfOk r Q → IfOk r S → IfOk r V
ok_three P Q S V (Ok x) f p q s = f x p q s
ok_three P Q S V (Err e) f p q s = p

-- the rows of a plane
pub plane-at : (F : Elements ℕ) (L : Lawful F) (a : List (List ℕ)) (i : ℕ)
    → coeff (polynomials F.ring) (plane_of F a).coeffs i
    ≡ coeff (polynomials F.ring) (polys_of F a) i
unfolding poly
plane-at F L a i = let D = polynomial_domain (lawful_field L) in
    trim-coeff D.ring D.laws D.tests (polys_of F a) i

-- and their sizes
pub quotient-width : (F : Elements ℕ) (L : Lawful F) (rows : List (List ℕ)) (i : ℕ)
    → i < length rows
    → size F.ring (coeff (polynomials F.ring) (polys_of F rows) i) ≤ x_size rows
quotient-width F L rows i l = let e : size F.ring (coeff (polynomials F.ring) (polys_of F rows) i)
    ≡ size F.ring (poly_of F (get_or rows i [])) = ap (size F.ring)
    (coeff-map (polynomials F.ring) (λ p. poly_of F p) rows i [] l) in
    let s : size F.ring (poly_of F (get_or rows i [])) ≤ length (get_or rows i [])
    = poly-size-le F.ring L.laws L.tests F.value (get_or rows i []) in
    let w : length (get_or rows i []) ≤ x_size rows = row-width rows i in omega (arith, e, s, w)

module _ (F : Elements ℕ) (L : Lawful F) (f : List (List ℕ)) (hf : IsPlane F f) (two : 1 < length f)
  where
    abbrev K : Field
    K = lawful_field L

    abbrev D : Domain
    D = polynomial_domain (lawful_field L)

    abbrev A : RingOps
    A = algebra_in L f

    abbrev AL : IsCommRing (algebra_in L f)
    AL = algebra_is_ring (lawful_field L) (plane_of F f)

    abbrev g : Plane (lawful_field L)
    g = plane_of F f

    abbrev C : Chart F.ring (algebra_in L f)
    C = finite_chart (lawful_field L) (plane_of F f)

    whole : size (polynomials F.ring) (plane_of F f) ≡ length f
    whole = plane-size F L f hf

    has : size (polynomials F.ring) (plane_of F f) ≡ suc (length f - 1)
    has = let e : size (polynomials F.ring) (plane_of F f) ≡ length f = whole in
        omega (arith, e, two)

    CL : IsChart F.ring (algebra_in L f) (finite_chart (lawful_field L) (plane_of F f))
    CL = finite_is_chart K g (length f - 1) has

    rows-at : (a : List (List ℕ)) (i : ℕ) → coeff (polynomials F.ring) (plane_of F a).coeffs i
        ≡ coeff (polynomials F.ring) (polys_of F a) i
    unfolding poly
    rows-at a i = trim-coeff D.ring D.laws D.tests (polys_of F a) i

    pub den-length : (w : Elem) → IsElem L f w → 0 < length w.den
    den-length w hw = nonzero-length F L w.den (element-nonzero F L f w hw)

    -- an element by the quotients of its numerators
    pub at-monic : (w : Elem) (lead : List ℕ) (quotients num r : List (List ℕ)) → IsElem L f w
        → InPowers (finite_chart (lawful_field L) (plane_of F f)) (elem_of L f w)
        → poly_of F lead ≡ leading_row (lawful_field L) (plane_of F f) → num ≡ w.num
        → length quotients ≡ length num
        → ((i : ℕ) → i < length num → (s : Poly F.ring) × IsDivision F.ring
        (coeff (polynomials F.ring) (polys_of F num) i)
        ((polynomials F.ring).mul (poly_of F w.den) (power (polynomials F.ring) (poly_of F lead) i))
        (coeff (polynomials F.ring) (polys_of F quotients) i) s)
        → plane_of F r ≡ plane_of F quotients
        → elem_of L f w ≡ at_theta (finite_chart (lawful_field L) (plane_of F f)) (plane_of F r)
    at-monic w lead quotients num r hw p hl en len h e = quotients_value K g (length f - 1) has
        (elem_of L f w) (poly_of F w.den) (plane_of F w.num) few (element-nonzero F L f w hw) clears
        p (plane_of F quotients) small row ∙ ap (at_theta C) (sym e)
      where
        count : length w.num + 1 ≡ length f
        count = element-count F L f w hf two hw

        few : size (polynomials F.ring) (plane_of F w.num) ≤ length f - 1
        few = omega (arith, rows-size F L f w.num, count)

        small : size (polynomials F.ring) (plane_of F quotients) ≤ length f - 1
        small = omega (arith, rows-size F L f quotients, count, len, ap length en)

        clears : A.mul (at_u C (poly_of F w.den)) (elem_of L f w) ≡ value_of K g (plane_of F w.num)
        clears = ap (λ t. A.mul t (elem_of L f w)) (sym (at_is K g (length f - 1) has
            (poly_of F w.den)))
            ∙ element_clear K g (poly_of F w.den) (polys_of F w.num) (element-nonzero F L f w hw)

        row : (i : ℕ) → i < length f - 1 → (s : Poly F.ring) × IsDivision F.ring
            (coeff (polynomials F.ring) (plane_of F w.num).coeffs i)
            ((polynomials F.ring).mul (poly_of F w.den)
            (power (polynomials F.ring) (leading_row K g) i))
            (coeff (polynomials F.ring) (plane_of F quotients).coeffs i) s
        row i l = (
          s.0,
          subst (λ a. IsDivision F.ring a (D.mul (poly_of F w.den)
              (power D.ring (leading_row K g) i))
              (coeff D.ring (plane_of F quotients).coeffs i) s.0)
              (ap (λ n. coeff D.ring (polys_of F n) i) en ∙ sym (rows-at w.num i))
              (subst (λ b. IsDivision F.ring (coeff D.ring (polys_of F num) i)
              (D.mul (poly_of F w.den) (power D.ring b i))
              (coeff D.ring (plane_of F quotients).coeffs i) s.0) hl
              (subst (λ q. IsDivision F.ring (coeff D.ring (polys_of F num) i)
              (D.mul (poly_of F w.den) (power D.ring (poly_of F lead) i)) q s.0)
              (sym (rows-at quotients i)) s.1)),
        )
          where
            s : (s : Poly F.ring) × IsDivision F.ring
                (coeff (polynomials F.ring) (polys_of F num) i)
                ((polynomials F.ring).mul (poly_of F w.den)
                (power (polynomials F.ring) (poly_of F lead) i))
                (coeff (polynomials F.ring) (polys_of F quotients) i) s
            s = h i (omega (arith, l, count, ap length en))

    -- the residue in the finite chart
    pub finite-residue : (m : Poly F.ring) (b : (algebra_in L f).carrier) (rows r : List (List ℕ))
        → length rows ≤ length f - 1
        → b ≡ at_theta (finite_chart (lawful_field L) (plane_of F f)) (plane_of F rows)
        → AreResidues F.ring m (plane_of F rows) (plane_of F r)
        → IsResidue (finite_chart (lawful_field L) (plane_of F f)) m b (plane_of F r)
    finite-residue m b rows r few e h = record {
      shape = record {
        rows = let s : size (polynomials F.ring) (plane_of F rows) ≤ length rows = rows-size F L f
            rows
            in let t : size (polynomials F.ring) (plane_of F r)
            ≤ size (polynomials F.ring) (plane_of F rows) = h.rows in let d : C.degree
            ≡ length f - 1
            = degree_is K g (length f - 1) has in omega (arith, s, t, d, few);
        each = λ i. let s : size F.ring (coeff (polynomials F.ring) (plane_of F r).coeffs i)
            < size F.ring m = h.each i in omega (arith, s);
      };
      rest = at_theta C h.quotient;
      in_powers = powers_plane K A AL C CL h.quotient;
      sum = e ∙ ap (at_theta C) h.sum ∙ (at_theta_map K A AL C CL).on_add (plane_of F r) _
          ∙ ap (A.add (at_theta C (plane_of F r))) (row_times K A AL C CL m h.quotient);
    }

    pub finite-rows : (sep : Sep) (r : ChartRows) → IsSep L f sep → IsPlane F r.equation
        → plane_of F r.equation ≡ monic_form (polynomials F.ring) (plane_of F f)
        → r.d ≡ sep.d → IsPlane F r.multiple
        → IsResidue (chart_of L f Finite) (poly_of F sep.d) (elem_of L f sep.b)
        (plane_of F r.multiple) → IsChartRows L f Finite r
    finite-rows sep r hs he ve ed hm hr = record {
      equation = he;
      equation_is = ve;
      d = subst (IsPoly F) (sym ed) hs.d;
      modulus = subst (λ d. D.same (poly_of F d) D.zero ≡ false) (sym ed) hs.nonzero;
      multiple = hm;
      factor = elem_of L f sep.b;
      in_powers = hs.in_powers;
      product = hs.product ∙ ap (λ d. at_u C (poly_of F d)) (sym ed);
      residue = subst (λ d. IsResidue (chart_of L f Finite) (poly_of F d) (elem_of L f sep.b)
          (plane_of F r.multiple)) (sym ed) hr;
    }

    -- the slope fits
    fits : Fits F.ring (degree (lawful_field L) (plane_of F f))
        (monic_form (polynomials F.ring) (plane_of F f)) (slope_of L f)
    fits = subst (λ n. Fits F.ring n (monic_form (polynomials F.ring) (plane_of F f))
        (slope_of L f))
        (sym (degree_is K g (length f - 1) has))
        (slope_is F.ring (monic_form (polynomials F.ring) (plane_of F f)) (length f - 1)).fits

    tu : (algebra_in L f).mul (t_of (lawful_field L) (plane_of F f)) C.u ≡ (algebra_in L f).one
    tu = t_inverts K g (length f - 1) has

    abbrev B : Chart F.ring (algebra_in L f)
    B = chart_of L f Infinite

    abbrev t : A.carrier
    t = t_of (lawful_field L) (plane_of F f)

    BL : IsChart F.ring (algebra_in L f) (chart_of L f Infinite)
    BL = inverted_is_chart K A AL C CL t tu (slope_of L f) fits

    module _ (sep : Sep) (hs : IsSep L f sep) (quotients : List (List ℕ)) (m : ℕ)
        (q : AreQuotients L f (slope_of L f) (poly_of F sep.d) (elem_of L f sep.b) quotients)
        (small : (i : ℕ) → i < length quotients
        → size F.ring (coeff (polynomials F.ring) (polys_of F quotients) i) ≤ suc m) where
      abbrev pick : (i : ℕ) → (i < length quotients) ⊎ (length quotients ≤ i) → Poly F.ring
      pick i (inl l) = (q.quotient i l).0
      pick i (inr l) = D.zero

      abbrev R : ℕ → Poly F.ring
      R i = pick i (cases_lt i (length quotients))

      degree-suc : C.degree ≡ suc (y_degree L f - 1)
      degree-suc = let d : C.degree ≡ length f - 1 = degree_is K g (length f - 1) has in
          omega (arith, d, two)

      within : length quotients ≤ C.degree
      within = let w : length quotients ≤ length f - 1 = q.within in let d : C.degree ≡ length f - 1
          = degree_is K g (length f - 1) has in omega (arith, d, w)

      division : (i : ℕ) → i < length quotients → IsDivision F.ring ((polynomials F.ring).mul
          (power (polynomials F.ring) (variable F.ring) ((y_degree L f - 1 + i) * slope_of L f))
          (coeff (polynomials F.ring) q.plane.coeffs i))
          ((polynomials F.ring).mul (variable F.ring) (poly_of F sep.d))
          (coeff (polynomials F.ring) (polys_of F quotients) i)
          (pick i (cases_lt i (length quotients)))
      division i l = go (cases_lt i (length quotients))
        where
          go : (c : (i < length quotients) ⊎ (length quotients ≤ i)) → IsDivision F.ring
              ((polynomials F.ring).mul
              (power (polynomials F.ring) (variable F.ring) ((y_degree L f - 1 + i) * slope_of L f))
              (coeff (polynomials F.ring) q.plane.coeffs i))
              ((polynomials F.ring).mul (variable F.ring) (poly_of F sep.d))
              (coeff (polynomials F.ring) (polys_of F quotients) i) (pick i c)
          go (inl l) = (q.quotient i l).1
          go (inr n) = absurd (omega (arith, l, n))

      k : (k : ℕ) × (size F.ring (poly_of F sep.d) ≡ suc k)
      k = nonzero_size K (poly_of F sep.d) hs.nonzero

      abbrev b : A.carrier
      b = inverted_b K A AL C CL t tu (slope_of L f) fits (y_degree L f - 1)
          (poly_of F sep.d) k.0 k.1 q.plane (length quotients) q.few within m
          (λ i. coeff (polynomials F.ring) (polys_of F quotients) i) R division small

      product : A.mul b (different_of L f Infinite)
          ≡ at_u (chart_of L f Infinite) (power (polynomials F.ring) (variable F.ring) (suc m))
      unfolding BL
      product = ap (A.mul b) (sym (different_is K A AL B BL))
          ∙ quotients_product K A AL C CL t tu (slope_of L f) fits (y_degree L f - 1) degree-suc
          (poly_of F sep.d) k.0 k.1 q.plane (length quotients) q.few within m
          (λ i. coeff (polynomials F.ring) (polys_of F quotients) i) R division small
          (ap₂ A.mul (sym q.value) (different_is K A AL C CL) ∙ hs.product)

      residue : (M : Plane (lawful_field L)) → size (polynomials F.ring) M ≤ length quotients
          → ((i : ℕ) → i < length quotients → coeff (polynomials F.ring) M.coeffs i
          ≡ reversal F.ring m (coeff (polynomials F.ring) (polys_of F quotients) i))
          → IsResidue (chart_of L f Infinite)
          (power (polynomials F.ring) (variable F.ring) (suc m)) b M
      residue M few rows = quotients_residue K A AL C CL t tu (slope_of L f) fits
          (y_degree L f - 1)
          (poly_of F sep.d) k.0 k.1 q.plane (length quotients) q.few within m
          (λ i. coeff (polynomials F.ring) (polys_of F quotients) i) R division small M few rows

      pub infinite-rows : (r : ChartRows) → IsPlane F r.equation
          → plane_of F r.equation ≡ (chart_of L f Infinite).equation → IsPoly F r.d
          → poly_of F r.d ≡ power (polynomials F.ring) (variable F.ring) (m + 1)
          → IsPlane F r.multiple → length r.multiple ≤ length quotients
          → ((i : ℕ) → i < length quotients
          → coeff (polynomials F.ring) (plane_of F r.multiple).coeffs i
          ≡ reversal F.ring m (coeff (polynomials F.ring) (polys_of F quotients) i))
          → IsChartRows L f Infinite r
      infinite-rows r he ve hd vd hm few rows = record {
        equation = he;
        equation_is = ve;
        d = hd;
        modulus = (suc m, power-is);
        multiple = hm;
        factor = b;
        in_powers = powers_residue K A AL B BL _ b (plane_of F r.multiple) residue-is;
        product = product ∙ ap (at_u B) (sym power-is);
        residue = subst (λ d. IsResidue B d b (plane_of F r.multiple)) (sym power-is) residue-is;
      }
        where
          power-is : poly_of F r.d ≡ power (polynomials F.ring) (variable F.ring) (suc m)
          power-is = vd ∙ (let z : m + 1 ≡ suc m = omega arith in
              ap (power (polynomials F.ring) (variable F.ring)) z)

          residue-is : IsResidue (chart_of L f Infinite)
              (power (polynomials F.ring) (variable F.ring) (suc m)) b (plane_of F r.multiple)
          residue-is = residue (plane_of F r.multiple)
              (let s : size (polynomials F.ring) (plane_of F r.multiple) ≤ length r.multiple
              = rows-size F L f r.multiple in omega (arith, s, few)) rows

    -- the quotients at infinity, as a loop makes them
    pub quotients-are : (b : (algebra_in L f).carrier) (e : ℕ) (d by : List ℕ)
        (N rows items : List (List ℕ)) (m : ℕ) → m ≡ length f - 2
        → poly_of F by ≡ (polynomials F.ring).mul (power (polynomials F.ring) (variable F.ring) 1)
        (poly_of F d) → rows ≡ N → IsPlane F N → length N ≤ length f - 1
        → b ≡ at_theta (chart_of L f Finite) (plane_of F N)
        → length items ≡ length rows → ArePolys F items
        → ((i : ℕ) → i < length rows → IsRaisedQuotient F (poly_of F by) ((m + i) * e)
        (coeff (polynomials F.ring) (polys_of F rows) i)
        (coeff (polynomials F.ring) (polys_of F items) i))
        → AreQuotients L f e (poly_of F d) b items
    quotients-are b e d by N rows items m hm hby er hN few value len each h = record {
      each = each;
      within = omega (arith, few, len, ap length er);
      plane = plane_of F N;
      few = let s : size (polynomials F.ring) (plane_of F N) ≤ length N = rows-size F L f N in
          omega (arith, s, len, ap length er);
      value = value;
      quotient = λ i l. subst (λ k. IsRaisedQuotient F (D.mul (variable F.ring) (poly_of F d))
          ((k + i) * e) (coeff D.ring (plane_of F N).coeffs i) (coeff D.ring (polys_of F items) i))
          (let z : m ≡ length f - 1 - 1 = omega (arith, hm) in z)
          (subst (λ a. IsRaisedQuotient F (D.mul (variable F.ring) (poly_of F d)) ((m + i) * e) a
          (coeff D.ring (polys_of F items) i))
          (ap (λ n. coeff D.ring (polys_of F n) i) er ∙ sym (rows-at N i))
          (subst (λ b. IsRaisedQuotient F b ((m + i) * e) (coeff D.ring (polys_of F rows) i)
          (coeff D.ring (polys_of F items) i))
          (hby ∙ ap (λ t. D.mul t (poly_of F d)) (D.laws.mul_one (variable F.ring)))
          (h i (omega (arith, l, len)))));
    }

    -- a polynomial in x as an element
    pub lead-element : (num : List (List ℕ)) (one a : List ℕ) → plane_of F num
        ≡ row_of F.ring (poly_of F a) → poly_of F a ≡ leading_row (lawful_field L) (plane_of F f)
        → poly_of F one ≡ (polynomials F.ring).one → over_in L f num one
        ≡ value_of (lawful_field L) (plane_of F f)
        (row_of F.ring (leading_row (lawful_field L) (plane_of F f)))
    lead-element num one a hnum ha hone = over-one-value F L f num one hone
        ∙ ap (value_of K g) (hnum ∙ ap (row_of F.ring) ha)

    -- 1 over a power of x
    pub inverse-power : (num : List (List ℕ)) (one den : List ℕ) (e : ℕ) → plane_of F num
        ≡ row_of F.ring (poly_of F one) → poly_of F one ≡ (polynomials F.ring).one
        → poly_of F den ≡ power (polynomials F.ring) (variable F.ring) e
        → over_in L f num den ≡ power (algebra_in L f) (t_of (lawful_field L) (plane_of F f)) e
    inverse-power num one den e hnum hone hden = sym (over_one K g (plane_of F num) (poly_of F den)
        (power A t e)
        (ap (λ s. D.same s D.zero) hden ∙ power_nonzero D (variable F.ring)
        (size_nonzero K (variable F.ring) 1 (variable_size K)) e)
        (ap (λ s. A.mul s (power A t e)) (at_is K g (length f - 1) has (poly_of F den)
        ∙ ap (at_u C) hden ∙ map-power D.ring A (at_u C) (at_u_map K A AL C CL) (variable F.ring) e
        ∙ ap (λ s. power A s e) (at_x F.ring L.laws L.tests A AL C.constant CL.constants C.u))
        ∙ power-inverse A AL C.u t tu e
        ∙ sym (ap (value_of K g) (hnum ∙ ap (row_of F.ring) hone
        ∙ (const_map D.ring D.laws D.tests).on_one) ∙ (value_map K g).on_one)))
