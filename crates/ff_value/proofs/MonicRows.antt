-- An element over a polynomial in x by rows in powers of y', as the code makes them, for an
-- equation f over a field whose laws are L.
use Rattle.std.proofs.Common.{◌≡◌, ℕ, ◌-◌, ◌+◌, ◌<◌, ◌≤◌, List, [], ◌∷◌, length, refl}
use Rattle.std.proofs.Common.{sym, ◌∙◌, ap, ap₂, arith}
use Rattle.std.proofs.lemmas.List.{length-map}
use Rattle.ff_theory.specs.Ring.{RingOps, IsCommRing, Elements, power}
use Rattle.ff_theory.specs.Lawful.{Domain, Field, Lawful, lawful_field}
use Rattle.ff_theory.specs.Map.{IsMap}
use Rattle.ff_theory.specs.Poly.{coeff, poly, Poly, polynomials}
use Rattle.ff_theory.specs.Division.{size}
use Rattle.ff_theory.specs.Planes.{planes, Plane, row_of}
use Rattle.ff_theory.specs.Algebra.{value_of}
use Rattle.ff_theory.specs.Values.{poly_of, polys_of, plane_of, IsPoly, IsPlane}
use Rattle.ff_theory.proofs.Solver.{◌⊕◌, ◌⊗◌, neg, nil, ring1, ring2, ring3}
use Rattle.ff_theory.proofs.Poly.{trim-coeff, polynomial_laws}
use Rattle.ff_theory.proofs.Division.{size-add, size-neg, size-mul-le}
use Rattle.ff_theory.proofs.PolyMap.{polynomial_domain}
use Rattle.ff_theory.proofs.Element.{element_clear, over_one, value_map}
use Rattle.ff_charts.specs.Chart.{Chart as ChartOf, at_u, at_theta, InPowers, IsChart}
use Rattle.ff_charts.specs.FieldCharts.{leading_row}
use Rattle.ff_charts.proofs.Chart.{at_u_map, at_theta_map, row_times, cancel_u, powers_at}
use Rattle.ff_charts.proofs.Chart.{powers_zero}
use Rattle.ff_charts.proofs.FiniteChart.{at_is, into_theta, into_theta_at, into_theta_size}
use Rattle.ff_charts.proofs.FiniteChart.{power_nonzero, leading_nonzero}
use Rattle.ff_charts.proofs.Rows.{equal_below, poly_size}
use Rattle.ff_elem.specs.declared.elem.Elem.{Elem}
use Rattle.ff_elem.specs.Elem.{algebra_in, elem_of, over_in, IsElem}
use Rattle.ff_elem.proofs.PolyLemmas.{poly-nonzero, nonzero-length}
use Rattle.ff_elem.proofs.Quotients.{element-count, element-nonzero}
use Rattle.ff_data.specs.declared.order.Chart.TheVariants.{Finite}
use Rattle.ff_data.specs.Orders.{chart_of, y_degree}
use Rattle.ff_data.specs.Numerators.{IsNumeratorOver}
use Rattle.ff_data.proofs.ChartLaws.{has, algebra_laws, chart_laws, chart_degree}
use Rattle.ff_common.proofs.BothCharts.{order_plane}
use Rattle.ff_value.specs.Value.{IsNear, IsFar}

module _ (F : Elements ℕ) (L : Lawful F) (f : List (List ℕ)) (hf : IsPlane F f) (two : 1 < length f)
  where
    abbrev K : Field
    K = lawful_field L

    abbrev P : Domain
    P = polynomial_domain (lawful_field L)

    abbrev A : RingOps
    A = algebra_in L f

    AL : IsCommRing (algebra_in L f)
    AL = algebra_laws F L f hf two

    abbrev C : ChartOf F.ring (algebra_in L f)
    C = chart_of L f Finite

    CL : IsChart F.ring (algebra_in L f) (chart_of L f Finite)
    CL = chart_laws F L f hf two Finite

    abbrev g : Plane (lawful_field L)
    g = plane_of F f

    abbrev n : ℕ
    n = length f - 1

    row-at : (a : List (List ℕ)) (i : ℕ) → coeff (polynomials F.ring) (plane_of F a).coeffs i
        ≡ coeff (polynomials F.ring) (polys_of F a) i
    unfolding poly
    row-at a i = trim-coeff P.ring P.laws P.tests (polys_of F a) i

    few-rows : (a : List (List ℕ)) → length a ≤ length f - 1
        → size (polynomials F.ring) (plane_of F a) ≤ length f - 1
    few-rows a h = let s : size (polynomials F.ring) (plane_of F a) ≤ length (polys_of F a)
        = poly_size P.ring P.laws P.tests (polys_of F a) in
        omega (arith, s, length-map a (λ p. poly_of F p), h)

    -- the denominator times the element
    cleared : (w : Elem) → IsElem L f w → (algebra_in L f).mul
        (at_u (chart_of L f Finite) (poly_of F w.den)) (elem_of L f w)
        ≡ value_of (lawful_field L) (plane_of F f) (plane_of F w.num)
    cleared w hw = ap (λ t. A.mul t (elem_of L f w))
        (sym (at_is K g n (has F L f hf two) (poly_of F w.den)))
        ∙ element_clear K g (poly_of F w.den) (polys_of F w.num) (element-nonzero F L f w hw)

    -- the product with a polynomial in x
    pub times_value : (c : List ℕ) (w : Elem) → IsElem L f w → (rows items num : List (List ℕ))
        → rows ≡ w.num → plane_of F items ≡ (planes (lawful_field L)).mul
        (row_of F.ring (poly_of F c)) (plane_of F rows) → plane_of F num ≡ plane_of F items
        → over_in L f num w.den
        ≡ (algebra_in L f).mul (at_u (chart_of L f Finite) (poly_of F c)) (elem_of L f w)
    times_value c w hw rows items num er ei en = sym (over_one K g (plane_of F num)
        (poly_of F w.den) (A.mul (at_u C (poly_of F c)) (elem_of L f w))
        (element-nonzero F L f w hw)
        (ap (λ t. A.mul t (A.mul (at_u C (poly_of F c)) (elem_of L f w)))
        (at_is K g n (has F L f hf two) (poly_of F w.den))
        ∙ ring3 A AL (λ d c w. d ⊗ (c ⊗ w)) (λ d c w. c ⊗ (d ⊗ w)) refl
        (at_u C (poly_of F w.den)) (at_u C (poly_of F c)) (elem_of L f w)
        ∙ ap₂ A.mul (sym (at_is K g n (has F L f hf two) (poly_of F c))) (cleared w hw)
        ∙ sym ((value_map K g).on_mul (row_of F.ring (poly_of F c)) (plane_of F w.num))
        ∙ ap (λ r. value_of K g ((planes K).mul (row_of F.ring (poly_of F c)) (plane_of F r)))
        (sym er)
        ∙ ap (value_of K g) (sym (en ∙ ei))))

    -- the denominator of the rows is not 0
    pub den_length : (w : Elem) → IsElem L f w → (lead den : List ℕ) (m : ℕ)
        → poly_of F lead ≡ leading_row (lawful_field L) (plane_of F f)
        → poly_of F den ≡ (polynomials F.ring).mul (poly_of F w.den)
        (power (polynomials F.ring) (poly_of F lead) m) → 0 < length den
    den_length w hw lead den m el ed = nonzero-length F L den
        (ap (λ t. P.same t P.zero) ed ∙ P.no_divisors (poly_of F w.den)
        (power P.ring (poly_of F lead) m) (element-nonzero F L f w hw)
        (power_nonzero P (poly_of F lead) (ap (λ t. P.same t P.zero) el
        ∙ leading_nonzero K g n (has F L f hf two)) m))

    -- the rows in powers of y'
    pub over_value : (w : Elem) → IsElem L f w → (lead den : List ℕ) (m : ℕ)
        → m ≡ length f - 1 → poly_of F lead ≡ leading_row (lawful_field L) (plane_of F f)
        → poly_of F den ≡ (polynomials F.ring).mul (poly_of F w.den)
        (power (polynomials F.ring) (poly_of F lead) m) → (rows items r : List (List ℕ))
        → rows ≡ w.num → length items ≡ length rows
        → ((i : ℕ) → i < length rows → coeff (polynomials F.ring) (polys_of F items) i
        ≡ (polynomials F.ring).mul (coeff (polynomials F.ring) (polys_of F rows) i)
        (power (polynomials F.ring) (poly_of F lead) (length rows - i)))
        → plane_of F r ≡ plane_of F items
        → IsNumeratorOver L f Finite den r (elem_of L f w)
    over_value w hw lead den m em el ed rows items r er len each e =
        ap (λ t. A.mul (at_u C t) (elem_of L f w)) (ed ∙ ap₂ (λ a k. P.mul (poly_of F w.den)
        (power P.ring a k)) el em)
        ∙ ap (λ t. A.mul t (elem_of L f w)) (U.on_mul (poly_of F w.den) a_to)
        ∙ ring3 A AL (λ d a w. (d ⊗ a) ⊗ w) (λ d a w. a ⊗ (d ⊗ w)) refl
        (at_u C (poly_of F w.den)) (at_u C a_to) (elem_of L f w)
        ∙ ap (A.mul (at_u C a_to)) (cleared w hw) ∙ t.1
        ∙ ap (at_theta C) (sym (e ∙ same))
      where
        U : IsMap (polynomials F.ring) (algebra_in L f) (at_u (chart_of L f Finite))
        U = at_u_map K A AL C CL

        a_to : Poly F.ring
        a_to = power (polynomials F.ring) (leading_row K g) n

        count : length w.num + 1 ≡ length f
        count = element-count F L f w hf two hw

        few : size (polynomials F.ring) (plane_of F w.num) ≤ length f - 1
        few = few-rows w.num (omega (arith, count))

        t : (M : Plane (lawful_field L)) × ((algebra_in L f).mul
            (at_u (chart_of L f Finite) (power (polynomials F.ring)
            (leading_row (lawful_field L) (plane_of F f)) (length f - 1)))
            (value_of (lawful_field L) (plane_of F f) (plane_of F w.num))
            ≡ at_theta (chart_of L f Finite) M)
        t = into_theta K g n (has F L f hf two) (plane_of F w.num) few

        same : plane_of F items ≡ t.0
        same = equal_below P.ring P.laws P.tests (plane_of F items) t.0 n
            (few-rows items (omega (arith, len, ap length er, count)))
            (into_theta_size K g n (has F L f hf two) (plane_of F w.num) few)
            (λ i l. row-at items i ∙ each i (omega (arith, ap length er, count, l))
            ∙ ap₂ (λ (r : List (List ℕ)) a. P.mul (coeff P.ring (polys_of F r) i)
            (power P.ring a (length r - i))) er el
            ∙ ap₂ (λ c k. P.mul c (power P.ring (leading_row K g) (k - i)))
            (sym (row-at w.num i)) (let z : length w.num ≡ length f - 1 = omega (arith, count) in z)
            ∙ sym (into_theta_at K g n (has F L f hf two) (plane_of F w.num) few i l))

    module _ (w : (algebra_in L f).carrier) (den : List ℕ) (hd : IsPoly F den)
        (nonzero : 0 < length den) (rows : List (List ℕ)) (few : length rows ≤ length f - 1)
        (over : IsNumeratorOver L f Finite den rows w) where
      -- the plane whose multiple the rows are
      pub exact_value : (r : List (List ℕ)) → plane_of F rows ≡ (planes (lawful_field L)).mul
          (row_of F.ring (poly_of F den)) (plane_of F r)
          → w ≡ at_theta (chart_of L f Finite) (plane_of F r)
      exact_value r e = cancel_u K A AL C CL (poly_of F den) (poly-nonzero F L den hd nonzero) _ _
          (over ∙ ap (at_theta C) e ∙ row_times K A AL C CL (poly_of F den) (plane_of F r))

      -- and what holds where there is none
      pub no_value : ((N : Plane (lawful_field L)) → ¬ (plane_of F rows ≡ (planes
          (lawful_field L)).mul (row_of F.ring (poly_of F den)) N))
          → ¬ InPowers (chart_of L f Finite) w
      no_value none p = none N.0 (ring2 (planes K) PL (λ m n. m) (λ m n. (m ⊕ neg n) ⊕ n) refl
          (plane_of F rows) dN ∙ ap (λ t. (planes K).add t dN) zero_is
          ∙ ring1 (planes K) PL (λ n. nil ⊕ n) (λ n. n) refl dN)
        where
          PL : IsCommRing (planes (lawful_field L))
          PL = polynomial_laws P.ring P.laws P.tests

          V : IsMap (planes (lawful_field L)) (algebra_in L f) (at_theta (chart_of L f Finite))
          V = at_theta_map K A AL C CL

          N : (N : Plane (lawful_field L))
              × ((size (polynomials F.ring) N ≤ (chart_of L f Finite).degree)
              × (w ≡ at_theta (chart_of L f Finite) N))
          N = order_plane F L f hf two w p

          dN : Plane (lawful_field L)
          dN = (planes (lawful_field L)).mul (row_of F.ring (poly_of F den)) N.0

          small : size (polynomials F.ring) ((planes (lawful_field L)).neg
              ((planes (lawful_field L)).mul (row_of F.ring (poly_of F den)) N.0))
              ≤ (chart_of L f Finite).degree
          small = let r : size (polynomials F.ring) (row_of F.ring (poly_of F den)) ≤ 1
              = poly_size P.ring P.laws P.tests (poly_of F den ∷ []) in
              let h : size (polynomials F.ring) N.0 ≤ (chart_of L f Finite).degree = N.1.0 in
              let m : size (polynomials F.ring) dN ≤ (chart_of L f Finite).degree
              = size-mul-le P.ring P.laws P.tests (row_of F.ring (poly_of F den)) N.0 _
              (omega (arith, r, h)) in
              let s : size (polynomials F.ring) ((planes K).neg dN)
              ≤ size (polynomials F.ring) dN = size-neg P.ring P.laws P.tests dN in
              omega (arith, s, m)

          zero_is : (planes (lawful_field L)).add (plane_of F rows) ((planes (lawful_field L)).neg
              ((planes (lawful_field L)).mul (row_of F.ring (poly_of F den)) N.0))
              ≡ (planes (lawful_field L)).zero
          zero_is = CL.independent _ (size-add P.ring P.laws P.tests (plane_of F rows)
              ((planes K).neg dN) _
              (let s : size (polynomials F.ring) (plane_of F rows) ≤ length f - 1
              = few-rows rows few in omega (arith, s, chart_degree F L f hf two Finite)) small)
              (V.on_add (plane_of F rows) _ ∙ ap₂ A.add (sym over ∙ ap (A.mul
              (at_u C (poly_of F den))) N.1.1
              ∙ sym (row_times K A AL C CL (poly_of F den) N.0)) (V.on_neg dN)
              ∙ AL.add_neg (at_theta C dN))

    -- the rows of d times an element
    pub finite_near : (d : List ℕ) (w s : (algebra_in L f).carrier) → s ≡ (algebra_in L f).mul
        (at_u (chart_of L f Finite) (poly_of F d)) w → (r : List (List ℕ)) → IsPlane F r
        → length r ≤ y_degree L f → s ≡ at_theta (chart_of L f Finite) (plane_of F r)
        → IsNear L f Finite d w r
    finite_near d w s e r plane few h = record {
      plane = plane;
      few = few;
      part = w;
      over = sym e ∙ h;
      rest = A.zero;
      in_powers = powers_zero K A AL C CL;
      sum = ring2 A AL (λ w u. w) (λ w u. w ⊕ u ⊗ nil) refl w C.u;
      exact = λ z. refl;
    }

    pub finite_far : (d : List ℕ) (w s : (algebra_in L f).carrier) → s ≡ (algebra_in L f).mul
        (at_u (chart_of L f Finite) (poly_of F d)) w → ¬ InPowers (chart_of L f Finite) s
        → IsFar L f Finite d w
    finite_far d w s e n p = n (powers_at K A AL C CL (sym e) p)
