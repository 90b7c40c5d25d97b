-- The quotients at infinity of x times an element: d times the element modulo t * d, for d that is
-- a power of t, or that it is not in the power order. For an equation f over a field whose laws
-- are L.
use Rattle.std.proofs.Common.{◌≡◌, ℕ, zero, suc, pred, ◌-◌, ◌+◌, ◌*◌, ◌<◌, ◌≤◌, ◌⊎◌, inl, inr}
use Rattle.std.proofs.Common.{List, [], ◌∷◌, length, get_or, refl, sym, ◌∙◌, ap, ap₂, arith}
use Rattle.std.proofs.Common.{subst}
use Rattle.std.proofs.lemmas.Bool.{cases_lt}
use Rattle.ff_theory.specs.Ring.{RingOps, IsCommRing, Elements, power}
use Rattle.ff_theory.specs.Lawful.{Domain, Field, Lawful, lawful_field}
use Rattle.ff_theory.specs.Map.{IsMap}
use Rattle.ff_theory.specs.Poly.{coeff, Poly, polynomials}
use Rattle.ff_theory.specs.Division.{size, IsDivision}
use Rattle.ff_theory.specs.Monomial.{variable}
use Rattle.ff_theory.specs.Planes.{Plane}
use Rattle.ff_theory.specs.Reversal.{reversal}
use Rattle.ff_theory.specs.Values.{poly_of, polys_of, plane_of, IsPoly, ArePolys}
use Rattle.ff_theory.specs.Values.{IsPlane, x_size}
use Rattle.ff_theory.proofs.Solver.{◌⊕◌, ◌⊗◌, unit, ring1, ring2, ring3, ring4}
use Rattle.ff_theory.proofs.Coeffs.{coeff-map}
use Rattle.ff_theory.proofs.PolyMap.{polynomial_domain}
use Rattle.ff_theory.proofs.Division.{const_mul_at}
use Rattle.ff_charts.specs.Chart.{Chart as ChartOf, at_u, at_theta, InPowers, IsChart}
use Rattle.ff_charts.specs.FieldCharts.{t_of}
use Rattle.ff_charts.specs.Lattice.{IsTimes, IsResidue}
use Rattle.ff_charts.proofs.Chart.{at_u_map, cancel_u, powers_at}
use Rattle.ff_charts.proofs.InfiniteChart.{t_inverts}
use Rattle.ff_charts.proofs.InvertedChart.{at_variable, at_x}
use Rattle.ff_charts.proofs.Lattice.{residue}
use Rattle.ff_charts.proofs.Rows.{polynomial_of, polynomial_at, polynomial_size}
use Rattle.ff_quotients.proofs.QuotientResidues.{element_residue, variable_power_size}
use Rattle.ff_poly.proofs.LongDivision.{poly-size}
use Rattle.ff_elem.specs.Elem.{algebra_in}
use Rattle.ff_data.specs.declared.order.Chart.TheVariants.{Finite, Infinite}
use Rattle.ff_data.specs.Orders.{chart_of, slope_of, y_degree}
use Rattle.ff_data.proofs.ChartLaws.{has, fits, algebra_laws, chart_laws, chart_degree}
use Rattle.ff_common.proofs.BothCharts.{image_into, short_reversal}
use Rattle.ff_data.specs.Quotients.{IsRaisedQuotient}
use Rattle.ff_lattice.proofs.Remainders.{poly_at}
use Rattle.ff_elem.proofs.Reduction.{plane-size}
use Rattle.ff_value.specs.Value.{AreQuotientsOver, HasQuotients, IsNear, IsFar}

-- a row is not longer than the widest
row-width : (rows : List (List ℕ)) (i : ℕ) → length (get_or rows i []) ≤ x_size rows
row-width [] i = omega arith
row-width (p ∷ rows) zero = omega arith
row-width (p ∷ rows) (suc i) = let h : length (get_or rows i []) ≤ x_size rows = row-width rows i in
    omega (arith, h)

-- where each row is within a bound, the widest is
pub width-within : (rows : List (List ℕ)) (m : ℕ)
    → ((i : ℕ) → i < length rows → length (get_or rows i []) ≤ m) → x_size rows ≤ m
width-within [] m h = omega arith
width-within (p ∷ rows) m h = let a : length p ≤ m = h 0 (omega arith) in
    let b : x_size rows ≤ m = width-within rows m (λ i l. h (suc i) (omega (arith, l))) in
    omega (arith, a, b)

module _ (F : Elements ℕ) (L : Lawful F) (f : List (List ℕ)) (hf : IsPlane F f) (two : 1 < length f)
  where
    abbrev K : Field
    K = lawful_field L

    abbrev P : Domain
    P = polynomial_domain (lawful_field L)

    abbrev A : RingOps
    A = algebra_in L f

    AL : IsCommRing (algebra_in L f)
    AL = algebra_laws F L f hf two

    abbrev C : ChartOf F.ring (algebra_in L f)
    C = chart_of L f Finite

    abbrev B : ChartOf F.ring (algebra_in L f)
    B = chart_of L f Infinite

    CL : IsChart F.ring (algebra_in L f) (chart_of L f Finite)
    CL = chart_laws F L f hf two Finite

    BL : IsChart F.ring (algebra_in L f) (chart_of L f Infinite)
    BL = chart_laws F L f hf two Infinite

    tu : (algebra_in L f).mul (t_of (lawful_field L) (plane_of F f)) (chart_of L f Finite).u
        ≡ (algebra_in L f).one
    tu = t_inverts (lawful_field L) (plane_of F f) (length f - 1) (has F L f hf two)

    U : IsMap (polynomials F.ring) (algebra_in L f) (at_u (chart_of L f Infinite))
    U = at_u_map K A AL B BL

    abbrev X_to : ℕ → Poly F.ring
    X_to m = power (polynomials F.ring) (variable F.ring) m

    at_t : (y : (algebra_in L f).carrier) → at_u (chart_of L f Infinite) (variable F.ring)
        ≡ (chart_of L f Infinite).u
    at_t y = at_variable K A AL C CL (t_of K (plane_of F f)) tu (slope_of L f) (fits F L f hf two)
        (t_of K (plane_of F f))

    -- the variable at x
    pub variable_at : (p : List ℕ) → poly_of F p ≡ power (polynomials F.ring) (variable F.ring) 1
        → at_u (chart_of L f Finite) (poly_of F p) ≡ (chart_of L f Finite).u
    variable_at p e = ap (at_u C) (e ∙ P.laws.mul_one (variable F.ring))
        ∙ at_x F.ring L.laws L.tests A AL C.constant CL.constants C.u

    -- t^(m + 1) * (x * w) is t^m * w
    less : (m : ℕ) (w : (algebra_in L f).carrier) → (algebra_in L f).mul
        (at_u (chart_of L f Infinite)
        (power (polynomials F.ring) (variable F.ring) (suc m)))
        ((algebra_in L f).mul (chart_of L f Finite).u w)
        ≡ (algebra_in L f).mul (at_u (chart_of L f Infinite)
        (power (polynomials F.ring) (variable F.ring) m)) w
    less m w = ap (λ s. A.mul s (A.mul C.u w)) (U.on_mul (variable F.ring) (X_to m)
        ∙ ap (λ s. A.mul s (at_u B (X_to m))) (at_t w))
        ∙ ring4 A AL (λ t p u w. (t ⊗ p) ⊗ (u ⊗ w)) (λ t p u w. (t ⊗ u) ⊗ (p ⊗ w)) refl
        (t_of K (plane_of F f)) (at_u B (X_to m)) C.u w
        ∙ ap (λ s. A.mul s (A.mul (at_u B (X_to m)) w)) tu
        ∙ ring2 A AL (λ p w. unit ⊗ (p ⊗ w)) (λ p w. p ⊗ w) refl (at_u B (X_to m)) w

    module _ (w s : (algebra_in L f).carrier)
        (scaled : s ≡ (algebra_in L f).mul (chart_of L f Finite).u w)
        (q : List (List ℕ)) (h : HasQuotients L f s q) where
      abbrev Q : ℕ → Poly F.ring
      Q i = coeff (polynomials F.ring) (polys_of F q) i

      abbrev k : ℕ
      k = pred (length h.den)

      den_size : size F.ring (poly_of F h.den) ≡ suc (pred (length h.den))
      den_size = let s : size F.ring (poly_of F h.den) ≡ length h.den = poly-size F.ring L.laws
          L.tests F.value h.den h.poly.canonical in omega (arith, s, h.nonzero)

      abbrev pick : (i : ℕ) → (i < length q) ⊎ (length q ≤ i) → Poly F.ring
      pick i (inl l) = (h.quotients.each i l).0
      pick i (inr l) = P.zero

      abbrev R : ℕ → Poly F.ring
      R i = pick i (cases_lt i (length q))

      division : (i : ℕ) → i < length q → IsDivision F.ring ((polynomials F.ring).mul
          (power (polynomials F.ring) (variable F.ring) ((0 + i) * slope_of L f))
          (coeff (polynomials F.ring) h.plane.coeffs i))
          ((polynomials F.ring).mul (variable F.ring) (poly_of F h.den)) (Q i) (R i)
      division i l = go (cases_lt i (length q))
        where
          go : (c : (i < length q) ⊎ (length q ≤ i)) → IsDivision F.ring ((polynomials F.ring).mul
              (power (polynomials F.ring) (variable F.ring) ((0 + i) * slope_of L f))
              (coeff (polynomials F.ring) h.plane.coeffs i))
              ((polynomials F.ring).mul (variable F.ring) (poly_of F h.den)) (Q i) (pick i c)
          go (inl k) = (h.quotients.each i k).1
          go (inr k) = absurd (omega (arith, l, k))

      -- the number of coefficients of a row
      row_size : (i : ℕ) → i < length q
          → size F.ring (coeff (polynomials F.ring) (polys_of F q) i) ≡ length (get_or q i [])
      row_size i l = ap (size F.ring) (coeff-map (polynomials F.ring) (λ p. poly_of F p) q i [] l)
          ∙ poly-size F.ring L.laws L.tests F.value (get_or q i [])
          (h.quotients.polys i [] l).canonical

      small : (m : ℕ) → x_size q ≤ suc m → (i : ℕ) → i < length q
          → size F.ring (coeff (polynomials F.ring) (polys_of F q) i) ≤ suc m
      small m wide i l = omega (arith, row_size i l, row-width q i, wide)

      -- the residue by the reversals
      reversed : (m : ℕ) → x_size q ≤ suc m → (M : Plane (lawful_field L))
          → size (polynomials F.ring) M ≤ length q
          → ((i : ℕ) → i < length q → coeff (polynomials F.ring) M.coeffs i
          ≡ reversal F.ring m (coeff (polynomials F.ring) (polys_of F q) i))
          → IsResidue (chart_of L f Infinite)
          (power (polynomials F.ring) (variable F.ring) (suc m))
          ((algebra_in L f).mul (at_u (chart_of L f Infinite)
          (power (polynomials F.ring) (variable F.ring) (suc m))) s) M
      reversed m wide M few each = element_residue K A AL C CL (t_of K (plane_of F f)) tu
          (slope_of L f) (fits F L f hf two) 0 (poly_of F h.den) (pred (length h.den)) den_size
          h.plane (length q) h.quotients.whole
          (let w : length q ≤ length f - 1 = h.quotients.few in
          omega (arith, w, chart_degree F L f hf two Finite)) m Q R division (small m wide) s
          h.over refl M few each

      -- the rows of d * w
      pub near : (d : List ℕ) (m : ℕ) → poly_of F d ≡ power (polynomials F.ring)
          (variable F.ring) m → (rows : List (List ℕ)) → IsPlane F rows
          → length rows ≤ y_degree L f → x_size q ≤ suc m
          → size (polynomials F.ring) (plane_of F rows) ≤ length q
          → ((i : ℕ) → i < length q → coeff (polynomials F.ring) (plane_of F rows).coeffs i
          ≡ reversal F.ring m (coeff (polynomials F.ring) (polys_of F q) i))
          → IsNear L f Infinite d w rows
      near d m ed rows plane few wide short each = record {
        plane = plane;
        few = few;
        part = A.mul (BL.inverse (X_to m)) (at_theta B (plane_of F rows));
        over = ap (λ p. A.mul (at_u B p) part) ed ∙ times;
        rest = r.rest;
        in_powers = r.in_powers;
        sum = cancel_u K A AL B BL (X_to m) (BL.modulus_nonzero (X_to m) (m, refl)) _ _
            (sym (less m w) ∙ ap (A.mul (at_u B (X_to (suc m)))) (sym scaled) ∙ r.sum
            ∙ ap₂ (λ x y. A.add x (A.mul y r.rest)) (sym times)
            (U.on_mul (variable F.ring) (X_to m)
            ∙ ap (λ s. A.mul s (at_u B (X_to m))) (at_t w))
            ∙ ring4 A AL (λ p a t r. p ⊗ a ⊕ (t ⊗ p) ⊗ r) (λ p a t r. p ⊗ (a ⊕ t ⊗ r)) refl
            (at_u B (X_to m)) part B.u r.rest);
        exact = λ e. absurd (let z : Infinite ≡ Finite = e in cc);
      }
        where
          r : IsResidue (chart_of L f Infinite)
              (power (polynomials F.ring) (variable F.ring) (suc m))
              ((algebra_in L f).mul (at_u (chart_of L f Infinite)
              (power (polynomials F.ring) (variable F.ring) (suc m))) s) (plane_of F rows)
          r = reversed m wide (plane_of F rows) short each

          part : (algebra_in L f).carrier
          part = A.mul (BL.inverse (X_to m)) (at_theta B (plane_of F rows))

          times : (algebra_in L f).mul (at_u (chart_of L f Infinite)
              (power (polynomials F.ring) (variable F.ring) m)) part
              ≡ at_theta (chart_of L f Infinite) (plane_of F rows)
          times = ring3 A AL (λ p i v. p ⊗ (i ⊗ v)) (λ p i v. (i ⊗ p) ⊗ v) refl
              (at_u B (X_to m)) (BL.inverse (X_to m)) (at_theta B (plane_of F rows))
              ∙ ap (λ s. A.mul s (at_theta B (plane_of F rows)))
              (BL.inverts (X_to m) (BL.modulus_nonzero (X_to m) (m, refl)))
              ∙ ring1 A AL (λ v. unit ⊗ v) (λ v. v) refl (at_theta B (plane_of F rows))

      -- where a quotient is longer
      pub far : (d : List ℕ) (m : ℕ) → poly_of F d ≡ power (polynomials F.ring)
          (variable F.ring) m → suc m < x_size q → IsFar L f Infinite d w
      far d m ed long p = absurd (omega (
        arith,
        long,
        width-within q (suc m) (λ i l.
            let z : length (get_or q i []) ≡ size F.ring (Q i) = sym (row_size i l) in
            let r : size F.ring (Q i) ≤ suc m = row i l in omega (arith, z, r)),
      ))
        where
          -- the width is the successor of j
          j : ℕ
          j = pred (x_size q)

          wide : x_size q ≤ suc (pred (x_size q))
          wide = omega arith

          M : Plane (lawful_field L)
          M = polynomial_of P.ring P.laws P.tests (length q)
              (λ i. reversal F.ring (pred (x_size q)) (Q i))

          each : (i : ℕ) → i < length q → coeff (polynomials F.ring) (polynomial_of
              (polynomials F.ring) P.laws P.tests (length q)
              (λ i. reversal F.ring (pred (x_size q)) (Q i))).coeffs i
              ≡ reversal F.ring (pred (x_size q)) (coeff (polynomials F.ring) (polys_of F q) i)
          each i l = polynomial_at P.ring P.laws P.tests (length q)
              (λ i. reversal F.ring (pred (x_size q)) (Q i)) i l

          -- t^(m + 1) * s has a residue
          inside : InPowers (chart_of L f Infinite) ((algebra_in L f).mul
              (at_u (chart_of L f Infinite)
              (power (polynomials F.ring) (variable F.ring) (suc m))) s)
          inside = powers_at K A AL B BL (ap (λ e. A.mul (at_u B e) w) ed ∙ sym (less m w)
              ∙ ap (A.mul (at_u B (X_to (suc m)))) (sym scaled)) p

          N : (N : Plane (lawful_field L)) × IsResidue (chart_of L f Infinite)
              (power (polynomials F.ring) (variable F.ring) (suc m))
              ((algebra_in L f).mul (at_u (chart_of L f Infinite)
              (power (polynomials F.ring) (variable F.ring) (suc m))) s) N
          N = residue K A AL B BL (X_to (suc m)) (suc m, refl) _ inside

          times : IsTimes F.ring (chart_of L f Infinite).degree
              (pred (size F.ring (power (polynomials F.ring) (variable F.ring) (suc m))))
              (power (polynomials F.ring) (variable F.ring) (suc (pred (x_size q)) - suc m))
              (λ N. Unit {0}) (polynomial_of (polynomials F.ring) P.laws P.tests (length q)
              (λ i. reversal F.ring (pred (x_size q)) (Q i)))
          times = image_into F L f hf two j s M
              (reversed j wide M (polynomial_size P.ring P.laws P.tests (length q) _) each)
              (suc m) (omega (arith, long, wide)) (λ N. Unit {0})
              (record { nums = N.0; is_in = tt; residue = N.1 })

          row : (i : ℕ) → i < length q
              → size F.ring (coeff (polynomials F.ring) (polys_of F q) i) ≤ suc m
          row i l = short_reversal K j (suc m) (Q i)
              (coeff (polynomials F.ring) times.part.coeffs i) (omega (arith, long, wide))
              (sym (each i l) ∙ ap (λ (T : Plane (lawful_field L)). coeff (polynomials F.ring)
              T.coeffs i) times.product ∙ const_mul_at (polynomials F.ring) P.laws P.tests
              (X_to (suc j - suc m)) times.part i) (small j wide i l)

      -- for the rows that the code reads
      module _ (d : List ℕ) (hd : IsPoly F d)
          (modulus : (chart_of L f Infinite).IsModulus (poly_of F d)) (rows : List (List ℕ))
          (same : rows ≡ q) (l : ℕ) (len : l ≡ length d) where
        d_length : length d ≡ suc modulus.0
        d_length = sym (poly-size F.ring L.laws L.tests F.value d hd.canonical)
            ∙ ap (size F.ring) modulus.1 ∙ variable_power_size K modulus.0

        pub near_rows : (r : List (List ℕ)) → IsPlane F r → length r ≤ length rows
            → x_size rows ≤ l → ((i : ℕ) → i < length rows
            → coeff (polynomials F.ring) (plane_of F r).coeffs i
            ≡ reversal F.ring (l - 1) (coeff (polynomials F.ring) (polys_of F rows) i))
            → IsNear L f Infinite d w r
        near_rows r hr few wide each = near d modulus.0 modulus.1 r hr
            (let z : length q ≤ y_degree L f = h.quotients.few in
            omega (arith, few, ap length same, z))
            (omega (arith, wide, ap x_size same, len, d_length))
            (omega (arith, plane-size F L r hr, few, ap length same))
            (λ i k. each i (omega (arith, k, ap length same))
            ∙ ap₂ (λ m (t : List (List ℕ)). reversal F.ring m
            (coeff (polynomials F.ring) (polys_of F t) i))
            (let z : l - 1 ≡ modulus.0 = omega (arith, len, d_length) in z) same)

        pub far_rows : l < x_size rows → IsFar L f Infinite d w
        far_rows long = far d modulus.0 modulus.1
            (omega (arith, long, ap x_size same, len, d_length))

    -- the quotients, as the calls give them
    pub quotients_are : (den by : List ℕ) (e : ℕ) → e ≡ slope_of L f
        → poly_of F by ≡ (polynomials F.ring).mul (power (polynomials F.ring) (variable F.ring) 1)
        (poly_of F den) → (plane rows r : List (List ℕ)) → IsPlane F plane
        → length plane ≤ y_degree L f → rows ≡ plane → length r ≡ length rows → ArePolys F r
        → ((i : ℕ) → i < length rows → IsRaisedQuotient F (poly_of F by) ((0 + i) * e)
        (coeff (polynomials F.ring) (polys_of F rows) i)
        (coeff (polynomials F.ring) (polys_of F r) i))
        → AreQuotientsOver L f den (plane_of F plane) r
    quotients_are den by e slope eb plane rows r hp few er len polys each = record {
      polys = polys;
      few = omega (arith, len, ap length er, few);
      whole = omega (arith, plane-size F L plane hp, len, ap length er);
      each = λ i l. subst (λ b. IsRaisedQuotient F b ((0 + i) * slope_of L f)
          (coeff (polynomials F.ring) (plane_of F plane).coeffs i)
          (coeff (polynomials F.ring) (polys_of F r) i))
          (eb ∙ ap (λ x. P.mul x (poly_of F den)) (P.laws.mul_one (variable F.ring)))
          (subst (λ m. IsRaisedQuotient F (poly_of F by) ((0 + i) * m)
          (coeff (polynomials F.ring) (plane_of F plane).coeffs i)
          (coeff (polynomials F.ring) (polys_of F r) i)) slope
          (subst (λ a. IsRaisedQuotient F (poly_of F by) ((0 + i) * e) a
          (coeff (polynomials F.ring) (polys_of F r) i))
          (ap (λ t. coeff (polynomials F.ring) (polys_of F t) i) er
          ∙ sym (poly_at (polynomials F.ring) P.laws P.tests (polys_of F plane) i))
          (each i (omega (arith, len, l)))));
    }
