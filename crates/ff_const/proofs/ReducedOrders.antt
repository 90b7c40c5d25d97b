-- A maximal order of the finite chart holds no element but 0 whose square is 0, and elements that
-- are their own squares are in both maximal orders, for an equation f over a field whose laws are
-- L.
use Rattle.std.proofs.Common.{◌≡◌, ℕ, zero, suc, ◌+◌ as plus_ℕ, ◌-◌, ◌<◌, ◌≤◌}
use Rattle.std.proofs.Common.{List, length, Bool, true, false, refl, sym, ◌∙◌, ap, ap₂, subst}
use Rattle.std.proofs.Common.{arith}
use Rattle.ff_theory.specs.Ring.{RingOps, IsCommRing, Elements, IsElement, power}
use Rattle.ff_theory.specs.Lawful.{Domain, Field, Lawful, lawful_field}
use Rattle.ff_theory.specs.Map.{IsMap}
use Rattle.ff_theory.specs.Poly.{coeff, Poly, polynomials}
use Rattle.ff_theory.specs.Division.{size}
use Rattle.ff_theory.specs.Monomial.{variable}
use Rattle.ff_theory.specs.Planes.{planes, Plane, row_of}
use Rattle.ff_theory.specs.Values.{poly_of, plane_of, IsPlane}
use Rattle.ff_theory.proofs.Solver.{◌⊕◌, ◌⊗◌, neg, nil, unit, ring1, ring2, ring3, mul_zero}
use Rattle.ff_theory.proofs.Poly.{polynomial_laws}
use Rattle.ff_theory.proofs.Gcd.{no_size}
use Rattle.ff_theory.proofs.ElementEuclid.{zero_plane_size}
use Rattle.ff_theory.proofs.Constants.{constant_map}
use Rattle.ff_theory.proofs.Division.{size_le, size-add, size-neg, zero_from, const_mul_at}
use Rattle.ff_theory.proofs.PolyMap.{polynomial_domain, size_nonzero, not_same}
use Rattle.ff_factors.specs.Factors.{IsFactored, AreCoprime}
use Rattle.ff_factors.proofs.Idempotents.{Idempotent, coprime_split, coprime_if_reduced}
use Rattle.ff_charts.specs.Chart.{Chart as ChartOf, at_u, at_theta, InPowers, Cleared, IsChart}
use Rattle.ff_charts.specs.Chart.{IsIntegral as IsIntegralOver}
use Rattle.ff_charts.proofs.Chart.{at_u_map, at_theta_map, row_times, cancel_u, powers_plane}
use Rattle.ff_charts.proofs.Chart.{powers_at, powers_u, powers_zero, Reduced, reduced}
use Rattle.ff_charts.proofs.InvertedChart.{bound}
use Rattle.ff_charts.proofs.Rows.{equal_below}
use Rattle.ff_conductor.proofs.FiniteIntegral.{finite_integral}
use Rattle.ff_conductor.proofs.InfiniteIntegral.{integral_infinity}
use Rattle.ff_lin.specs.Space.{SpaceParts}
use Rattle.ff_elem.specs.Elem.{algebra_in}
use Rattle.ff_elem.proofs.Reduction.{plane-size}
use Rattle.ff_data.specs.declared.order.Chart.{Chart}
use Rattle.ff_data.specs.declared.order.Chart.TheVariants.{Finite, Infinite}
use Rattle.ff_data.specs.declared.order.Order.{Order}
use Rattle.ff_data.specs.Orders.{chart_of, slope_of, IsIntegral, IsMaximal}
use Rattle.ff_data.specs.Lattices.{IsCommon, InLatticeOf}
use Rattle.ff_data.specs.Combinations.{constant_in}
use Rattle.ff_data.proofs.ChartLaws.{has, fits, algebra_laws, chart_laws}
use Rattle.ff_common.proofs.BothCharts.{order_plane}
use Rattle.ff_quotients.proofs.QuotientResidues.{shift_size, variable_power_size}
use Rattle.ff_const.specs.declared.factors.SplitFault.{SplitFault}
use Rattle.ff_const.specs.declared.factors.SplitFault.TheVariants.{Reducible, NoMemory}
use Rattle.ff_const.specs.Fixed.{FixesConstants, IsFixed, IsConstant, IsSplit}
use Rattle.ff_const.specs.Irreducible.{IsStrict}
use Rattle.ff_const.proofs.KeyPlanes.{strict-factors}
use Rattle.ff_const.proofs.SplitLemmas.{some-size}

module _ (F : Elements ℕ) (L : Lawful F) (f : List (List ℕ)) (hf : IsPlane F f) (two : 1 < length f)
  where
    abbrev K : Field
    K = lawful_field L

    abbrev P : Domain
    P = polynomial_domain (lawful_field L)

    abbrev A : RingOps
    A = algebra_in L f

    AL : IsCommRing (algebra_in L f)
    AL = algebra_laws F L f hf two

    abbrev C : ChartOf F.ring (algebra_in L f)
    C = chart_of L f Finite

    CL : IsChart F.ring (algebra_in L f) (chart_of L f Finite)
    CL = chart_laws F L f hf two Finite

    U : IsMap (polynomials F.ring) (algebra_in L f) (at_u (chart_of L f Finite))
    U = at_u_map K A AL C CL

    -- what is integral over the chart is integral
    integral : (chart : Chart) (w : (algebra_in L f).carrier)
        → IsIntegralOver (chart_of L f chart) w → IsIntegral L f chart w
    integral Finite w h = finite_integral (lawful_field L) (plane_of F f) (length f - 1)
        (has F L f hf two) w h
    integral Infinite w h = integral_infinity (lawful_field L) (plane_of F f) (length f - 1)
        (has F L f hf two) (slope_of L f) (fits F L f hf two) w h

    -- Elements that are their own squares.
    module _ (e : (algebra_in L f).carrier) (square : (algebra_in L f).mul e e ≡ e) where
      own-power : (j : ℕ) → power (algebra_in L f) e (suc j) ≡ e
      own-power zero = AL.mul_one e
      own-power (suc j) = ap (A.mul e) (own-power j) ∙ square

      idempotent-integral : (chart : Chart) → IsIntegral L f chart e
      idempotent-integral chart = integral chart e (record {
        modulus = l.modulus_of q.den;
        is_modulus = l.is_modulus q.den q.nonzero;
        powers = powers;
      })
        where
          c : ChartOf F.ring (algebra_in L f)
          c = chart_of L f chart

          l : IsChart F.ring (algebra_in L f) (chart_of L f chart)
          l = chart_laws F L f hf two chart

          q : Cleared (chart_of L f chart) e
          q = l.cleared e

          powers : (j : ℕ) → InPowers (chart_of L f chart)
              ((algebra_in L f).mul (at_u (chart_of L f chart) (l.modulus_of q.den))
              (power (algebra_in L f) e j))
          powers zero = powers_at K A AL (chart_of L f chart) l (sym (AL.mul_one _))
              (powers_u K A AL (chart_of L f chart) l (l.modulus_of q.den))
          powers (suc j) = record {
            unit = l.unit_of q.den;
            is_unit = l.is_unit q.den q.nonzero;
            nums = q.nums;
            clears = ap (λ t. A.mul (at_u (chart_of L f chart) (l.unit_of q.den))
                (A.mul (at_u (chart_of L f chart) (l.modulus_of q.den)) t)) (own-power j)
                ∙ ring3 A AL (λ u m e. u ⊗ (m ⊗ e)) (λ u m e. (m ⊗ u) ⊗ e) refl
                (at_u (chart_of L f chart) (l.unit_of q.den))
                (at_u (chart_of L f chart) (l.modulus_of q.den)) e
                ∙ ap (λ t. A.mul t e) (sym ((at_u_map K A AL (chart_of L f chart) l).on_mul
                (l.modulus_of q.den) (l.unit_of q.den))
                ∙ ap (at_u (chart_of L f chart)) (sym (l.splits q.den q.nonzero))) ∙ q.clears;
          }

    -- where each common element w of the maximal orders with w^q = w is a constant, there is none
    -- but 0 and 1
    no-idempotent : (finite infinite : Order) → IsMaximal L f finite → IsMaximal L f infinite
        → FixesConstants L f (IsCommon L f finite infinite) → Idempotent (algebra_in L f) → ⊥
    no-idempotent finite infinite hf' hi fixes i = go (K.same c.0 K.zero) refl
      where
        fixed : IsFixed L f i.e
        fixed = let s : 0 < F.size = some-size F L in
            let z : F.size ≡ suc (F.size - 1) = omega (arith, s) in
            ap (power A i.e) z ∙ own-power i.e i.square (F.size - 1)

        c : IsConstant L f i.e
        c = fixes i.e (record {
          in_finite = (hf'.exact i.e).1 (idempotent-integral i.e i.square finite.chart);
          in_infinite = (hi.exact i.e).1 (idempotent-integral i.e i.square infinite.chart);
        }) fixed

        M : IsMap F.ring (algebra_in L f) (constant_in L f)
        M = constant_map (lawful_field L) (plane_of F f)

        go : (b : Bool) → K.same c.0 K.zero ≡ b → ⊥
        go true z = i.not_zero (c.1 ∙ ap (constant_in L f) (K.tests.same_true c.0 K.zero z)
            ∙ M.on_zero)
        go false n = i.not_one (sym (AL.mul_one i.e) ∙ ap (A.mul i.e) (sym one)
            ∙ sym (AL.mul_assoc i.e i.e back) ∙ ap (λ t. A.mul t back) i.square ∙ one)
          where
            back : (algebra_in L f).carrier
            back = constant_in L f (K.inverse c.0)

            one : (algebra_in L f).mul i.e (constant_in L f (K.inverse c.0))
                ≡ (algebra_in L f).one
            one = ap (λ t. A.mul t (constant_in L f (K.inverse c.0))) c.1
                ∙ sym (M.on_mul c.0 (K.inverse c.0))
                ∙ ap (constant_in L f) (K.is_field.mul_inverse c.0
                (not_same K.ring K.tests c.0 K.zero n)) ∙ M.on_one

    -- Elements with the square 0, where the finite-integral elements are in a lattice of the chart.
    module _ (d : List ℕ) (nd : (polynomials F.ring).same (poly_of F d) (polynomials F.ring).zero
        ≡ false) (s : SpaceParts) (into : (v : (algebra_in L f).carrier) → IsIntegral L f Finite v
        → InLatticeOf L f Finite d s v) (w : (algebra_in L f).carrier)
        (square : (algebra_in L f).mul w w ≡ (algebra_in L f).zero) where
      D : (algebra_in L f).carrier
      D = at_u (chart_of L f Finite) (poly_of F d)

      q : Cleared (chart_of L f Finite) w
      q = CL.cleared w

      module _ (h : Poly F.ring) (nh : (polynomials F.ring).same h (polynomials F.ring).zero
          ≡ false) where
        -- w over h
        v : (algebra_in L f).carrier
        v = A.mul (CL.inverse h) w

        times : (algebra_in L f).mul (at_u (chart_of L f Finite) h)
            ((algebra_in L f).mul (CL.inverse h) w) ≡ w
        times = ring3 A AL (λ h i w. h ⊗ (i ⊗ w)) (λ h i w. (i ⊗ h) ⊗ w) refl (at_u C h)
            (CL.inverse h) w ∙ ap (λ t. A.mul t w) (CL.inverts h nh)
            ∙ ring1 A AL (λ w. unit ⊗ w) (λ w. w) refl w

        over-square : (algebra_in L f).mul ((algebra_in L f).mul (CL.inverse h) w)
            ((algebra_in L f).mul (CL.inverse h) w) ≡ (algebra_in L f).zero
        over-square = ring2 A AL (λ i w. (i ⊗ w) ⊗ (i ⊗ w)) (λ i w. (i ⊗ i) ⊗ (w ⊗ w)) refl
            (CL.inverse h) w ∙ ap (A.mul (A.mul (CL.inverse h) (CL.inverse h))) square
            ∙ mul_zero A AL _

        over-integral : IsIntegralOver (chart_of L f Finite)
            ((algebra_in L f).mul (CL.inverse h) w)
        over-integral = record {
          modulus = P.mul q.den h;
          is_modulus = P.no_divisors q.den h q.nonzero nh;
          powers = powers;
        }
          where
            powers : (j : ℕ) → InPowers (chart_of L f Finite) ((algebra_in L f).mul
                (at_u (chart_of L f Finite) ((polynomials F.ring).mul q.den h))
                (power (algebra_in L f) ((algebra_in L f).mul (CL.inverse h) w) j))
            powers zero = powers_at K A AL C CL (sym (AL.mul_one _))
                (powers_u K A AL C CL (P.mul q.den h))
            powers (suc zero) = powers_at K A AL C CL (sym (ap₂ A.mul (U.on_mul q.den h)
                (AL.mul_one (A.mul (CL.inverse h) w))
                ∙ AL.mul_assoc (at_u C q.den) (at_u C h) (A.mul (CL.inverse h) w)
                ∙ ap (A.mul (at_u C q.den)) times ∙ q.clears)) (powers_plane K A AL C CL q.nums)
            powers (suc (suc j)) = powers_at K A AL C CL (sym (
                ring3 A AL (λ m v p. m ⊗ (v ⊗ (v ⊗ p))) (λ m v p. (m ⊗ p) ⊗ (v ⊗ v)) refl
                (at_u C (P.mul q.den h)) (A.mul (CL.inverse h) w)
                (power A (A.mul (CL.inverse h) w) j)
                ∙ ap (A.mul (A.mul (at_u C (P.mul q.den h))
                (power A (A.mul (CL.inverse h) w) j))) over-square ∙ mul_zero A AL _))
                (powers_zero K A AL C CL)

        lattice : InLatticeOf L f Finite d s ((algebra_in L f).mul (CL.inverse h) w)
        lattice = into (A.mul (CL.inverse h) w) (integral Finite _ over-integral)

        rest : (N : Plane (lawful_field L))
            × ((size (polynomials F.ring) N ≤ (chart_of L f Finite).degree)
            × (lattice.residue.rest ≡ at_theta (chart_of L f Finite) N))
        rest = order_plane F L f hf two lattice.residue.rest lattice.residue.in_powers

        part : Reduced (lawful_field L) (algebra_in L f) AL (chart_of L f Finite) CL
            ((planes (lawful_field L)).add lattice.nums
            ((planes (lawful_field L)).mul (row_of F.ring (poly_of F d)) rest.0))
        part = reduced K A AL C CL ((planes K).add lattice.nums
            ((planes K).mul (row_of F.ring (poly_of F d)) rest.0))

        -- d * w as a plane of few rows, a multiple of h
        plane : Plane (lawful_field L)
        plane = (planes (lawful_field L)).mul (row_of F.ring h) part.plane

        row : (i : ℕ) → coeff (polynomials F.ring) plane.coeffs i
            ≡ (polynomials F.ring).mul h (coeff (polynomials F.ring) part.plane.coeffs i)
        unfolding plane
        row i = const_mul_at (polynomials F.ring) P.laws P.tests h part.plane i

        small : size (polynomials F.ring) plane ≤ (chart_of L f Finite).degree
        small = size_le (polynomials F.ring) P.laws P.tests plane C.degree (λ i k. row i
            ∙ ap (P.mul h) (zero_from (polynomials F.ring) P.laws P.tests part.plane i
            (let r : size (polynomials F.ring) part.plane ≤ C.degree = part.small in
            omega (arith, r, k))) ∙ mul_zero P.ring P.laws h)

        value : at_theta (chart_of L f Finite) plane ≡ (algebra_in L f).mul D w
        unfolding plane D
        value = row_times K A AL C CL h part.plane
            ∙ ap (A.mul (at_u C h)) (sym part.same_value
            ∙ (at_theta_map K A AL C CL).on_add lattice.nums
            ((planes K).mul (row_of F.ring (poly_of F d)) rest.0)
            ∙ ap (A.add (at_theta C lattice.nums)) (row_times K A AL C CL (poly_of F d) rest.0
            ∙ ap (A.mul (at_u C (poly_of F d))) (sym rest.1.1)) ∙ sym lattice.residue.sum)
            ∙ ring3 A AL (λ h d v. h ⊗ (d ⊗ v)) (λ h d v. d ⊗ (h ⊗ v)) refl (at_u C h)
            (at_u C (poly_of F d)) (A.mul (CL.inverse h) w)
            ∙ ap (A.mul (at_u C (poly_of F d))) times

      one-plane : (M N : Plane (lawful_field L))
          → size (polynomials F.ring) M ≤ (chart_of L f Finite).degree
          → size (polynomials F.ring) N ≤ (chart_of L f Finite).degree
          → at_theta (chart_of L f Finite) M ≡ at_theta (chart_of L f Finite) N → M ≡ N
      one-plane M N m n e = ring2 (planes K) PL (λ m n. m) (λ m n. (m ⊕ neg n) ⊕ n) refl M N
          ∙ ap (λ t. (planes K).add t N) (CL.independent ((planes K).add M ((planes K).neg N))
          (size-add (polynomials F.ring) P.laws P.tests M ((planes K).neg N) C.degree m
          (let s : size (polynomials F.ring) ((planes K).neg N) ≤ size (polynomials F.ring) N
          = size-neg (polynomials F.ring) P.laws P.tests N in omega (arith, s, n)))
          (V.on_add M ((planes K).neg N) ∙ ap₂ A.add e (V.on_neg N)
          ∙ AL.add_neg (at_theta C N)))
          ∙ ring1 (planes K) PL (λ n. nil ⊕ n) (λ n. n) refl N
        where
          PL : IsCommRing (planes (lawful_field L))
          PL = polynomial_laws P.ring P.laws P.tests

          V : IsMap (planes (lawful_field L)) (algebra_in L f)
              (at_theta (chart_of L f Finite))
          V = at_theta_map K A AL C CL

      first : Plane (lawful_field L)
      first = plane P.one P.proper

      longest : (b : ℕ) × ((i : ℕ) → i < (chart_of L f Finite).degree
          → size F.ring (coeff (polynomials F.ring) first.coeffs i) ≤ b)
      longest = bound C.degree (λ i. size F.ring (coeff (polynomials F.ring) first.coeffs i))

      high : Poly F.ring
      high = power (polynomials F.ring) (variable F.ring) longest.0

      high-nonzero : (polynomials F.ring).same high (polynomials F.ring).zero ≡ false
      unfolding high
      high-nonzero = size_nonzero K (power (polynomials F.ring) (variable F.ring) longest.0)
          longest.0 (variable_power_size K longest.0)

      same : first ≡ plane high high-nonzero
      unfolding first
      same = one-plane (plane P.one P.proper) (plane high high-nonzero) (small P.one P.proper)
          (small high high-nonzero) (value P.one P.proper ∙ sym (value high high-nonzero))

      row-zero : (i : ℕ) → i < (chart_of L f Finite).degree
          → coeff (polynomials F.ring) first.coeffs i ≡ (polynomials F.ring).zero
      unfolding high
      row-zero i l = e ∙ ap (P.mul high)
          (none (size F.ring r) refl) ∙ mul_zero P.ring P.laws high
        where
          r : Poly F.ring
          r = coeff (polynomials F.ring) (part high high-nonzero).plane.coeffs i

          e : coeff (polynomials F.ring) first.coeffs i ≡ (polynomials F.ring).mul high
              (coeff (polynomials F.ring) (part high high-nonzero).plane.coeffs i)
          e = ap (λ (N : Plane (lawful_field L)). coeff (polynomials F.ring) N.coeffs i) same
              ∙ row high high-nonzero i

          none : (m : ℕ) → size F.ring (coeff (polynomials F.ring)
              (part high high-nonzero).plane.coeffs i) ≡ m
              → coeff (polynomials F.ring) (part high high-nonzero).plane.coeffs i
              ≡ (polynomials F.ring).zero
          none zero z = no_size K r z
          none (suc b) z = absurd (let k : size F.ring (coeff (polynomials F.ring) first.coeffs i)
              ≤ longest.0 = longest.1 i l in
              let x : size F.ring (P.mul (power (polynomials F.ring) (variable F.ring) longest.0)
              r) ≡ suc (plus_ℕ longest.0 b) = shift_size K longest.0 r b z in
              omega (arith, k, x, ap (size F.ring) e))

      pub no-nilpotent : w ≡ (algebra_in L f).zero
      unfolding first D
      no-nilpotent = cancel_u K A AL C CL (poly_of F d) nd w A.zero
          (sym (value P.one P.proper) ∙ ap (at_theta C) none
          ∙ (at_theta_map K A AL C CL).on_zero ∙ sym (mul_zero A AL (at_u C (poly_of F d))))
        where
          none : first ≡ (planes (lawful_field L)).zero
          none = equal_below (polynomials F.ring) P.laws P.tests first (planes K).zero C.degree
              (small P.one P.proper)
              (let z : size (polynomials F.ring) (planes K).zero ≡ 0 = zero_plane_size K in
              omega (arith, z))
              (λ i l. row-zero i l ∙ sym (zero_from (polynomials F.ring) P.laws P.tests
              (planes K).zero i (let z : size (polynomials F.ring) (planes K).zero ≡ 0
              = zero_plane_size K in omega (arith, z))))

    -- and so f has no factors
    module _ (finite infinite : Order) (chart : finite.chart ≡ Finite)
        (hm : IsMaximal L f finite) (hi : IsMaximal L f infinite) where
      is-reduced : (w : (algebra_in L f).carrier)
          → (algebra_in L f).mul w w ≡ (algebra_in L f).zero → w ≡ (algebra_in L f).zero
      is-reduced w e = no-nilpotent finite.d
          (subst (λ t. (chart_of L f t).IsModulus (poly_of F finite.d)) chart hm.order.modulus)
          finite.space
          (λ v h. subst (λ t. InLatticeOf L f t finite.d finite.space v) chart
          ((hm.exact v).1 (subst (λ t. IsIntegral L f t v) (sym chart) h))) w e

      nonempty : ¬ (size (polynomials F.ring) (plane_of F f) ≡ 0)
      nonempty e = omega (arith, e, plane-size F L f hf, two)

      pub coprime-factors : (g h : Plane (lawful_field L)) → IsFactored F.ring (plane_of F f) g h
          → AreCoprime F.ring g h
      coprime-factors g h s = coprime_if_reduced K (plane_of F f) g h nonempty s is-reduced

      pub no-factors : FixesConstants L f (IsCommon L f finite infinite)
          → (g h : Plane (lawful_field L)) → ¬ IsFactored F.ring (plane_of F f) g h
      no-factors fixes g h s = no-idempotent finite infinite hm hi fixes
          (coprime_split K (plane_of F f) g h nonempty s (coprime-factors g h s))

      -- those that an answer names have keys that differ
      pub strict-split : ((a b : ℕ) → IsElement F a → IsElement F b → F.value a ≡ F.value b
          → a ≡ b) → (Q : (algebra_in L f).carrier → Type 0) (fault : SplitFault)
          → IsSplit L f Q fault → IsStrict F fault
      strict-split one_value Q (Reducible g h) s = strict-factors F L f g h one_value s.0
          (coprime-factors (plane_of F g) (plane_of F h) s.0.factored)
      strict-split one_value Q NoMemory s = tt
