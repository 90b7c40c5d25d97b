-- The elements with the numerators of a frame, and what they span, for an equation f over a field
-- whose laws are L.
use Rattle.std.proofs.Common.{◌≡◌, ℕ, suc, pred, ◌+◌ as plus_ℕ, ◌*◌ as times_ℕ, ◌-◌, ◌<◌, ◌≤◌}
use Rattle.std.proofs.Common.{◌⊎◌, inl, inr, List, length, false, refl, sym, ◌∙◌, ap, ap₂}
use Rattle.std.proofs.Common.{subst, arith, Vec, Global}
use Rattle.std.proofs.lemmas.List.{length-map}
use Rattle.std.proofs.lemmas.Bool.{cases_lt}
use Rattle.std.proofs.Math.Nat.{mul-le-mul_right}
use Rattle.ff_theory.specs.Ring.{RingOps, IsCommRing, Elements, power}
use Rattle.ff_theory.specs.Lawful.{Domain, Field, Lawful, lawful_field}
use Rattle.ff_theory.specs.Map.{IsMap}
use Rattle.ff_theory.specs.Poly.{coeff, Poly, polynomials}
use Rattle.ff_theory.specs.Division.{size}
use Rattle.ff_theory.specs.Monomial.{variable, monomial}
use Rattle.ff_theory.specs.Planes.{planes, Plane, row_of}
use Rattle.ff_theory.specs.Values.{poly_of, IsPlane}
use Rattle.ff_theory.specs.Vector.{vectors_of}
use Rattle.ff_theory.proofs.Solver.{◌⊕◌, ◌⊗◌, neg, nil, unit, ring1, ring2, ring3, ring4}
use Rattle.ff_theory.proofs.Poly.{polynomial_laws}
use Rattle.ff_theory.proofs.PolyMap.{polynomial_domain, nonzero_size, zero_size}
use Rattle.ff_theory.proofs.Sums.{sum-ext, sum-mul}
use Rattle.ff_theory.proofs.Span.{span-same, span-one}
use Rattle.ff_charts.specs.Chart.{Chart as ChartOf, at_u, at_theta, IsChart}
use Rattle.ff_charts.specs.Lattice.{HasShape, flat, IsResidue, InLattice}
use Rattle.ff_charts.proofs.Chart.{at_u_map, at_theta_map, row_times, cancel_u, powers_plane}
use Rattle.ff_charts.proofs.Chart.{powers_at, powers_zero}
use Rattle.ff_charts.proofs.Closure.{shape_plus}
use Rattle.ff_charts.proofs.Flat.{flat_one}
use Rattle.ff_charts.proofs.Lattice.{lat_contains, lat_parts, residue, residue_one, times_shape}
use Rattle.ff_charts.proofs.Rows.{value_sum}
use Rattle.ff_local.proofs.ChartQuotient.{plane_single}
use Rattle.ff_local.proofs.Quotients.{times_over}
use Rattle.ff_lin.specs.Space.{rows_of}
use Rattle.ff_fibre.proofs.PowerPlanes.{monomial_theta, shape_wider}
use Rattle.ff_poly.proofs.LongDivision.{poly-size}
use Rattle.ff_elem.specs.Elem.{algebra_in}
use Rattle.ff_data.specs.declared.order.Chart.TheVariants.{Finite, Infinite}
use Rattle.ff_data.specs.declared.order.Order.{Order}
use Rattle.ff_data.specs.Orders.{chart_of, y_degree, slope_of, InResidues, InOrder, IsOrder}
use Rattle.ff_data.specs.Combinations.{combination_in, constant_in, InSpanOf}
use Rattle.ff_data.proofs.ChartLaws.{algebra_laws, chart_laws, chart_degree}
use Rattle.ff_data.proofs.OrderLaws.{residues-subspace}
use Rattle.ff_data.proofs.PlaneCombinations.{planes_combined, combined_shape, combined_flat}
use Rattle.ff_common.specs.Common.{IsOver, HasVectorOver, IsTimesVector}
use Rattle.ff_common.proofs.BothCharts.{Numerators, numerators, order_plane}
use Rattle.ff_common.proofs.CommonBasis.{combined_over}
use Rattle.ff_functions.specs.Images.{IsShortOver}
use Rattle.ff_functions.specs.Elements.{IsProper, IsWithinReach, IsSmallMultiple, AreNumerators}
use Rattle.ff_functions.specs.Elements.{HasFrameElements}
use Rattle.ff_functions.specs.declared.frame.Frame.{Frame}
use Rattle.ff_functions.proofs.ElementSpans.{element_span_add}
use Rattle.ff_functions.proofs.ElementSpans.{element_span_scale, element_span_one, element_span_sum}
use Rattle.ff_functions.proofs.FrameLemmas.{term, multiple_over, multiple_plane, x_value}
use Rattle.ff_functions.proofs.FrameLemmas.{other_row, own_row, own_size}

module _ (F : Elements ℕ) (L : Lawful F) (f : List (List ℕ)) (hf : IsPlane F f)
    (two : 1 < length f) where
  abbrev K : Field
  K = lawful_field L

  abbrev D : Domain
  D = polynomial_domain (lawful_field L)

  PL : IsCommRing (planes (lawful_field L))
  PL = polynomial_laws D.ring D.laws D.tests

  abbrev A : RingOps
  A = algebra_in L f

  AL : IsCommRing (algebra_in L f)
  AL = algebra_laws F L f hf two

  abbrev C : ChartOf F.ring (algebra_in L f)
  C = chart_of L f Finite

  CL : IsChart F.ring (algebra_in L f) (chart_of L f Finite)
  CL = chart_laws F L f hf two Finite

  U : IsMap (polynomials F.ring) (algebra_in L f) (at_u (chart_of L f Finite))
  U = at_u_map K A AL C CL

  V : IsMap (planes (lawful_field L)) (algebra_in L f) (at_theta (chart_of L f Finite))
  V = at_theta_map K A AL C CL

  nonzero_over : (d : Poly F.ring) → (chart_of L f Finite).IsModulus d
      → (polynomials F.ring).same d (polynomials F.ring).zero ≡ false
  nonzero_over d m = CL.modulus_nonzero d m

  -- the same vector over the same denominator
  pub vector_one : (d : List ℕ) → (chart_of L f Finite).IsModulus (poly_of F d) → (l : ℕ)
      → (v : ℕ → F.carrier) (w x : (algebra_in L f).carrier) → HasVectorOver L f d l v w
      → HasVectorOver L f d l v x → w ≡ x
  vector_one d m l v w x h k = cancel_u K A AL C CL (poly_of F d) (nonzero_over _ m) w x
      (h.1.1.1 ∙ ap (at_theta C) (flat_one K l C.degree h.0 k.0 h.1.0 k.1.0
      (λ j. h.1.1.0 j ∙ sym (k.1.1.0 j))) ∙ sym k.1.1.1)

  -- A polynomial part with short rows: the rows of an element g of a lattice, where g + r has low
  -- order at infinity and r is proper.
  module _ (d : Poly F.ring) (md : (chart_of L f Finite).IsModulus d) (m : ℕ)
      (S : Plane (lawful_field L) → Type 0) (g r : (algebra_in L f).carrier)
      (k : InLattice (chart_of L f Finite) d S g) (proper : IsProper L f r)
      (reach : IsWithinReach L f m ((algebra_in L f).add g r)) where
    pub high_part : (N : Plane (lawful_field L))
        × ((size (polynomials F.ring) N ≤ (chart_of L f Finite).degree)
        × (k.residue.rest ≡ at_theta (chart_of L f Finite) N))
    high_part = order_plane F L f hf two k.residue.rest k.residue.in_powers

    abbrev M : Poly F.ring
    M = (polynomials F.ring).mul proper.modulus d

    mM : (chart_of L f Finite).IsModulus M
    mM = CL.modulus_product proper.modulus d proper.is_modulus md

    abbrev nums : Plane (lawful_field L)
    nums = (planes (lawful_field L)).add
        ((planes (lawful_field L)).mul (row_of F.ring proper.modulus) k.nums)
        ((planes (lawful_field L)).mul (row_of F.ring d) proper.nums)

    whole : IsResidue (chart_of L f Finite) M
        ((algebra_in L f).mul (at_u (chart_of L f Finite) M) ((algebra_in L f).add g r)) nums
    whole = record {
      shape = shape_plus K C.degree _ _ _
          (times_shape K A AL C CL d md proper.modulus proper.is_modulus (λ N. Unit {0}) k.nums
          k.residue.shape)
          (subst (λ m. HasShape F.ring C.degree (pred (size F.ring m))
          ((planes (lawful_field L)).mul (row_of F.ring d) proper.nums))
          (D.laws.mul_comm d proper.modulus)
          (times_shape K A AL C CL proper.modulus proper.is_modulus d md (λ N. Unit {0})
          proper.nums proper.shape));
      rest = k.residue.rest;
      in_powers = k.residue.in_powers;
      sum = ap (λ t. A.mul t (A.add g r)) (U.on_mul proper.modulus d)
          ∙ ring4 A AL (λ p d g r. p ⊗ d ⊗ (g ⊕ r)) (λ p d g r. p ⊗ (d ⊗ g) ⊕ d ⊗ (p ⊗ r)) refl
          (at_u C proper.modulus) (at_u C d) g r
          ∙ ap₂ (λ s t. A.add (A.mul (at_u C proper.modulus) s) (A.mul (at_u C d) t))
          k.residue.sum proper.value
          ∙ ap (λ t. A.add t (A.mul (at_u C d) (at_theta C proper.nums)))
          (ring4 A AL (λ p n d h. p ⊗ (n ⊕ d ⊗ h)) (λ p n d h. p ⊗ n ⊕ (p ⊗ d) ⊗ h) refl
          (at_u C proper.modulus) (at_theta C k.nums) (at_u C d) k.residue.rest)
          ∙ ring3 A AL (λ a h b. a ⊕ h ⊕ b) (λ a h b. a ⊕ b ⊕ h) refl
          (A.mul (at_u C proper.modulus) (at_theta C k.nums))
          (A.mul (A.mul (at_u C proper.modulus) (at_u C d)) k.residue.rest)
          (A.mul (at_u C d) (at_theta C proper.nums))
          ∙ ap₂ (λ s t. A.add s (A.mul t k.residue.rest))
          (sym (V.on_add _ _ ∙ ap₂ A.add (row_times K A AL C CL proper.modulus k.nums)
          (row_times K A AL C CL d proper.nums))) (sym (U.on_mul proper.modulus d));
    }

    M_size : size F.ring M ≡ suc (pred (size F.ring M))
    M_size = let p = nonzero_size K M (nonzero_over M mM) in omega (arith, p.1)

    abbrev X_m : Poly F.ring
    X_m = power (polynomials F.ring) (variable F.ring) m

    BL : IsChart F.ring (algebra_in L f) (chart_of L f Infinite)
    BL = chart_laws F L f hf two Infinite

    at_infinity : InLattice (chart_of L f Infinite) X_m (λ N. Unit {0}) ((algebra_in L f).add g r)
    at_infinity = let q = residue K A AL (chart_of L f Infinite) BL X_m (m, refl)
        (A.mul (at_u (chart_of L f Infinite) X_m) (A.add g r)) reach in
        record { nums = q.0; is_in = tt; residue = q.1 }

    found : Numerators F L f hf two M (λ N. Unit {0}) m (A.add g r)
    found = numerators F L f hf two M (pred (size F.ring M)) M_size m (λ N. Unit {0})
        (λ N. Unit {0}) (A.add g r) (record { nums = nums; is_in = tt; residue = whole })
        at_infinity

    other : IsResidue (chart_of L f Finite) M
        ((algebra_in L f).mul (at_u (chart_of L f Finite) M) ((algebra_in L f).add g r)) found.low
    other = record {
      shape = found.shape;
      rest = at_theta C found.high;
      in_powers = powers_plane K A AL C CL found.high;
      sum = found.over ∙ V.on_add found.low _
          ∙ ap (A.add (at_theta C found.low)) (row_times K A AL C CL M found.high);
    }

    same_high : found.high ≡ high_part.0
    unfolding whole other found
    same_high = plane_single K A AL C CL found.high high_part.0 found.few high_part.1.0
        (cancel_u K A AL C CL M (nonzero_over M mM) _ _
        (ring2 A AL (λ l h. h) (λ l h. (l ⊕ h) ⊕ neg l) refl (at_theta C found.low)
        (A.mul (at_u C M) (at_theta C found.high))
        ∙ ap (λ t. A.add t (A.neg (at_theta C found.low))) (sym other.sum ∙ whole.sum
        ∙ ap (λ N. A.add (at_theta C N) (A.mul (at_u C M) k.residue.rest))
        (residue_one K A AL C CL M mM _ nums found.low whole other))
        ∙ ring2 A AL (λ l h. (l ⊕ h) ⊕ neg l) (λ l h. h) refl (at_theta C found.low)
        (A.mul (at_u C M) k.residue.rest)
        ∙ ap (A.mul (at_u C M)) high_part.1.1))

    pub high_short : (i : ℕ) → i < (chart_of L f Finite).degree
        → size F.ring (coeff (polynomials F.ring) high_part.0.coeffs i)
        ≤ suc m - times_ℕ i (slope_of L f)
    high_short i q = subst (λ (N : Plane (lawful_field L)). size F.ring
        (coeff (polynomials F.ring) N.coeffs i) ≤ suc m - times_ℕ i (slope_of L f)) same_high
        (found.short i q)

  -- The elements with the numerators of a list.
  module _ (o : Order) (h : IsOrder L f o) (chart : o.chart ≡ Finite) (m l steep_h : ℕ)
      (len : l ≡ plus_ℕ (length o.d) m) (high : m ≤ steep_h)
      (steep : times_ℕ (y_degree L f - 1) (slope_of L f) ≤ steep_h) (rows : List (List ℕ))
      (are : AreNumerators L f o.d m (pred (length o.d)) l o.space.basis rows) where
    abbrev d : Poly F.ring
    d = poly_of F o.d

    d_modulus : (chart_of L f Finite).IsModulus (poly_of F o.d)
    d_modulus = subst (λ c. (chart_of L f c).IsModulus (poly_of F o.d)) chart h.modulus

    d_size : size F.ring (poly_of F o.d) ≡ length o.d
    d_size = poly-size F.ring L.laws L.tests F.value o.d h.d.canonical

    d_positive : 0 < length o.d
    d_positive = let p = nonzero_size K d (nonzero_over d d_modulus) in omega (arith, p.1, d_size)

    abbrev S : Plane (lawful_field L) → Type 0
    S = InResidues F (pred (length o.d)) o.space

    in_order : (w : (algebra_in L f).carrier) → InLattice (chart_of L f Finite) (poly_of F o.d)
        (InResidues F (pred (length o.d)) o.space) w → InOrder L f o w
    in_order w k = subst (λ c. InLattice (chart_of L f c) (poly_of F o.d)
        (InResidues F (pred (length o.d)) o.space) w) (sym chart) k

    term_inside : (i b : ℕ) → InOrder L f o (term F L f hf two i b)
    term_inside i b = in_order _ (lat_contains K A AL C CL d d_modulus S
        (residues-subspace F L (pred (length o.d)) o.space).on_zero _
        (powers_at K A AL C CL (monomial_theta K A AL C CL (monomial F.ring F.one b) i
        ∙ ap (λ t. A.mul t (power A C.theta i)) (x_value F L f hf two b))
        (powers_plane K A AL C CL (monomial (polynomials F.ring) (monomial F.ring F.one b) i))))

    -- what is known of the element of a vector
    record IsWhole (v : ℕ → F.carrier) (w : A.carrier) : Type 0 where
      pub over : HasVectorOver L f o.d l v w
      pub short : IsShortOver L f o.d l steep_h v
      pub inside : InOrder L f o w

    term_whole : (v : ℕ → F.carrier) (k : IsSmallMultiple F o.d l (y_degree L f) m (slope_of L f) v)
        → IsWhole v (term F L f hf two k.row k.shift)
    term_whole v k = record {
      over = t;
      short = λ N shape same i q. subst (λ (N : Plane (lawful_field L)). plus_ℕ
          (times_ℕ i (slope_of L f)) (size F.ring (coeff (polynomials F.ring) N.coeffs i))
          ≤ plus_ℕ steep_h (length o.d)) (flat_one K l C.degree t.0 N t.1.0 shape
          (λ j. t.1.1.0 j ∙ sym (same j))) (row_short i q (cases_lt i k.row) (cases_lt k.row i));
      inside = term_inside k.row k.shift;
    }
      where
        room : plus_ℕ k.shift (length o.d) ≤ l
        room = let s = k.small in omega (arith, s, len)

        positive : 0 < l
        positive = omega (arith, len, d_positive)

        t : HasVectorOver L f o.d l v (term F L f hf two k.row k.shift)
        t = multiple_over F L f hf two o.d h.d l k.row k.shift room positive k.below v k.value

        size_at : ℕ → ℕ
        size_at i = size F.ring (coeff (polynomials F.ring)
            (multiple_plane F L o.d k.row k.shift).coeffs i)

        none : (i : ℕ) → i < y_degree L f → ¬ (i ≡ k.row)
            → plus_ℕ (times_ℕ i (slope_of L f)) (size_at i) ≤ plus_ℕ steep_h (length o.d)
        none i q n = let z : size_at i ≡ size F.ring D.zero = ap (size F.ring)
            (other_row F L o.d l k.row k.shift room positive i n) in
            let z2 : size F.ring D.zero ≡ 0 = zero_size K in
            let e : i ≤ y_degree L f - 1 = omega (arith, q) in
            let a : times_ℕ i (slope_of L f) ≤ times_ℕ (y_degree L f - 1) (slope_of L f)
            = mul-le-mul_right (slope_of L f) e in omega (arith, z, z2, a, steep)

        row_short : (i : ℕ) → i < y_degree L f → (i < k.row) ⊎ (k.row ≤ i)
            → (k.row < i) ⊎ (i ≤ k.row)
            → plus_ℕ (times_ℕ i (slope_of L f)) (size_at i) ≤ plus_ℕ steep_h (length o.d)
        row_short i q (inl a) b = none i q (λ e. absurd (omega (arith, a, e)))
        row_short i q (inr a) (inl b) = none i q (λ e. absurd (omega (arith, b, e)))
        row_short i q (inr a) (inr b) = let e : k.row ≡ i = omega (arith, a, b) in
            subst (λ i. plus_ℕ (times_ℕ i (slope_of L f)) (size_at i)
            ≤ plus_ℕ steep_h (length o.d)) e
            (let s = k.small in
            let z : size_at k.row ≡ size F.ring (D.mul (monomial F.ring F.one k.shift) d)
            = ap (size F.ring) (own_row F L o.d l k.row k.shift room positive) in
            let w = own_size F L o.d l k.row k.shift room positive in
            omega (arith, s, z, w, high))

    -- the element of a basis vector
    module _ (i : ℕ) (q : i < length o.space.basis) (v : ℕ → F.carrier)
        (t : IsTimesVector L f (power (polynomials F.ring) (variable F.ring) 0)
        (pred (length o.d)) l (vectors_of F o.space.basis i) v) where
      basis_element : A.carrier
      basis_element = A.mul (CL.inverse (poly_of F o.d)) (at_theta C t.0)

      basis_over : IsOver L f o.d t.0 basis_element
      unfolding basis_element
      basis_over = times_over K A AL C CL d (nonzero_over d d_modulus) t.0

      row_one : (planes (lawful_field L)).mul (row_of F.ring (polynomials F.ring).one) t.0 ≡ t.0
      row_one = ring1 (planes (lawful_field L)) PL (λ n. unit ⊗ n) (λ n. n) refl t.0

      wide : HasShape F.ring C.degree l t.0
      wide = shape_wider F.ring C.degree (pred (length o.d)) l t.0 (omega (arith, len)) t.1.0

      long : (j : ℕ) → flat F.ring l t.0 j ≡ v j
      long j = ap (λ N. flat F.ring l N j) (sym row_one) ∙ sym (t.1.1.1 j)

      basis_whole : IsWhole v basis_element
      basis_whole = record {
        over = (t.0, (wide, (long, basis_over)));
        short = λ N shape same k r. subst (λ (N : Plane (lawful_field L)). plus_ℕ
            (times_ℕ k (slope_of L f)) (size F.ring (coeff (polynomials F.ring) N.coeffs k))
            ≤ plus_ℕ steep_h (length o.d)) (flat_one K l C.degree t.0 N wide shape
            (λ j. long j ∙ sym (same j)))
            (let e : k ≤ y_degree L f - 1 = omega (arith, r) in
            let a : times_ℕ k (slope_of L f) ≤ times_ℕ (y_degree L f - 1) (slope_of L f)
            = mul-le-mul_right (slope_of L f) e in
            let b : size F.ring (coeff (polynomials F.ring) t.0.coeffs k) ≤ pred (length o.d)
            = t.1.0.each k in omega (arith, a, b, steep));
        inside = in_order basis_element (record {
          nums = t.0;
          is_in = span-same F.ring L.laws (length o.space.basis) (vectors_of F o.space.basis)
              (vectors_of F o.space.basis i) (flat F.ring (pred (length o.d)) t.0) t.1.1.0
              (span-one F.ring L.laws (length o.space.basis) (vectors_of F o.space.basis) i q);
          residue = record {
            shape = subst (λ n. HasShape F.ring C.degree n t.0) (ap pred (sym d_size)) t.1.0;
            rest = A.zero;
            in_powers = powers_zero K A AL C CL;
            sum = basis_over ∙ ring2 A AL (λ n d. n) (λ n d. n ⊕ d ⊗ nil) refl (at_theta C t.0)
                (at_u C d);
          };
        });
      }

    -- the elements by index
    abbrev from_each : (v : ℕ → F.carrier) → IsSmallMultiple F o.d l (y_degree L f) m
        (slope_of L f) v ⊎ ((i : ℕ) × ((i < length o.space.basis) × IsTimesVector L f
        (power (polynomials F.ring) (variable F.ring) 0) (pred (length o.d)) l
        (vectors_of F o.space.basis i) v)) → A.carrier
    from_each v (inl k) = term F L f hf two k.row k.shift
    from_each v (inr e) = basis_element e.0 e.1.0 v e.1.1

    abbrev pick : (t : ℕ) → (t < length rows) ⊎ (length rows ≤ t) → A.carrier
    pick t (inl q) = from_each (vectors_of F rows t) (are.each t q)
    pick t (inr q) = A.zero

    pub element_at : ℕ → (algebra_in L f).carrier
    element_at t = pick t (cases_lt t (length rows))

    known : (t : ℕ) → t < length rows → IsWhole (vectors_of F rows t) (element_at t)
    unfolding element_at
    known t q = go (cases_lt t (length rows))
      where
        at : (e : IsSmallMultiple F o.d l (y_degree L f) m (slope_of L f) (vectors_of F rows t)
            ⊎ ((i : ℕ) × ((i < length o.space.basis) × IsTimesVector L f
            (power (polynomials F.ring) (variable F.ring) 0) (pred (length o.d)) l
            (vectors_of F o.space.basis i) (vectors_of F rows t))))
            → IsWhole (vectors_of F rows t) (from_each (vectors_of F rows t) e)
        at (inl k) = term_whole (vectors_of F rows t) k
        at (inr e) = basis_whole e.0 e.1.0 (vectors_of F rows t) e.1.1

        go : (c : (t < length rows) ⊎ (length rows ≤ t))
            → IsWhole (vectors_of F rows t) (pick t c)
        go (inl k) = at (are.each t k)
        go (inr k) = absurd (omega (arith, q, k))

    -- what they span
    abbrev Spanned : A.carrier → Type 0
    Spanned w = InSpanOf L f (length rows) element_at w

    of_vector : (t : ℕ) → t < length rows → (w : A.carrier)
        → HasVectorOver L f o.d l (vectors_of F rows t) w → Spanned w
    of_vector t q w h = subst Spanned (vector_one o.d d_modulus l (vectors_of F rows t)
        (element_at t) w (known t q).over h)
        (element_span_one F L f hf two (length rows) element_at t q)

    term_spanned : (i b : ℕ) → i < y_degree L f → plus_ℕ (times_ℕ i (slope_of L f)) b ≤ m
        → Spanned (term F L f hf two i b)
    term_spanned i b q small = let t = are.multiples i b q small in
        of_vector t.0 t.1.0 _ (multiple_over F L f hf two o.d h.d l i b
        (omega (arith, small, len)) (omega (arith, len, d_positive)) q (vectors_of F rows t.0)
        t.1.1)

    basis_spanned : (i : ℕ) (q : i < length o.space.basis) (v : ℕ → F.carrier)
        (t : IsTimesVector L f (power (polynomials F.ring) (variable F.ring) 0)
        (pred (length o.d)) l (vectors_of F o.space.basis i) v) (s : ℕ) → s < length rows
        → v ≡ vectors_of F rows s → Spanned (basis_element i q v t)
    basis_spanned i q v t s r e = of_vector s r _ (subst (λ v'. HasVectorOver L f o.d l v'
        (basis_element i q v t)) e (basis_whole i q v t).over)

    -- the part of a residue over d
    module _ (N : Plane (lawful_field L))
        (shape : HasShape F.ring (chart_of L f Finite).degree (pred (length o.d)) N)
        (inside : InResidues F (pred (length o.d)) o.space N) where
      abbrev r : ℕ
      r = length o.space.basis

      record Part (i : ℕ) (M : Plane (lawful_field L)) (w : A.carrier) : Type 0 where
        pub small : HasShape F.ring C.degree (pred (length o.d)) M
        pub vector : (j : ℕ) → flat F.ring (pred (length o.d)) M j ≡ vectors_of F o.space.basis i j
        pub over : IsOver L f o.d M w
        pub spanned : Spanned w

      abbrev pick_part : (i : ℕ) → (i < length o.space.basis) ⊎ (length o.space.basis ≤ i)
          → Plane (lawful_field L) × A.carrier
      pick_part i (inl q) = let t = are.vectors_in i q in
          (t.1.1.0, basis_element i q (vectors_of F rows t.0) t.1.1)
      pick_part i (inr q) = ((planes (lawful_field L)).zero, A.zero)

      parts : ℕ → Plane (lawful_field L)
      parts i = (pick_part i (cases_lt i (length o.space.basis))).0

      elements : ℕ → A.carrier
      elements i = (pick_part i (cases_lt i (length o.space.basis))).1

      part : (i : ℕ) → i < length o.space.basis → Part i (parts i) (elements i)
      unfolding parts elements
      part i q = go (cases_lt i (length o.space.basis))
        where
          go : (c : (i < length o.space.basis) ⊎ (length o.space.basis ≤ i))
              → Part i (pick_part i c).0 (pick_part i c).1
          go (inr k) = absurd (omega (arith, q, k))
          go (inl k) = let t = are.vectors_in i k in record {
            small = t.1.1.1.0;
            vector = t.1.1.1.1.0;
            over = basis_over i k (vectors_of F rows t.0) t.1.1;
            spanned = basis_spanned i k (vectors_of F rows t.0) t.1.1 t.0 t.1.0 refl;
          }

      same : planes_combined (lawful_field L) inside.coefficients parts (length o.space.basis) ≡ N
      same = flat_one K (pred (length o.d)) C.degree _ N (combined_shape K C.degree
          (pred (length o.d)) inside.coefficients parts r (λ i q. (part i q).small)) shape
          (λ j. combined_flat K (pred (length o.d)) inside.coefficients parts r j
          ∙ sum-ext F.ring L.laws r _ _ (λ i q. ap (F.mul (inside.coefficients i))
          ((part i q).vector j)) ∙ sym (inside.sum j))

      residue_over : IsOver L f o.d N (combination_in L f (length o.space.basis)
          inside.coefficients elements)
      residue_over = subst (λ N. IsOver L f o.d N (combination_in L f (length o.space.basis)
          inside.coefficients elements)) same (combined_over F L f hf two o.d
          (nonzero_over d d_modulus) (pred (length o.d)) r inside.coefficients parts elements
          (λ i q. (part i q).over))

      residue_spanned : Spanned (A.mul (CL.inverse (poly_of F o.d)) (at_theta C N))
      residue_spanned = subst Spanned (cancel_u K A AL C CL d (nonzero_over d d_modulus) _ _
          (residue_over ∙ sym (times_over K A AL C CL d (nonzero_over d d_modulus) N)))
          (element_span_sum F L f hf two (length rows) element_at r _ (λ i q.
          element_span_scale F L f hf two (length rows) element_at (inside.coefficients i)
          (elements i) (part i q).spanned))

    -- polynomials with short rows
    plane_spanned : (N : Plane (lawful_field L))
        → size (polynomials F.ring) N ≤ (chart_of L f Finite).degree
        → ((i : ℕ) → i < (chart_of L f Finite).degree
        → size F.ring (coeff (polynomials F.ring) N.coeffs i)
        ≤ suc m - times_ℕ i (slope_of L f)) → Spanned (at_theta C N)
    plane_spanned N few short = subst Spanned (sym (value_sum (polynomials F.ring) D.laws D.tests
        A AL (at_u C) U.on_zero C.theta N C.degree few))
        (element_span_sum F L f hf two (length rows) element_at C.degree _ rows_spanned)
      where
        row_at : ℕ → Poly F.ring
        row_at i = coeff (polynomials F.ring) N.coeffs i

        rows_spanned : (i : ℕ) → i < (chart_of L f Finite).degree
            → Spanned (A.mul (at_u C (row_at i)) (power A C.theta i))
        rows_spanned i q = subst Spanned (sum-mul A AL (size F.ring (row_at i))
            (power A C.theta i) (λ b. A.mul (C.constant (coeff F.ring (row_at i).coeffs b))
            (power A C.u b)) ∙ AL.mul_comm _ _ ∙ ap (λ t. A.mul t (power A C.theta i))
            (sym (value_sum F.ring L.laws L.tests A AL C.constant CL.constants.on_zero C.u
            (row_at i) (size F.ring (row_at i))
            (let e : size F.ring (row_at i) ≤ size F.ring (row_at i) = omega arith in e))))
            (element_span_sum F L f hf two (length rows) element_at (size F.ring (row_at i)) _
            (λ b r. subst Spanned (ring3 A AL (λ c u t. c ⊗ (u ⊗ t)) (λ c u t. t ⊗ (c ⊗ u)) refl
            (constant_in L f (coeff F.ring (row_at i).coeffs b)) (power A C.u b)
            (power A C.theta i))
            (element_span_scale F L f hf two (length rows) element_at
            (coeff F.ring (row_at i).coeffs b) _ (term_spanned i b
            (subst (λ n. i < n) (chart_degree F L f hf two Finite) q)
            (let s = short i q in omega (arith, s, r))))))

    pub frame_spanning : (g x : (algebra_in L f).carrier) → InOrder L f o g → IsProper L f x
        → IsWithinReach L f m ((algebra_in L f).add g x) → (c : ℕ → F.carrier)
        × (g ≡ combination_in L f (length rows) c element_at)
    frame_spanning g x q proper reach = (spanned.coefficients, spanned.sum)
      where
        k : InLattice (chart_of L f Finite) (poly_of F o.d)
            (InResidues F (pred (length o.d)) o.space) g
        k = subst (λ c. InLattice (chart_of L f c) (poly_of F o.d)
            (InResidues F (pred (length o.d)) o.space) g) chart q

        spanned : Spanned g
        spanned = subst Spanned (ap (A.add (A.mul (CL.inverse (poly_of F o.d))
            (at_theta C k.nums))) (sym (high_part d d_modulus m S g x k proper reach).1.1)
            ∙ sym (lat_parts K A AL C CL d d_modulus S g k))
            (element_span_add F L f hf two (length rows) element_at _ _
            (residue_spanned k.nums (subst (λ n. HasShape F.ring C.degree n k.nums)
            (ap pred d_size) k.residue.shape) k.is_in)
            (plane_spanned (high_part d d_modulus m S g x k proper reach).0
            (high_part d d_modulus m S g x k proper reach).1.0
            (high_short d d_modulus m S g x k proper reach)))

    pub frame_known : (t : ℕ) → t < length rows
        → HasVectorOver L f o.d l (vectors_of F rows t) (element_at t)
        × (IsShortOver L f o.d l steep_h (vectors_of F rows t) × InOrder L f o (element_at t))
    frame_known t q = ((known t q).over, ((known t q).short, (known t q).inside))

  -- the elements of a frame
  pub frame_elements : (o : Order) → IsOrder L f o → o.chart ≡ Finite → (m : ℕ) (s : Frame)
      → s.l ≡ plus_ℕ (length o.d) m → m ≤ s.h
      → times_ℕ (y_degree L f - 1) (slope_of L f) ≤ s.h
      → AreNumerators L f o.d m (pred (length o.d)) s.l o.space.basis (rows_of s.numerators.items)
      → HasFrameElements L f s o m
  frame_elements o h chart m s len high steep are = (
    w,
    record {
      over = λ t q. (known_at t q).0;
      short = λ t q. (known_at t q).1.0;
      inside = λ t q. (known_at t q).1.1;
      spanning = λ g x q proper reach. let b = frame_spanning o h chart m s.l s.h len high steep
          (rows_of s.numerators.items) are g x q proper reach in
          (b.0, subst (λ n. g ≡ combination_in L f n b.0 w) count b.1);
    },
  )
    where
      w : ℕ → A.carrier
      w = element_at o h chart m s.l s.h len high steep (rows_of s.numerators.items) are

      count : length (rows_of s.numerators.items) ≡ length s.numerators.items
      count = length-map s.numerators.items (λ (v : Vec ℕ Global). v.items)

      known_at : (t : ℕ) → t < length s.numerators.items
          → HasVectorOver L f o.d s.l (vectors_of F (rows_of s.numerators.items) t) (w t)
          × (IsShortOver L f o.d s.l s.h (vectors_of F (rows_of s.numerators.items) t)
          × InOrder L f o (w t))
      known_at t q = frame_known o h chart m s.l s.h len high steep
          (rows_of s.numerators.items) are t (omega (arith, q, count))
