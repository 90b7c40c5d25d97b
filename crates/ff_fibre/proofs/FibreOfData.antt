-- The data of a fibre as one of an order of a chart, for an equation f over a field whose laws are
-- L, where the order is closed under products.
use Rattle.std.proofs.Common.{◌≡◌, ℕ, pred, ◌+◌, ◌-◌, ◌<◌, ◌≤◌, ◌⊎◌, inl, inr, ◌↔◌, false, List, []}
use Rattle.std.proofs.Common.{length, get_or, refl, sym, ◌∙◌, ap, ap₂, subst, arith}
use Rattle.std.proofs.lemmas.Bool.{cases_lt}
use Rattle.std.proofs.lemmas.List.{length-map}
use Rattle.std.specs.Global.{Vec}
use mathlib.Core.Path.{fun_ext}
use Rattle.ff_local.specs.Point.{OrderIn, IsMultiple, IsSpanned}
use Rattle.ff_theory.specs.Ring.{RingOps, IsCommRing, Elements, power}
use Rattle.ff_theory.specs.Lawful.{Field, Lawful, lawful_field}
use Rattle.ff_theory.specs.Monomial.{monomial}
use Rattle.ff_theory.specs.Poly.{Poly, polynomials}
use Rattle.ff_theory.specs.Division.{size}
use Rattle.ff_theory.specs.Planes.{planes, Plane}
use Rattle.ff_theory.specs.Span.{combination, product, InSpan}
use Rattle.ff_theory.specs.Values.{poly_of, plane_of, IsPlane}
use Rattle.ff_theory.specs.Vector.{vector_of, vectors_of}
use Rattle.ff_theory.specs.Map.{IsMap}
use Rattle.ff_theory.proofs.Solver.{◌⊕◌, ◌⊗◌, nil, ring2, ring3}
use Rattle.ff_theory.proofs.Span.{span-same}
use Rattle.ff_charts.specs.Chart.{Chart as ChartOf, at_u, at_theta, IsChart}
use Rattle.ff_charts.specs.Lattice.{HasShape, IsTimes, flat}
use Rattle.ff_charts.specs.Lattice.{IsResidue}
use Rattle.ff_charts.proofs.Chart.{at_u_map, at_theta_map, row_times, cancel_u, powers_plane}
use Rattle.ff_charts.proofs.Chart.{powers_power}
use Rattle.ff_charts.proofs.Flat.{flat_one, plane_with_flat}
use Rattle.ff_local.specs.ChartOrder.{ChartOrder, InChartOrder, root_at}
use Rattle.ff_local.specs.ChartPole.{pole_modulus}
use Rattle.ff_local.specs.ChartFibre.{ChartFibre, IsRootMultiple, IsNumerator}
use Rattle.ff_lattice.specs.Remainder.{IsCongruent}
use Rattle.ff_lattice.specs.Residues.{AreResidues}
use Rattle.ff_characters.specs.Characters.{tables_of}
use Rattle.ff_local.specs.Functional.{HasFunctionalValue}
use Rattle.ff_local.proofs.Orders.{v_multiple}
use Rattle.ff_local.proofs.ChartOrder.{order_in}
use Rattle.ff_local.proofs.ChartFibre.{fibre}
use Rattle.ff_local.proofs.ChartOrder.{powers_in}
use Rattle.ff_local.proofs.ChartSpanning.{in_over, powers_theta, shape_less}
use Rattle.ff_local.proofs.Quotients.{times_over}
use Rattle.ff_lin.specs.Space.{rows_of, InSpace}
use Rattle.ff_poly.proofs.LongDivision.{poly-size}
use Rattle.ff_values.proofs.SpannedNumerators.{first_modulus, element_numerator}
use Rattle.ff_values.proofs.SpannedNumerators.{multiple_numerator}
use Rattle.ff_elem.specs.Elem.{algebra_in}
use Rattle.ff_modulo.specs.Modulo.{IsRowOf, IsCombinationModulo, IsSpannedModulo}
use Rattle.ff_data.specs.declared.order.Chart.TheVariants.{Finite}
use Rattle.ff_data.specs.declared.order.Order.{Order}
use Rattle.ff_data.specs.Orders.{chart_of, y_degree, IsOrder, InOrder, InResidues}
use Rattle.ff_data.proofs.ChartLaws.{algebra_laws, chart_laws, chart_degree}
use Rattle.ff_data.proofs.LocalOrder.{local_order, order_rows, order_ends}
use Rattle.ff_data.proofs.NumeratorLemmas.{order_length}
use Rattle.ff_fibre.specs.declared.parts.Fibre.{Fibre}
use Rattle.ff_fibre.specs.Fibres.{IsBasisAt, AreSpanning}
use Rattle.ff_fibre.specs.Fibres.{AreCoordinatesOf, IsEntryOf, AreEntries}
use Rattle.ff_fibre.proofs.PowerPlanes.{monomial_theta, monomial_shape}
use Rattle.ff_fibre.proofs.ChartFibres.{IsNear, IsEntry, spans, chart_fibre}
use Rattle.ff_fibre.proofs.ChartFibres.{residue_is_numerator, element_spanned}

-- the same multiples where the numbers of rows and coefficients are given by other terms
times_cast : (k : RingOps) (n m i j : ℕ) → n ≡ m → i ≡ j → (g : Poly k)
    (U : Poly (polynomials k) → Type 0) (M : Poly (polynomials k)) → IsTimes k n i g U M
    → IsTimes k m j g U M
times_cast k n m i j e d g U M h = subst (λ m. IsTimes k m j g U M) e
    (subst (λ j. IsTimes k n j g U M) d h)

module _ (F : Elements ℕ) (L : Lawful F) (f : List (List ℕ)) (hf : IsPlane F f)
    (two : 1 < length f) (o : Order) (h : IsOrder L f o)
    (closed : (v w : (algebra_in L f).carrier) → InOrder L f o v → InOrder L f o w
    → InOrder L f o ((algebra_in L f).mul v w)) (a : F.carrier)
    (modulus : (chart_of L f o.chart).IsModulus (root_at F.ring a)) (s : Fibre)
    (b : IsBasisAt L f o a s) where
  abbrev K : Field
  K = lawful_field L

  abbrev P : OrderIn
  P = order_in (lawful_field L) (algebra_in L f) (algebra_laws F L f hf two)
      (chart_of L f o.chart) (chart_laws F L f hf two o.chart)
      (local_order F L f hf two o h closed) a modulus

  abbrev A : RingOps
  A = algebra_in L f

  AL : IsCommRing (algebra_in L f)
  AL = algebra_laws F L f hf two

  abbrev c : ChartOf F.ring (algebra_in L f)
  c = chart_of L f o.chart

  l : IsChart F.ring (algebra_in L f) (chart_of L f o.chart)
  l = chart_laws F L f hf two o.chart

  abbrev O : ChartOrder (chart_of L f o.chart)
  O = local_order F L f hf two o h closed

  abbrev ld : ℕ
  ld = pred (size F.ring (pole_modulus (chart_of L f o.chart) O a 1))

  degree : y_degree L f ≡ c.degree
  degree = sym (chart_degree F L f hf two o.chart)

  positive : 0 < length o.d
  positive = order_length F L f hf two o h

  size_d : size F.ring (poly_of F o.d) ≡ length o.d
  size_d = poly-size F.ring L.laws L.tests F.value o.d h.d.canonical

  pub modulus_is : poly_of F s.modulus ≡ pole_modulus (chart_of L f o.chart) O a 1
  modulus_is = b.modulus ∙ sym (first_modulus (lawful_field L) (algebra_in L f)
      (algebra_laws F L f hf two) (chart_of L f o.chart) (chart_laws F L f hf two o.chart) O a
      modulus)

  -- d has as many coefficients as a row of a numerator
  pub long_is : length o.d ≡ pred (size F.ring (pole_modulus (chart_of L f o.chart) O a 1))
  long_is = let e : size F.ring (poly_of F s.modulus) ≡ length s.modulus =
      poly-size F.ring L.laws L.tests F.value s.modulus b.form.modulus.canonical in
      let d = ap (size F.ring) modulus_is in
      omega (arith, e, d, b.len)

  pub wide_is : pred (length s.modulus)
      ≡ pred (size F.ring (pole_modulus (chart_of L f o.chart) O a 1))
  wide_is = let d = long_is in omega (arith, d, b.len)

  abbrev rows : List (List ℕ)
  rows = rows_of s.rows.items

  abbrev pub plane_at : ℕ → Plane (lawful_field L)
  plane_at i = plane_of F (get_or s.planes.items i [])

  pub count : length (rows_of s.rows.items) ≡ length s.planes.items
  count = length-map s.rows.items (λ (r : Vec ℕ). r.items) ∙ b.form.count

  -- the space is that of the multiples of u - a
  pub exact : (N : Plane (lawful_field L)) → HasShape F.ring c.degree ld N
      → InSpan F.ring (length s.space.basis) (vectors_of F s.space.basis) (flat F.ring ld N)
      ↔ IsRootMultiple c O a N
  exact N shape = (
    λ i. times_cast F.ring (chart_of L f Finite).degree c.degree (pred (length o.d))
        (pred (size F.ring (poly_of F o.d))) degrees (order_rows F L f hf two o h)
        (root_at F.ring a) (InResidues F (pred (length o.d)) o.space) N
        ((b.space N old_shape).0
        (subst (λ m. InSpace F s.space (flat F.ring m N)) (sym long_is) i)),
    λ i. subst (λ m. InSpace F s.space (flat F.ring m N)) long_is ((b.space N old_shape).1
        (times_cast F.ring c.degree (chart_of L f Finite).degree
        (pred (size F.ring (poly_of F o.d))) (pred (length o.d)) (sym degrees)
        (sym (order_rows F L f hf two o h)) (root_at F.ring a)
        (InResidues F (pred (length o.d)) o.space) N i)),
  )
    where
      degrees : (chart_of L f Finite).degree ≡ c.degree
      degrees = chart_degree F L f hf two Finite ∙ degree

      old_shape : HasShape F.ring (chart_of L f Finite).degree (length o.d) N
      old_shape = subst (λ m. HasShape F.ring (chart_of L f Finite).degree m N) (sym long_is)
          (subst (λ n. HasShape F.ring n ld N) (sym degrees) shape)

  -- the planes of the basis, and their vectors
  shape : (i : ℕ) → i < length (rows_of s.rows.items) → HasShape F.ring c.degree ld (plane_at i)
  shape i q = subst (λ n. HasShape F.ring n ld (plane_at i)) degree
      (subst (λ m. HasShape F.ring (y_degree L f) m (plane_at i)) long_is
      (b.vectors i (let e = count in omega (arith, q, e))).shape)

  pub vector : (i : ℕ) → i < length (rows_of s.rows.items) → (j : ℕ)
      → flat F.ring ld (plane_at i) j ≡ vectors_of F (rows_of s.rows.items) i j
  vector i q j = ap (λ m. flat F.ring m (plane_at i) j) (sym long_is)
      ∙ (b.vectors i (let e = count in omega (arith, q, e))).value j

  pub independent : (e : ℕ → F.carrier) → InSpan F.ring (length s.space.basis)
      (vectors_of F s.space.basis) (combination F.ring (length (rows_of s.rows.items)) e
      (vectors_of F (rows_of s.rows.items))) → (i : ℕ) → i < length (rows_of s.rows.items)
      → e i ≡ F.zero
  independent e i = b.basis.1.1.independent e i

  abbrev vs : List (List ℕ)
  vs = b.basis.0

  spanning : AreSpanning L f o vs
  spanning = b.basis.1.0

  pub room : size F.ring (poly_of F o.d) ≤ ld
  room = let e = size_d in let d = long_is in omega (arith, e, d)

  pub more : pred (size F.ring (poly_of F o.d)) ≤ ld
  more = let e = room in omega (arith, e)

  -- the vectors of the powers of theta, and of the basis
  power_vector : (t : ℕ) → t < y_degree L f → (j : ℕ) → vectors_of F vs t j
      ≡ flat F.ring ld (monomial (polynomials F.ring) (poly_of F o.d) t) j
  power_vector t q j = spanning.powers t j q
      ∙ ap (λ m. flat F.ring m (monomial (polynomials F.ring) (poly_of F o.d) t) j) long_is

  widened_is : (t : ℕ) (q : t < length o.space.basis)
      → (spanning.basis t q).plane ≡ O.space.basis t
  widened_is t q = flat_one (lawful_field L) (pred (length o.d)) c.degree
      (spanning.basis t q).plane (O.space.basis t)
      (subst (λ n. HasShape F.ring n (pred (length o.d)) (spanning.basis t q).plane) degree
      (spanning.basis t q).shape)
      (subst (λ m. HasShape F.ring c.degree m (O.space.basis t)) (sym (order_rows F L f hf two o h))
      (O.space.shape t q))
      (λ j. (spanning.basis t q).old j ∙ sym (plane_with_flat (lawful_field L)
      (pred (length o.d)) c.degree (vectors_of F o.space.basis t)
      (order_ends F L f hf two o h t q) j))

  basis_vector : (t : ℕ) → t < length o.space.basis → (j : ℕ)
      → vectors_of F vs (y_degree L f + t) j ≡ flat F.ring ld (O.space.basis t) j
  basis_vector t q j = (spanning.basis t q).new j
      ∙ ap₂ (λ m N. flat F.ring m N j) long_is (widened_is t q)

  near_of : (t : ℕ) → t < length vs → (u : ℕ → F.carrier)
      → ((j : ℕ) → vectors_of F vs t j ≡ u j) → (e : ℕ → F.carrier)
      × IsNear (lawful_field L) (algebra_in L f) (algebra_laws F L f hf two)
      (chart_of L f o.chart) (chart_laws F L f hf two o.chart) O a modulus (length s.space.basis)
      (vectors_of F s.space.basis) (length (rows_of s.rows.items))
      (vectors_of F (rows_of s.rows.items)) u e
  near_of t q u e = (
    k.0,
    span-same F.ring L.laws (length s.space.basis) (vectors_of F s.space.basis) _ _
        (λ j. ap (λ x. F.add x (F.neg (combination F.ring (length (rows_of s.rows.items)) k.0
        (vectors_of F (rows_of s.rows.items)) j))) (sym (e j))) k.1,
  )
    where
      k : IsSpannedModulo F s.space (rows_of s.rows.items) (vectors_of F vs t)
      k = b.basis.1.1.spans t q

  pub powers : (i : ℕ) → i < c.degree → (e : ℕ → F.carrier)
      × IsNear (lawful_field L) (algebra_in L f) (algebra_laws F L f hf two)
      (chart_of L f o.chart) (chart_laws F L f hf two o.chart) O a modulus (length s.space.basis)
      (vectors_of F s.space.basis) (length (rows_of s.rows.items))
      (vectors_of F (rows_of s.rows.items))
      (flat F.ring ld (monomial (polynomials F.ring) (poly_of F o.d) i)) e
  powers i q = near_of i (let n = spanning.count in let d = degree in omega (arith, q, n, d)) _
      (power_vector i (let d = degree in omega (arith, q, d)))

  pub basis : (i : ℕ) → i < length o.space.basis → (e : ℕ → F.carrier)
      × IsNear (lawful_field L) (algebra_in L f) (algebra_laws F L f hf two)
      (chart_of L f o.chart) (chart_laws F L f hf two o.chart) O a modulus (length s.space.basis)
      (vectors_of F s.space.basis) (length (rows_of s.rows.items))
      (vectors_of F (rows_of s.rows.items)) (flat F.ring ld (O.space.basis i)) e
  basis i q = near_of (y_degree L f + i) (let n = spanning.count in omega (arith, q, n)) _
      (basis_vector i q)

  -- the planes are numerators
  abbrev over : Plane (lawful_field L) → (algebra_in L f).carrier
  over N = (algebra_in L f).mul (l.inverse (poly_of F o.d)) (at_theta c N)

  power_in : (t : ℕ) → InChartOrder c O (over (monomial (polynomials F.ring) (poly_of F o.d) t))
  power_in t = subst (InChartOrder c O) (sym same) (powers_in (lawful_field L) (algebra_in L f)
      (algebra_laws F L f hf two) c l O a modulus _ (powers_power (lawful_field L)
      (algebra_in L f) (algebra_laws F L f hf two) c l c.theta (powers_theta (lawful_field L)
      (algebra_in L f) (algebra_laws F L f hf two) c l) t))
    where
      nonzero : (polynomials F.ring).same (poly_of F o.d) (polynomials F.ring).zero ≡ false
      nonzero = l.modulus_nonzero (poly_of F o.d) h.modulus

      same : over (monomial (polynomials F.ring) (poly_of F o.d) t)
          ≡ power (algebra_in L f) c.theta t
      same = cancel_u (lawful_field L) (algebra_in L f) (algebra_laws F L f hf two) c l
          (poly_of F o.d) nonzero _ _ (times_over (lawful_field L) (algebra_in L f)
          (algebra_laws F L f hf two) c l (poly_of F o.d) nonzero
          (monomial (polynomials F.ring) (poly_of F o.d) t)
          ∙ monomial_theta (lawful_field L) (algebra_in L f) (algebra_laws F L f hf two) c l
          (poly_of F o.d) t)

  pub numerator : (i : ℕ) → i < length (rows_of s.rows.items) → IsNumerator c O a (plane_at i)
  numerator i q = element_numerator (lawful_field L) (algebra_in L f)
      (algebra_laws F L f hf two) c l O a modulus (plane_at i) (shape i q)
      (go (b.basis.1.1.chosen i q))
    where
      go : IsRowOf vs (get_or (rows_of s.rows.items) i []) → InChartOrder c O (over (plane_at i))
      go t = pick (cases_lt t.0 (y_degree L f))
        where
          row : (j : ℕ) → flat F.ring ld (plane_at i) j ≡ vectors_of F vs t.0 j
          row j = vector i q j ∙ ap (λ v. vector_of F v j) t.1.1

          pick : (t.0 < y_degree L f) ⊎ (y_degree L f ≤ t.0) → InChartOrder c O (over (plane_at i))
          pick (inl r) = subst (λ N. InChartOrder c O (over N)) (sym (flat_one (lawful_field L) ld
              c.degree (plane_at i) (monomial (polynomials F.ring) (poly_of F o.d) t.0) (shape i q)
              (monomial_shape (lawful_field L) c.degree ld t.0 (poly_of F o.d)
              (let d = degree in omega (arith, r, d)) room)
              (λ j. row j ∙ power_vector t.0 r j))) (power_in t.0)
          pick (inr r) = subst (λ N. InChartOrder c O (over N)) (sym (flat_one (lawful_field L) ld
              c.degree (plane_at i) (O.space.basis k) (shape i q)
              (shape_less (lawful_field L) (algebra_in L f) (algebra_laws F L f hf two) c l c.degree
              (pred (size F.ring (poly_of F o.d))) ld more (O.space.basis k)
              (O.space.shape k below))
              (λ j. row j ∙ ap (λ x. vectors_of F vs x j) split ∙ basis_vector k below j)))
              (in_over (lawful_field L) (algebra_in L f) (algebra_laws F L f hf two) c l O
              (O.space.basis k) (O.space.shape k below) (O.space.is_in k below))
            where
              k : ℕ
              k = t.0 - y_degree L f

              split : t.0 ≡ y_degree L f + k
              split = let d : k ≡ t.0 - y_degree L f = refl in omega (arith, r, d)

              below : k < length o.space.basis
              below = let n = spanning.count in let d : k ≡ t.0 - y_degree L f = refl in
                  let e = t.1.0 in omega (arith, r, e, n, d)

  -- a plane, and its residue
  V : IsMap (planes (lawful_field L)) (algebra_in L f) (at_theta (chart_of L f o.chart))
  V = at_theta_map (lawful_field L) (algebra_in L f) (algebra_laws F L f hf two)
      (chart_of L f o.chart) (chart_laws F L f hf two o.chart)

  pub residue_of : (N R : Plane (lawful_field L)) → AreResidues F.ring (poly_of F s.modulus) N R
      → HasShape F.ring (y_degree L f) (pred (length s.modulus)) R
      → IsResidue c (pole_modulus c O a 1) (at_theta c N) R
  residue_of N R r g = record {
    shape = subst (λ m. HasShape F.ring c.degree m R) wide_is
        (subst (λ n. HasShape F.ring n (pred (length s.modulus)) R) degree g);
    rest = at_theta c r.quotient;
    in_powers = powers_plane (lawful_field L) (algebra_in L f) (algebra_laws F L f hf two) c l
        r.quotient;
    sum = ap (at_theta c) r.sum ∙ V.on_add _ _ ∙ ap ((algebra_in L f).add (at_theta c R))
        (row_times (lawful_field L) (algebra_in L f) (algebra_laws F L f hf two) c l
        (poly_of F s.modulus) r.quotient
        ∙ ap (λ m. (algebra_in L f).mul (at_u c m) (at_theta c r.quotient)) modulus_is);
  }

  -- a plane and what is left of it modulo the equation have one value
  pub congruent_value : (M N : Plane (lawful_field L))
      → IsCongruent (polynomials F.ring) c.equation M N → at_theta c N ≡ at_theta c M
  congruent_value M N e = sym (ap (at_theta c) e.sum ∙ V.on_add _ _
      ∙ ap (λ t. (algebra_in L f).add t (at_theta c N)) (V.on_mul e.quotient c.equation
      ∙ ap ((algebra_in L f).mul (at_theta c e.quotient)) l.root)
      ∙ ring2 (algebra_in L f) (algebra_laws F L f hf two) (λ q n. q ⊗ nil ⊕ n) (λ q n. n) refl
      (at_theta c e.quotient) (at_theta c N))

  -- coordinates by the length of the modulus
  abbrev Near : (ℕ → F.carrier) → (ℕ → F.carrier) → Type 0
  Near u e = IsNear (lawful_field L) (algebra_in L f) (algebra_laws F L f hf two)
      (chart_of L f o.chart) (chart_laws F L f hf two o.chart) O a modulus (length s.space.basis)
      (vectors_of F s.space.basis) (length (rows_of s.rows.items))
      (vectors_of F (rows_of s.rows.items)) u e

  near_value : (N : Plane (lawful_field L)) (e : ℕ → F.carrier) (k : AreCoordinatesOf L f s N e)
      (d : ℕ → F.carrier) → Near (flat F.ring ld k.residue) d → Near (flat F.ring ld k.residue) e
  near_value N e k d n = subst (λ m. Near (flat F.ring m k.residue) e) wide_is (k.value (
    d,
    subst (λ m. Near (flat F.ring m k.residue) d) (sym wide_is) n,
  ))

  -- for an element of the order with the numerator N over d, and the residue R of N
  module _ (x : (algebra_in L f).carrier) (inside : InOrder L f o x) (N R : Plane (lawful_field L))
      (over_is : at_theta (chart_of L f o.chart) N
      ≡ (algebra_in L f).mul (at_u (chart_of L f o.chart) (poly_of F o.d)) x)
      (residues : AreResidues F.ring (poly_of F s.modulus) N R)
      (low : HasShape F.ring (y_degree L f) (pred (length s.modulus)) R) where
    residue : IsResidue c (pole_modulus c O a 1) (at_theta c N) R
    residue = residue_of N R residues low

    near : (e : ℕ → F.carrier) × Near (flat F.ring ld R) e
    near = spans (lawful_field L) (algebra_in L f) (algebra_laws F L f hf two)
        (chart_of L f o.chart) (chart_laws F L f hf two o.chart)
        (local_order F L f hf two o h closed) a modulus (length s.space.basis)
        (vectors_of F s.space.basis) exact (length (rows_of s.rows.items))
        (vectors_of F (rows_of s.rows.items)) plane_at numerator vector independent powers basis
        more room R (residue_is_numerator (lawful_field L) (algebra_in L f)
        (algebra_laws F L f hf two) (chart_of L f o.chart) (chart_laws F L f hf two o.chart)
        (local_order F L f hf two o h closed) a modulus (length s.space.basis)
        (vectors_of F s.space.basis) exact (length (rows_of s.rows.items))
        (vectors_of F (rows_of s.rows.items)) plane_at numerator vector independent powers basis
        more room x inside N R over_is residue)

    -- R is a combination of the rows up to a vector of the space
    pub residue_spanned : IsSpannedModulo F s.space (rows_of s.rows.items)
        (flat F.ring (pred (length s.modulus)) R)
    residue_spanned = (
      near.0,
      subst (λ m. Near (flat F.ring m R) near.0) (sym wide_is) near.1,
    )

    -- and the element is the same combination of the basis up to u - a times one of the order
    pub element_combination : (e : ℕ → F.carrier)
        → IsCombinationModulo F s.space (rows_of s.rows.items) e
        (flat F.ring (pred (length s.modulus)) R)
        → (h : IsSpanned (order_in (lawful_field L) (algebra_in L f) (algebra_laws F L f hf two)
        (chart_of L f o.chart) (chart_laws F L f hf two o.chart)
        (local_order F L f hf two o h closed) a modulus) (length (rows_of s.rows.items))
        (λ i. (algebra_in L f).mul ((chart_laws F L f hf two o.chart).inverse (poly_of F o.d))
        (at_theta (chart_of L f o.chart) (plane_at i))) x)
        × ((i : ℕ) → h.coefficients i ≡ e i)
    element_combination e k = element_spanned (lawful_field L) (algebra_in L f)
        (algebra_laws F L f hf two) (chart_of L f o.chart) (chart_laws F L f hf two o.chart)
        (local_order F L f hf two o h closed) a modulus (length s.space.basis)
        (vectors_of F s.space.basis) exact (length (rows_of s.rows.items))
        (vectors_of F (rows_of s.rows.items)) plane_at numerator vector independent powers basis
        more room x inside N R over_is residue e
        (subst (λ m. Near (flat F.ring m R) e) wide_is k)

  -- the coordinates of a numerator of an element of the order are those of its residue
  pub coordinates_exact : (x : (algebra_in L f).carrier) → InOrder L f o x
      → (N : Plane (lawful_field L)) → at_theta (chart_of L f o.chart) N
      ≡ (algebra_in L f).mul (at_u (chart_of L f o.chart) (poly_of F o.d)) x
      → (e : ℕ → F.carrier) → (k : AreCoordinatesOf L f s N e)
      → IsCombinationModulo F s.space (rows_of s.rows.items) e
      (flat F.ring (pred (length s.modulus)) k.residue)
  coordinates_exact x inside N over_is e k =
      k.value (residue_spanned x inside N k.residue over_is k.residues k.shape)

  -- the space has exactly the numerators of the products of u - a and an element of the order
  pub space_exact : (N : Plane (lawful_field L))
      → HasShape F.ring (y_degree L f) (pred (length s.modulus)) N
      → InSpace F s.space (flat F.ring (pred (length s.modulus)) N)
      ↔ ((x : (algebra_in L f).carrier) × (InOrder L f o x × (at_theta (chart_of L f o.chart) N
      ≡ (algebra_in L f).mul (at_u (chart_of L f o.chart) (poly_of F s.modulus)) x)))
  unfolding l
  space_exact N low = (into, back)
    where
      own : HasShape F.ring c.degree ld N
      own = subst (λ m. HasShape F.ring c.degree m N) wide_is
          (subst (λ n. HasShape F.ring n (pred (length s.modulus)) N) degree low)

      nonzero : (polynomials F.ring).same (poly_of F o.d) (polynomials F.ring).zero ≡ false
      nonzero = l.modulus_nonzero (poly_of F o.d) h.modulus

      split : at_u c (poly_of F s.modulus)
          ≡ A.mul (at_u c (root_at F.ring a)) (at_u c (poly_of F o.d))
      split = ap (at_u c) b.modulus ∙ (at_u_map (lawful_field L) (algebra_in L f)
          (algebra_laws F L f hf two) c l).on_mul (root_at F.ring a) (poly_of F o.d)

      into : InSpace F s.space (flat F.ring (pred (length s.modulus)) N) → (x : A.carrier)
          × (InOrder L f o x × (at_theta c N ≡ A.mul (at_u c (poly_of F s.modulus)) x))
      into i = (
        over m.part,
        (
          in_over (lawful_field L) (algebra_in L f) (algebra_laws F L f hf two) c l O m.part
              m.shape m.is_in,
          ap (at_theta c) m.product ∙ row_times (lawful_field L) (algebra_in L f)
              (algebra_laws F L f hf two) c l (root_at F.ring a) m.part
              ∙ ap (A.mul (at_u c (root_at F.ring a))) (sym (times_over (lawful_field L)
              (algebra_in L f) (algebra_laws F L f hf two) c l (poly_of F o.d) nonzero m.part))
              ∙ ring3 A AL (λ r d x. r ⊗ (d ⊗ x)) (λ r d x. r ⊗ d ⊗ x) refl
              (at_u c (root_at F.ring a)) (at_u c (poly_of F o.d)) (over m.part)
              ∙ ap (λ t. A.mul t (over m.part)) (sym split),
        ),
      )
        where
          m : IsRootMultiple c O a N
          m = (exact N own).0 (subst (λ m. InSpace F s.space (flat F.ring m N)) wide_is i)

      back : (x : A.carrier)
          × (InOrder L f o x × (at_theta c N ≡ A.mul (at_u c (poly_of F s.modulus)) x))
          → InSpace F s.space (flat F.ring (pred (length s.modulus)) N)
      back t = subst (λ m. InSpace F s.space (flat F.ring m N)) (sym wide_is)
          ((exact N own).1 (multiple_numerator (lawful_field L) (algebra_in L f)
          (algebra_laws F L f hf two) c l O a modulus N own
          (subst (IsMultiple P) (sym times) (v_multiple P t.0 t.1.0))))
        where
          times : over N ≡ A.mul (at_u c (root_at F.ring a)) t.0
          times = cancel_u (lawful_field L) (algebra_in L f) (algebra_laws F L f hf two) c l
              (poly_of F o.d) nonzero _ _ (times_over (lawful_field L) (algebra_in L f)
              (algebra_laws F L f hf two) c l (poly_of F o.d) nonzero N ∙ t.1.1
              ∙ ap (λ y. A.mul y t.0) split
              ∙ ring3 A AL (λ r d x. r ⊗ d ⊗ x) (λ r d x. d ⊗ (r ⊗ x)) refl
              (at_u c (root_at F.ring a)) (at_u c (poly_of F o.d)) t.0)

  module _ (all : AreEntries L f o s (tables_of s.table.items) (length s.planes.items)) where
    abbrev pub table_at : ℕ → ℕ → ℕ → F.carrier
    table_at i j = vectors_of F (get_or (tables_of s.table.items) i []) j

    pub products : (i j : ℕ) → i < length (rows_of s.rows.items) → j < length (rows_of s.rows.items)
        → IsEntry (lawful_field L) (algebra_in L f) (algebra_laws F L f hf two)
        (chart_of L f o.chart) (chart_laws F L f hf two o.chart) O a modulus
        (length s.space.basis) (vectors_of F s.space.basis) (length (rows_of s.rows.items))
        (vectors_of F (rows_of s.rows.items)) (plane_at i) (plane_at j) (table_at i j)
    products i j q p = record {
      square = e.product.square;
      few = let x : size (polynomials F.ring) e.product.square ≤ y_degree L f = e.product.few in
          let d = degree in omega (arith, x, d);
      square_is = congruent_value _ e.product.square e.product.congruent
          ∙ V.on_mul (plane_at i) (plane_at j);
      quotient = e.quotient;
      quotients = e.product.quotients;
      nums = e.coordinates.residue;
      residue = residue_of e.quotient e.coordinates.residue e.coordinates.residues
          e.coordinates.shape;
      near = near_value e.quotient (table_at i j) e.coordinates;
    }
      where
        e : IsEntryOf L f o s i j (table_at i j)
        e = all i (let n = count in omega (arith, q, n)) j (let n = count in omega (arith, p, n))

    -- the fibre
    abbrev pub data_fibre : ChartFibre (chart_of L f o.chart)
        (local_order F L f hf two o h closed) a
    data_fibre = chart_fibre (lawful_field L) (algebra_in L f) (algebra_laws F L f hf two)
        (chart_of L f o.chart) (chart_laws F L f hf two o.chart)
        (local_order F L f hf two o h closed) a modulus (length s.space.basis)
        (vectors_of F s.space.basis) exact (length (rows_of s.rows.items))
        (vectors_of F (rows_of s.rows.items)) plane_at numerator vector independent powers basis
        more room table_at products

    -- the value of an element with a numerator, by its coordinates
    pub functional_value : (chi : ℕ → F.carrier) (x : (algebra_in L f).carrier) → InOrder L f o x
        → (N : Plane (lawful_field L)) → at_theta c N ≡ (algebra_in L f).mul
        (at_u c (poly_of F o.d)) x → (e : ℕ → F.carrier) → AreCoordinatesOf L f s N e
        → HasFunctionalValue (order_in (lawful_field L) (algebra_in L f)
        (algebra_laws F L f hf two) (chart_of L f o.chart) (chart_laws F L f hf two o.chart)
        (local_order F L f hf two o h closed) a modulus) (fibre (lawful_field L) (algebra_in L f)
        (algebra_laws F L f hf two) (chart_of L f o.chart) (chart_laws F L f hf two o.chart)
        (local_order F L f hf two o h closed) a modulus data_fibre) chi x
        (product F.ring (length (rows_of s.rows.items)) e chi)
    functional_value chi x inside N over_is e k = (
      t.0,
      ap (λ y. product F.ring (length (rows_of s.rows.items)) y chi) (sym (fun_ext t.1)),
    )
      where
        t : (h : IsSpanned (order_in (lawful_field L) (algebra_in L f)
            (algebra_laws F L f hf two) (chart_of L f o.chart) (chart_laws F L f hf two o.chart)
            (local_order F L f hf two o h closed) a modulus) (length (rows_of s.rows.items))
            (λ i. (algebra_in L f).mul ((chart_laws F L f hf two o.chart).inverse (poly_of F o.d))
            (at_theta (chart_of L f o.chart) (plane_at i))) x)
            × ((i : ℕ) → h.coefficients i ≡ e i)
        t = element_combination x inside N k.residue over_is k.residues k.shape e
            (coordinates_exact x inside N over_is e k)
