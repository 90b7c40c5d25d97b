-- At a point of a maximal order the equations by a fibre have a solution that is not 0, and each
-- gives an element with a pole of order one.
use Rattle.std.proofs.Common.{◌≡◌, ℕ, zero, suc, pred, ◌<◌, ◌≤◌, ◌⊎◌, inl, inr}
use Rattle.std.proofs.Common.{false, List, length, refl, sym, ◌∙◌, ap, subst, arith}
use Rattle.std.proofs.lemmas.Bool.{cases_lt}
use Rattle.ff_theory.specs.Ring.{RingOps, IsCommRing, Elements}
use Rattle.ff_theory.specs.Lawful.{Field, Lawful, lawful_field}
use Rattle.ff_theory.specs.Map.{IsMap}
use Rattle.ff_theory.specs.Poly.{Poly, polynomials}
use Rattle.ff_theory.specs.Division.{size}
use Rattle.ff_theory.specs.Planes.{planes, Plane}
use Rattle.ff_theory.specs.Span.{combination, product, InSpan, unit_at}
use Rattle.ff_theory.specs.Values.{poly_of, plane_of, IsPlane}
use Rattle.ff_theory.specs.Vector.{vector_of, vectors_of, IsVector}
use Rattle.ff_theory.proofs.Solver.{◌⊗◌, neg, unit, ring1, ring3}
use Rattle.ff_theory.proofs.Sums.{sum-ext}
use Rattle.ff_theory.proofs.Span.{span-one}
use Rattle.ff_theory.proofs.Dependence.{Found}
use Rattle.ff_charts.specs.Chart.{Chart as ChartOf, at_u, at_theta, IsChart}
use Rattle.ff_charts.specs.Lattice.{HasShape, flat}
use Rattle.ff_charts.proofs.Chart.{at_u_map, cancel_u}
use Rattle.ff_charts.proofs.Flat.{flat_one}
use Rattle.ff_local.specs.Point.{OrderAt}
use Rattle.ff_local.specs.Fibre.{IsSocleVector}
use Rattle.ff_local.specs.Socle.{IsSocle}
use Rattle.ff_local.specs.ChartOrder.{ChartOrder, ChartPoint, root_at, plane_sum}
use Rattle.ff_local.specs.ChartFibre.{ChartFibre}
use Rattle.ff_local.specs.ChartPole.{pole_modulus}
use Rattle.ff_local.proofs.ChartFibre.{fibre, element_in, chart_socle, chart_socle_vector}
use Rattle.ff_local.proofs.ChartPoint.{value_is}
use Rattle.ff_local.proofs.ChartSpanning.{over_modulus}
use Rattle.ff_local.proofs.PlaneSums.{sum_vector, sum_has_shape}
use Rattle.ff_local.proofs.Quotients.{times_over}
use Rattle.ff_lin.specs.Space.{SpaceParts, IsSpaceOf, pivot}
use Rattle.ff_lin.proofs.Entries.{entry}
use Rattle.ff_elem.specs.Elem.{algebra_in}
use Rattle.ff_characters.specs.Characters.{tables_of}
use Rattle.ff_data.specs.declared.order.Order.{Order}
use Rattle.ff_data.specs.declared.point.Point.{Point}
use Rattle.ff_data.specs.Orders.{chart_of, y_degree}
use Rattle.ff_data.proofs.ChartLaws.{algebra_laws, chart_laws, chart_degree}
use Rattle.ff_data.proofs.LocalMaximal.{maximal_closed}
use Rattle.ff_fibre.specs.declared.parts.Fibre.{Fibre}
use Rattle.ff_fibre.specs.Fibres.{IsFibreAt}
use Rattle.ff_fibre.proofs.FibreOfData.{data_fibre, count, wide_is, vector}
use Rattle.ff_frac.specs.Places.{IsMaximalPlace, IsOverModulus, IsPoleNumerator, first_modulus}
use Rattle.ff_frac.specs.Places.{HaveNumeratorValues}
use Rattle.ff_frac.specs.Socle.{shifted_entry_at, SolvesRows, IsSocleSpace, IsFirstPlane}
use Rattle.ff_frac.proofs.PoleOrders.{IsAbove}
use Rattle.ff_frac.proofs.PlaceLemmas.{place, place_order, place_point, above_back}
use Rattle.ff_frac.proofs.SocleRows.{shifted_is}

module _ (F : Elements ℕ) (L : Lawful F) (f : List (List ℕ)) (hf : IsPlane F f)
    (two : 1 < length f) (o : Order) (p : Point) (h : IsMaximalPlace L f o p) where
  abbrev K : Field
  K = lawful_field L

  abbrev A : RingOps
  A = algebra_in L f

  AL : IsCommRing (algebra_in L f)
  AL = algebra_laws F L f hf two

  abbrev c : ChartOf F.ring (algebra_in L f)
  c = chart_of L f o.chart

  l : IsChart F.ring (algebra_in L f) (chart_of L f o.chart)
  l = chart_laws F L f hf two o.chart

  U : IsMap (polynomials F.ring) (algebra_in L f) (at_u (chart_of L f o.chart))
  U = at_u_map (lawful_field L) A AL c l

  abbrev O : ChartOrder (chart_of L f o.chart)
  O = place_order F L f hf two o p h

  abbrev Q : ChartPoint (chart_of L f o.chart) (place_order F L f hf two o p h)
  Q = place_point F L f hf two o p h

  abbrev P : OrderAt
  P = place F L f hf two o p h

  abbrev d : Poly F.ring
  d = poly_of F o.d

  abbrev root : Poly F.ring
  root = root_at F.ring (F.value p.a)

  abbrev over : Plane (lawful_field L) → A.carrier
  over N = over_modulus (lawful_field L) (algebra_in L f) (algebra_laws F L f hf two)
      (chart_of L f o.chart) (chart_laws F L f hf two o.chart) (place_order F L f hf two o p h) N

  d_nonzero : (polynomials F.ring).same (poly_of F o.d) (polynomials F.ring).zero ≡ false
  d_nonzero = l.modulus_nonzero (poly_of F o.d) h.maximal.order.modulus

  over_is : (N : Plane (lawful_field L)) → A.mul (at_u c d) (over N) ≡ at_theta c N
  over_is N = times_over (lawful_field L) (algebra_in L f) (algebra_laws F L f hf two)
      (chart_of L f o.chart) (chart_laws F L f hf two o.chart) d d_nonzero N

  -- an element of the socle over u - a
  socle_above : (N : List (List ℕ)) → IsSocle P (over (plane_of F N)) → (w : A.carrier)
      → IsOverModulus L f o (first_modulus L f o p) N w → IsAbove P 0 w
  socle_above N k w e = (
    λ r m. subst P.In (ring3 A AL (λ r g v. r ⊗ g ⊗ v) (λ r g v. g ⊗ v ⊗ r) refl r
        (over (plane_of F N)) P.over_v ∙ ap (λ t. A.mul t r) same) (k.killed r m),
    λ m. k.outside (subst P.In (sym same) m),
  )
    where
      times : over (plane_of F N) ≡ A.mul (at_u c root) w
      times = cancel_u (lawful_field L) A AL c l d d_nonzero _ _ (over_is (plane_of F N) ∙ sym e
          ∙ ap (λ t. A.mul t w) (U.on_mul d root)
          ∙ AL.mul_assoc _ _ _)

      same : A.mul (over (plane_of F N)) P.over_v ≡ w
      same = ap (λ t. A.mul t P.over_v) times
          ∙ ring3 A AL (λ r w v. r ⊗ w ⊗ v) (λ r w v. r ⊗ v ⊗ w) refl (at_u c root) w P.over_v
          ∙ ap (λ t. A.mul t w) P.v_inverse ∙ ring1 A AL (λ w. unit ⊗ w) (λ w. w) refl w

  module _ (s : Fibre) (b : IsFibreAt L f o (F.value p.a) s) where
    abbrev G : ChartFibre (chart_of L f o.chart) (place_order F L f hf two o p h)
        (place_point F L f hf two o p h).a
    G = data_fibre F L f hf two o h.maximal.order (maximal_closed F L f hf two o h.maximal)
        (F.value p.a) (place_point F L f hf two o p h).is_modulus s b.basis b.products

    abbrev table : List (List (List ℕ))
    table = tables_of s.table.items

    n_is : G.count ≡ length s.planes.items
    n_is = count F L f hf two o h.maximal.order (maximal_closed F L f hf two o h.maximal)
        (F.value p.a) (place_point F L f hf two o p h).is_modulus s b.basis

    abbrev n : ℕ
    n = length s.planes.items

    abbrev ld : ℕ
    ld = pred (size F.ring (pole_modulus c O (F.value p.a) 1))

    module _ (chi : List ℕ) (hchi : IsVector F (length s.planes.items) chi)
        (values : HaveNumeratorValues L f o p s.planes.items chi) where
      value_at : (j : ℕ) → j < G.count → P.value (over (G.plane j)) ≡ vector_of F chi j
      value_at j q = value_is (lawful_field L) (algebra_in L f) (algebra_laws F L f hf two)
          (chart_of L f o.chart) (chart_laws F L f hf two o.chart) O Q (over (G.plane j)) _
          (values j (let e = n_is in omega (arith, q, e)) (over (G.plane j)) (over_is (G.plane j))
          (element_in (lawful_field L) (algebra_in L f) (algebra_laws F L f hf two)
          (chart_of L f o.chart) (chart_laws F L f hf two o.chart) O Q.a Q.is_modulus G j q))
          ∙ sym (entry F chi j (let e = n_is in let k = hchi.len in omega (arith, q, e, k)))

      abbrev Solves : (ℕ → F.carrier) → Type 0
      Solves e = IsSocleVector P (fibre (lawful_field L) (algebra_in L f)
          (algebra_laws F L f hf two) (chart_of L f o.chart) (chart_laws F L f hf two o.chart)
          (place_order F L f hf two o p h) Q.a Q.is_modulus G) e

      entry_same : (j l i : ℕ) → j < G.count → F.add (G.table i j l)
          (F.neg (F.mul (unit_at F.ring i l) (P.value (over (G.plane j)))))
          ≡ shifted_entry_at F (length s.planes.items) table (vector_of F chi j) j l i
      entry_same j l i q = ap (λ t. F.add (G.table i j l)
          (F.neg (F.mul (unit_at F.ring i l) t))) (value_at j q)
          ∙ shifted_is F L i l (G.table i j l) (vector_of F chi j)

      sums_same : (e : ℕ → F.carrier) (j l : ℕ) → j < G.count → product F.ring G.count e
          (λ i. F.add (G.table i j l) (F.neg (F.mul (unit_at F.ring i l)
          (P.value (over (G.plane j)))))) ≡ product F.ring (length s.planes.items) e
          (shifted_entry_at F (length s.planes.items) table (vector_of F chi j) j l)
      sums_same e j l q = sum-ext F.ring L.laws G.count _ _
          (λ i r. ap (F.mul (e i)) (entry_same j l i q))
          ∙ ap (λ m. product F.ring m e (shifted_entry_at F (length s.planes.items) table
          (vector_of F chi j) j l)) n_is

      solves_into : (e : ℕ → F.carrier)
          → SolvesRows F (length s.planes.items) table (vector_of F chi) e → Solves e
      solves_into e k j l q r = sums_same e j l q
          ∙ k j l (let m = n_is in omega (arith, q, m)) (let m = n_is in omega (arith, r, m))

      solves_back : (e : ℕ → F.carrier) → Solves e
          → SolvesRows F (length s.planes.items) table (vector_of F chi) e
      solves_back e k j l q r = sym (sums_same e j l (let m = n_is in omega (arith, q, m)))
          ∙ k j l (let m = n_is in omega (arith, q, m)) (let m = n_is in omega (arith, r, m))

      module _ (space : SpaceParts) (hs : IsSpaceOf F (length s.planes.items) space)
          (exact : IsSocleSpace F (length s.planes.items) (tables_of s.table.items)
          (vector_of F chi) space) where
        -- a solution without entries from n on
        cut : (ℕ → F.carrier) → (i : ℕ) → (i < n) ⊎ (n ≤ i) → F.carrier
        cut e i (inl q) = e i
        cut e i (inr q) = F.zero

        cut_below : (e : ℕ → F.carrier) (i : ℕ) (b : (i < n) ⊎ (n ≤ i)) → i < n → cut e i b ≡ e i
        unfolding cut
        cut_below e i (inl q) r = refl
        cut_below e i (inr q) r = absurd (omega (arith, q, r))

        cut_ends : (e : ℕ → F.carrier) (i : ℕ) (b : (i < n) ⊎ (n ≤ i)) → n ≤ i
            → cut e i b ≡ F.zero
        unfolding cut
        cut_ends e i (inl q) r = absurd (omega (arith, q, r))
        cut_ends e i (inr q) r = refl

        abbrev short : (ℕ → F.carrier) → ℕ → F.carrier
        short e i = cut e i (cases_lt i n)

        cut_solves : (e : ℕ → F.carrier)
            → SolvesRows F (length s.planes.items) table (vector_of F chi) e
            → SolvesRows F (length s.planes.items) table (vector_of F chi) (short e)
        cut_solves e k j l q r = sum-ext F.ring L.laws n _ _ (λ i t. ap (λ x. F.mul x
            (shifted_entry_at F (length s.planes.items) table (vector_of F chi j) j l i))
            (cut_below e i (cases_lt i n) t)) ∙ k j l q r

        some_vector : (e : ℕ → F.carrier) × (Solves e × Found F.ring G.count e)
        some_vector = chart_socle_vector (lawful_field L) (algebra_in L f)
            (algebra_laws F L f hf two) (chart_of L f o.chart) (chart_laws F L f hf two o.chart)
            O Q G

        in_space : InSpan F.ring (length space.basis) (vectors_of F space.basis)
            (short some_vector.0)
        in_space = (exact (short some_vector.0)).1 (
          λ i q. cut_ends some_vector.0 i (cases_lt i n) q,
          cut_solves some_vector.0 (solves_back some_vector.0 some_vector.1.0),
        )

        pub some_basis : 0 < length space.basis
        some_basis = go (length space.basis) refl
          where
            index : ℕ
            index = some_vector.1.1.index

            below : index < n
            below = let q = some_vector.1.1.below in let e = n_is in omega (arith, q, e)

            go : (m : ℕ) → length space.basis ≡ m → 0 < length space.basis
            go (suc m) e = omega (arith, e)
            go zero e = absurd (some_vector.1.1.nonzero (
                sym (cut_below some_vector.0 index (cases_lt index n) below)
                ∙ in_space.sum index
                ∙ ap (λ m. combination F.ring m in_space.coefficients (vectors_of F space.basis)
                index) e))

        abbrev first : ℕ → F.carrier
        first = vectors_of F space.basis 0

        first_solves : Solves first
        first_solves = solves_into first ((exact first).0 (span-one F.ring L.laws
            (length space.basis) (vectors_of F space.basis) 0 some_basis)).1

        first_below : pivot space 0 < n
        first_below = let k : 0 < length space.pivots = (let e = hs.space.count in
            let q = some_basis in omega (arith, e, q)) in
            let q = hs.space.inside 0 0 k in let e = hs.len in omega (arith, q, e)

        first_nonzero : ¬ (first (pivot space 0) ≡ F.zero)
        first_nonzero e = K.is_field.one_not_zero
            (sym (hs.space.echelon.one_at 0 some_basis) ∙ e)

        socle_first : IsSocle P (over (plane_sum F.ring G.count first G.plane))
        socle_first = chart_socle (lawful_field L) (algebra_in L f) (algebra_laws F L f hf two)
            (chart_of L f o.chart) (chart_laws F L f hf two o.chart) O Q G first first_solves
            (pivot space 0) (let q = first_below in let e = n_is in omega (arith, q, e))
            first_nonzero

        module _ (N : List (List ℕ)) (k : 0 < length space.basis → IsFirstPlane L f s space N) where
          wide : pred (length s.modulus) ≡ ld
          wide = wide_is F L f hf two o h.maximal.order
              (maximal_closed F L f hf two o h.maximal) (F.value p.a) Q.is_modulus s b.basis

          degree : y_degree L f ≡ c.degree
          degree = sym (chart_degree F L f hf two o.chart)

          shape : HasShape F.ring c.degree ld (plane_of F N)
          shape = subst (λ m. HasShape F.ring c.degree m (plane_of F N)) wide
              (subst (λ n. HasShape F.ring n (pred (length s.modulus)) (plane_of F N)) degree
              (k some_basis).shape)

          same : plane_of F N ≡ plane_sum F.ring G.count first G.plane
          same = flat_one (lawful_field L) ld c.degree (plane_of F N) _ shape
              (sum_has_shape (lawful_field L) c.degree ld G.count first G.plane
              (λ i q. (G.numerator i q).shape)) (λ j. ap (λ m. flat F.ring m (plane_of F N) j)
              (sym wide) ∙ (k some_basis).value j
              ∙ sym (sum_vector (lawful_field L) ld G.count first G.plane j
              ∙ sum-ext F.ring L.laws G.count _ _ (λ i q. ap (F.mul (first i))
              (vector F L f hf two o h.maximal.order (maximal_closed F L f hf two o h.maximal)
              (F.value p.a) Q.is_modulus s b.basis i q j))))

          pub first_numerator : IsPoleNumerator L f o p 1 (first_modulus L f o p) N
          first_numerator w e = above_back F L f hf two o p h 0 w (socle_above N
              (subst (λ t. IsSocle P (over t)) (sym same) socle_first) w e)
