-- Values and residues of products, as the test of closure computes them.
use Rattle.std.proofs.Common.{◌≡◌, ℕ, suc, pred, ◌+◌ as plus_ℕ, ◌<◌, ◌≤◌, ◌⊎◌, inl, inr, [], List}
use Rattle.std.proofs.Common.{◌∷◌, length, get_or, refl, sym, ◌∙◌, ap, subst, arith}
use Rattle.std.proofs.lemmas.Bool.{cases_lt}
use Rattle.ff_theory.specs.Ring.{RingOps, IsCommRing, Elements}
use Rattle.ff_theory.specs.Lawful.{Domain, Lawful, lawful_field, Field}
use Rattle.ff_theory.specs.Poly.{coeff, Poly, poly, polynomials}
use Rattle.ff_theory.specs.Division.{size, IsDivision}
use Rattle.ff_theory.specs.Planes.{planes, Plane, row_of}
use Rattle.ff_theory.specs.Span.{InSpan}
use Rattle.ff_theory.specs.Vector.{vectors_of}
use Rattle.ff_theory.specs.Values.{poly_of, polys_of, plane_of, IsPlane}
use Rattle.ff_theory.specs.Map.{IsMap}
use Rattle.ff_theory.proofs.Division.{x, const_mul_at}
use Rattle.ff_theory.proofs.PolyMap.{polynomial_domain}
use Rattle.ff_theory.proofs.Solver.{◌⊕◌, ◌⊗◌, nil, ring1, ring2}
use Rattle.ff_theory.proofs.Coeffs.{coeff-past}
use Rattle.ff_theory.proofs.Poly.{Poly_ext}
use Rattle.ff_lattice.proofs.Remainders.{poly_at}
use Rattle.ff_charts.specs.Chart.{Chart as ChartOf, at_u, at_theta, IsChart}
use Rattle.ff_charts.specs.Lattice.{HasShape, flat, IsResidue, IsClosed}
use Rattle.ff_charts.proofs.Chart.{at_theta_map, row_times, powers_zero, powers_plane, powers_at}
use Rattle.ff_charts.proofs.Chart.{powers_u}
use Rattle.ff_charts.proofs.InvertedChart.{at_x}
use Rattle.ff_charts.proofs.Lattice.{lat_integral}
use Rattle.ff_lattice.specs.Remainder.{IsCongruent}
use Rattle.ff_lattice.specs.Residues.{AreResidues, IsMultiple}
use Rattle.ff_poly.proofs.LongDivision.{poly-size-le}
use Rattle.ff_lin.specs.Space.{SpaceParts}
use Rattle.ff_elem.specs.Elem.{algebra_in}
use Rattle.ff_data.specs.declared.order.Chart.{Chart}
use Rattle.ff_data.specs.Orders.{chart_of, InResidues}
use Rattle.ff_order.specs.declared.chart.ChartRows.{ChartRows}
use Rattle.ff_order.specs.Rows.{IsChartRows}
use Rattle.ff_order.specs.Steps.{HasResidueShape, HoldsIntegral, IsExact}
use Rattle.ff_order.specs.Closing.{ArePlanesOf, HasMultiples, HasProducts, HasQuotientIn}
use Rattle.ff_order.specs.Closing.{HasResidueIn, IsClosedSpace}
use Rattle.ff_data.proofs.ChartLaws.{algebra_laws, chart_laws}
use Rattle.ff_order.proofs.ChartLaws.{integral_back}
use Rattle.ff_order.proofs.ClosedSpace.{span_subspace, closed_span}
use Rattle.ff_order.proofs.FirstSpace.{row_len_is}
use Rattle.ff_order.proofs.Residues.{equation_len}

module _ (K : Field) (A : RingOps) (AL : IsCommRing A) (c : ChartOf K.ring A)
    (l : IsChart K.ring A c) (m : Poly K.ring) where
  infixl 60 ◌+◌
  infixl 70 ◌*◌
  open A use {add as ◌+◌, mul as ◌*◌, carrier as C}

  V : IsMap (planes K) A (at_theta c)
  V = at_theta_map K A AL c l

  pub congruent_value : (M Q T : Plane K)
      → IsCongruent (polynomials K.ring) c.equation ((planes K).mul M Q) T
      → A.mul (at_theta c M) (at_theta c Q) ≡ at_theta c T
  congruent_value M Q T congruent = sym (V.on_mul M Q) ∙ ap (at_theta c) congruent.sum
      ∙ V.on_add ((planes K).mul congruent.quotient c.equation) T
      ∙ ap (λ t. t + at_theta c T) (V.on_mul congruent.quotient c.equation
      ∙ ap (A.mul (at_theta c congruent.quotient)) l.root)
      ∙ ring2 A AL (λ q r. q ⊗ nil ⊕ r) (λ q r. r) refl (at_theta c congruent.quotient)
      (at_theta c T)

  pub quotient_value : (T Q : Plane K) → IsMultiple K.ring m T Q
      → at_theta c T ≡ A.mul (at_u c m) (at_theta c Q)
  quotient_value T Q e = ap (at_theta c) e ∙ row_times K A AL c l m Q

  pub plane_residue : (N : Plane K) → HasShape K.ring c.degree (pred (size K.ring m)) N
      → IsResidue c m (at_theta c N) N
  plane_residue N shape = record {
    shape = shape;
    rest = A.zero;
    in_powers = powers_zero K A AL c l;
    sum = ring2 A AL (λ v m. v) (λ v m. v ⊕ m ⊗ nil) refl (at_theta c N) (at_u c m);
  }

  pub residues_value : (Q R : Plane K) → size (polynomials K.ring) Q ≤ c.degree
      → AreResidues K.ring m Q R → IsResidue c m (at_theta c Q) R
  residues_value Q R few residues = record {
    shape = record {
      rows = let s : size (polynomials K.ring) R ≤ size (polynomials K.ring) Q = residues.rows in
          omega (arith, s, few);
      each = λ i. let s : size K.ring (coeff (polynomials K.ring) R.coeffs i) < size K.ring m
          = residues.each i in omega (arith, s);
    };
    rest = at_theta c residues.quotient;
    in_powers = powers_plane K A AL c l residues.quotient;
    sum = ap (at_theta c) residues.sum
        ∙ V.on_add R ((planes K).mul (row_of K.ring m) residues.quotient)
        ∙ ap (A.add (at_theta c R)) (row_times K A AL c l m residues.quotient);
  }

-- a division whose remainder has no coefficients
pub exact_division : (F : Elements ℕ) (L : Lawful F) (a b q : Poly F.ring) (r : List ℕ)
    → IsDivision F.ring a b q (poly_of F r) → length r ≡ 0
    → a ≡ (polynomials F.ring).mul b q
unfolding poly
exact_division F L a b q [] h e = h.sum ∙ ring2 (polynomials F.ring)
    (polynomial_domain (lawful_field L)).laws (λ q b. q ⊗ b ⊕ nil) (λ q b. b ⊗ q) refl q b
exact_division F L a b q (c ∷ r) h e = absurd (omega (arith, e))

module _ (F : Elements ℕ) (L : Lawful F) where
  abbrev PD : Domain
  PD = polynomial_domain (lawful_field L)

  -- multiples row by row
  pub multiple_rows : (d : Poly F.ring) (rows items : List (List ℕ))
      → length items ≡ length rows → ((i : ℕ) → i < length rows
      → coeff (polynomials F.ring) (polys_of F rows) i
      ≡ (polynomials F.ring).mul d (coeff (polynomials F.ring) (polys_of F items) i))
      → IsMultiple F.ring d (plane_of F rows) (plane_of F items)
  multiple_rows d rows items len h = Poly_ext (polynomials F.ring) PD.laws PD.tests
      (plane_of F rows) ((polynomials (polynomials F.ring)).mul (row_of F.ring d)
      (plane_of F items))
      (λ i. poly_at (polynomials F.ring) PD.laws PD.tests (polys_of F rows) i
      ∙ each i (cases_lt i (length rows))
      ∙ ap ((polynomials F.ring).mul d)
      (sym (poly_at (polynomials F.ring) PD.laws PD.tests (polys_of F items) i))
      ∙ sym (const_mul_at (polynomials F.ring) PD.laws PD.tests d (plane_of F items) i))
    where
      each : (i : ℕ) → (i < length rows) ⊎ (length rows ≤ i)
          → coeff (polynomials F.ring) (polys_of F rows) i
          ≡ (polynomials F.ring).mul d (coeff (polynomials F.ring) (polys_of F items) i)
      each i (inl l) = h i l
      each i (inr l) = coeff-past (polynomials F.ring) (λ p. poly_of F p) rows i l
          ∙ ring1 (polynomials F.ring) PD.laws (λ d. nil) (λ d. d ⊗ nil) refl d
          ∙ ap ((polynomials F.ring).mul d)
          (sym (coeff-past (polynomials F.ring) (λ p. poly_of F p) items i (omega (arith, len, l))))

module _ (F : Elements ℕ) (L : Lawful F) (f : List (List ℕ)) (hf : IsPlane F f) (two : 1 < length f)
    (chart : Chart) (rows : ChartRows) (h : IsChartRows L f chart rows) where
  abbrev K : Field
  K = lawful_field L

  abbrev A : RingOps
  A = algebra_in L f

  abbrev AL : IsCommRing (algebra_in L f)
  AL = algebra_laws F L f hf two

  abbrev c : ChartOf F.ring (algebra_in L f)
  c = chart_of L f chart

  abbrev l : IsChart F.ring (algebra_in L f) (chart_of L f chart)
  l = chart_laws F L f hf two chart

  abbrev m : Poly F.ring
  m = poly_of F rows.d

  abbrev D : Domain
  D = polynomial_domain (lawful_field L)

  pub residue_of_plane : (N : Plane (lawful_field L)) → HasResidueShape L f chart rows.d N
      → IsResidue (chart_of L f chart) (poly_of F rows.d) (at_theta (chart_of L f chart) N) N
  residue_of_plane N shape = plane_residue K A AL c l m N shape

  pub product_value : (a b t : List (List ℕ))
      → IsCongruent (polynomials F.ring) (plane_of F rows.equation)
      ((planes (lawful_field L)).mul (plane_of F a) (plane_of F b)) (plane_of F t)
      → (algebra_in L f).mul (at_theta (chart_of L f chart) (plane_of F a))
      (at_theta (chart_of L f chart) (plane_of F b))
      ≡ at_theta (chart_of L f chart) (plane_of F t)
  product_value a b t congruent =
      congruent_value K A AL c l m (plane_of F a) (plane_of F b) (plane_of F t)
      (subst (λ e. IsCongruent (polynomials F.ring) e
      ((planes (lawful_field L)).mul (plane_of F a) (plane_of F b)) (plane_of F t)) h.equation_is
      congruent)

  -- the product of two planes, its quotient by d, and the residue of that
  pub quotient_of : (a b t q r : List (List ℕ))
      → IsCongruent (polynomials F.ring) (plane_of F rows.equation)
      ((planes (lawful_field L)).mul (plane_of F a) (plane_of F b)) (plane_of F t)
      → length t < length rows.equation → length q < plus_ℕ (length t) 1
      → IsMultiple F.ring (poly_of F rows.d) (plane_of F t) (plane_of F q)
      → AreResidues F.ring (poly_of F rows.d) (plane_of F q) (plane_of F r)
      → ((algebra_in L f).mul (at_theta (chart_of L f chart) (plane_of F a))
      (at_theta (chart_of L f chart) (plane_of F b))
      ≡ (algebra_in L f).mul (at_u (chart_of L f chart) (poly_of F rows.d))
      (at_theta (chart_of L f chart) (plane_of F q)))
      × IsResidue (chart_of L f chart) (poly_of F rows.d)
      (at_theta (chart_of L f chart) (plane_of F q)) (plane_of F r)
  quotient_of a b t q r congruent small few multiple residues = (
    product_value a b t congruent ∙ quotient_value K A AL c l m (plane_of F t)
        (plane_of F q) multiple,
    residues_value K A AL c l m (plane_of F q) (plane_of F r)
        (let s : size (polynomials F.ring) (plane_of F q) ≤ length q = poly-size-le
        (polynomials F.ring) D.laws D.tests (λ p. poly_of F p) q in
        let e : length rows.equation ≡ suc (chart_of L f chart).degree =
        equation_len F L f hf two chart rows h in omega (arith, s, e, small, few)) residues,
  )

  module _ (space : SpaceParts) (planes : List (List (List ℕ)))
      (ps : ArePlanesOf L f chart rows.d space.basis planes) where
    abbrev δ : ℕ
    δ = pred (length rows.d)

    abbrev N : ℕ → Plane (lawful_field L)
    N i = plane_of F (get_or planes i [])

    len_is : pred (size F.ring (poly_of F rows.d)) ≡ pred (length rows.d)
    len_is = row_len_is F L f hf two chart rows.d h.d

    -- a residue in the space, with the length of a row as the theory has it
    residue_at : (w : (algebra_in L f).carrier) → HasResidueIn L f chart rows.d space w
        → (R : Plane (lawful_field L)) × (IsResidue (chart_of L f chart) (poly_of F rows.d) w R
        × InSpan F.ring (length space.basis) (vectors_of F space.basis)
        (flat F.ring (pred (size F.ring (poly_of F rows.d))) R))
    residue_at w q = (
      q.0,
      (
        q.1.0,
        subst (λ e. InSpan F.ring (length space.basis) (vectors_of F space.basis)
            (flat F.ring e q.0)) (sym len_is) q.1.1,
      ),
    )

    pub closed_space : HasMultiples L f chart rows.d space planes (length planes)
        (chart_of L f chart).u → HasMultiples L f chart rows.d space planes (length planes)
        (chart_of L f chart).theta → ((i : ℕ) → i < length planes
        → HasProducts L f chart rows.d space planes i (plus_ℕ i 1))
        → IsClosedSpace L f chart rows.d space
    closed_space by_u by_theta products = subst (λ e. IsClosed (chart_of L f chart)
        (poly_of F rows.d)
        (InResidues F e space)) len_is
        (closed_span K A AL c l m h.modulus (length space.basis) (vectors_of F space.basis) N
        (λ i b. (ps.each i b).shape) (λ i b. (ps.each i b).value)
        (powers_at K A AL c l (at_x F.ring L.laws L.tests A AL c.constant l.constants c.u)
        (powers_u K A AL c l (x F.ring L.laws L.tests)))
        (λ i b. residue_at _ (by_u i (omega (arith, b, ps.len))))
        (λ i b. residue_at _ (by_theta i (omega (arith, b, ps.len))))
        (λ i j a b. go i j (omega (arith, a, ps.len)) (omega (arith, b, ps.len)) (cases_lt i j)))
      where
        at : (w : (algebra_in L f).carrier) → HasQuotientIn L f chart rows.d space w
            → (x : (algebra_in L f).carrier) × ((w ≡ A.mul (at_u c m) x)
            × ((R : Plane (lawful_field L)) × (IsResidue (chart_of L f chart) (poly_of F rows.d) x R
            × InSpan F.ring (length space.basis) (vectors_of F space.basis)
            (flat F.ring (pred (size F.ring (poly_of F rows.d))) R))))
        at w q = (q.0, (q.1.0, residue_at q.0 q.1.1))

        go : (i j : ℕ) → i < length planes → j < length planes → (i < j) ⊎ (j ≤ i)
            → (x : (algebra_in L f).carrier)
            × ((A.mul (at_theta c (N i)) (at_theta c (N j)) ≡ A.mul (at_u c m) x)
            × ((R : Plane (lawful_field L)) × (IsResidue (chart_of L f chart) (poly_of F rows.d) x R
            × InSpan F.ring (length space.basis) (vectors_of F space.basis)
            (flat F.ring (pred (size F.ring (poly_of F rows.d))) R))))
        go i j a b (inl s) = let q = at (A.mul (at_theta c (N j)) (at_theta c (N i)))
            (products j b i (omega (arith, s))) in (
              q.0,
              (AL.mul_comm (at_theta c (N i)) (at_theta c (N j)) ∙ q.1.0, q.1.1),
            )
        go i j a b (inr s) = at (A.mul (at_theta c (N i)) (at_theta c (N j)))
            (products i a j (omega (arith, s)))

  -- a closed lattice that has the integral elements has no others
  pub closed_exact : (space : SpaceParts) → HoldsIntegral L f chart rows.d space
      → IsClosedSpace L f chart rows.d space → IsExact L f chart rows.d space
  closed_exact space holds closed w = (
    λ k. integral_back F L f hf two chart w (lat_integral K A AL c l m h.modulus
        (InResidues F (pred (length rows.d)) space) zero_in closed w k),
    holds w,
  )
    where
      zero_in : InResidues F (pred (length rows.d)) space (planes K).zero
      zero_in = subst (λ e. InResidues F e space (planes K).zero) (row_len_is F L f hf two chart
          rows.d h.d) (span_subspace K A AL c l m h.modulus (length space.basis)
          (vectors_of F space.basis)).on_zero
