-- The residue at infinity of an element with a numerator, from the reversals of the quotients of
-- its rows, for an equation f over a field whose laws are L.
use Rattle.std.proofs.Common.{◌≡◌, ℕ, zero, suc, pred, ◌+◌ as plus_ℕ, ◌-◌, ◌*◌ as times_ℕ, ◌<◌}
use Rattle.std.proofs.Common.{◌≤◌, ◌⊎◌, inl, inr, List, [], ◌∷◌, length, get_or, refl, sym, ◌∙◌}
use Rattle.std.proofs.Common.{ap, subst, arith, map, All, Result, Ok, Err, IfOk}
use Rattle.std.specs.Global.{Vec}
use Rattle.std.proofs.lemmas.Bool.{cases_lt}
use Rattle.ff_theory.specs.Ring.{RingOps, IsCommRing, Elements, power}
use Rattle.ff_theory.specs.Lawful.{Domain, Field, Lawful, lawful_field}
use Rattle.ff_theory.specs.Poly.{coeff, Poly, polynomials}
use Rattle.ff_theory.specs.Division.{size, IsDivision}
use Rattle.ff_theory.specs.Monomial.{variable}
use Rattle.ff_theory.specs.Reversal.{reversal}
use Rattle.ff_theory.specs.Values.{poly_of, polys_of, plane_of, IsPoly, ArePolys, IsPlane, x_size}
use Rattle.ff_theory.specs.Vector.{vector_of, vectors_of}
use Rattle.ff_theory.proofs.Solver.{◌⊗◌, unit, ring2}
use Rattle.ff_theory.proofs.Division.{size-mul, zero_from}
use Rattle.ff_theory.proofs.PolyMap.{polynomial_domain, zero_size}
use Rattle.std.proofs.lemmas.List.{length-map}
use Rattle.ff_charts.specs.Chart.{Chart as ChartOf, IsChart}
use Rattle.ff_charts.specs.FieldCharts.{t_of}
use Rattle.ff_charts.specs.Lattice.{HasShape, flat}
use Rattle.ff_charts.proofs.InfiniteChart.{t_inverts}
use Rattle.ff_charts.proofs.InvertedChart.{variable_size}
use Rattle.ff_charts.proofs.Reversal.{reversal_size}
use Rattle.ff_charts.proofs.Rows.{poly_size}
use Rattle.ff_poly.proofs.LongDivision.{poly-size}
use Rattle.ff_poly.proofs.RowLists.{row-length, row-value}
use Rattle.ff_lattice.proofs.Remainders.{poly_at}
use Rattle.ff_elem.specs.Elem.{algebra_in}
use Rattle.ff_elem.proofs.Reduction.{plane-size}
use Rattle.ff_data.specs.declared.order.Chart.TheVariants.{Finite}
use Rattle.ff_data.specs.Orders.{chart_of, slope_of}
use Rattle.ff_data.specs.Quotients.{IsRaisedQuotient}
use Rattle.ff_data.proofs.ChartLaws.{has, fits, algebra_laws, chart_laws, chart_degree}
use Rattle.ff_common.specs.Common.{AreQuotients, IsReversed, IsImage}
use Rattle.ff_common.specs.Common.{AreQuotientLists, AreReversed, AreImages}
use Rattle.ff_quotients.proofs.QuotientResidues.{element_residue}

-- a list with an index has an entry
pub some_at : {X : Type 0} (xs : List X) (i : ℕ) → i < length xs → (Q : Type 0) → (X → Q) → Q
some_at [] i l Q k = absurd (omega (arith, l))
some_at (x ∷ xs) i l Q k = k x

-- the plane of reversed rows
pub record ReversedPlane (F : Elements ℕ) (n h : ℕ) (q : List (List ℕ))
    (M : Poly (polynomials F.ring)) : Type 0 where
  pub few : size (polynomials F.ring) M ≤ length q
  pub shape : HasShape F.ring n h M
  pub each : (i : ℕ) → i < length q → coeff (polynomials F.ring) M.coeffs i
      ≡ reversal F.ring (h - 1) (coeff (polynomials F.ring) (polys_of F q) i)

pub reversed_plane : (F : Elements ℕ) (L : Lawful F) (n h : ℕ) (q items r : List (List ℕ)) → 0 < h
    → length q ≤ n → length items ≡ length q
    → ((i : ℕ) → i < length q → coeff (polynomials F.ring) (polys_of F items) i
    ≡ reversal F.ring (h - 1) (coeff (polynomials F.ring) (polys_of F q) i))
    → plane_of F r ≡ plane_of F items → ReversedPlane F n h q (plane_of F r)
reversed_plane F L n h q items r positive few len each same = record {
  few = rows;
  shape = record { rows = omega (arith, rows, few); each = λ i. small i (cases_lt i (length q)) };
  each = λ i l. at i ∙ each i l;
}
  where
    K : Field
    K = lawful_field L

    P : Domain
    P = polynomial_domain (lawful_field L)

    at : (i : ℕ) → coeff (polynomials F.ring) (plane_of F r).coeffs i
        ≡ coeff (polynomials F.ring) (polys_of F items) i
    at i = ap (λ (M : Poly (polynomials F.ring)). coeff (polynomials F.ring) M.coeffs i) same
        ∙ poly_at (polynomials F.ring) P.laws P.tests (polys_of F items) i

    rows : size (polynomials F.ring) (plane_of F r) ≤ length q
    rows = let s : size (polynomials F.ring) (plane_of F items) ≤ length (polys_of F items)
        = poly_size (polynomials F.ring) P.laws P.tests (polys_of F items) in
        omega (
          arith,
          s,
          length-map items (λ p. poly_of F p),
          len,
          ap (size (polynomials F.ring))
              same,
        )

    small : (i : ℕ) → (i < length q) ⊎ (length q ≤ i)
        → size F.ring (coeff (polynomials F.ring) (plane_of F r).coeffs i) ≤ h
    small i (inl l) = let s : size F.ring (coeff (polynomials F.ring) (plane_of F r).coeffs i)
        ≡ size F.ring (reversal F.ring (h - 1) (coeff (polynomials F.ring) (polys_of F q) i))
        = ap (size F.ring) (at i ∙ each i l) in
        let b : size F.ring (reversal F.ring (h - 1)
        (coeff (polynomials F.ring) (polys_of F q) i)) ≤ suc (h - 1)
        = reversal_size K (h - 1) (coeff (polynomials F.ring) (polys_of F q) i) in
        omega (arith, s, b, positive)
    small i (inr l) = let s : size F.ring (coeff (polynomials F.ring) (plane_of F r).coeffs i)
        ≡ size F.ring P.zero = ap (size F.ring) (zero_from (polynomials F.ring) P.laws P.tests
        (plane_of F r) i (omega (arith, rows, l))) in
        let z : size F.ring P.zero ≡ 0 = zero_size K in omega (arith, s, z)

-- the quotients, as the calls give them
pub quotients_are : (F : Elements ℕ) (L : Lawful F) (f : List (List ℕ)) (hf : IsPlane F f)
    (two : 1 < length f) (by : List ℕ) (l e : ℕ) → e ≡ slope_of L f → (v : List ℕ)
    (given : List (List ℕ)) → given ≡ f → (plane : List (List ℕ)) → IsPlane F plane
    → HasShape F.ring (length given - 1) l (plane_of F plane)
    → ((j : ℕ) → flat F.ring l (plane_of F plane) j ≡ vector_of F v j) → (rows : List (List ℕ))
    → rows ≡ plane → {X : Type 0} (r : Result (Vec (List ℕ)) X)
    → IfOk r (λ r. length r.items ≡ length rows) → IfOk r (λ r. ArePolys F r.items)
    → IfOk r (λ r. (i : ℕ) → i < length rows → IsRaisedQuotient F (poly_of F by)
    (times_ℕ (plus_ℕ 0 i) e) (coeff (polynomials F.ring) (polys_of F rows) i)
    (coeff (polynomials F.ring) (polys_of F r.items) i))
    → IfOk r (λ r. AreQuotients L f (poly_of F by) l (vector_of F v) r.items)
quotients_are F L f hf two by l e slope v given hg plane hp shape value rows hr (Err x) len polys
    each = each
quotients_are F L f hf two by l e slope v given hg plane hp shape value rows hr (Ok r) len polys
    each = record {
      plane = plane_of F plane;
      shape = subst (λ n. HasShape F.ring n l (plane_of F plane)) degree shape;
      vector = value;
      rows = record {
        polys = polys;
        few = let s : size (polynomials F.ring) (plane_of F plane) ≤ length given - 1 = shape.rows
            in omega (arith, s, len, ap length hr, plane-size F L plane hp, ap length hg);
      };
      whole = omega (arith, plane-size F L plane hp, len, ap length hr);
      each = λ i h. subst (λ m. IsRaisedQuotient F (poly_of F by) m
          (coeff (polynomials F.ring) (plane_of F plane).coeffs i)
          (coeff (polynomials F.ring) (polys_of F r.items) i))
          (let z : times_ℕ (plus_ℕ 0 i) e ≡ times_ℕ i e = omega arith in
          z ∙ ap (times_ℕ i) slope)
          (subst (λ a. IsRaisedQuotient F (poly_of F by) (times_ℕ (plus_ℕ 0 i) e) a
          (coeff (polynomials F.ring) (polys_of F r.items) i)) (row i)
          (each i (omega (arith, h, len))));
    }
  where
    P : Domain
    P = polynomial_domain (lawful_field L)

    degree : length given - 1 ≡ (chart_of L f Finite).degree
    degree = ap (λ t. length t - 1) hg ∙ sym (chart_degree F L f hf two Finite)

    row : (i : ℕ) → coeff (polynomials F.ring) (polys_of F rows) i
        ≡ coeff (polynomials F.ring) (plane_of F plane).coeffs i
    row i = ap (λ t. coeff (polynomials F.ring) (polys_of F t) i) hr
        ∙ sym (poly_at (polynomials F.ring) P.laws P.tests (polys_of F plane) i)

module _ (F : Elements ℕ) (L : Lawful F) (d : List ℕ) (hd : IsPoly F d) (nonzero : 0 < length d)
  where
    abbrev DK : Field
    DK = lawful_field L

    abbrev DP : Domain
    DP = polynomial_domain (lawful_field L)

    pub d_size : size F.ring (poly_of F d) ≡ suc (pred (length d))
    d_size = let s : size F.ring (poly_of F d) ≡ length d = poly-size F.ring L.laws L.tests F.value
        d hd.canonical in omega (arith, s, nonzero)

    pub by_is : (polynomials F.ring).mul (power (polynomials F.ring) (variable F.ring) 1)
        (poly_of F d) ≡ (polynomials F.ring).mul (variable F.ring) (poly_of F d)
    by_is = ring2 DP.ring DP.laws (λ x d. (x ⊗ unit) ⊗ d) (λ x d. x ⊗ d) refl (variable F.ring)
        (poly_of F d)

    -- the length of x * d
    pub by_length : (p : List ℕ) → IsPoly F p → poly_of F p ≡ (polynomials F.ring).mul
        (power (polynomials F.ring) (variable F.ring) 1) (poly_of F d) → 0 < length p
    by_length p hp e = let s : size F.ring (poly_of F p) ≡ length p = poly-size F.ring L.laws
        L.tests F.value p hp.canonical in
        let z : size F.ring (DP.mul (variable F.ring) (poly_of F d))
        ≡ suc (plus_ℕ 1 (pred (length d)))
        = size-mul DK (variable F.ring) (poly_of F d) 1
        (pred (length d)) (variable_size DK) d_size in
        omega (arith, s, z, ap (size F.ring) (e ∙ by_is))

module _ (F : Elements ℕ) (L : Lawful F) (f : List (List ℕ)) (hf : IsPlane F f) (two : 1 < length f)
    (d : List ℕ) (hd : IsPoly F d) (nonzero : 0 < length d) (l : ℕ) where
  abbrev K : Field
  K = lawful_field L

  abbrev P : Domain
  P = polynomial_domain (lawful_field L)

  abbrev A : RingOps
  A = algebra_in L f

  AL : IsCommRing (algebra_in L f)
  AL = algebra_laws F L f hf two

  abbrev C : ChartOf F.ring (algebra_in L f)
  C = chart_of L f Finite

  CL : IsChart F.ring (algebra_in L f) (chart_of L f Finite)
  CL = chart_laws F L f hf two Finite

  tu : (algebra_in L f).mul (t_of (lawful_field L) (plane_of F f)) (chart_of L f Finite).u
      ≡ (algebra_in L f).one
  tu = t_inverts (lawful_field L) (plane_of F f) (length f - 1) (has F L f hf two)

  abbrev by : Poly F.ring
  by = (polynomials F.ring).mul (variable F.ring) (poly_of F d)

  module _ (q : List (List ℕ)) (v : ℕ → F.carrier)
      (are : AreQuotients L f ((polynomials F.ring).mul (variable F.ring) (poly_of F d)) l v q)
    where
      abbrev Q : ℕ → Poly F.ring
      Q i = coeff (polynomials F.ring) (polys_of F q) i

      abbrev pick : (i : ℕ) → (i < length q) ⊎ (length q ≤ i) → Poly F.ring
      pick i (inl l) = (are.each i l).0
      pick i (inr l) = P.zero

      R : ℕ → Poly F.ring
      R i = pick i (cases_lt i (length q))

      division : (i : ℕ) → i < length q → IsDivision F.ring ((polynomials F.ring).mul
          (power (polynomials F.ring) (variable F.ring) (times_ℕ (plus_ℕ 0 i) (slope_of L f)))
          (coeff (polynomials F.ring) are.plane.coeffs i))
          ((polynomials F.ring).mul (variable F.ring) (poly_of F d)) (Q i) (R i)
      unfolding R
      division i h = subst (λ m. IsDivision F.ring ((polynomials F.ring).mul
          (power (polynomials F.ring) (variable F.ring) (times_ℕ m (slope_of L f)))
          (coeff (polynomials F.ring) are.plane.coeffs i)) by (Q i) (R i))
          (let z : i ≡ plus_ℕ 0 i = omega arith in z) (go (cases_lt i (length q)))
        where
          go : (c : (i < length q) ⊎ (length q ≤ i)) → IsDivision F.ring ((polynomials F.ring).mul
              (power (polynomials F.ring) (variable F.ring) (times_ℕ i (slope_of L f)))
              (coeff (polynomials F.ring) are.plane.coeffs i)) by (Q i) (pick i c)
          go (inl k) = (are.each i k).1
          go (inr k) = absurd (omega (arith, h, k))

      small : (j : ℕ) → x_size q ≤ suc j → (i : ℕ) → i < length q → size F.ring (Q i) ≤ suc j
      small j w i h = let e : size F.ring (Q i) ≡ size F.ring (poly_of F (get_or q i []))
          = ap (size F.ring) (sym (row-value F q i)) in
          let s : size F.ring (poly_of F (get_or q i [])) ≤ length (get_or q i [])
          = let t = poly_size F.ring L.laws L.tests (map F.value (get_or q i [])) in
          omega (arith, t, length-map (get_or q i []) F.value) in
          omega (arith, e, s, row-length q i, w)

      pub image_of : (h : ℕ) → 0 < h → x_size q ≤ h → (image : ℕ → F.carrier)
          → IsReversed F h q image → IsImage L f d l h v image
      image_of zero positive w image r = absurd (omega (arith, positive))
      image_of (suc j) positive w image r = record {
        plane = are.plane;
        shape = are.shape;
        vector = are.vector;
        residue = r.plane;
        is_residue = λ w over. element_residue K A AL C CL (t_of K (plane_of F f)) tu (slope_of L f)
            (fits F L f hf two) 0 (poly_of F d) (pred (length d))
            (d_size F L d hd nonzero) are.plane (length q)
            are.whole
            (let few : length q ≤ length f - 1 = are.rows.few in
            omega (arith, few, chart_degree F L f hf two Finite)) j Q R division (small j w') w over
            refl r.plane r.few
            (λ i h. r.each i h ∙ (let z : suc j - 1 ≡ j = omega arith in
            ap (λ m. reversal F.ring m (Q i)) z));
        image_is = r.image_is;
      }
        where
          w' : x_size q ≤ suc j
          w' = w

  -- for lists, as the calls give them
  pub images_are : (h : ℕ) → 0 < h → (lists : List (Vec (List ℕ))) (vectors images : List (List ℕ))
      → AreQuotientLists L f ((polynomials F.ring).mul (variable F.ring) (poly_of F d)) l vectors
      lists → All (λ v. x_size v.items ≤ h) lists → AreReversed F h lists images
      → AreImages L f d l h vectors images
  images_are h positive lists vectors images are wide reversed i q = some_at lists i
      (omega (arith, q, are.count)) _ (λ x. image_of (get_or lists i x).items
      (vectors_of F vectors i) (are.each i x q) h positive (wide i x (omega (arith, q, are.count)))
      (vectors_of F images i) (reversed i x (omega (arith, q, are.count))))
