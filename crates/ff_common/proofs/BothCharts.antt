-- What a lattice of the finite chart and one of the infinite chart have in common, for an equation
-- f over a field whose laws are L: by numerators over the denominator of the first, and quotients.
use Rattle.std.proofs.Common.{◌≡◌, ℕ, suc, pred, ◌+◌ as plus_ℕ, ◌-◌, ◌*◌ as times_ℕ, ◌<◌}
use Rattle.std.proofs.Common.{◌≤◌, ◌⊎◌, inl, inr, List, length, refl, sym, ◌∙◌, ap, ap₂}
use Rattle.std.proofs.Common.{subst, arith}
use Rattle.std.proofs.lemmas.Bool.{cases_lt}
use Rattle.ff_theory.specs.Ring.{RingOps, IsCommRing, Elements, power}
use Rattle.ff_theory.specs.Lawful.{Domain, Field, Lawful, lawful_field}
use Rattle.ff_theory.specs.Map.{IsMap}
use Rattle.ff_theory.specs.Poly.{coeff, Poly, polynomials}
use Rattle.ff_theory.specs.Division.{size, IsDivision}
use Rattle.ff_theory.specs.Monomial.{variable}
use Rattle.ff_theory.specs.Planes.{planes, Plane, row_of}
use Rattle.ff_theory.specs.Reversal.{reversal, Fits}
use Rattle.ff_theory.specs.Values.{plane_of, IsPlane}
use Rattle.ff_theory.proofs.Solver.{◌⊕◌, ◌⊗◌, nil, unit, ring1}
use Rattle.ff_theory.proofs.Powers.{power-add}
use Rattle.ff_theory.proofs.Division.{size_le, size-mul, zero_from, add_at, const_mul_at}
use Rattle.ff_theory.proofs.PolyMap.{polynomial_domain}
use Rattle.ff_theory.proofs.Quotient.{quotient_of, remainder_of, divides}
use Rattle.ff_theory.proofs.QuotientUnits.{unit_poly}
use Rattle.ff_charts.specs.Chart.{Chart as ChartOf, at_u, at_theta, InPowers, IsChart}
use Rattle.ff_charts.specs.FieldCharts.{t_of}
use Rattle.ff_charts.specs.Lattice.{HasShape, IsTimes, IsResidue, InLattice}
use Rattle.ff_charts.proofs.Chart.{at_u_map, at_theta_map, row_times, Reduced, reduced}
use Rattle.ff_charts.proofs.FiniteChart.{finite_is_chart}
use Rattle.ff_charts.proofs.InfiniteChart.{t_inverts}
use Rattle.ff_charts.proofs.InvertedChart.{bound, inverted_is_chart, variable_size}
use Rattle.ff_charts.proofs.Lattice.{residue_one, rescale_into, rescale_back}
use Rattle.ff_charts.proofs.Reversal.{reversal_at}
use Rattle.ff_charts.proofs.Rows.{polynomial_of, polynomial_at, polynomial_size}
use Rattle.ff_elem.specs.Elem.{algebra_in}
use Rattle.ff_data.specs.declared.order.Chart.TheVariants.{Finite, Infinite}
use Rattle.ff_data.specs.Orders.{chart_of, slope_of}
use Rattle.ff_data.proofs.ChartLaws.{has, fits, algebra_laws}
use Rattle.ff_quotients.proofs.QuotientResidues.{element_residue, shift_low, short_quotient}

-- a reversal with zeros before it is that of a short polynomial
pub short_reversal : (K : Field) (j m : ℕ) (Q p : Poly K.ring) → m ≤ suc j
    → reversal K.ring j Q ≡ (polynomials K.ring).mul
    (power (polynomials K.ring) (variable K.ring) (suc j - m)) p
    → size K.ring Q ≤ suc j → size K.ring Q ≤ m
short_reversal K j m Q p l e s = size_le K.ring K.laws K.tests Q m (λ b h. go b h (cases_lt j b))
  where
    go : (b : ℕ) → m ≤ b → (j < b) ⊎ (b ≤ j) → coeff K.ring Q.coeffs b ≡ K.zero
    go b h (inl q) = zero_from K.ring K.laws K.tests Q b (omega (arith, s, q))
    go b h (inr q) = (let z : b ≡ j - (j - b) = omega (arith, q) in ap (coeff K.ring Q.coeffs) z)
        ∙ sym (reversal_at K j Q (j - b) (omega arith))
        ∙ ap (λ (r : Poly K.ring). coeff K.ring r.coeffs (j - b)) e
        ∙ shift_low K (suc j - m) p (j - b) (omega (arith, h, q, l))

module _ (F : Elements ℕ) (L : Lawful F) (f : List (List ℕ)) (hf : IsPlane F f) (two : 1 < length f)
  where
    abbrev K : Field
    K = lawful_field L

    abbrev P : Domain
    P = polynomial_domain (lawful_field L)

    abbrev A : RingOps
    A = algebra_in L f

    abbrev AL : IsCommRing (algebra_in L f)
    AL = algebra_laws F L f hf two

    abbrev C : ChartOf F.ring (algebra_in L f)
    C = chart_of L f Finite

    abbrev B : ChartOf F.ring (algebra_in L f)
    B = chart_of L f Infinite

    CL : IsChart F.ring (algebra_in L f) (chart_of L f Finite)
    CL = finite_is_chart (lawful_field L) (plane_of F f) (length f - 1) (has F L f hf two)

    abbrev t : (algebra_in L f).carrier
    t = t_of (lawful_field L) (plane_of F f)

    tu : (algebra_in L f).mul (t_of (lawful_field L) (plane_of F f)) (chart_of L f Finite).u
        ≡ (algebra_in L f).one
    tu = t_inverts (lawful_field L) (plane_of F f) (length f - 1) (has F L f hf two)

    fit : Fits F.ring (chart_of L f Finite).degree (chart_of L f Finite).equation (slope_of L f)
    fit = fits F L f hf two

    BL : IsChart F.ring (algebra_in L f) (chart_of L f Infinite)
    BL = inverted_is_chart (lawful_field L) A AL C CL t tu (slope_of L f) fit

    U : IsMap (polynomials F.ring) (algebra_in L f) (at_u (chart_of L f Finite))
    U = at_u_map K A AL C CL

    abbrev X : Poly F.ring
    X = variable F.ring

    abbrev X_to : ℕ → Poly F.ring
    X_to m = power (polynomials F.ring) (variable F.ring) m

    -- an element of the finite power order is a plane at x and y'
    pub order_plane : (b : (algebra_in L f).carrier) → InPowers (chart_of L f Finite) b
        → (N : Plane (lawful_field L))
        × ((size (polynomials F.ring) N ≤ (chart_of L f Finite).degree)
        × (b ≡ at_theta (chart_of L f Finite) N))
    order_plane b p = (
      r.plane,
      (
        r.small,
        ring1 A AL (λ b. b) (λ b. unit ⊗ b) refl b
            ∙ ap (λ t. A.mul t b) (sym (ap (at_u C) i.1 ∙ U.on_one) ∙ U.on_mul i.0 p.unit)
            ∙ AL.mul_assoc (at_u C i.0) (at_u C p.unit) b ∙ ap (A.mul (at_u C i.0)) p.clears
            ∙ sym (row_times K A AL C CL i.0 p.nums) ∙ r.same_value,
      ),
    )
      where
        i : (h : Poly F.ring) × ((polynomials F.ring).mul h p.unit ≡ (polynomials F.ring).one)
        i = unit_poly K p.unit p.is_unit

        r : Reduced K A AL C CL ((planes (lawful_field L)).mul (row_of F.ring i.0) p.nums)
        r = reduced K A AL C CL ((planes K).mul (row_of F.ring i.0) p.nums)

    -- The residue of t^(j + 1) * w tells whether w is in a lattice of a lower power of t.
    module _ (j : ℕ) (w : (algebra_in L f).carrier) (M : Plane (lawful_field L))
        (image : IsResidue (chart_of L f Infinite)
        (power (polynomials F.ring) (variable F.ring) (suc j))
        ((algebra_in L f).mul (at_u (chart_of L f Infinite)
        (power (polynomials F.ring) (variable F.ring) (suc j))) w) M)
        (m : ℕ) (below : m ≤ suc j) (V : Plane (lawful_field L) → Type 0) where
      abbrev g : Poly F.ring
      g = X_to (suc j - m)

      whole : (polynomials F.ring).mul (power (polynomials F.ring) (variable F.ring)
          (suc j - m)) (power (polynomials F.ring) (variable F.ring) m)
          ≡ power (polynomials F.ring) (variable F.ring) (suc j)
      whole = sym (power-add P.ring P.laws X (suc j - m) m)
          ∙ (let z : plus_ℕ (suc j - m) m ≡ suc j = omega (arith, below) in
          ap (power (polynomials F.ring) (variable F.ring)) z)

      abbrev gV : Plane (lawful_field L) → Type 0
      gV = IsTimes F.ring (chart_of L f Infinite).degree
          (pred (size F.ring (power (polynomials F.ring) (variable F.ring) m)))
          (power (polynomials F.ring) (variable F.ring) (suc j - m)) V

      pub image_into : InLattice (chart_of L f Infinite)
          (power (polynomials F.ring) (variable F.ring) m) V w
          → IsTimes F.ring (chart_of L f Infinite).degree
          (pred (size F.ring (power (polynomials F.ring) (variable F.ring) m)))
          (power (polynomials F.ring) (variable F.ring) (suc j - m)) V M
      image_into h = at (subst (λ x. InLattice B x gV w) whole
          (rescale_into K A AL B BL (X_to m) (m, refl) g (suc j - m, refl) V w h))
        where
          at : InLattice (chart_of L f Infinite)
              (power (polynomials F.ring) (variable F.ring) (suc j)) gV w → gV M
          at r = subst gV (residue_one K A AL B BL (X_to (suc j)) (suc j, refl) _ r.nums M
              r.residue image) r.is_in

      pub image_back : IsTimes F.ring (chart_of L f Infinite).degree
          (pred (size F.ring (power (polynomials F.ring) (variable F.ring) m)))
          (power (polynomials F.ring) (variable F.ring) (suc j - m)) V M
          → InLattice (chart_of L f Infinite)
          (power (polynomials F.ring) (variable F.ring) m) V w
      image_back h = rescale_back K A AL B BL (X_to m) (m, refl) g (suc j - m, refl) V w
          (subst (λ x. InLattice B x gV w) (sym whole)
          (record { nums = M; is_in = h; residue = image }))

    -- The quotients of the rows of a plane N make that residue for N over d.
    module _ (d : Poly F.ring) (k : ℕ) (hd : size F.ring d ≡ suc k) (N : Plane (lawful_field L))
        (few : size (polynomials F.ring) N ≤ (chart_of L f Finite).degree) (j : ℕ)
        (Q R : ℕ → Poly F.ring) (division : (i : ℕ) → i < (chart_of L f Finite).degree
        → IsDivision F.ring ((polynomials F.ring).mul (power (polynomials F.ring)
        (variable F.ring) (times_ℕ (plus_ℕ 0 i) (slope_of L f)))
        (coeff (polynomials F.ring) N.coeffs i)) ((polynomials F.ring).mul (variable F.ring) d)
        (Q i) (R i))
        (small : (i : ℕ) → i < (chart_of L f Finite).degree → size F.ring (Q i) ≤ suc j)
        (w : (algebra_in L f).carrier) (over : (algebra_in L f).mul (at_u (chart_of L f Finite) d) w
        ≡ at_theta (chart_of L f Finite) N) (M : Plane (lawful_field L))
        (fewM : size (polynomials F.ring) M ≤ (chart_of L f Finite).degree)
        (rows : (i : ℕ) → i < (chart_of L f Finite).degree
        → coeff (polynomials F.ring) M.coeffs i ≡ reversal F.ring j (Q i)) where
      pub image_residue : IsResidue (chart_of L f Infinite)
          (power (polynomials F.ring) (variable F.ring) (suc j))
          ((algebra_in L f).mul (at_u (chart_of L f Infinite)
          (power (polynomials F.ring) (variable F.ring) (suc j))) w) M
      image_residue = element_residue K A AL C CL t tu (slope_of L f) fit 0 d k hd N C.degree few
          (let z : C.degree ≤ C.degree = omega arith in z) j Q R division small w over refl M fewM
          rows

      -- and where it is in the lattice they are short
      pub short_quotients : (m : ℕ) (below : m ≤ suc j) (V : Plane (lawful_field L) → Type 0)
          → InLattice (chart_of L f Infinite)
          (power (polynomials F.ring) (variable F.ring) m) V w → (i : ℕ)
          → i < (chart_of L f Finite).degree → size F.ring (Q i) ≤ m
      short_quotients m below V h i l = short_reversal K j m (Q i)
          (coeff (polynomials F.ring) s.part.coeffs i) below
          (sym (rows i l) ∙ ap (λ (T : Plane (lawful_field L)). coeff (polynomials F.ring)
          T.coeffs i) s.product ∙ const_mul_at (polynomials F.ring) P.laws P.tests
          (X_to (suc j - m)) s.part i)
          (small i l)
        where
          s : IsTimes F.ring (chart_of L f Infinite).degree
              (pred (size F.ring (power (polynomials F.ring) (variable F.ring) m)))
              (power (polynomials F.ring) (variable F.ring) (suc j - m)) V M
          s = image_into j w M image_residue m below V h

    -- An element of both lattices is N + d * q over d, where q is short.
    pub record Numerators (d : Poly F.ring) (S : Plane (lawful_field L) → Type 0) (m : ℕ)
        (w : (algebra_in L f).carrier) : Type 0 where
      pub low : Plane (lawful_field L)
      pub high : Plane (lawful_field L)
      pub shape : HasShape F.ring (chart_of L f Finite).degree (pred (size F.ring d)) low
      pub is_in : S low
      pub few : size (polynomials F.ring) high ≤ (chart_of L f Finite).degree
      pub short : (i : ℕ) → i < (chart_of L f Finite).degree
          → size F.ring (coeff (polynomials F.ring) high.coeffs i)
          ≤ suc m - times_ℕ i (slope_of L f)
      pub over : (algebra_in L f).mul (at_u (chart_of L f Finite) d) w
          ≡ at_theta (chart_of L f Finite) ((planes (lawful_field L)).add low
          ((planes (lawful_field L)).mul (row_of F.ring d) high))

    module _ (d : Poly F.ring) (k : ℕ) (hd : size F.ring d ≡ suc k) (m : ℕ)
        (S V : Plane (lawful_field L) → Type 0) (w : (algebra_in L f).carrier)
        (finite : InLattice (chart_of L f Finite) d S w)
        (infinite : InLattice (chart_of L f Infinite)
        (power (polynomials F.ring) (variable F.ring) m) V w) where
      abbrev n : ℕ
      n = C.degree

      rest : (N : Plane (lawful_field L))
          × ((size (polynomials F.ring) N ≤ (chart_of L f Finite).degree)
          × (finite.residue.rest ≡ at_theta (chart_of L f Finite) N))
      rest = order_plane finite.residue.rest finite.residue.in_powers

      abbrev N0 : Plane (lawful_field L)
      N0 = finite.nums

      abbrev N : Plane (lawful_field L)
      N = (planes (lawful_field L)).add finite.nums
          ((planes (lawful_field L)).mul (row_of F.ring d) rest.0)

      over : (algebra_in L f).mul (at_u (chart_of L f Finite) d) w
          ≡ at_theta (chart_of L f Finite) ((planes (lawful_field L)).add finite.nums
          ((planes (lawful_field L)).mul (row_of F.ring d) rest.0))
      over = finite.residue.sum ∙ ap (λ r. A.add (at_theta C N0) (A.mul (at_u C d) r)) rest.1.1
          ∙ ap (A.add (at_theta C N0)) (sym (row_times K A AL C CL d rest.0))
          ∙ sym ((at_theta_map K A AL C CL).on_add N0
          ((planes (lawful_field L)).mul (row_of F.ring d) rest.0))

      row : (i : ℕ) → coeff (polynomials F.ring) N.coeffs i ≡ (polynomials F.ring).add
          (coeff (polynomials F.ring) finite.nums.coeffs i) ((polynomials F.ring).mul d
          (coeff (polynomials F.ring) rest.0.coeffs i))
      row i = add_at (polynomials F.ring) P.laws P.tests N0
          ((planes (lawful_field L)).mul (row_of F.ring d) rest.0) i
          ∙ ap (P.add (coeff (polynomials F.ring) N0.coeffs i))
          (const_mul_at (polynomials F.ring) P.laws P.tests d rest.0 i)

      few : size (polynomials F.ring) N ≤ (chart_of L f Finite).degree
      few = size_le (polynomials F.ring) P.laws P.tests N C.degree (λ i h. row i
          ∙ ap₂ (λ a b. P.add a (P.mul d b))
          (zero_from (polynomials F.ring) P.laws P.tests N0 i
          (let s : size (polynomials F.ring) N0 ≤ C.degree = finite.residue.shape.rows in
          omega (arith, s, h)))
          (zero_from (polynomials F.ring) P.laws P.tests rest.0 i
          (let s : size (polynomials F.ring) rest.0 ≤ C.degree = rest.1.0 in omega (arith, s, h)))
          ∙ ring1 P.ring P.laws (λ d. nil ⊕ d ⊗ nil) (λ d. nil) refl d)

      abbrev by : Poly F.ring
      by = (polynomials F.ring).mul (variable F.ring) d

      by_size : size F.ring ((polynomials F.ring).mul (variable F.ring) d) ≡ suc (suc k)
      by_size = let s : size F.ring (P.mul X d) ≡ suc (plus_ℕ 1 k) = size-mul K X d 1 k
          (variable_size K) hd in omega (arith, s)

      abbrev high : ℕ → Poly F.ring
      high i = (polynomials F.ring).mul (power (polynomials F.ring) (variable F.ring)
          (times_ℕ (plus_ℕ 0 i) (slope_of L f))) (coeff (polynomials F.ring) N.coeffs i)

      Q : ℕ → Poly F.ring
      Q i = quotient_of K by (suc k) by_size (high i)

      R : ℕ → Poly F.ring
      R i = remainder_of K by (suc k) by_size (high i)

      division : (i : ℕ) → IsDivision F.ring (high i) by (Q i) (R i)
      unfolding Q R
      division i = divides K by (suc k) by_size (high i)

      longest : (b : ℕ) × ((i : ℕ) → i < (chart_of L f Finite).degree → size F.ring (Q i) ≤ b)
      longest = bound C.degree (λ i. size F.ring (Q i))

      abbrev j : ℕ
      j = plus_ℕ longest.0 m

      M : Plane (lawful_field L)
      M = polynomial_of (polynomials F.ring) P.laws P.tests C.degree
          (λ i. reversal F.ring (plus_ℕ longest.0 m) (Q i))

      lengths : (i : ℕ) → i < (chart_of L f Finite).degree → size F.ring (Q i) ≤ m
      unfolding M
      lengths = short_quotients d k hd N few j Q R (λ i l. division i)
          (λ i l. let s : size F.ring (Q i) ≤ longest.0 = longest.1 i l in omega (arith, s))
          w over M (polynomial_size (polynomials F.ring) P.laws P.tests C.degree
          (λ i. reversal F.ring (plus_ℕ longest.0 m) (Q i)))
          (λ i l. polynomial_at (polynomials F.ring) P.laws P.tests C.degree
          (λ i. reversal F.ring (plus_ℕ longest.0 m) (Q i)) i l) m (omega arith) V infinite

      pub numerators : Numerators d S m w
      numerators = record {
        low = N0;
        high = rest.0;
        shape = finite.residue.shape;
        is_in = finite.is_in;
        few = rest.1.0;
        short = λ i l. short_quotient K d (coeff (polynomials F.ring) N0.coeffs i)
            (coeff (polynomials F.ring) rest.0.coeffs i) (Q i) (R i) k
            (times_ℕ i (slope_of L f)) m hd
            (let s : size F.ring (coeff (polynomials F.ring) N0.coeffs i) ≤ pred (size F.ring d)
            = finite.residue.shape.each i in omega (arith, s, hd))
            (subst (λ a. IsDivision F.ring (P.mul (X_to (times_ℕ i (slope_of L f))) a) by (Q i)
            (R i)) (row i) (let z : plus_ℕ 0 i ≡ i = omega arith in
            subst (λ b. IsDivision F.ring (P.mul (X_to (times_ℕ b (slope_of L f)))
            (coeff (polynomials F.ring) N.coeffs i)) by (Q i) (R i)) z (division i)))
            (lengths i l);
        over = over;
      }
