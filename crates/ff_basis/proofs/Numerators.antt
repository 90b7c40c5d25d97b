-- The least denominator of an order, and the vectors of its elements over it.
use Rattle.std.proofs.Common.{◌≡◌, ℕ, pred, ◌+◌, ◌*◌, ◌/◌, ◌%◌, ◌<◌, ◌≤◌, ◌⊎◌, inl, inr}
use Rattle.std.proofs.Common.{false, List, [], length, get_or, refl, sym, ◌∙◌, ap, subst, arith}
use Rattle.std.proofs.lemmas.Bool.{cases_lt}
use Rattle.std.proofs.lemmas.Nat.{mul-add-lt, mod_below}
use Rattle.ff_theory.specs.Ring.{RingOps, IsCommRing, Elements}
use Rattle.ff_theory.specs.Lawful.{Lawful, lawful_field, Field, Domain}
use Rattle.ff_theory.specs.Poly.{coeff, Poly, polynomials}
use Rattle.ff_theory.specs.Division.{size, leading_coeff}
use Rattle.ff_theory.specs.Divides.{Divides}
use Rattle.ff_theory.specs.Planes.{planes, Plane, row_of}
use Rattle.ff_theory.specs.Span.{InSpan}
use Rattle.ff_theory.specs.Vector.{vectors_of}
use Rattle.ff_theory.specs.Values.{poly_of, polys_of, IsPlane}
use Rattle.ff_theory.proofs.Solver.{◌⊗◌, unit, ring1, ring3, mul_zero}
use Rattle.ff_theory.proofs.Poly.{Poly_ext}
use Rattle.ff_theory.proofs.Division.{const_mul_at}
use Rattle.ff_theory.proofs.LowestTerms.{cancel}
use Rattle.ff_theory.proofs.PolyMap.{polynomial_domain}
use Rattle.ff_theory.proofs.Span.{span-inside}
use Rattle.ff_poly.proofs.LongDivision.{poly-size}
use Rattle.ff_charts.specs.Chart.{Chart as ChartOf, at_u, at_theta, IsChart}
use Rattle.ff_charts.specs.Lattice.{HasShape, flat, InLattice}
use Rattle.ff_charts.proofs.Rows.{polynomial_of, polynomial_past, polynomial_size}
use Rattle.ff_charts.proofs.Chart.{row_times}
use Rattle.ff_charts.proofs.Flat.{plane_with, plane_with_shape, plane_with_flat}
use Rattle.ff_lin.specs.Space.{SpaceParts, IsSpaceOf, InSpace, SpansFamily, HasExactly}
use Rattle.ff_lin.specs.Kernel.{mirror}
use Rattle.ff_lin.proofs.Steps.{past, combined-past}
use Rattle.ff_elem.specs.Elem.{algebra_in}
use Rattle.ff_elem.proofs.PolyLemmas.{nonzero-length}
use Rattle.ff_data.specs.declared.order.Chart.{Chart}
use Rattle.ff_data.specs.declared.order.Chart.TheVariants.{Finite, Infinite}
use Rattle.ff_data.specs.declared.order.Order.{Order}
use Rattle.ff_data.specs.Orders.{chart_of, y_degree, IsOrder, InOrder, InResidues}
use Rattle.ff_basis.specs.Blocks.{AreLowestRows, row_in, part_of, reversed_part}
use Rattle.ff_basis.specs.OrderList.{Clears, IsLeastDenominator, IsVectorIn}
use Rattle.ff_data.proofs.ChartLaws.{algebra_laws, chart_laws, chart_degree}
use Rattle.ff_data.proofs.PlaneCombinations.{planes_combined, combined_flat}
use Rattle.ff_basis.proofs.Divisors.{lowest_divides, divisor_size, cross_size, monic_nonzero}
use Rattle.ff_basis.proofs.Divisors.{monic_divisor_of_power}
use Rattle.ff_basis.proofs.Fractions.{InSet, shape_D, clears, fraction_in, fraction_combined}
use Rattle.ff_basis.proofs.Fractions.{clearing_divisible}
use Rattle.ff_basis.proofs.Pieces.{part_at, part_shape, row_of_vector, row_by_index, quotient_below}

module _ (F : Elements ℕ) (L : Lawful F) (f : List (List ℕ)) where
  -- a monic divisor of a modulus is a modulus
  divisor_modulus : (chart : Chart) (d D : Poly F.ring) → leading_coeff F.ring D ≡ F.one
      → (chart_of L f chart).IsModulus d → Divides (polynomials F.ring) D d
      → (chart_of L f chart).IsModulus D
  divisor_modulus Finite d D monic hd h = monic_nonzero (lawful_field L) D monic
  divisor_modulus Infinite d D monic hd h = monic_divisor_of_power (lawful_field L) D hd.0 monic
      (subst (Divides (polynomials F.ring) D) hd.1 h)

module _ (F : Elements ℕ) (L : Lawful F) (f : List (List ℕ)) (hf : IsPlane F f) (two : 1 < length f)
    (o : Order) (ho : IsOrder L f o) (den : List ℕ) (rows : List (List ℕ))
    (h : AreLowestRows L f o den rows) where
  abbrev K : Field
  K = lawful_field L

  abbrev A : RingOps
  A = algebra_in L f

  abbrev c : ChartOf F.ring (algebra_in L f)
  c = chart_of L f o.chart

  abbrev P : Domain
  P = polynomial_domain (lawful_field L)

  abbrev AL : IsCommRing (algebra_in L f)
  AL = algebra_laws F L f hf two

  abbrev l : IsChart F.ring (algebra_in L f) (chart_of L f o.chart)
  l = chart_laws F L f hf two o.chart

  abbrev n : ℕ
  n = y_degree L f

  abbrev d : Poly F.ring
  d = poly_of F o.d

  abbrev D : Poly F.ring
  D = poly_of F den

  abbrev low : ℕ → Poly F.ring
  low s = coeff (polynomials F.ring) (polys_of F rows) s

  abbrev r : ℕ
  r = length o.space.basis

  abbrev b : ℕ → ℕ → F.carrier
  b = vectors_of F o.space.basis

  nd : (polynomials F.ring).same d (polynomials F.ring).zero ≡ false
  nd = l.modulus_nonzero d ho.modulus

  monic : leading_coeff F.ring D ≡ F.one
  monic = L.tests.same_true _ _ h.lowest.monic

  nD : (polynomials F.ring).same D (polynomials F.ring).zero ≡ false
  nD = monic_nonzero K D monic

  pub den_positive : 0 < length den
  den_positive = nonzero-length F L den nD

  -- the length of the rows over d
  len_d : pred (length o.d) ≡ pred (size F.ring d)
  len_d = ap pred (sym (poly-size F.ring L.laws L.tests F.value o.d ho.d.canonical))

  abbrev row : ℕ → Poly F.ring
  row s = row_in F.ring b n (pred (size F.ring d)) s

  equal : (s : ℕ) → s < length rows → P.mul (low s) d ≡ P.mul (row s) D
  equal s q = h.equal s q ∙ ap (λ k. P.mul (row_in F.ring b n k s) D) len_d

  divides_d : Divides (polynomials F.ring) D d
  divides_d = lowest_divides K (length rows) D (polys_of F rows) h.lowest d
      (λ s q. (row s, P.laws.mul_comm d (low s) ∙ equal s q))

  hD : c.IsModulus D
  hD = divisor_modulus F L f o.chart d D monic ho.modulus divides_d

  pub few : (s : ℕ) → s < length rows
      → size F.ring (coeff (polynomials F.ring) (polys_of F rows) s) ≤ pred (size F.ring
      (poly_of F den))
  few s q = cross_size K (low s) D (row s) d nD nd (equal s q)
      (polynomial_size F.ring L.laws L.tests (pred (size F.ring d))
      (λ j. b (s / n) (s % n * pred (size F.ring d) + j)))

  abbrev N : ℕ → Plane K
  N a = plane_with K (pred (size F.ring d)) n (b a)

  abbrev M : ℕ → Plane K
  M a = part_of F.ring (polys_of F rows) n a

  degree : c.degree ≡ n
  degree = chart_degree F L f hf two o.chart

  shape_N : (a : ℕ) → a < r → HasShape F.ring c.degree (pred (size F.ring d)) (N a)
  shape_N a q = subst (λ m. HasShape F.ring m (pred (size F.ring d)) (N a)) (sym degree)
      (plane_with_shape K (pred (size F.ring d)) n (b a))

  flat_N : (a : ℕ) → a < r → (j : ℕ) → flat F.ring (pred (size F.ring d)) (N a) j ≡ b a j
  flat_N a q = plane_with_flat K (pred (size F.ring d)) n (b a)
      (λ j s. past F o.space.len (get_or o.space.basis a []) j (ho.space.space.rows a [] q)
      (let e : o.space.len ≡ n * pred (size F.ring d) = ho.space.len ∙ ap (λ k. n * k) len_d in
      omega (arith, e, s)))

  below : (a i : ℕ) → a < r → i < n → a * n + i < length rows
  below a i q s = let e : a * n + i < n * r = mul-add-lt a n i r q s in
      let m : n * r ≡ r * n = omega arith in
      let t : length rows ≡ r * n = h.count in omega (arith, e, m, t)

  shape_M : (a : ℕ) → a < r → HasShape F.ring c.degree (pred (size F.ring D)) (M a)
  shape_M a q = subst (λ m. HasShape F.ring m (pred (size F.ring D)) (M a)) (sym degree)
      (part_shape K n (pred (size F.ring D)) (polys_of F rows) a
      (λ i s. few (a * n + i) (below a i q s)))

  same_plane : (a : ℕ) → a < r → (planes K).mul (row_of F.ring d) (M a)
      ≡ (planes K).mul (row_of F.ring D) (N a)
  same_plane a q = Poly_ext (polynomials F.ring) P.laws P.tests _ _
      (λ i. const_mul_at (polynomials F.ring) P.laws P.tests d (M a) i ∙ go i (cases_lt i n)
      ∙ sym (const_mul_at (polynomials F.ring) P.laws P.tests D (N a) i))
    where
      go : (i : ℕ) → (i < n) ⊎ (n ≤ i)
          → P.mul d (coeff (polynomials F.ring) (M a).coeffs i)
          ≡ P.mul D (coeff (polynomials F.ring) (N a).coeffs i)
      go i (inl s) = ap (P.mul d) (part_at K n (pred (size F.ring D)) (polys_of F rows) a i s)
          ∙ P.laws.mul_comm d (low (a * n + i)) ∙ equal (a * n + i) (below a i q s)
          ∙ P.laws.mul_comm (row (a * n + i)) D
          ∙ ap (P.mul D) (row_of_vector K n (pred (size F.ring d)) b a i s)
      go i (inr s) = ap (P.mul d) (polynomial_past (polynomials F.ring) P.laws P.tests n
          (λ b. low (a * n + b)) i s)
          ∙ mul_zero P.ring P.laws d ∙ sym (mul_zero P.ring P.laws D)
          ∙ ap (P.mul D) (sym (polynomial_past (polynomials F.ring) P.laws P.tests n
          (λ i. polynomial_of F.ring L.laws L.tests (pred (size F.ring d))
          (λ j. b a (i * pred (size F.ring d) + j))) i s))

  cross : (a : ℕ) → a < r → A.mul (at_u c d) (at_theta c (M a)) ≡ A.mul (at_u c D) (at_theta c
      (N a))
  cross a q = sym (row_times K A AL c l d (M a)) ∙ ap (at_theta c) (same_plane a q)
      ∙ row_times K A AL c l D (N a)

  abbrev Set : A.carrier → Type 0
  Set w = InSet K A AL c l d D ho.modulus hD r b N M shape_N flat_N shape_M cross w

  into : (w : A.carrier) → InOrder L f o w → Set w
  into w q = subst (λ k. InLattice c d (InResidues F k o.space) w) len_d q

  back : (w : A.carrier) → Set w → InOrder L f o w
  back w q = subst (λ k. InLattice c d (InResidues F k o.space) w) (sym len_d) q

  pub least_denominator : IsLeastDenominator L f o.chart (InOrder L f o) (poly_of F den)
  least_denominator = record {
    modulus = hD;
    monic = monic;
    clears = λ w q. clears K A AL c l d D ho.modulus hD r b N M shape_N flat_N shape_M cross w
        (into w q);
    least = λ m hm q. divisor_size K D m (l.modulus_nonzero m hm)
        (lowest_divides K (length rows) D (polys_of F rows) h.lowest m (λ s t. divides m q s t));
  }
    where
      divides : (m : Poly F.ring) → Clears L f o.chart (InOrder L f o) m → (s : ℕ)
          → s < length rows → Divides (polynomials F.ring) D (P.mul m (low s))
      divides m q s t = at (clearing_divisible K A AL c l d D ho.modulus hD r b N M shape_N flat_N
          shape_M cross m (λ w u. q w (back w u)) (s / n) (quotient_below s r n
          (let e : length rows ≡ r * n = h.count in omega (arith, e, t))) (s % n))
        where
          inside : s % n < n
          inside = mod_below s n (omega (arith, two))

          at : Divides (polynomials F.ring) d
              (P.mul m (coeff (polynomials F.ring) (N (s / n)).coeffs (s % n)))
              → Divides (polynomials F.ring) D (P.mul m (low s))
          at w = (
            w.0,
            cancel P (P.mul m (low s)) (P.mul w.0 D) d nd
                (P.laws.mul_assoc m (low s) d ∙ ap (P.mul m) (equal s t)
                ∙ sym (P.laws.mul_assoc m (row s) D)
                ∙ ap (λ t. P.mul (P.mul m t) D) (row_by_index K n (pred (size F.ring d)) b s inside)
                ∙ ap (λ t. P.mul t D) w.1
                ∙ ring3 P.ring P.laws (λ q d e. (q ⊗ d) ⊗ e) (λ q d e. (q ⊗ e) ⊗ d) refl w.0 d D),
          )

  abbrev k : ℕ
  k = pred (size F.ring D)

  module _ (s : SpaceParts) (hs : IsSpaceOf F (y_degree L f * pred (size F.ring (poly_of F den))) s)
      (same : SpansFamily F s.basis (length o.space.basis)
      (reversed_part F.ring (polys_of F rows) (y_degree L f) (pred (size F.ring (poly_of F den)))))
    where
      abbrev w_of : (ℕ → F.carrier) → A.carrier
      w_of x = A.mul (l.inverse D) (at_theta c (planes_combined K x M r))

      value_of : (x : ℕ → F.carrier) → A.mul (at_u c D) (w_of x)
          ≡ at_theta c (planes_combined K x M r)
      value_of x = ring3 A AL (λ d i t. d ⊗ (i ⊗ t)) (λ d i t. (i ⊗ d) ⊗ t) refl (at_u c D)
          (l.inverse D) (at_theta c (planes_combined K x M r))
          ∙ ap (λ t. A.mul t (at_theta c (planes_combined K x M r))) (l.inverts D nD)
          ∙ ring1 A AL (λ t. unit ⊗ t) (λ t. t) refl (at_theta c (planes_combined K x M r))

      to_vector : (v : ℕ → F.carrier) → InSpace F s v
          → IsVectorIn L f o.chart (InOrder L f o) D v
      to_vector v q = at (span-inside F.ring L.laws (length s.basis) (vectors_of F s.basis) r
          (reversed_part F.ring (polys_of F rows) n k) v same.into q)
        where
          at : InSpan F.ring r (reversed_part F.ring (polys_of F rows) n k) v
              → IsVectorIn L f o.chart (InOrder L f o) D v
          at x = (
            w_of x.coefficients,
            (
              back (w_of x.coefficients) (fraction_in K A AL c l d D ho.modulus hD r b N M shape_N
                  flat_N shape_M cross x.coefficients (w_of x.coefficients)
                  (value_of x.coefficients)),
              record {
                nums = planes_combined K x.coefficients M r;
                shape = subst (λ m. HasShape F.ring m k
                    (planes_combined K x.coefficients M r)) degree
                    (shape_D K A AL c l d D ho.modulus hD r b N M shape_N flat_N shape_M cross
                    x.coefficients);
                entries = λ j. x.sum j
                    ∙ sym (combined_flat K k x.coefficients M r (mirror (n * k) j));
                value = value_of x.coefficients;
              },
            ),
          )

      of_vector : (v : ℕ → F.carrier) → IsVectorIn L f o.chart (InOrder L f o) D v
          → InSpace F s v
      of_vector v q = span-inside F.ring L.laws r (reversed_part F.ring (polys_of F rows) n k)
          (length s.basis) (vectors_of F s.basis) v same.back
          (record {
            coefficients = x.0;
            sum = λ j. q.1.1.entries j ∙ ap (λ N. flat F.ring k N (mirror (n * k) j)) x.1
                ∙ combined_flat K k x.0 M r (mirror (n * k) j);
          })
        where
          x : (x : ℕ → F.carrier) × (q.1.1.nums ≡ planes_combined K x M r)
          x = fraction_combined K A AL c l d D ho.modulus hD r b N M shape_N flat_N shape_M cross
              q.0
              (into q.0 q.1.0) q.1.1.nums
              (subst (λ m. HasShape F.ring m k q.1.1.nums) (sym degree) q.1.1.shape) q.1.1.value

      pub space_exact : HasExactly F s (IsVectorIn L f o.chart (InOrder L f o) (poly_of F den))
      space_exact v = (
        λ q. (
          λ j t. q.sum j ∙ combined-past F L.laws L.tests s q.coefficients j hs.space t,
          to_vector v q,
        ),
        λ q. of_vector v q.1,
      )
