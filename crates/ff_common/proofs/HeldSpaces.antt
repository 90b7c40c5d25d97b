-- Numerators over one denominator for the common elements of two lattices: residues and multiples
-- of the denominator, for an equation f over a field whose laws are L.
use Rattle.std.proofs.Common.{◌≡◌, ℕ, zero, suc, pred, ◌+◌ as plus_ℕ, ◌-◌, ◌*◌ as times_ℕ, ◌/◌, ◌%◌}
use Rattle.std.proofs.Common.{◌<◌, ◌≤◌, ◌↔◌, ◌⊎◌, inl, inr, List, [], ◌∷◌, length, get_or, refl}
use Rattle.std.proofs.Common.{sym, ◌∙◌, ap, ap₂, subst, arith}
use Rattle.std.proofs.lemmas.Bool.{cases_lt}
use Rattle.ff_theory.specs.Ring.{RingOps, IsCommRing, Elements}
use Rattle.ff_theory.specs.Lawful.{Domain, Field, Lawful, lawful_field}
use Rattle.ff_theory.specs.Poly.{coeff, polynomials}
use Rattle.ff_theory.specs.Division.{size}
use Rattle.ff_theory.specs.Planes.{planes, Plane, row_of}
use Rattle.ff_theory.specs.Span.{combination, EndsAt, unit_at}
use Rattle.ff_theory.specs.Values.{poly_of, IsPoly, IsPlane}
use Rattle.ff_theory.specs.Vector.{vector_of, vectors_of}
use Rattle.ff_theory.proofs.Solver.{◌⊕◌, ◌⊗◌, nil, unit, ring1, ring2, mul_zero}
use Rattle.ff_theory.proofs.Poly.{polynomial_laws}
use Rattle.ff_theory.proofs.PolyMap.{polynomial_domain, zero_size}
use Rattle.ff_theory.proofs.Division.{zero_from}
use Rattle.ff_theory.proofs.Coeffs.{coeff-past}
use Rattle.ff_theory.proofs.Span.{span-same, span-zero, span-more, span-inside, unit-other}
use Rattle.ff_theory.proofs.Sums.{sum-ext, sum-zero}
use Rattle.ff_charts.specs.Chart.{Chart as ChartOf, at_u, at_theta, IsChart}
use Rattle.ff_charts.specs.Lattice.{HasShape, flat, InLattice, IsTimes}
use Rattle.ff_charts.proofs.Chart.{at_theta_map, row_times, powers_plane}
use Rattle.ff_charts.proofs.Closure.{shape_plus}
use Rattle.ff_charts.proofs.Flat.{flat_add, flat_one, flat_ends, plane_with, plane_with_shape}
use Rattle.ff_charts.proofs.Flat.{plane_with_flat}
use Rattle.ff_lin.specs.Space.{SpaceParts, IsSpaceOf, InSpace, SameSpace, IsSum}
use Rattle.ff_lin.proofs.Kernel.{combination-unit, combination-unit_past}
use Rattle.ff_lin.proofs.Steps.{past}
use Rattle.ff_poly.proofs.LongDivision.{poly-size}
use Rattle.ff_elem.specs.Elem.{algebra_in}
use Rattle.ff_elem.proofs.PolyLemmas.{nonzero-length}
use Rattle.ff_data.specs.declared.order.Chart.TheVariants.{Finite, Infinite}
use Rattle.ff_data.specs.Orders.{chart_of, y_degree, slope_of, InResidues}
use Rattle.ff_data.specs.Lattices.{IsLattice, InLatticeOf, InBoth}
use Rattle.ff_data.proofs.ChartLaws.{algebra_laws, chart_laws, chart_degree}
use Rattle.ff_common.specs.Common.{IsShortAt, HasShortRows, IsTimesSpace, HoldsMultiples}
use Rattle.ff_common.specs.Common.{HasNumerator, HoldsNumerators}
use Rattle.ff_common.proofs.BothCharts.{Numerators, numerators}
use Rattle.ff_common.proofs.CommonSpace.{power_is}
use Rattle.ff_common.proofs.TimesSpaces.{times_shape}

-- Spaces.

-- a list of the length, with one at an index below it
pub unit_whole : (F : Elements ℕ) (v : List ℕ) (n s : ℕ) → length v ≡ n → s < n
    → ((j : ℕ) → j < n → vector_of F v j ≡ unit_at F.ring s j) → (j : ℕ)
    → vector_of F v j ≡ unit_at F.ring s j
unit_whole F v n s e b h j = go (cases_lt j n)
  where
    go : (j < n) ⊎ (n ≤ j) → vector_of F v j ≡ unit_at F.ring s j
    go (inl q) = h j q
    go (inr q) = coeff-past F.ring F.value v j (omega (arith, e, q))
        ∙ sym (unit-other F.ring s j (λ t. absurd (omega (arith, t, q, b))))

module _ (F : Elements ℕ) (L : Lawful F) where
  -- a space with one vector more
  pub inserted_new : (s t : SpaceParts) (v : List ℕ) → SameSpace F t.basis (v ∷ s.basis)
      → InSpace F t (vector_of F v)
  inserted_new s t v same = same.back zero (omega arith)

  pub inserted_old : (s t : SpaceParts) (v : List ℕ) → SameSpace F t.basis (v ∷ s.basis)
      → (u : ℕ → F.carrier) → InSpace F s u → InSpace F t u
  inserted_old s t v same u h = span-inside F.ring L.laws (length s.basis) (vectors_of F s.basis)
      (length t.basis) (vectors_of F t.basis) u (λ i l. same.back (suc i) (omega (arith, l))) h

  -- one step of the loop that inserts unit vectors
  pub unit_inserted : (w e m : ℕ) (s t : SpaceParts) (v : List ℕ)
      → ((i : ℕ) → i < m → IsShortAt w e i → InSpace F s (unit_at F.ring i))
      → SameSpace F t.basis (v ∷ s.basis) → ((j : ℕ) → vector_of F v j ≡ unit_at F.ring m j)
      → (i : ℕ) → i < plus_ℕ m 1 → IsShortAt w e i → InSpace F t (unit_at F.ring i)
  unit_inserted w e m s t v each same is i l h = go (cases_lt i m)
    where
      go : (i < m) ⊎ (m ≤ i) → InSpace F t (unit_at F.ring i)
      go (inl q) = inserted_old s t v same (unit_at F.ring i) (each i q h)
      go (inr q) = let z : m ≡ i = omega (arith, l, q) in
          subst (λ i. InSpace F t (unit_at F.ring i)) z
          (span-same F.ring L.laws (length t.basis) (vectors_of F t.basis) (vector_of F v)
          (unit_at F.ring m) (λ j. sym (is j)) (inserted_new s t v same))

  -- and one that inserts none
  pub unit_skipped : (w e m : ℕ) (s : SpaceParts)
      → ((i : ℕ) → i < m → IsShortAt w e i → InSpace F s (unit_at F.ring i))
      → ¬ IsShortAt w e m → (i : ℕ) → i < plus_ℕ m 1 → IsShortAt w e i
      → InSpace F s (unit_at F.ring i)
  unit_skipped w e m s each none i l h = go (cases_lt i m)
    where
      go : (i < m) ⊎ (m ≤ i) → InSpace F s (unit_at F.ring i)
      go (inl q) = each i q h
      go (inr q) = let z : i ≡ m = omega (arith, l, q) in
          absurd (none (subst (λ i. IsShortAt w e i) z h))

  -- the vectors of a space end with their length
  pub space_ends : (n : ℕ) (s : SpaceParts) → IsSpaceOf F n s → (v : ℕ → F.carrier)
      → InSpace F s v → EndsAt F.ring n v
  space_ends n s hs v h j l = h.sum j
      ∙ sum-ext F.ring L.laws (length s.basis) _ (λ i. F.zero)
      (λ i q. ap (F.mul (h.coefficients i)) (past F s.len (get_or s.basis i []) j
      (hs.space.rows i [] q) (omega (arith, hs.len, l)))
      ∙ mul_zero F.ring L.laws (h.coefficients i)) ∙ sum-zero F.ring L.laws (length s.basis)

  -- unit vectors span the vectors that are 0 elsewhere
  pub short_rows_are : (n w e : ℕ) (s : SpaceParts)
      → ((j : ℕ) → j < n → IsShortAt w e j → InSpace F s (unit_at F.ring j))
      → HasShortRows F n w e s
  short_rows_are n w e s each v ends none = span-same F.ring L.laws (length s.basis)
      (vectors_of F s.basis) (combination F.ring n v (unit_at F.ring)) v
      (λ j. whole j (cases_lt j n)) (part n (let z : n ≤ n = omega arith in z))
    where
      whole : (j : ℕ) → (j < n) ⊎ (n ≤ j) → v j ≡ combination F.ring n v (unit_at F.ring) j
      whole j (inl l) = sym (combination-unit F.ring L.laws n v j l)
      whole j (inr l) = ends j l ∙ sym (combination-unit_past F.ring L.laws n v j l)

      step : (m : ℕ) → m < n → (IsShortAt w e m) ⊎ (w ≤ plus_ℕ (m % w) (times_ℕ (m / w) e))
          → InSpace F s (combination F.ring m v (unit_at F.ring))
          → InSpace F s (combination F.ring (suc m) v (unit_at F.ring))
      step m l (inl k) h = span-same F.ring L.laws (length s.basis) (vectors_of F s.basis)
          (λ j. F.add (F.mul (v m) (unit_at F.ring m j)) (combination F.ring m v (unit_at F.ring)
          j)) (combination F.ring (suc m) v (unit_at F.ring))
          (λ j. L.laws.add_comm (combination F.ring m v (unit_at F.ring) j)
          (F.mul (v m) (unit_at F.ring m j)))
          (span-more F.ring L.laws (length s.basis) (vectors_of F s.basis) (v m)
          (unit_at F.ring m) (combination F.ring m v (unit_at F.ring)) (each m l k) h)
      step m l (inr k) h = span-same F.ring L.laws (length s.basis) (vectors_of F s.basis)
          (combination F.ring m v (unit_at F.ring)) (combination F.ring (suc m) v (unit_at F.ring))
          (λ j. ap (λ t. F.add (combination F.ring m v (unit_at F.ring) j)
          (F.mul t (unit_at F.ring m j))) (none m (λ q. absurd (omega (arith, k, q))))
          ∙ ring2 F.ring L.laws (λ a b. a ⊕ nil ⊗ b) (λ a b. a) refl
          (combination F.ring m v (unit_at F.ring) j) (unit_at F.ring m j)) h

      part : (m : ℕ) → m ≤ n → InSpace F s (combination F.ring m v (unit_at F.ring))
      part zero l = span-zero F.ring L.laws (length s.basis) (vectors_of F s.basis)
      part (suc m) l = step m (omega (arith, l))
          (cases_lt (plus_ℕ (m % w) (times_ℕ (m / w) e)) w) (part m (omega (arith, l)))

module _ (F : Elements ℕ) (L : Lawful F) (f : List (List ℕ)) (hf : IsPlane F f) (two : 1 < length f)
    (d : List ℕ) (hd : IsPoly F d) (w l : ℕ) where
  abbrev K : Field
  K = lawful_field L

  abbrev P : Domain
  P = polynomial_domain (lawful_field L)

  PL : IsCommRing (planes (lawful_field L))
  PL = polynomial_laws P.ring P.laws P.tests

  abbrev A : RingOps
  A = algebra_in L f

  AL : IsCommRing (algebra_in L f)
  AL = algebra_laws F L f hf two

  abbrev C : ChartOf F.ring (algebra_in L f)
  C = chart_of L f Finite

  abbrev n : ℕ
  n = (chart_of L f Finite).degree

  CL : IsChart F.ring (algebra_in L f) (chart_of L f Finite)
  CL = chart_laws F L f hf two Finite

  abbrev times_d : Plane (lawful_field L) → Plane (lawful_field L)
  times_d q = (planes (lawful_field L)).mul (row_of F.ring (poly_of F d)) q

  d_size : size F.ring (poly_of F d) ≡ length d
  d_size = poly-size F.ring L.laws L.tests F.value d hd.canonical

  degree_is : (chart_of L f Finite).degree ≡ y_degree L f
  degree_is = chart_degree F L f hf two Finite

  -- the multiples of d
  pub multiples_are : plus_ℕ (length d) w ≤ plus_ℕ l 1 → (factors s : SpaceParts)
      → HasShortRows F (times_ℕ (y_degree L f) w) w (slope_of L f) factors
      → IsSpaceOf F (times_ℕ (y_degree L f) l) s
      → IsTimesSpace L f (poly_of F d) w l factors s → HoldsMultiples L f d w l s
  multiples_are room factors s short space times = record {
    space = space;
    only = λ N shape h. let t = (times N shape).0 h in (t.part, t.product);
    whole = λ q few small. (times (times_d q) (times_shape K n w l (poly_of F d)
        (omega (arith, room, d_size)) q (rows q few small))).1 (record {
          part = q;
          shape = rows q few small;
          is_in = short (flat F.ring w q)
              (subst (λ m. EndsAt F.ring (times_ℕ m w) (flat F.ring w q)) degree_is
              (flat_ends K w n q (rows q few small)))
              (λ j long. none q small j (cases_lt (plus_ℕ (j % w) (times_ℕ (j / w) (slope_of L f)))
              w) long);
          product = refl;
        });
  }
    where
      rows : (q : Plane (lawful_field L)) → size (polynomials F.ring) q ≤ n
          → ((i : ℕ) → size F.ring (coeff (polynomials F.ring) q.coeffs i)
          ≤ w - times_ℕ i (slope_of L f)) → HasShape F.ring n w q
      rows q few small = record {
        rows = few;
        each = λ i. let s : size F.ring (coeff (polynomials F.ring) q.coeffs i)
            ≤ w - times_ℕ i (slope_of L f) = small i in omega (arith, s);
      }

      none : (q : Plane (lawful_field L))
          → ((i : ℕ) → size F.ring (coeff (polynomials F.ring) q.coeffs i)
          ≤ w - times_ℕ i (slope_of L f)) → (j : ℕ)
          → (IsShortAt w (slope_of L f) j) ⊎ (w ≤ plus_ℕ (j % w) (times_ℕ (j / w) (slope_of L f)))
          → ¬ IsShortAt w (slope_of L f) j → flat F.ring w q j ≡ F.zero
      none q small j (inl k) long = absurd (long k)
      none q small j (inr k) long = zero_from F.ring L.laws L.tests
          (coeff (polynomials F.ring) q.coeffs (j / w)) (j % w)
          (let s : size F.ring (coeff (polynomials F.ring) q.coeffs (j / w))
          ≤ w - times_ℕ (j / w) (slope_of L f) = small (j / w) in omega (arith, s, k))

  -- the numerators
  module _ (s : SpaceParts) (finite : IsLattice L f Finite d s)
      (len : l ≡ plus_ℕ (length d - 1) w) (low high held : SpaceParts)
      (times : IsTimesSpace L f (polynomials F.ring).one (pred (length d)) l s low)
      (low_space : IsSpaceOf F (times_ℕ (y_degree L f) l) low)
      (multiples : HoldsMultiples L f d w l high)
      (space : IsSpaceOf F (times_ℕ (y_degree L f) l) held)
      (sum : (v : ℕ → F.carrier) → InSpace F held v
      ↔ IsSum F (InSpace F low) (InSpace F high) v) where
    positive : 0 < length d
    positive = nonzero-length F L d finite.modulus

    row_one : (N : Plane (lawful_field L))
        → (planes (lawful_field L)).mul (row_of F.ring (polynomials F.ring).one) N ≡ N
    row_one N = ring1 (planes K) PL (λ n. unit ⊗ n) (λ n. n) refl N

    value : (a q : Plane (lawful_field L)) → at_theta (chart_of L f Finite)
        ((planes (lawful_field L)).add a (times_d q)) ≡ (algebra_in L f).add
        (at_theta (chart_of L f Finite) a) ((algebra_in L f).mul
        (at_u (chart_of L f Finite) (poly_of F d)) (at_theta (chart_of L f Finite) q))
    value a q = (at_theta_map K A AL C CL).on_add a (times_d q)
        ∙ ap (A.add (at_theta C a)) (row_times K A AL C CL (poly_of F d) q)

    module _ (v : (algebra_in L f).carrier) (h : HasNumerator L f d l held v) where
      parts : IsSum F (InSpace F low) (InSpace F high) (flat F.ring l h.plane)
      parts = (sum (flat F.ring l h.plane)).0 h.is_in

      ends : (t : SpaceParts) (u : ℕ → F.carrier) → IsSpaceOf F (times_ℕ (y_degree L f) l) t
          → InSpace F t u → EndsAt F.ring (times_ℕ n l) u
      ends t u ht hu = subst (λ m. EndsAt F.ring (times_ℕ m l) u) (sym degree_is)
          (space_ends F L (times_ℕ (y_degree L f) l) t ht u hu)

      abbrev left : Plane (lawful_field L)
      left = plane_with (lawful_field L) l n parts.left

      abbrev right : Plane (lawful_field L)
      right = plane_with (lawful_field L) l n parts.right

      left_flat : (j : ℕ) → flat F.ring l (plane_with (lawful_field L) l n parts.left) j
          ≡ parts.left j
      left_flat = plane_with_flat K l n parts.left (ends low parts.left low_space parts.in_left)

      right_flat : (j : ℕ) → flat F.ring l (plane_with (lawful_field L) l n parts.right) j
          ≡ parts.right j
      right_flat = plane_with_flat K l n parts.right
          (ends high parts.right multiples.space parts.in_right)

      part : IsTimes F.ring n (pred (length d)) (polynomials F.ring).one
          (InResidues F (pred (length d)) s) (plane_with (lawful_field L) l n parts.left)
      part = (times left (plane_with_shape K l n parts.left)).0
          (span-same F.ring L.laws (length low.basis) (vectors_of F low.basis) parts.left
          (flat F.ring l left) left_flat parts.in_left)

      factor : (q : Plane (lawful_field L))
          × (plane_with (lawful_field L) l n parts.right ≡ times_d q)
      factor = multiples.only right (plane_with_shape K l n parts.right)
          (span-same F.ring L.laws (length high.basis) (vectors_of F high.basis) parts.right
          (flat F.ring l right) right_flat parts.in_right)

      plane_is : h.plane ≡ (planes (lawful_field L)).add part.part (times_d factor.0)
      plane_is = flat_one K l n h.plane ((planes K).add left right) h.shape
          (shape_plus K n l left right (plane_with_shape K l n parts.left)
          (plane_with_shape K l n parts.right))
          (λ j. parts.sum j ∙ ap₂ F.add (sym (left_flat j)) (sym (right_flat j))
          ∙ sym (flat_add K l left right j))
          ∙ ap₂ (planes K).add (part.product ∙ row_one part.part) factor.1

      pub held_finite : InLatticeOf L f Finite d s v
      held_finite = record {
        nums = part.part;
        is_in = part.is_in;
        residue = record {
          shape = subst (λ m. HasShape F.ring n m part.part)
              (ap pred (sym d_size)) part.shape;
          rest = at_theta C factor.0;
          in_powers = powers_plane K A AL C CL factor.0;
          sum = h.over ∙ ap (at_theta C) plane_is ∙ value part.part factor.0;
        };
      }

    module _ (t : List ℕ) (width : length t ≡ w) (o : SpaceParts)
        (infinite : IsLattice L f Infinite t o) (v : (algebra_in L f).carrier)
        (both : InBoth L f d s t o v) where
      m : ℕ
      m = pred (length t)

      suc_m : suc (pred (length t)) ≡ w
      suc_m = let p : 0 < length t = nonzero-length F L t
          ((chart_laws F L f hf two Infinite).modulus_nonzero (poly_of F t) infinite.modulus) in
          omega (arith, p, width)

      found : Numerators F L f hf two (poly_of F d) (InResidues F (pred (length d)) s)
          (pred (length t)) v
      found = numerators F L f hf two (poly_of F d) (pred (length d))
          (let e : size F.ring (poly_of F d) ≡ suc (pred (length d))
          = omega (arith, d_size, positive) in e) (pred (length t))
          (InResidues F (pred (length d)) s) (InResidues F (pred (length t)) o) v both.in_finite
          (subst (λ p. InLattice (chart_of L f Infinite) p (InResidues F (pred (length t)) o) v)
          (power_is F L f hf two t o infinite) both.in_infinite)

      low_small : HasShape F.ring n (pred (length d)) found.low
      low_small = subst (λ m. HasShape F.ring n m found.low) (ap pred d_size) found.shape

      low_shape : HasShape F.ring n l found.low
      low_shape = record {
        rows = low_small.rows;
        each = λ i. let s : size F.ring (coeff (polynomials F.ring) found.low.coeffs i)
            ≤ pred (length d) = low_small.each i in omega (arith, s, len);
      }

      short : (i : ℕ) → (i < n) ⊎ (n ≤ i)
          → size F.ring (coeff (polynomials F.ring) found.high.coeffs i)
          ≤ w - times_ℕ i (slope_of L f)
      short i (inl q) = let s : size F.ring (coeff (polynomials F.ring) found.high.coeffs i)
          ≤ suc (pred (length t)) - times_ℕ i (slope_of L f) = found.short i q in
          omega (arith, s, suc_m)
      short i (inr q) = let s : size F.ring (coeff (polynomials F.ring) found.high.coeffs i)
          ≡ size F.ring P.zero = ap (size F.ring) (zero_from (polynomials F.ring) P.laws P.tests
          found.high i (let r : size (polynomials F.ring) found.high ≤ n = found.few in
          omega (arith, r, q))) in
          let z : size F.ring P.zero ≡ 0 = zero_size K in omega (arith, s, z)

      high_shape : HasShape F.ring n l (times_d found.high)
      high_shape = times_shape K n w l (poly_of F d) (omega (arith, d_size, len, positive))
          found.high (record {
            rows = found.few;
            each = λ i. let s : size F.ring (coeff (polynomials F.ring) found.high.coeffs i)
                ≤ w - times_ℕ i (slope_of L f) = short i (cases_lt i n) in omega (arith, s);
          })

      abbrev N : Plane (lawful_field L)
      N = (planes (lawful_field L)).add found.low (times_d found.high)

      pub held_whole : HasNumerator L f d l held v
      held_whole = record {
        plane = N;
        shape = shape_plus K n l found.low (times_d found.high) low_shape high_shape;
        is_in = (sum (flat F.ring l N)).1 (record {
          left = flat F.ring l found.low;
          right = flat F.ring l (times_d found.high);
          in_left = (times found.low low_shape).1 (record {
            part = found.low;
            shape = low_small;
            is_in = found.is_in;
            product = sym (row_one found.low);
          });
          in_right = multiples.whole found.high found.few (λ i. short i (cases_lt i n));
          sum = flat_add K l found.low (times_d found.high);
        });
        over = found.over;
      }

    pub held_is : (t : List ℕ) → length t ≡ w → (o : SpaceParts) → IsLattice L f Infinite t o
        → HoldsNumerators L f d l (InBoth L f d s t o) (InLatticeOf L f Finite d s) held
    held_is t width o infinite = record {
      space = space;
      each = held_finite;
      whole = held_whole t width o infinite;
    }
