-- Vectors that span those of the numerators of a pole module, and those of the module of the next
-- order: the ones before times u - a, and one of an element with a pole of that order.
use Rattle.std.proofs.Common.{◌≡◌, ℕ, zero, suc, pred, ◌+◌, ◌*◌, ◌<◌, ◌≤◌, ◌⊎◌, inl, inr, ◌↔◌}
use Rattle.std.proofs.Common.{false, List, [], length, refl, sym, ◌∙◌, ap, ap₂, subst, arith}
use Rattle.ff_theory.specs.Ring.{RingOps, IsCommRing, Elements}
use Rattle.ff_theory.specs.Lawful.{Domain, Field, Lawful, lawful_field}
use Rattle.ff_theory.specs.Map.{IsMap}
use Rattle.ff_theory.specs.Poly.{Poly, polynomials}
use Rattle.ff_theory.specs.Division.{size}
use Rattle.ff_theory.specs.Planes.{planes, Plane, row_of}
use Rattle.ff_theory.specs.Span.{combination, InSpan, EndsAt}
use Rattle.ff_theory.specs.Values.{poly_of, plane_of, IsPoly, IsPlane}
use Rattle.ff_theory.specs.Vector.{vectors_of}
use Rattle.ff_theory.proofs.Solver.{◌⊕◌, ◌⊗◌, neg, nil, unit, ring1, ring2, ring3, ring4}
use Rattle.ff_theory.proofs.Sums.{sum-ext}
use Rattle.ff_theory.proofs.Span.{span-one, span-more, span-same, span-combination}
use Rattle.ff_theory.proofs.PolyMap.{polynomial_domain}
use Rattle.ff_charts.specs.Chart.{Chart as ChartOf, at_u, at_theta, IsChart}
use Rattle.ff_charts.specs.Lattice.{HasShape, IsTimes, InLattice, flat}
use Rattle.ff_charts.proofs.Chart.{at_theta_map}
use Rattle.ff_charts.proofs.Closure.{shape_plus}
use Rattle.ff_charts.proofs.Flat.{flat_one, flat_add, flat_ends, plane_with, plane_with_shape}
use Rattle.ff_charts.proofs.Flat.{plane_with_flat}
use Rattle.ff_charts.proofs.Lattice.{lat_element, lat_parts, times_shape, rescale_into}
use Rattle.ff_charts.proofs.Lattice.{rescale_back}
use Rattle.ff_local.specs.Point.{OrderAt}
use Rattle.ff_local.specs.Module.{InModule as InModuleAt}
use Rattle.ff_local.specs.ChartOrder.{root_at, plane_sum}
use Rattle.ff_local.proofs.ChartSpanning.{sum_at_theta}
use Rattle.ff_local.proofs.Modules.{module_add, module_more, module_scale}
use Rattle.ff_local.proofs.PlaneSums.{sum_vector, sum_has_shape, times_sum}
use Rattle.ff_local.proofs.Quotients.{times_over}
use Rattle.ff_poly.proofs.LongDivision.{poly-size}
use Rattle.ff_elem.specs.Elem.{algebra_in}
use Rattle.ff_data.specs.declared.order.Chart.TheVariants.{Finite}
use Rattle.ff_data.specs.declared.order.Order.{Order}
use Rattle.ff_data.specs.declared.point.Point.{Point}
use Rattle.ff_data.specs.Orders.{chart_of, y_degree}
use Rattle.ff_data.specs.Poles.{InModule}
use Rattle.ff_data.proofs.ChartLaws.{algebra_laws, chart_laws, chart_degree}
use Rattle.ff_common.specs.Common.{IsTimesVector}
use Rattle.ff_frac.specs.Places.{IsMaximalPlace, IsOverModulus, IsPoleNumerator}
use Rattle.ff_frac.specs.Numerators.{IsWithPlane, IsModuleSpan}
use Rattle.ff_frac.proofs.PoleOrders.{IsAbove, next_module}
use Rattle.ff_frac.proofs.PlaceLemmas.{place, place_pair, place_into, place_back, above_into}

module _ (F : Elements ℕ) (L : Lawful F) (f : List (List ℕ)) (hf : IsPlane F f)
    (two : 1 < length f) (o : Order) (p : Point) (h : IsMaximalPlace L f o p) where
  abbrev K : Field
  K = lawful_field L

  abbrev A : RingOps
  A = algebra_in L f

  AL : IsCommRing (algebra_in L f)
  AL = algebra_laws F L f hf two

  abbrev c : ChartOf F.ring (algebra_in L f)
  c = chart_of L f o.chart

  l : IsChart F.ring (algebra_in L f) (chart_of L f o.chart)
  l = chart_laws F L f hf two o.chart

  abbrev D : Domain
  D = polynomial_domain (lawful_field L)

  V : IsMap (planes (lawful_field L)) (algebra_in L f) (at_theta (chart_of L f o.chart))
  V = at_theta_map (lawful_field L) A AL c l

  abbrev P : OrderAt
  P = place F L f hf two o p h

  module _ (i : ℕ) (m root next : List ℕ) (hm : IsPoly F m) (hn : IsPoly F next)
      (modulus : (chart_of L f o.chart).IsModulus (poly_of F m))
      (root_modulus : (chart_of L f o.chart).IsModulus (poly_of F root))
      (next_is : poly_of F next ≡ (polynomials F.ring).mul (poly_of F m) (poly_of F root))
      (W : List (List ℕ)) (old new : List (List ℕ))
      (W_shape : HasShape F.ring (y_degree L f) (pred (length next)) (plane_of F W))
      (with_power : IsWithPlane L f (poly_of F root) (pred (length m)) (pred (length next))
      (plane_of F W) old new) where
    abbrev g : Poly F.ring
    g = poly_of F root

    abbrev d : Poly F.ring
    d = poly_of F m

    abbrev sm : ℕ
    sm = pred (length m)

    abbrev sn : ℕ
    sn = pred (length next)

    abbrev r : ℕ
    r = length old

    short_is : pred (length m) ≡ pred (size F.ring (poly_of F m))
    short_is = ap pred (sym (poly-size F.ring L.laws L.tests F.value m hm.canonical))

    product_is : poly_of F next ≡ (polynomials F.ring).mul (poly_of F root) (poly_of F m)
    product_is = next_is ∙ D.laws.mul_comm d g

    long_is : pred (size F.ring ((polynomials F.ring).mul (poly_of F root) (poly_of F m)))
        ≡ pred (length next)
    long_is = ap (λ t. pred (size F.ring t)) (sym product_is)
        ∙ ap pred (poly-size F.ring L.laws L.tests F.value next hn.canonical)

    long_size : pred (length next) ≡ pred (size F.ring (poly_of F next))
    long_size = ap pred (sym (poly-size F.ring L.laws L.tests F.value next hn.canonical))

    degrees : (chart_of L f Finite).degree ≡ c.degree
    degrees = chart_degree F L f hf two Finite ∙ sym (chart_degree F L f hf two o.chart)

    next_modulus : c.IsModulus (poly_of F next)
    next_modulus = subst c.IsModulus (sym product_is) (l.modulus_product g d root_modulus modulus)

    next_nonzero : (polynomials F.ring).same (poly_of F next) (polynomials F.ring).zero ≡ false
    next_nonzero = l.modulus_nonzero (poly_of F next) next_modulus

    own_shape : HasShape F.ring c.degree sn (plane_of F W)
    own_shape = subst (λ n. HasShape F.ring n sn (plane_of F W))
        (sym (chart_degree F L f hf two o.chart)) W_shape

    -- the planes of the old vectors
    abbrev plane_at : ℕ → Plane (lawful_field L)
    plane_at t = plane_with (lawful_field L) (pred (length m)) (chart_of L f o.chart).degree
        (vectors_of F old t)

    plane_shape : (t : ℕ) → HasShape F.ring c.degree sm (plane_at t)
    plane_shape t = plane_with_shape (lawful_field L) sm c.degree (vectors_of F old t)

    abbrev raised : ℕ → Plane (lawful_field L)
    raised t = (planes (lawful_field L)).mul (row_of F.ring (poly_of F root)) (plane_at t)

    old_shape : (t : ℕ) (q : t < r) → HasShape F.ring c.degree sm (with_power.times t q).0
    old_shape t q = subst (λ n. HasShape F.ring n sm (with_power.times t q).0) degrees
        (with_power.times t q).1.0

    old_ends : (t : ℕ) → t < r → EndsAt F.ring (c.degree * sm) (vectors_of F old t)
    old_ends t q j e = sym ((with_power.times t q).1.1.0 j) ∙ flat_ends (lawful_field L) sm
        c.degree (with_power.times t q).0 (old_shape t q) j e

    plane_vector : (t : ℕ) → t < r → (j : ℕ) → flat F.ring sm (plane_at t) j
        ≡ vectors_of F old t j
    plane_vector t q = plane_with_flat (lawful_field L) sm c.degree (vectors_of F old t)
        (old_ends t q)

    plane_same : (t : ℕ) (q : t < r) → (with_power.times t q).0 ≡ plane_at t
    plane_same t q = flat_one (lawful_field L) sm c.degree (with_power.times t q).0 (plane_at t)
        (old_shape t q) (plane_shape t)
        (λ j. (with_power.times t q).1.1.0 j ∙ sym (plane_vector t q j))

    raised_vector : (t : ℕ) → t < r → (j : ℕ) → flat F.ring sn (raised t) j
        ≡ vectors_of F new t j
    raised_vector t q j = sym ((with_power.times t q).1.1.1 j
        ∙ ap (λ N. flat F.ring sn ((planes (lawful_field L)).mul (row_of F.ring g) N) j)
        (plane_same t q))

    abbrev Old : Plane (lawful_field L) → Type 0
    Old N = InSpan F.ring (length old) (vectors_of F old) (flat F.ring (pred (length m)) N)

    abbrev New : Plane (lawful_field L) → Type 0
    New N = InSpan F.ring (length new) (vectors_of F new) (flat F.ring (pred (length next)) N)

    abbrev Raised : Plane (lawful_field L) → Type 0
    Raised = IsTimes F.ring (chart_of L f o.chart).degree
        (pred (size F.ring (poly_of F m))) (poly_of F root) Old

    sum_old : (e : ℕ → F.carrier) (j : ℕ) → flat F.ring sm (plane_sum F.ring r e plane_at) j
        ≡ combination F.ring r e (vectors_of F old) j
    sum_old e j = sum_vector (lawful_field L) sm r e plane_at j
        ∙ sum-ext F.ring L.laws r _ _ (λ t q. ap (F.mul (e t)) (plane_vector t q j))

    sum_shape : (e : ℕ → F.carrier) → HasShape F.ring c.degree sm
        (plane_sum F.ring r e plane_at)
    sum_shape e = sum_has_shape (lawful_field L) c.degree sm r e plane_at (λ t q. plane_shape t)

    sum_raised : (e : ℕ → F.carrier) (j : ℕ) → flat F.ring sn ((planes (lawful_field L)).mul
        (row_of F.ring g) (plane_sum F.ring r e plane_at)) j
        ≡ combination F.ring r e (vectors_of F new) j
    sum_raised e j = ap (λ N. flat F.ring sn N j)
        (times_sum (lawful_field L) (row_of F.ring g) r e plane_at)
        ∙ sum_vector (lawful_field L) sn r e raised j
        ∙ sum-ext F.ring L.laws r _ _ (λ t q. ap (F.mul (e t)) (raised_vector t q j))

    -- the multiples of u - a are in the new span
    raised_into : (N : Plane (lawful_field L)) → Raised N → New N
    raised_into N k = span-same F.ring L.laws (length new) (vectors_of F new) _ _
        (λ j. ap (λ N. flat F.ring sn N j) (k.product
        ∙ ap ((planes (lawful_field L)).mul (row_of F.ring g)) part_is)
        ∙ sum_raised k.is_in.coefficients j)
        (span-combination F.ring L.laws r (vectors_of F new) (length new) (vectors_of F new)
        k.is_in.coefficients (λ t q. span-one F.ring L.laws (length new) (vectors_of F new) t
        (let e = with_power.count in omega (arith, q, e))))
      where
        part_is : k.part ≡ plane_sum F.ring r k.is_in.coefficients plane_at
        part_is = flat_one (lawful_field L) sm c.degree k.part _
            (subst (λ s. HasShape F.ring c.degree s k.part) (sym short_is) k.shape)
            (sum_shape k.is_in.coefficients)
            (λ j. k.is_in.sum j ∙ sym (sum_old k.is_in.coefficients j))

    -- a multiple of the one plane
    abbrev scaled : F.carrier → Plane (lawful_field L)
    scaled e = plane_sum F.ring 1 (λ t. e) (λ t. plane_of F W)

    scaled_vector : (e : F.carrier) (j : ℕ) → flat F.ring sn (scaled e) j
        ≡ F.mul e (flat F.ring sn (plane_of F W) j)
    scaled_vector e j = sum_vector (lawful_field L) sn 1 (λ t. e) (λ t. plane_of F W) j
        ∙ ring2 F.ring L.laws (λ e w. nil ⊕ e ⊗ w) (λ e w. e ⊗ w) refl e
        (flat F.ring sn (plane_of F W) j)

    scaled_shape : (e : F.carrier) → HasShape F.ring c.degree sn (scaled e)
    scaled_shape e = sum_has_shape (lawful_field L) c.degree sn 1 (λ t. e) (λ t. plane_of F W)
        (λ t q. own_shape)

    last_is : (j : ℕ) → vectors_of F new r j ≡ flat F.ring sn (plane_of F W) j
    last_is = with_power.last

    last_in : r < length new
    last_in = let e = with_power.count in omega (arith, e)

    -- sums are in the new span
    sum_into : (N : Plane (lawful_field L)) (e : F.carrier) → Raised N
        → New ((planes (lawful_field L)).add N (scaled e))
    sum_into N e k = span-same F.ring L.laws (length new) (vectors_of F new) _ _
        (λ j. flat_add (lawful_field L) sn N (scaled e) j
        ∙ ap (F.add (flat F.ring sn N j)) (scaled_vector e j ∙ ap (F.mul e) (sym (last_is j)))
        ∙ L.laws.add_comm _ _)
        (span-more F.ring L.laws (length new) (vectors_of F new) e (vectors_of F new r)
        (flat F.ring sn N) (span-one F.ring L.laws (length new) (vectors_of F new) r last_in)
        (raised_into N k))

    -- and what is in it is such a sum
    record Split (N : Plane (lawful_field L)) : Type 0 where
      factor : F.carrier
      plane : Plane (lawful_field L)
      shape : HasShape F.ring c.degree sn plane
      is_raised : Raised plane
      sum : N ≡ (planes (lawful_field L)).add plane (scaled factor)

    raised_shape : (N : Plane (lawful_field L)) → HasShape F.ring c.degree sm N
        → HasShape F.ring c.degree sn ((planes (lawful_field L)).mul (row_of F.ring g) N)
    raised_shape N s = subst (λ n. HasShape F.ring c.degree n
        ((planes (lawful_field L)).mul (row_of F.ring g) N)) long_is
        (times_shape (lawful_field L) A AL c l d modulus g root_modulus Old N
        (subst (λ n. HasShape F.ring c.degree n N) short_is s))

    split : (N : Plane (lawful_field L)) → HasShape F.ring c.degree sn N → New N → Split N
    split N s k = record {
      factor = e r;
      plane = M;
      shape = raised_shape _ (sum_shape e);
      is_raised = record {
        part = plane_sum F.ring r e plane_at;
        shape = subst (λ n. HasShape F.ring c.degree n (plane_sum F.ring r e plane_at)) short_is
            (sum_shape e);
        is_in = record { coefficients = e; sum = sum_old e };
        product = refl;
      };
      sum = flat_one (lawful_field L) sn c.degree N _ s
          (shape_plus (lawful_field L) c.degree sn M (scaled (e r)) (raised_shape _ (sum_shape e))
          (scaled_shape (e r))) (λ j. k.sum j ∙ ap (λ n. combination F.ring n e
          (vectors_of F new) j) count
          ∙ ap₂ F.add (sym (sum_raised e j)) (ap (F.mul (e r)) (last_is j)
          ∙ sym (scaled_vector (e r) j))
          ∙ sym (flat_add (lawful_field L) sn M (scaled (e r)) j));
    }
      where
        e : ℕ → F.carrier
        e = k.coefficients

        M : Plane (lawful_field L)
        M = (planes (lawful_field L)).mul (row_of F.ring g) (plane_sum F.ring r e plane_at)

        count : length new ≡ suc r
        count = let e = with_power.count in omega (arith, e)

    -- an element over the new modulus
    abbrev over : Plane (lawful_field L) → A.carrier
    over N = A.mul (l.inverse (poly_of F next)) (at_theta c N)

    abbrev power : A.carrier
    power = over (plane_of F W)

    over_sum : (N : Plane (lawful_field L)) (e : F.carrier)
        → over ((planes (lawful_field L)).add N (scaled e))
        ≡ A.add (over N) (A.mul (c.constant e) power)
    over_sum N e = ap (A.mul (l.inverse (poly_of F next))) (V.on_add N (scaled e))
        ∙ ring3 A AL (λ i a b. i ⊗ (a ⊕ b)) (λ i a b. i ⊗ a ⊕ i ⊗ b) refl
        (l.inverse (poly_of F next)) (at_theta c N) (at_theta c (scaled e))
        ∙ ap (A.add (over N)) (sum_at_theta (lawful_field L) A AL c l
        (l.inverse (poly_of F next)) 1 (λ t. e) (λ t. plane_of F W)
        ∙ ring2 A AL (λ e w. nil ⊕ e ⊗ w) (λ e w. e ⊗ w) refl (c.constant e) power)

    abbrev shape_in : Plane (lawful_field L) → Type 0
    shape_in N = HasShape F.ring c.degree (pred (size F.ring (poly_of F next))) N

    shape_to : (N : Plane (lawful_field L)) → HasShape F.ring c.degree sn N → shape_in N
    shape_to N s = subst (λ n. HasShape F.ring c.degree n N) long_size s

    shape_of : (N : Plane (lawful_field L)) → shape_in N → HasShape F.ring c.degree sn N
    shape_of N s = subst (λ n. HasShape F.ring c.degree n N) (sym long_size) s

    module _ (exact : IsModuleSpan L f o p i m old)
        (pole : IsPoleNumerator L f o p (suc i) (poly_of F next) W) where
      above : IsAbove P i power
      above = above_into F L f hf two o p h i power (pole power
          (times_over (lawful_field L) A AL c l (poly_of F next) next_nonzero (plane_of F W)))

      -- the multiples are the module before
      old_into : (w : A.carrier) → InLattice c (poly_of F next) Raised w → InModuleAt P i w
      old_into w k = place_into F L f hf two o p h i w ((exact w).0
          (rescale_back (lawful_field L) A AL c l d modulus g root_modulus Old w
          (subst (λ t. InLattice c t Raised w) product_is k)))

      old_back : (w : A.carrier) → InModuleAt P i w → InLattice c (poly_of F next) Raised w
      old_back w k = subst (λ t. InLattice c t Raised w) (sym product_is)
          (rescale_into (lawful_field L) A AL c l d modulus g root_modulus Old w
          ((exact w).1 (place_back F L f hf two o p h i w k)))

      new_into : (w : A.carrier) → InLattice c (poly_of F next) New w → InModuleAt P (suc i) w
      new_into w k = subst (InModuleAt P (suc i)) (sym whole) (module_add P (suc i) x _
          (module_more P i x (old_into x (lat_element (lawful_field L) A AL c l (poly_of F next)
          next_modulus Raised t.plane (shape_to t.plane t.shape) t.is_raised k.residue.rest
          k.residue.in_powers))) (module_scale P (suc i) _ power (P.in_constant t.factor) above.0))
        where
          t : Split k.nums
          t = split k.nums (shape_of k.nums k.residue.shape) k.is_in

          x : A.carrier
          x = A.add (over t.plane) k.residue.rest

          whole : w ≡ A.add x (A.mul (c.constant t.factor) power)
          whole = lat_parts (lawful_field L) A AL c l (poly_of F next) next_modulus New w k
              ∙ ap (λ N. A.add (over N) k.residue.rest) t.sum
              ∙ ap (λ y. A.add y k.residue.rest) (over_sum t.plane t.factor)
              ∙ ring3 A AL (λ a b r. (a ⊕ b) ⊕ r) (λ a b r. (a ⊕ r) ⊕ b) refl (over t.plane)
              (A.mul (c.constant t.factor) power) k.residue.rest

      new_back : (w : A.carrier) → InModuleAt P (suc i) w → InLattice c (poly_of F next) New w
      new_back w k = subst (InLattice c (poly_of F next) New) (sym whole)
          (lat_element (lawful_field L) A AL c l (poly_of F next) next_modulus New
          ((planes (lawful_field L)).add q.nums (scaled e)) (shape_to _ (shape_plus
          (lawful_field L) c.degree sn q.nums (scaled e) (shape_of q.nums q.residue.shape)
          (scaled_shape e))) (sum_into q.nums e q.is_in) q.residue.rest q.residue.in_powers)
        where
          t : (e : F.carrier)
              × InModuleAt P i (A.add w (A.neg (A.mul (c.constant e) power)))
          t = next_module P (place_pair F L f hf two o p h).0 (place_pair F L f hf two o p h).1
              (place_pair F L f hf two o p h).2 i w power k above

          e : F.carrier
          e = t.0

          x : A.carrier
          x = A.add w (A.neg (A.mul (c.constant e) power))

          q : InLattice c (poly_of F next) Raised x
          q = old_back x t.1

          whole : w ≡ A.add (over ((planes (lawful_field L)).add q.nums (scaled e)))
              q.residue.rest
          whole = ring2 A AL (λ w u. w) (λ w u. (w ⊕ neg u) ⊕ u) refl w
              (A.mul (c.constant e) power)
              ∙ ap (λ y. A.add y (A.mul (c.constant e) power)) (lat_parts (lawful_field L) A AL
              c l (poly_of F next) next_modulus Raised x q)
              ∙ ring3 A AL (λ a r u. (a ⊕ r) ⊕ u) (λ a r u. (a ⊕ u) ⊕ r) refl (over q.nums)
              q.residue.rest (A.mul (c.constant e) power)
              ∙ ap (λ y. A.add y q.residue.rest) (sym (over_sum q.nums e))

      pub next_span : IsModuleSpan L f o p (suc i) next new
      next_span w = (
        λ k. place_back F L f hf two o p h (suc i) w (new_into w k),
        λ k. new_back w (place_into F L f hf two o p h (suc i) w k),
      )
