-- A point of a maximal order as one of an order of a chart: the pole modules, the numerators of
-- elements with a pole, and the next power.
use Rattle.std.proofs.Common.{◌≡◌, ℕ, zero, suc, ◌<◌, ◌≤◌}
use Rattle.std.proofs.Common.{false, List, length, refl, sym, ◌∙◌, ap, ap₂, subst, arith}
use Rattle.ff_theory.specs.Ring.{RingOps, IsCommRing, Elements, power}
use Rattle.ff_theory.specs.Lawful.{Domain, Lawful, lawful_field}
use Rattle.ff_theory.specs.Map.{IsMap}
use Rattle.ff_theory.specs.Poly.{coeff, Poly, polynomials}
use Rattle.ff_theory.specs.Division.{size}
use Rattle.ff_theory.specs.Planes.{planes, Plane, row_of}
use Rattle.ff_theory.specs.Values.{poly_of, plane_of, IsPlane}
use Rattle.ff_theory.proofs.Solver.{◌⊕◌, ◌⊗◌, neg, nil, ring1, ring2, ring3, ring4}
use Rattle.ff_theory.proofs.Poly.{polynomial_laws}
use Rattle.ff_theory.proofs.PolyMap.{polynomial_domain, zero_size, nonzero_size}
use Rattle.ff_charts.specs.Chart.{Chart as ChartOf, at_u, at_theta, InPowers, IsChart}
use Rattle.ff_charts.proofs.Chart.{at_u_map, at_theta_map, row_times, cancel_u, powers_plane}
use Rattle.ff_charts.proofs.Rows.{polynomial_past}
use Rattle.ff_local.specs.Point.{OrderAt}
use Rattle.ff_local.specs.Module.{InModule as InModuleAt, IsLocalPair}
use Rattle.ff_local.specs.ChartOrder.{ChartOrder, ChartPoint, root_at}
use Rattle.ff_local.specs.ChartPole.{pole_modulus}
use Rattle.ff_local.proofs.ChartOrder.{powers_in}
use Rattle.ff_local.proofs.ChartPoint.{order_at, module_into, module_back}
use Rattle.ff_local.proofs.ChartMaximal.{order_pair}
use Rattle.ff_local.proofs.ChartQuotient.{plane_quotient, pole_clears}
use Rattle.ff_local.proofs.Quotients.{times_over}
use Rattle.ff_lattice.specs.Remainder.{IsCongruent}
use Rattle.ff_lattice.specs.Residues.{AreResidues}
use Rattle.ff_elem.specs.Elem.{algebra_in}
use Rattle.ff_data.specs.declared.order.Order.{Order}
use Rattle.ff_data.specs.declared.point.Point.{Point}
use Rattle.ff_data.specs.Orders.{chart_of}
use Rattle.ff_data.specs.Numerators.{AreQuotients}
use Rattle.ff_data.specs.Poles.{InModule}
use Rattle.ff_data.proofs.ChartLaws.{algebra_laws, chart_laws}
use Rattle.ff_data.proofs.LocalMaximal.{all_integral, maximal_order, maximal_point}
use Rattle.ff_data.proofs.PlaneQuotients.{quotient_is}
use Rattle.ff_frac.specs.Places.{IsMaximalPlace, HasPoleOrder, IsOverModulus, IsPoleNumerator}
use Rattle.ff_frac.specs.Places.{first_modulus}
use Rattle.ff_frac.proofs.PoleOrders.{IsAbove, near_above, product_above}

module _ (F : Elements ℕ) (L : Lawful F) (f : List (List ℕ)) (hf : IsPlane F f)
    (two : 1 < length f) (o : Order) (p : Point) (h : IsMaximalPlace L f o p) where
  abbrev A : RingOps
  A = algebra_in L f

  AL : IsCommRing (algebra_in L f)
  AL = algebra_laws F L f hf two

  abbrev c : ChartOf F.ring (algebra_in L f)
  c = chart_of L f o.chart

  l : IsChart F.ring (algebra_in L f) (chart_of L f o.chart)
  l = chart_laws F L f hf two o.chart

  abbrev D : Domain
  D = polynomial_domain (lawful_field L)

  U : IsMap (polynomials F.ring) (algebra_in L f) (at_u (chart_of L f o.chart))
  U = at_u_map (lawful_field L) A AL c l

  V : IsMap (planes (lawful_field L)) (algebra_in L f) (at_theta (chart_of L f o.chart))
  V = at_theta_map (lawful_field L) A AL c l

  abbrev pub place_order : ChartOrder (chart_of L f o.chart)
  place_order = maximal_order F L f hf two o h.maximal

  abbrev pub place_point : ChartPoint (chart_of L f o.chart)
      (maximal_order F L f hf two o h.maximal)
  place_point = maximal_point F L f hf two o h.maximal p h.point

  abbrev pub place : OrderAt
  place = order_at (lawful_field L) (algebra_in L f) (algebra_laws F L f hf two)
      (chart_of L f o.chart) (chart_laws F L f hf two o.chart)
      (maximal_order F L f hf two o h.maximal)
      (maximal_point F L f hf two o h.maximal p h.point)

  pub place_pair : (s : (algebra_in L f).carrier) × (t : (algebra_in L f).carrier)
      × IsLocalPair place s t
  place_pair = order_pair (lawful_field L) (algebra_in L f) (algebra_laws F L f hf two)
      (chart_of L f o.chart) (chart_laws F L f hf two o.chart)
      (maximal_order F L f hf two o h.maximal)
      (maximal_point F L f hf two o h.maximal p h.point)
      (all_integral F L f hf two o h.maximal)

  -- the pole modules
  pub place_into : (j : ℕ) (w : (algebra_in L f).carrier) → InModule L f o p j w
      → InModuleAt place j w
  place_into = module_into (lawful_field L) (algebra_in L f) (algebra_laws F L f hf two)
      (chart_of L f o.chart) (chart_laws F L f hf two o.chart) place_order place_point

  pub place_back : (j : ℕ) (w : (algebra_in L f).carrier) → InModuleAt place j w
      → InModule L f o p j w
  place_back = module_back (lawful_field L) (algebra_in L f) (algebra_laws F L f hf two)
      (chart_of L f o.chart) (chart_laws F L f hf two o.chart) place_order place_point

  pub above_into : (i : ℕ) (w : (algebra_in L f).carrier) → HasPoleOrder L f o p (suc i) w
      → IsAbove place i w
  above_into i w k = (place_into (suc i) w k.inside, λ m. k.outside (place_back i w m))

  pub above_back : (i : ℕ) (w : (algebra_in L f).carrier) → IsAbove place i w
      → HasPoleOrder L f o p (suc i) w
  above_back i w k = record {
    inside = place_back (suc i) w k.0;
    outside = λ m. k.1 (place_into i w m);
  }

  -- an element over a modulus
  abbrev over : Poly F.ring → Plane (lawful_field L) → A.carrier
  over m N = A.mul (l.inverse m) (at_theta c N)

  -- the residue of a numerator has the numerator's pole
  pub residue_above : (i : ℕ) (m : Poly F.ring)
      → (polynomials F.ring).same m (polynomials F.ring).zero ≡ false
      → (x : (algebra_in L f).carrier) → IsAbove place i x
      → (N R : Plane (lawful_field L)) → AreResidues F.ring m N R
      → (algebra_in L f).mul (at_u (chart_of L f o.chart) m) x ≡ at_theta (chart_of L f o.chart) N
      → (w : (algebra_in L f).carrier)
      → (algebra_in L f).mul (at_u (chart_of L f o.chart) m) w ≡ at_theta (chart_of L f o.chart) R
      → IsAbove place i w
  residue_above i m nonzero x k N R r is w e = near_above place i w x
      (powers_in (lawful_field L) A AL c l place_order place_point.a place_point.is_modulus _
      (subst (InPowers c) (sym difference) (powers_plane (lawful_field L) A AL c l
      ((planes (lawful_field L)).neg r.quotient)))) k
    where
      whole : x ≡ A.add w (at_theta c r.quotient)
      whole = cancel_u (lawful_field L) A AL c l m nonzero _ _ (is ∙ ap (at_theta c) r.sum
          ∙ V.on_add R _ ∙ ap₂ A.add (sym e) (row_times (lawful_field L) A AL c l m r.quotient)
          ∙ ring3 A AL (λ m w q. m ⊗ w ⊕ m ⊗ q) (λ m w q. m ⊗ (w ⊕ q)) refl (at_u c m) w
          (at_theta c r.quotient))

      difference : A.add w (A.neg x) ≡ at_theta c ((planes (lawful_field L)).neg r.quotient)
      difference = ap (λ t. A.add w (A.neg t)) whole
          ∙ ring2 A AL (λ w q. w ⊕ neg (w ⊕ q)) (λ w q. neg q) refl w (at_theta c r.quotient)
          ∙ sym (V.on_neg r.quotient)

  -- an element with a numerator
  abbrev nonzero_modulus : Poly F.ring → Type 0
  nonzero_modulus m = (polynomials F.ring).same m (polynomials F.ring).zero ≡ false

  over_is : (m : Poly F.ring) → nonzero_modulus m → (N : List (List ℕ))
      → IsOverModulus L f o m N (over m (plane_of F N))
  over_is m n N = times_over (lawful_field L) A AL c l m n (plane_of F N)

  pub some_over : (m : Poly F.ring) → (polynomials F.ring).same m (polynomials F.ring).zero ≡ false
      → (N : List (List ℕ)) → (w : (algebra_in L f).carrier) × IsOverModulus L f o m N w
  some_over m n N = (over m (plane_of F N), over_is m n N)

  abbrev d : Poly F.ring
  d = poly_of F o.d

  abbrev root : Poly F.ring
  root = root_at F.ring (F.value p.a)

  d_nonzero : nonzero_modulus (poly_of F o.d)
  d_nonzero = l.modulus_nonzero (poly_of F o.d) h.maximal.order.modulus

  first_nonzero : nonzero_modulus (D.mul d root)
  first_nonzero = l.modulus_nonzero _ (l.modulus_product d root h.maximal.order.modulus
      place_point.is_modulus)

  -- the residue modulo a modulus of a numerator
  pub residue_numerator : (i : ℕ) (m : Poly F.ring)
      → (polynomials F.ring).same m (polynomials F.ring).zero ≡ false → (N R : List (List ℕ))
      → AreResidues F.ring m (plane_of F N) (plane_of F R)
      → IsPoleNumerator L f o p (suc i) m N → IsPoleNumerator L f o p (suc i) m R
  residue_numerator i m n N R r k w e = above_back i w (residue_above i m n (over m (plane_of F N))
      (above_into i _ (k _ (over_is m n N))) (plane_of F N) (plane_of F R) r (over_is m n N) w e)

  -- the next power: the numerators W over m and G over d*(u-a), the remainder N of their product,
  -- its quotient Q by d, and the residue R of that modulo m*(u-a)
  module _ (i : ℕ) (m : Poly F.ring) (is : m ≡ (polynomials F.ring).mul
      (power (polynomials F.ring) (root_at F.ring (F.value p.a)) (suc i)) (poly_of F o.d))
      (W G R : List (List ℕ)) (N Q : Plane (lawful_field L))
      (modulus : (chart_of L f o.chart).IsModulus m)
      (of_first : IsPoleNumerator L f o p 1 (first_modulus L f o p) G)
      (of_power : IsPoleNumerator L f o p (suc i) m W)
      (congruent : IsCongruent (polynomials F.ring) (chart_of L f o.chart).equation
      ((planes (lawful_field L)).mul (plane_of F W) (plane_of F G)) N)
      (few : size (polynomials F.ring) N ≤ (chart_of L f o.chart).degree)
      (quotients : AreQuotients F (poly_of F o.d) N Q)
      (next : Poly F.ring) (next_is : next ≡ (polynomials F.ring).mul m
      (root_at F.ring (F.value p.a)))
      (residues : AreResidues F.ring next Q (plane_of F R)) where
    m_nonzero : nonzero_modulus m
    m_nonzero = l.modulus_nonzero m modulus

    next_nonzero : nonzero_modulus next
    next_nonzero = l.modulus_nonzero next (subst c.IsModulus (sym next_is)
        (l.modulus_product m root modulus place_point.is_modulus))

    w : A.carrier
    w = over m (plane_of F W)

    s : A.carrier
    s = over (D.mul d root) (plane_of F G)

    w_is : IsOverModulus L f o m W w
    unfolding w
    w_is = over_is m m_nonzero W

    s_is : IsOverModulus L f o (D.mul d root) G s
    unfolding s
    s_is = over_is (D.mul d root) first_nonzero G

    above : IsAbove place (suc i) (A.mul w s)
    above = product_above place place_pair.0 place_pair.1 place_pair.2 i w s
        (above_into i w (of_power w w_is)) (above_into 0 s (of_first s s_is))

    -- the value of the remainder
    value : at_theta c N ≡ A.mul (at_u c d) (A.mul (at_u c next) (A.mul w s))
    value = sym (ap (at_theta c) congruent.sum ∙ V.on_add _ _
        ∙ ap (λ t. A.add t (at_theta c N)) (V.on_mul congruent.quotient c.equation
        ∙ ap (A.mul (at_theta c congruent.quotient)) l.root)
        ∙ ring2 A AL (λ q n. q ⊗ nil ⊕ n) (λ q n. n) refl (at_theta c congruent.quotient)
        (at_theta c N))
        ∙ V.on_mul (plane_of F W) (plane_of F G)
        ∙ ap₂ A.mul (sym w_is) (sym s_is ∙ ap (λ t. A.mul t s) (U.on_mul d root))
        ∙ ring4 A AL (λ m w x s. m ⊗ w ⊗ (x ⊗ s)) (λ m w x s. x ⊗ (m ⊗ (w ⊗ s))) refl (at_u c m) w
        (A.mul (at_u c d) (at_u c root)) s
        ∙ ring4 A AL (λ d r m x. d ⊗ r ⊗ (m ⊗ x)) (λ d r m x. d ⊗ (m ⊗ r ⊗ x)) refl (at_u c d)
        (at_u c root) (at_u c m) (A.mul w s)
        ∙ ap (λ t. A.mul (at_u c d) (A.mul t (A.mul w s))) (sym (U.on_mul m root)
        ∙ ap (at_u c) (sym next_is))

    next_pole : next ≡ pole_modulus c place_order place_point.a (suc (suc i))
    next_pole = next_is ∙ ap (λ t. D.mul t root) is
        ∙ ring3 D.ring D.laws (λ x d r. x ⊗ d ⊗ r) (λ x d r. r ⊗ x ⊗ d) refl
        (power (polynomials F.ring) root (suc i)) d root

    clears : InPowers c (A.mul (at_u c next) (A.mul w s))
    unfolding AL l
    clears = subst (λ t. InPowers c (A.mul (at_u c t) (A.mul w s))) (sym next_pole)
        (pole_clears (lawful_field L) A AL c l place_order place_point (suc (suc i)) (A.mul w s)
        above.0)

    exact : (T : Plane (lawful_field L))
        × (N ≡ (planes (lawful_field L)).mul (row_of F.ring d) T)
    exact = plane_quotient (lawful_field L) A AL c l d h.maximal.order.modulus
        (A.mul (at_u c next) (A.mul w s)) clears N few value

    short : (i : ℕ) → size F.ring (coeff (polynomials F.ring) (planes (lawful_field L)).zero.coeffs
        i) < size F.ring d
    short i = let z : size F.ring (coeff (polynomials F.ring)
        (planes (lawful_field L)).zero.coeffs i) ≡ 0
        = ap (size F.ring) (none i) ∙ zero_size (lawful_field L) in
        let p = nonzero_size (lawful_field L) d d_nonzero in
        omega (arith, z, p.1)
      where
        none : (i : ℕ) → coeff (polynomials F.ring) (planes (lawful_field L)).zero.coeffs i
            ≡ D.zero
        none i = polynomial_past (polynomials F.ring) D.laws D.tests 0 (λ i. D.zero) i
            (omega arith)

    PL : IsCommRing (planes (lawful_field L))
    PL = polynomial_laws D.ring D.laws D.tests

    same : Q ≡ exact.0
    same = quotient_is (lawful_field L) d d_nonzero N Q
        (planes (lawful_field L)).zero exact.0 (exact.1 ∙ ring1 (planes (lawful_field L)) PL
        (λ n. n) (λ n. nil ⊕ n) refl ((planes (lawful_field L)).mul (row_of F.ring d) exact.0))
        short quotients

    quotient_value : A.mul (at_u c next) (A.mul w s) ≡ at_theta c Q
    quotient_value = cancel_u (lawful_field L) A AL c l d d_nonzero _ _ (sym value
        ∙ ap (at_theta c) (exact.1 ∙ ap ((planes (lawful_field L)).mul (row_of F.ring d))
        (sym same)) ∙ row_times (lawful_field L) A AL c l d Q)

    pub next_numerator : IsPoleNumerator L f o p (suc (suc i)) next R
    next_numerator x e = above_back (suc i) x (residue_above (suc i) next next_nonzero (A.mul w s)
        above Q (plane_of F R) residues quotient_value x e)
