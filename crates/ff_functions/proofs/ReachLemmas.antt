-- How far the elements of an order and of a pole module reach at infinity, for an equation f over a
-- field whose laws are L.
use Rattle.std.proofs.Common.{◌≡◌, ℕ, pred, ◌+◌ as plus_ℕ, ◌-◌, ◌<◌, ◌≤◌, List, length}
use Rattle.std.proofs.Common.{refl, sym, ◌∙◌, ap, ap₂, subst, arith, [], ◌∷◌}
use Rattle.ff_theory.specs.Ring.{RingOps, IsCommRing, Elements, power}
use Rattle.ff_theory.specs.Lawful.{Domain, Field, Lawful, lawful_field}
use Rattle.ff_theory.specs.Map.{IsMap}
use Rattle.ff_theory.specs.Poly.{Poly, poly, polynomials}
use Rattle.ff_theory.specs.Monomial.{variable}
use Rattle.ff_theory.specs.Values.{poly_of, IsPlane}
use Rattle.ff_theory.proofs.Solver.{neg, nil, ring1}
use Rattle.ff_theory.proofs.PolyMap.{polynomial_domain}
use Rattle.ff_theory.proofs.Powers.{power-add}
use Rattle.ff_charts.specs.Chart.{Chart as ChartOf, at_u, IsChart, InPowers}
use Rattle.ff_charts.proofs.Chart.{at_u_map, powers_add, powers_mul, powers_u, powers_plane}
use Rattle.ff_charts.proofs.Chart.{powers_at}
use Rattle.ff_local.specs.ChartOrder.{root_at}
use Rattle.ff_local.proofs.ChartQuotient.{pole_clears}
use Rattle.ff_lin.specs.Space.{SpaceParts}
use Rattle.ff_elem.specs.Elem.{algebra_in}
use Rattle.ff_data.specs.declared.order.Chart.TheVariants.{Infinite}
use Rattle.ff_data.specs.declared.order.Order.{Order}
use Rattle.ff_data.specs.declared.point.Point.{Point}
use Rattle.ff_data.specs.Orders.{chart_of, InOrder, IsOrder}
use Rattle.ff_data.specs.Lattices.{IsLattice, InLatticeOf}
use Rattle.ff_data.specs.Poles.{InModule}
use Rattle.ff_data.proofs.ChartLaws.{algebra_laws, chart_laws}
use Rattle.ff_common.proofs.CommonSpace.{power_is}
use Rattle.ff_frac.specs.Places.{IsMaximalPlace}
use Rattle.ff_frac.proofs.PlaceLemmas.{place_into, place_order, place_point}
use Rattle.ff_functions.specs.Elements.{IsWithinReach}

module _ (F : Elements ℕ) (L : Lawful F) (f : List (List ℕ)) (hf : IsPlane F f)
    (two : 1 < length f) where
  abbrev K : Field
  K = lawful_field L

  abbrev D : Domain
  D = polynomial_domain (lawful_field L)

  abbrev A : RingOps
  A = algebra_in L f

  AL : IsCommRing (algebra_in L f)
  AL = algebra_laws F L f hf two

  abbrev B : ChartOf F.ring (algebra_in L f)
  B = chart_of L f Infinite

  BL : IsChart F.ring (algebra_in L f) (chart_of L f Infinite)
  BL = chart_laws F L f hf two Infinite

  U : IsMap (polynomials F.ring) (algebra_in L f) (at_u (chart_of L f Infinite))
  U = at_u_map K A AL B BL

  abbrev X_to : ℕ → Poly F.ring
  X_to m = power (polynomials F.ring) (variable F.ring) m

  -- a greater reach
  pub reach_more : (n m : ℕ) (w : (algebra_in L f).carrier) → IsWithinReach L f m w
      → IsWithinReach L f (plus_ℕ n m) w
  reach_more n m w h = powers_at K A AL B BL
      (sym (AL.mul_assoc (at_u B (X_to n)) (at_u B (X_to m)) w)
      ∙ ap (λ t. A.mul t w) (sym (U.on_mul (X_to n) (X_to m))
      ∙ ap (at_u B) (sym (power-add D.ring D.laws (variable F.ring) n m))))
      (powers_mul K A AL B BL _ _ (powers_u K A AL B BL (X_to n)) h)

  pub reach_least : (m n : ℕ) → m ≤ n → (w : (algebra_in L f).carrier) → IsWithinReach L f m w
      → IsWithinReach L f n w
  reach_least m n q w h = let e : plus_ℕ (n - m) m ≡ n = omega (arith, q) in
      subst (λ n. IsWithinReach L f n w) e (reach_more (n - m) m w h)

  -- an element of a lattice of the infinite chart
  pub lattice_reach : (t : List ℕ) (o : SpaceParts) → IsLattice L f Infinite t o
      → (w : (algebra_in L f).carrier) → InLatticeOf L f Infinite t o w
      → IsWithinReach L f (pred (length t)) w
  lattice_reach t o h w k = subst (λ p. InPowers B (A.mul (at_u B p) w))
      (power_is F L f hf two t o h)
      (powers_at K A AL B BL (sym k.residue.sum) (powers_add K A AL B BL _ _
      (powers_plane K A AL B BL k.nums) (powers_mul K A AL B BL _ _
      (powers_u K A AL B BL (poly_of F t)) k.residue.in_powers)))

  -- an order of the infinite chart as a lattice
  pub order_lattice : (o : Order) → IsOrder L f o → o.chart ≡ Infinite
      → IsLattice L f Infinite o.d o.space
  order_lattice o q chart = record {
    poly = q.d;
    modulus = subst (λ c. (chart_of L f c).IsModulus (poly_of F o.d)) chart q.modulus;
    space = q.space;
  }

  pub order_reach : (o : Order) → IsOrder L f o → o.chart ≡ Infinite
      → (w : (algebra_in L f).carrier) → InOrder L f o w → IsWithinReach L f (pred (length o.d)) w
  order_reach o q chart w k = lattice_reach o.d o.space (order_lattice o q chart) w
      (subst (λ c. InLatticeOf L f c o.d o.space w) chart k)

  -- an element of a pole module of a point at infinity
  module _ (o : Order) (p : Point) (h : IsMaximalPlace L f o p) (chart : o.chart ≡ Infinite) where
    root_is : root_at F.ring (F.value p.a) ≡ variable F.ring
    root_is = ap (λ a. poly F.ring (a ∷ F.one ∷ [])) (ap F.neg (h.point.at_infinity chart)
        ∙ ring1 F.ring L.laws (λ a. neg nil) (λ a. nil) refl F.zero)

    pub module_reach : (j : ℕ) (w : (algebra_in L f).carrier) → InModule L f o p j w
        → IsWithinReach L f (plus_ℕ j (pred (length o.d))) w
    unfolding AL
    module_reach j w k = subst (λ m. InPowers B (A.mul (at_u B m) w)) is
        (subst (λ c. InPowers (chart_of L f c) (A.mul (at_u (chart_of L f c) ((polynomials
        F.ring).mul (power (polynomials F.ring) (root_at F.ring (F.value p.a)) j)
        (poly_of F o.d))) w)) chart
        (pole_clears K A AL (chart_of L f o.chart) (chart_laws F L f hf two o.chart)
        (place_order F L f hf two o p h) (place_point F L f hf two o p h) j w
        (place_into F L f hf two o p h j w k)))
      where
        is : (polynomials F.ring).mul (power (polynomials F.ring) (root_at F.ring (F.value p.a)) j)
            (poly_of F o.d) ≡ X_to (plus_ℕ j (pred (length o.d)))
        is = ap₂ D.mul (ap (λ r. power (polynomials F.ring) r j) root_is)
            (power_is F L f hf two o.d o.space
            (order_lattice o h.maximal.order chart))
            ∙ sym (power-add D.ring D.laws (variable F.ring) j (pred (length o.d)))
