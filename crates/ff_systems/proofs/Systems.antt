-- Least functions with a table that writes their products, and x and y written within a limit, are
-- a pole system.
use Rattle.std.proofs.Common.{◌≡◌, ℕ, zero, suc, ◌+◌, ◌*◌, ◌/◌, ◌<◌, ◌≤◌, List, [], length}
use Rattle.std.proofs.Common.{get_or, All, refl, sym, ◌∙◌, ap, subst, arith}
use Rattle.std.proofs.Math.Nat.{div-add-mod}
use Rattle.std.proofs.lemmas.List.Elements.{All-get_or}
use Rattle.ff_theory.specs.Ring.{RingOps, Elements}
use Rattle.ff_theory.specs.Lawful.{Field, Lawful, lawful_field}
use Rattle.ff_theory.specs.Division.{size}
use Rattle.ff_theory.specs.Algebra.{constant}
use Rattle.ff_theory.specs.Values.{poly_of, IsPoly, plane_of, IsPlane}
use Rattle.ff_theory.proofs.Gcd.{no_size}
use Rattle.ff_conductor.proofs.Integral.{times-mono}
use Rattle.ff_poly.proofs.LongDivision.{poly-size}
use Rattle.ff_table.specs.Weight.{HasWeight as HasWeightOf, IsBelow}
use Rattle.ff_table.specs.PoleOrders.{ArePoleSpaces}
use Rattle.ff_table.proofs.PoleOrders.{at_z-map, poly-order}
use Rattle.ff_elem.specs.Elem.{algebra_in, elem_of, x_in, y_in}
use Rattle.ff_data.specs.declared.order.Order.{Order}
use Rattle.ff_data.specs.declared.point.Point.{Point}
use Rattle.ff_data.specs.declared.system.System.{System}
use Rattle.ff_data.specs.Poles.{HasPoleUpTo}
use Rattle.ff_data.specs.Substitution.{poly_at}
use Rattle.ff_data.specs.Combinations.{elems_of}
use Rattle.ff_data.specs.Systems.{weight_at, product_at, ring_value, at_z, AreCoords, IsSystem}
use Rattle.ff_data.specs.Systems.{HasForm, HasWeight, IsWithinWeight, IsExpression}
use Rattle.ff_data.proofs.ChartLaws.{algebra_laws}
use Rattle.ff_systems.specs.Places.{IsPlace, HasLeastFunctions}
use Rattle.ff_systems.proofs.Spaces.{OrderIs, spaces}
use Rattle.ff_systems.proofs.TableRule.{z_order, positive, entries, list_value, weight_is}
use Rattle.ff_systems.proofs.TableRule.{light_inside, product_order}
use Rattle.ff_systems.proofs.Weights.{within_below, weight_of_list}

module _ (F : Elements ℕ) (L : Lawful F) (f : List (List ℕ)) (hf : IsPlane F f)
    (two : 1 < length f) (o : Order) (p : Point) (other : Order)
    (at : IsPlace L f o p other) (s : System) (h : HasLeastFunctions L f o p other s)
    (count : length s.weights ≡ s.e) where
  abbrev K : Field
  K = lawful_field L

  abbrev A : RingOps
  A = algebra_in L f

  up : ArePoleSpaces F.ring (algebra_in L f) (constant (lawful_field L) (plane_of F f))
      (HasPoleUpTo L f o p other)
  up = spaces F L f hf two o p other at

  -- coordinates that write a product have the sum of the weights
  pub product_weight : (i k : ℕ) → i < s.e → k < s.e → (c : List (List ℕ)) → AreCoords F s c
      → ring_value L f s c ≡ (algebra_in L f).mul (elems_of L f s.b i) (elems_of L f s.b k)
      → HasWeight s (weight_at s i + weight_at s k) c
  product_weight i k l n c coords e = weight_of_list F L s c coords
      (weight_at s i + weight_at s k) (subst (λ r. HasWeightOf F.ring r (λ j. weight_at s j)
      (entries F L f hf two o p other at s h count c) (weight_at s i + weight_at s k)) count
      (weight_is F L f hf two o p other at s h count
      (entries F L f hf two o p other at s h count c) (weight_at s i + weight_at s k)
      (subst (OrderIs F L f hf two o p other at (weight_at s i + weight_at s k))
      (sym e ∙ list_value F L f hf two o p other at s h count c coords.count)
      (product_order F L f hf two o p other at s h count i k l n))))

  -- coordinates of weight at most j write elements of L_j
  pub coords_inside : (j : ℕ) (c : List (List ℕ)) → AreCoords F s c → IsWithinWeight s j c
      → HasPoleUpTo L f o p other j (ring_value L f s c)
  coords_inside j c coords w = subst (HasPoleUpTo L f o p other j)
      (sym (list_value F L f hf two o p other at s h count c coords.count))
      (light_inside F L f hf two o p other at s h count
      (entries F L f hf two o p other at s h count c) j
      (subst (λ r. IsBelow F.ring r (λ i. weight_at s i) (suc j)
      (entries F L f hf two o p other at s h count c)) (sym count)
      (within_below F L s c coords j w)))

  -- polynomials in z
  pub poly_inside : (j : ℕ) (q : List ℕ) → IsPoly F q → length q ≤ j / s.e + 1
      → HasPoleUpTo L f o p other j (at_z L f s q)
  poly_inside j q hq few = go (size F.ring (poly_of F q)) refl
    where
      long : size F.ring (poly_of F q) ≡ length q
      long = poly-size F.ring L.laws L.tests F.value q hq.canonical

      go : (n : ℕ) → size F.ring (poly_of F q) ≡ n → HasPoleUpTo L f o p other j (at_z L f s q)
      go zero e = subst (HasPoleUpTo L f o p other j) (up.constants.on_zero
          ∙ sym (ap (poly_at K (plane_of F f) (elem_of L f s.z))
          (no_size (lawful_field L) (poly_of F q) e)
          ∙ (at_z-map K A (algebra_laws F L f hf two) (constant K (plane_of F f))
          (HasPoleUpTo L f o p other) up (length s.weights)
          (positive F L f hf two o p other at s h count) (elem_of L f s.z)
          (z_order F L f hf two o p other at s h count)).on_zero))
          (up.more 0 j (constant K (plane_of F f) F.zero) (omega arith) (up.in_first F.zero))
      go (suc d) e = up.more (length s.weights * d) j (at_z L f s q) small
          (poly-order K A (algebra_laws F L f hf two) (constant K (plane_of F f))
          (HasPoleUpTo L f o p other) up (length s.weights)
          (positive F L f hf two o p other at s h count) (elem_of L f s.z)
          (z_order F L f hf two o p other at s h count) (poly_of F q) d e).up_to
        where
          small : length s.weights * d ≤ j
          small = let a : s.e * d ≤ s.e * (j / s.e) = times-mono s.e d (j / s.e)
              (omega (arith, e, long, few)) in
              let b : length s.weights * d ≡ s.e * d = ap (λ n. n * d) count in
              omega (arith, a, b, div-add-mod j s.e)

  -- the system of these parts
  pub is_system : (J : ℕ) → s.e ≤ J → All (λ m. m ≤ J) s.weights → HasForm L f s
      → ((i k : ℕ) → i < s.e → k < s.e → ring_value L f s (product_at s i k)
      ≡ (algebra_in L f).mul (elems_of L f s.b i) (elems_of L f s.b k))
      → IsExpression L f s (x_in L f) (J / s.e) J s.x
      → IsExpression L f s (y_in L f) (J / s.e) J s.y → IsSystem L f o p other J s
  is_system J small weights form product x y = record {
    form = form;
    positive = h.positive;
    is_number = h.is_number;
    least = h.least;
    z = h.z;
    basis = h.basis;
    product = product;
    weight = λ i k l n. product_weight i k l n (product_at s i k) (coords i k l n)
        (product i k l n);
    x = x.writes;
    y = y.writes;
    within = record {
      e = small;
      weights = weights;
      z = up.more s.e J (elem_of L f s.z) small h.z.up_to;
      b = λ i l. up.more (weight_at s i) J (elems_of L f s.b i)
          (All-get_or (λ m. m ≤ J) s.weights i 0 (omega (arith, l, count)) weights)
          (h.basis.pole i l).up_to;
      x_den = poly_inside J s.x.q x.form.q x.degree;
      y_den = poly_inside J s.y.q y.form.q y.degree;
      x_num = coords_inside J s.x.c x.form.coords x.weight;
      y_num = coords_inside J s.y.c y.form.coords y.weight;
    };
  }
    where
      coords : (i k : ℕ) → i < s.e → k < s.e → AreCoords F s (product_at s i k)
      coords i k l n = All-get_or (AreCoords F s) (get_or s.table i []) k []
          (let r : length (get_or s.table i []) ≡ s.e = All-get_or (λ r. length r ≡ s.e) s.table i
          [] (omega (arith, l, form.rows)) form.row in omega (arith, n, r))
          (All-get_or (All (AreCoords F s)) s.table i [] (omega (arith, l, form.rows)) form.table)
