-- The characters of a fibre of an order that is closed under products give points of it, and each
-- point comes from one, for an equation f over a field whose laws are L.
use Rattle.std.proofs.Common.{◌≡◌, ℕ, pred, ◌<◌, List, length, refl, sym}
use Rattle.std.proofs.Common.{◌∙◌, ap, subst, arith}
use Rattle.ff_theory.specs.Ring.{RingOps, Elements, power}
use Rattle.ff_theory.specs.Lawful.{Lawful, lawful_field}
use Rattle.ff_theory.specs.Monomial.{monomial}
use Rattle.ff_theory.specs.Poly.{polynomials}
use Rattle.ff_theory.specs.Planes.{Plane}
use Rattle.ff_theory.specs.Span.{product}
use Rattle.ff_theory.specs.Values.{poly_of, IsPlane}
use Rattle.ff_theory.specs.Vector.{vector_of, vectors_of}
use Rattle.ff_theory.proofs.Solver.{◌⊗◌, unit, ring2}
use Rattle.ff_charts.specs.Chart.{Chart as ChartOf, at_u, at_theta, IsChart}
use Rattle.ff_charts.specs.Lattice.{HasShape}
use Rattle.ff_charts.proofs.Chart.{powers_one}
use Rattle.ff_charts.proofs.Flat.{flat_one, plane_with_flat}
use Rattle.ff_local.specs.ChartOrder.{ChartOrder, root_at}
use Rattle.ff_local.specs.ChartFibre.{ChartFibre}
use Rattle.ff_local.specs.Functional.{HasFunctionalValue, IsFunctional}
use Rattle.ff_local.proofs.ChartOrder.{order_in, powers_in}
use Rattle.ff_local.proofs.ChartSpanning.{in_over, powers_theta}
use Rattle.ff_local.proofs.ChartFibre.{fibre}
use Rattle.ff_local.proofs.Quotients.{times_over}
use Rattle.ff_values.proofs.FunctionalPoints.{IsDataPoint, functional_data}
use Rattle.ff_lin.specs.Space.{rows_of, pivot}
use Rattle.ff_elem.specs.Elem.{algebra_in}
use Rattle.ff_data.specs.declared.order.Order.{Order}
use Rattle.ff_data.specs.declared.point.Point.{Point}
use Rattle.ff_data.specs.Orders.{chart_of, IsOrder, InOrder}
use Rattle.ff_data.specs.Points.{IsPoint}
use Rattle.ff_data.proofs.ChartLaws.{algebra_laws, chart_laws, chart_degree}
use Rattle.ff_data.proofs.LocalOrder.{local_order, order_rows, order_ends, root_modulus}
use Rattle.ff_forms.specs.Forms.{HasPointForm}
use Rattle.ff_fibre.specs.declared.parts.Fibre.{Fibre}
use Rattle.ff_fibre.specs.Fibres.{AreCoordinatesOf, IsFibreAt}
use Rattle.ff_fibre.proofs.PowerPlanes.{monomial_theta}
use Rattle.ff_fibre.proofs.FibreOfData.{count, congruent_value, data_fibre, functional_value}
use Rattle.ff_points.specs.PointLists.{IsClosedOrder, ArePowerCoordinates, AreVectorCoordinates}
use Rattle.ff_points.specs.PointLists.{IsCharacterOf}

module _ (F : Elements ℕ) (L : Lawful F) (f : List (List ℕ)) (hf : IsPlane F f)
    (two : 1 < length f) (o : Order) (h : IsOrder L f o) (closed : IsClosedOrder L f o)
    (a : F.carrier) (modulus : (chart_of L f o.chart).IsModulus (root_at F.ring a)) (s : Fibre)
    (b : IsFibreAt L f o a s) (chi : ℕ → F.carrier) where
  abbrev A : RingOps
  A = algebra_in L f

  abbrev c : ChartOf F.ring (algebra_in L f)
  c = chart_of L f o.chart

  l : IsChart F.ring (algebra_in L f) (chart_of L f o.chart)
  l = chart_laws F L f hf two o.chart

  abbrev O : ChartOrder (chart_of L f o.chart)
  O = local_order F L f hf two o h closed

  -- the fibre
  abbrev G : ChartFibre (chart_of L f o.chart) (local_order F L f hf two o h closed) a
  G = data_fibre F L f hf two o h closed a modulus s b.basis b.products

  abbrev pub Has : (algebra_in L f).carrier → F.carrier → Type 0
  Has = HasFunctionalValue (order_in (lawful_field L) (algebra_in L f)
      (algebra_laws F L f hf two) (chart_of L f o.chart) (chart_laws F L f hf two o.chart)
      (local_order F L f hf two o h closed) a modulus) (fibre (lawful_field L) (algebra_in L f)
      (algebra_laws F L f hf two) (chart_of L f o.chart) (chart_laws F L f hf two o.chart)
      (local_order F L f hf two o h closed) a modulus G) chi

  rows_count : length (rows_of s.rows.items) ≡ length s.planes.items
  rows_count = count F L f hf two o h closed a modulus s b.basis

  has_value : (x : A.carrier) → InOrder L f o x → (N : Plane (lawful_field L))
      → at_theta c N ≡ A.mul (at_u c (poly_of F o.d)) x → (e : ℕ → F.carrier)
      → AreCoordinatesOf L f s N e → Has x (product F.ring (length s.planes.items) e chi)
  has_value x inside N over_is e k = subst (λ n. Has x (product F.ring n e chi)) rows_count
      (functional_value F L f hf two o h closed a modulus s b.basis b.products chi x inside N
      over_is e k)

  -- a power of theta
  power_value : (i : ℕ) (e : ℕ → F.carrier) → InOrder L f o (power A c.theta i)
      → ArePowerCoordinates L f o s i e
      → Has (power A c.theta i) (product F.ring (length s.planes.items) e chi)
  power_value i e inside k = has_value (power A c.theta i) inside k.0
      (congruent_value F L f hf two o h closed a modulus s b.basis
      (monomial (polynomials F.ring) (poly_of F o.d) i) k.0 k.1.0
      ∙ monomial_theta (lawful_field L) A (algebra_laws F L f hf two) c l (poly_of F o.d) i) e k.1.1

  -- theta, by its coordinates
  pub theta_value : (theta : ℕ → F.carrier) → ArePowerCoordinates L f o s 1 theta
      → Has (chart_of L f o.chart).theta (product F.ring (length s.planes.items) theta chi)
  theta_value theta of_theta = subst (λ t. Has t
      (product F.ring (length s.planes.items) theta chi)) theta_power
      (power_value 1 theta (subst (InOrder L f o) (sym theta_power)
      (powers_in (lawful_field L) A (algebra_laws F L f hf two) c l O a modulus _
      (powers_theta (lawful_field L) A (algebra_laws F L f hf two) c l))) of_theta)
    where
      theta_power : power A c.theta 1 ≡ c.theta
      theta_power = ring2 A (algebra_laws F L f hf two) (λ t z. t ⊗ unit) (λ t z. t) refl c.theta
          c.theta

  -- the elements of the basis of the space, by theirs
  pub basis_value : (j : ℕ) → j < length o.space.basis → (e : ℕ → F.carrier)
      → AreVectorCoordinates L f o s (vectors_of F o.space.basis j) e
      → Has ((algebra_in L f).mul ((chart_laws F L f hf two o.chart).inverse (poly_of F o.d))
      (at_theta (chart_of L f o.chart) ((local_order F L f hf two o h closed).space.basis j)))
      (product F.ring (length s.planes.items) e chi)
  unfolding l
  basis_value j q e k = has_value _ (in_over (lawful_field L) A
      (algebra_laws F L f hf two) c l O (O.space.basis j) (O.space.shape j q)
      (O.space.is_in j q)) k.plane (ap (at_theta c) same ∙ sym (times_over (lawful_field L) A
      (algebra_laws F L f hf two) c l (poly_of F o.d)
      (l.modulus_nonzero (poly_of F o.d) h.modulus) (O.space.basis j))) e k.coordinates
    where
      same : k.plane ≡ O.space.basis j
      same = flat_one (lawful_field L) (pred (length o.d)) c.degree k.plane (O.space.basis j)
          (subst (λ n. HasShape F.ring n (pred (length o.d)) k.plane)
          (sym (chart_degree F L f hf two o.chart)) k.shape)
          (subst (λ m. HasShape F.ring c.degree m (O.space.basis j))
          (sym (order_rows F L f hf two o h)) (O.space.shape j q))
          (λ i. k.vector i ∙ sym (plane_with_flat (lawful_field L) (pred (length o.d)) c.degree
          (vectors_of F o.space.basis j) (order_ends F L f hf two o h j q) i))

  -- 1, by its coordinates
  pub one_value : (one : ℕ → F.carrier) → ArePowerCoordinates L f o s 0 one
      → Has (algebra_in L f).one (product F.ring (length s.planes.items) one chi)
  one_value one k = power_value 0 one (powers_in (lawful_field L) A
      (algebra_laws F L f hf two) c l O a modulus _
      (powers_one (lawful_field L) A (algebra_laws F L f hf two) c l)) k

  module _ (character : IsCharacterOf L f o s chi) (theta : ℕ → F.carrier)
      (basis : ℕ → ℕ → F.carrier) (of_theta : ArePowerCoordinates L f o s 1 theta)
      (of_basis : (i : ℕ) → i < length o.space.basis
      → AreVectorCoordinates L f o s (vectors_of F o.space.basis i) (basis i)) (p : Point)
      (theta_is : F.value p.theta ≡ product F.ring (length s.planes.items) theta chi)
      (values : (i : ℕ) → i < length o.space.basis → vector_of F p.values i
      ≡ product F.ring (length s.planes.items) (basis i) chi) where
    functional : IsFunctional (order_in (lawful_field L) (algebra_in L f)
        (algebra_laws F L f hf two) (chart_of L f o.chart) (chart_laws F L f hf two o.chart)
        (local_order F L f hf two o h closed) a modulus) (fibre (lawful_field L) (algebra_in L f)
        (algebra_laws F L f hf two) (chart_of L f o.chart) (chart_laws F L f hf two o.chart)
        (local_order F L f hf two o h closed) a modulus G) chi
    functional = record {
      unit = subst (Has A.one) character.character.unit
          (one_value (vector_of F character.one) character.coordinates);
      products = λ i j p q. ap (λ n. product F.ring n (G.table i j) chi) rows_count
          ∙ character.character.products i (let n = rows_count in omega (arith, p, n)) j
          (let n = rows_count in omega (arith, q, n));
    }

    pub data_point : IsDataPoint (lawful_field L) (algebra_in L f) (algebra_laws F L f hf two)
        (chart_of L f o.chart) (chart_laws F L f hf two o.chart) (poly_of F o.d) h.modulus
        (pred (length o.d)) (length o.space.basis) (vectors_of F o.space.basis)
        (order_rows F L f hf two o h) (pivot o.space) h.space.space.echelon
        (order_ends F L f hf two o h) closed a modulus G (F.value p.theta) (vector_of F p.values)
    data_point = functional_data (lawful_field L) (algebra_in L f) (algebra_laws F L f hf two)
        (chart_of L f o.chart) (chart_laws F L f hf two o.chart) (poly_of F o.d) h.modulus
        (pred (length o.d)) (length o.space.basis) (vectors_of F o.space.basis)
        (order_rows F L f hf two o h) (pivot o.space) h.space.space.echelon
        (order_ends F L f hf two o h) closed a modulus G chi functional (F.value p.theta)
        (vector_of F p.values) (subst (Has c.theta) (sym theta_is) (theta_value theta of_theta))
        (λ j q. subst (Has _) (sym (values j q)) (basis_value j q (basis j) (of_basis j q)))

-- data over a with the values that a character gives are a point
pub character_point : (F : Elements ℕ) (L : Lawful F) (f : List (List ℕ)) → IsPlane F f
    → 1 < length f → (o : Order) → IsOrder L f o → IsClosedOrder L f o → (p : Point)
    → HasPointForm F o p → (s : Fibre) → IsFibreAt L f o (F.value p.a) s → (chi : ℕ → F.carrier)
    → IsCharacterOf L f o s chi → (theta : ℕ → F.carrier) → ArePowerCoordinates L f o s 1 theta
    → (basis : ℕ → ℕ → F.carrier) → ((i : ℕ) → i < length o.space.basis
    → AreVectorCoordinates L f o s (vectors_of F o.space.basis i) (basis i))
    → F.value p.theta ≡ product F.ring (length s.planes.items) theta chi
    → ((i : ℕ) → i < length o.space.basis → vector_of F p.values i
    ≡ product F.ring (length s.planes.items) (basis i) chi) → IsPoint L f o p
character_point F L f hf two o h closed p form s b chi character theta of_theta basis of_basis
    theta_is values = record {
      chart = form.chart;
      a = form.a;
      theta = form.theta;
      values = form.values;
      at_infinity = form.at_infinity;
      root = d.root;
      sums = d.sums;
      products = d.products;
      value_of_u = d.value_of_u;
      value_of_theta = d.value_of_theta;
    }
  where
    modulus : (chart_of L f o.chart).IsModulus (root_at F.ring (F.value p.a))
    modulus = root_modulus F L f o.chart (F.value p.a) form.at_infinity

    d : IsDataPoint (lawful_field L) (algebra_in L f) (algebra_laws F L f hf two)
        (chart_of L f o.chart) (chart_laws F L f hf two o.chart) (poly_of F o.d) h.modulus
        (pred (length o.d)) (length o.space.basis) (vectors_of F o.space.basis)
        (order_rows F L f hf two o h) (pivot o.space) h.space.space.echelon
        (order_ends F L f hf two o h) closed (F.value p.a)
        (root_modulus F L f o.chart (F.value p.a) form.at_infinity)
        (data_fibre F L f hf two o h closed (F.value p.a)
        (root_modulus F L f o.chart (F.value p.a) form.at_infinity) s b.basis b.products)
        (F.value p.theta) (vector_of F p.values)
    d = data_point F L f hf two o h closed (F.value p.a) modulus s b chi character theta basis
        of_theta of_basis p theta_is values
