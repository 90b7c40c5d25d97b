-- Each point of an order that is closed under products comes from a character of its fibre over the
-- point's value of u, for an equation f over a field whose laws are L.
use Rattle.std.proofs.Common.{◌≡◌, ℕ, zero, suc, pred, ◌<◌, List, [], length, get_or, refl, sym}
use Rattle.std.proofs.Common.{◌∙◌, ap, ap₂, arith}
use Rattle.std.specs.Global.{Vec}
use Rattle.ff_theory.specs.Ring.{RingOps, Elements}
use Rattle.ff_theory.specs.Lawful.{Lawful, lawful_field}
use Rattle.ff_theory.specs.Span.{product, EndsAt}
use Rattle.ff_theory.specs.Values.{poly_of, IsPlane}
use Rattle.ff_theory.specs.Vector.{vector_of, vectors_of}
use Rattle.ff_theory.proofs.Sums.{sum-ext}
use Rattle.ff_charts.specs.Chart.{at_theta}
use Rattle.ff_local.specs.ChartOrder.{root_at}
use Rattle.ff_local.specs.Functional.{IsFunctional}
use Rattle.ff_local.proofs.ChartOrder.{order_in}
use Rattle.ff_local.proofs.ChartFibre.{fibre}
use Rattle.ff_local.proofs.Functional.{functional_single}
use Rattle.ff_values.proofs.FunctionalPoints.{IsDataPoint, point_chi, point_is_functional}
use Rattle.ff_values.proofs.FunctionalPoints.{point_chi_value}
use Rattle.ff_lin.specs.Space.{rows_of, pivot}
use Rattle.ff_elem.specs.Elem.{algebra_in}
use Rattle.ff_data.specs.declared.order.Order.{Order}
use Rattle.ff_data.specs.declared.point.Point.{Point}
use Rattle.ff_data.specs.Orders.{chart_of, IsOrder}
use Rattle.ff_data.specs.Points.{IsPoint, HasValueAt}
use Rattle.ff_data.proofs.ChartLaws.{algebra_laws, chart_laws}
use Rattle.ff_data.proofs.LocalOrder.{local_order, order_rows, order_ends, root_modulus}
use Rattle.ff_characters.specs.Characters.{tables_of, IsCharacter, HasVector}
use Rattle.ff_fibre.specs.declared.parts.Fibre.{Fibre}
use Rattle.ff_fibre.specs.Fibres.{IsFibreAt}
use Rattle.ff_fibre.proofs.FibreOfData.{count, data_fibre}
use Rattle.ff_points.specs.PointLists.{IsClosedOrder, ArePowerCoordinates, AreVectorCoordinates}
use Rattle.ff_points.specs.PointLists.{AreCharactersOf}
use Rattle.ff_points.proofs.BasisValues.{basis_has_value}
use Rattle.ff_points.proofs.CharacterPoints.{Has, one_value, theta_value, basis_value}

-- the first n entries, and zeros
abbrev first : (R : RingOps) → ℕ → (ℕ → R.carrier) → ℕ → R.carrier
first R zero v i = R.zero
first R (suc n) v zero = v zero
first R (suc n) v (suc i) = first R n (λ i. v (suc i)) i

first_below : (R : RingOps) (n : ℕ) (v : ℕ → R.carrier) (i : ℕ) → i < n → first R n v i ≡ v i
first_below R zero v i l = absurd (omega (arith, l))
first_below R (suc n) v zero l = refl
first_below R (suc n) v (suc i) l = first_below R n (λ i. v (suc i)) i (omega (arith, l))

first_ends : (R : RingOps) (n : ℕ) (v : ℕ → R.carrier) → EndsAt R n (first R n v)
first_ends R zero v i l = refl
first_ends R (suc n) v zero l = absurd (omega (arith, l))
first_ends R (suc n) v (suc i) l = first_ends R n (λ i. v (suc i)) i (omega (arith, l))

module _ (F : Elements ℕ) (L : Lawful F) (f : List (List ℕ)) (hf : IsPlane F f)
    (two : 1 < length f) (o : Order) (h : IsOrder L f o) (closed : IsClosedOrder L f o) (p : Point)
    (point : IsPoint L f o p) (s : Fibre) (b : IsFibreAt L f o (F.value p.a) s) where
  abbrev A : RingOps
  A = algebra_in L f

  abbrev n : ℕ
  n = length s.planes.items

  modulus : (chart_of L f o.chart).IsModulus (root_at F.ring (F.value p.a))
  modulus = root_modulus F L f o.chart (F.value p.a) point.at_infinity

  rows_count : length (rows_of s.rows.items) ≡ length s.planes.items
  rows_count = count F L f hf two o h closed (F.value p.a) modulus s b.basis

  -- the data are a point of the order of the chart
  by_data : IsDataPoint (lawful_field L) (algebra_in L f) (algebra_laws F L f hf two)
      (chart_of L f o.chart) (chart_laws F L f hf two o.chart) (poly_of F o.d) h.modulus
      (pred (length o.d)) (length o.space.basis) (vectors_of F o.space.basis)
      (order_rows F L f hf two o h) (pivot o.space) h.space.space.echelon
      (order_ends F L f hf two o h) closed (F.value p.a) modulus
      (data_fibre F L f hf two o h closed (F.value p.a) modulus s b.basis b.products)
      (F.value p.theta) (vector_of F p.values)
  by_data = record {
    root = point.root;
    sums = point.sums;
    products = point.products;
    value_of_u = point.value_of_u;
    value_of_theta = point.value_of_theta;
  }

  abbrev chi : ℕ → F.carrier
  chi = point_chi (lawful_field L) (algebra_in L f) (algebra_laws F L f hf two)
      (chart_of L f o.chart) (chart_laws F L f hf two o.chart) (poly_of F o.d) h.modulus
      (pred (length o.d)) (length o.space.basis) (vectors_of F o.space.basis)
      (order_rows F L f hf two o h) (pivot o.space) h.space.space.echelon
      (order_ends F L f hf two o h) closed (F.value p.a) modulus
      (data_fibre F L f hf two o h closed (F.value p.a) modulus s b.basis b.products)
      (F.value p.theta) (vector_of F p.values) by_data

  abbrev At : A.carrier → F.carrier → Type 0
  At = Has F L f hf two o h closed (F.value p.a) modulus s b chi

  functional : IsFunctional (order_in (lawful_field L) (algebra_in L f)
      (algebra_laws F L f hf two) (chart_of L f o.chart) (chart_laws F L f hf two o.chart)
      (local_order F L f hf two o h closed) (F.value p.a) modulus) (fibre (lawful_field L)
      (algebra_in L f) (algebra_laws F L f hf two) (chart_of L f o.chart)
      (chart_laws F L f hf two o.chart) (local_order F L f hf two o h closed) (F.value p.a) modulus
      (data_fibre F L f hf two o h closed (F.value p.a) modulus s b.basis b.products)) chi
  functional = point_is_functional (lawful_field L) (algebra_in L f) (algebra_laws F L f hf two)
      (chart_of L f o.chart) (chart_laws F L f hf two o.chart) (poly_of F o.d) h.modulus
      (pred (length o.d)) (length o.space.basis) (vectors_of F o.space.basis)
      (order_rows F L f hf two o h) (pivot o.space) h.space.space.echelon
      (order_ends F L f hf two o h) closed (F.value p.a) modulus
      (data_fibre F L f hf two o h closed (F.value p.a) modulus s b.basis b.products)
      (F.value p.theta) (vector_of F p.values) by_data

  -- the value by the functional is that at the point
  value_is : (w : A.carrier) (s t : F.carrier) → At w s → HasValueAt L f o p w t → s ≡ t
  value_is = point_chi_value (lawful_field L) (algebra_in L f) (algebra_laws F L f hf two)
      (chart_of L f o.chart) (chart_laws F L f hf two o.chart) (poly_of F o.d) h.modulus
      (pred (length o.d)) (length o.space.basis) (vectors_of F o.space.basis)
      (order_rows F L f hf two o h) (pivot o.space) h.space.space.echelon
      (order_ends F L f hf two o h) closed (F.value p.a) modulus
      (data_fibre F L f hf two o h closed (F.value p.a) modulus s b.basis b.products)
      (F.value p.theta) (vector_of F p.values) by_data

  abbrev cut : ℕ → F.carrier
  cut = first F.ring n chi

  same_product : (e v : ℕ → F.carrier) → ((i : ℕ) → i < n → v i ≡ chi i)
      → product F.ring n e chi ≡ product F.ring n e v
  same_product e v q = sum-ext F.ring L.laws n _ _ (λ i l. ap (F.mul (e i)) (sym (q i l)))

  character : (one : List ℕ) → ArePowerCoordinates L f o s 0 (vector_of F one)
      → IsCharacter F n (tables_of s.table.items) one cut
  character one k = record {
    unit = sym (same_product (vector_of F one) cut (first_below F.ring n chi))
        ∙ functional_single (order_in (lawful_field L) (algebra_in L f)
        (algebra_laws F L f hf two) (chart_of L f o.chart) (chart_laws F L f hf two o.chart)
        (local_order F L f hf two o h closed) (F.value p.a) modulus) (fibre (lawful_field L)
        (algebra_in L f) (algebra_laws F L f hf two) (chart_of L f o.chart)
        (chart_laws F L f hf two o.chart) (local_order F L f hf two o h closed)
        (F.value p.a) modulus
        (data_fibre F L f hf two o h closed (F.value p.a) modulus s b.basis b.products)) chi A.one
        _ F.one (one_value F L f hf two o h closed (F.value p.a) modulus s b chi
        (vector_of F one) k)
        functional.unit;
    products = λ i q j r. sym (same_product (table i j) cut (first_below F.ring n chi))
        ∙ ap (λ m. product F.ring m (table i j) chi) (sym rows_count)
        ∙ functional.products i j (let m = rows_count in omega (arith, q, m))
        (let m = rows_count in omega (arith, r, m))
        ∙ ap₂ F.mul (sym (first_below F.ring n chi i q)) (sym (first_below F.ring n chi j r));
  }
    where
      table : ℕ → ℕ → ℕ → F.carrier
      table i j = vectors_of F (get_or (tables_of s.table.items) i []) j

  -- it is one of the list, and gives the data of the point
  pub point_character : (list : List (Vec ℕ)) → AreCharactersOf L f o s list
      → (theta : ℕ → F.carrier) → ArePowerCoordinates L f o s 1 theta
      → (basis : ℕ → ℕ → F.carrier) → ((i : ℕ) → i < length o.space.basis
      → AreVectorCoordinates L f o s (vectors_of F o.space.basis i) (basis i))
      → (j : ℕ) × ((j < length list) × ((F.value p.theta
      ≡ product F.ring (length s.planes.items) theta (vectors_of F (rows_of list) j))
      × ((i : ℕ) → i < length o.space.basis → vector_of F p.values i
      ≡ product F.ring (length s.planes.items) (basis i) (vectors_of F (rows_of list) j))))
  point_character list k theta of_theta basis of_basis = (
    t.0,
    (
      t.1.0,
      (
        sym (value_is _ _ (F.value p.theta) (theta_value F L f hf two o h closed (F.value p.a)
            modulus s b chi theta of_theta) point.value_of_theta) ∙ same_product theta _ same,
        λ i q. sym (value_is _ _ (vector_of F p.values i) (basis_value F L f hf two o h closed
            (F.value p.a) modulus s b chi i q (basis i) (of_basis i q)) (at_basis i q))
            ∙ same_product (basis i) _ same,
      ),
    ),
  )
    where
      t : HasVector F list cut
      t = k.all cut (first_ends F.ring n chi) (character k.one k.coordinates)

      same : (i : ℕ) → i < n → vectors_of F (rows_of list) t.0 i ≡ chi i
      same i q = t.1.1 i ∙ first_below F.ring n chi i q

      at_basis : (i : ℕ) → i < length o.space.basis → HasValueAt L f o p
          (A.mul ((chart_laws F L f hf two o.chart).inverse (poly_of F o.d))
          (at_theta (chart_of L f o.chart) ((local_order F L f hf two o h closed).space.basis i)))
          (vector_of F p.values i)
      at_basis = basis_has_value (lawful_field L) (algebra_in L f) (algebra_laws F L f hf two)
          (chart_of L f o.chart) (chart_laws F L f hf two o.chart) (poly_of F o.d) h.modulus
          (pred (length o.d)) (length o.space.basis) (vectors_of F o.space.basis)
          (order_rows F L f hf two o h) (pivot o.space) h.space.space.echelon
          (order_ends F L f hf two o h) closed (F.value p.a) (F.value p.theta)
          (vector_of F p.values)
