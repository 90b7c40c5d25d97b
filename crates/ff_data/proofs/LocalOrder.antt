-- An order by its data, and a point of it, as an order of a chart and a point of that, for an
-- equation f over a field whose laws are L.
use Rattle.std.proofs.Common.{◌≡◌, ℕ, pred, ◌*◌, ◌<◌, List, [], ◌∷◌, length, get_or, false}
use Rattle.std.proofs.Common.{refl, sym, ◌∙◌, ap, subst, arith}
use Rattle.std.proofs.lemmas.List.Elements.{All-get_or}
use Rattle.ff_theory.specs.Ring.{RingOps, IsCommRing, Elements}
use Rattle.ff_theory.specs.Lawful.{Field, Lawful, lawful_field}
use Rattle.ff_theory.specs.Poly.{coeff, Poly, poly, polynomials}
use Rattle.ff_theory.specs.Division.{size}
use Rattle.ff_theory.specs.Monomial.{variable}
use Rattle.ff_theory.specs.Span.{EndsAt}
use Rattle.ff_theory.specs.Vector.{vector_of, vectors_of, IsVector}
use Rattle.ff_theory.specs.Values.{poly_of, IsPlane}
use Rattle.ff_theory.proofs.Solver.{neg, nil, ring1}
use Rattle.ff_theory.proofs.Poly.{polynomial_laws, polynomial_tests}
use Rattle.ff_theory.proofs.Coeffs.{coeff-past}
use Rattle.ff_theory.proofs.Product.{poly-coeff}
use Rattle.ff_theory.proofs.PolyMap.{same_false}
use Rattle.ff_charts.specs.Chart.{IsChart}
use Rattle.ff_local.specs.ChartOrder.{ChartOrder, ChartPoint, root_at}
use Rattle.ff_local.proofs.ChartData.{order_of, point_of}
use Rattle.ff_lin.specs.Space.{SpaceParts, IsSpaceOf, pivot}
use Rattle.ff_poly.proofs.LongDivision.{poly-size}
use Rattle.ff_elem.specs.Elem.{algebra_in}
use Rattle.ff_data.specs.declared.order.Chart.{Chart}
use Rattle.ff_data.specs.declared.order.Chart.TheVariants.{Finite, Infinite}
use Rattle.ff_data.specs.declared.order.Order.{Order}
use Rattle.ff_data.specs.declared.point.Point.{Point}
use Rattle.ff_data.specs.Orders.{chart_of, y_degree, IsOrder, InOrder}
use Rattle.ff_data.specs.Points.{IsPoint}
use Rattle.ff_data.proofs.ChartLaws.{algebra_laws, chart_laws, chart_degree}

module _ (F : Elements ℕ) (L : Lawful F) where
  abbrev K : Field
  K = lawful_field L

  -- the basis vectors of a space end at its length
  pub basis_ends : (n : ℕ) (s : SpaceParts) → IsSpaceOf F n s → (j : ℕ) → j < length s.basis
      → EndsAt F.ring n (vectors_of F s.basis j)
  basis_ends n s h j q i r = coeff-past F.ring F.value (get_or s.basis j []) i
      (let v : IsVector F s.len (get_or s.basis j [])
      = All-get_or (IsVector F s.len) s.basis j [] q h.space.rows in omega (arith, v.len, h.len, r))

  -- u - a is a modulus, where at infinity a is 0
  root_nonzero : (a : F.carrier) → (polynomials F.ring).same (root_at F.ring a)
      (polynomials F.ring).zero ≡ false
  root_nonzero a = same_false (polynomials F.ring) (polynomial_tests F.ring L.laws L.tests) _ _
      (λ e. K.is_field.one_not_zero (sym (poly-coeff F.ring L.laws L.tests
      (F.neg a ∷ F.one ∷ []) 1)
      ∙ ap (λ (p : Poly F.ring). coeff F.ring p.coeffs 1) e
      ∙ poly-coeff F.ring L.laws L.tests [] 1))

  root_variable : (a : F.carrier) → a ≡ F.zero → root_at F.ring a ≡ variable F.ring
  root_variable a e = ap (λ t. poly F.ring (t ∷ F.one ∷ []))
      (ap F.neg e ∙ ring1 F.ring L.laws (λ a. neg nil) (λ a. nil) refl a)

  module _ (f : List (List ℕ)) where
    pub root_modulus : (chart : Chart) (a : F.carrier) → (chart ≡ Infinite → a ≡ F.zero)
        → (chart_of L f chart).IsModulus (root_at F.ring a)
    root_modulus Finite a h = root_nonzero a
    root_modulus Infinite a h = (
      1,
      root_variable a (h refl)
          ∙ sym ((polynomial_laws F.ring L.laws L.tests).mul_one (variable F.ring)),
    )

module _ (F : Elements ℕ) (L : Lawful F) (f : List (List ℕ)) (hf : IsPlane F f)
    (two : 1 < length f) (o : Order) (h : IsOrder L f o) where
  abbrev A : RingOps
  A = algebra_in L f

  AL : IsCommRing (algebra_in L f)
  AL = algebra_laws F L f hf two

  C : IsChart F.ring (algebra_in L f) (chart_of L f o.chart)
  C = chart_laws F L f hf two o.chart

  -- the coefficients of a row of a residue
  pub order_rows : pred (length o.d) ≡ pred (size F.ring (poly_of F o.d))
  order_rows = ap pred (sym (poly-size F.ring L.laws L.tests F.value o.d h.d.canonical))

  pub order_ends : (j : ℕ) → j < length o.space.basis
      → EndsAt F.ring ((chart_of L f o.chart).degree * pred (length o.d))
      (vectors_of F o.space.basis j)
  order_ends j q = subst (λ n. EndsAt F.ring (n * pred (length o.d)) (vectors_of F o.space.basis j))
      (sym (chart_degree F L f hf two o.chart))
      (basis_ends F L (y_degree L f * pred (length o.d)) o.space h.space j q)

  module _ (closed : (v w : (algebra_in L f).carrier) → InOrder L f o v → InOrder L f o w
      → InOrder L f o ((algebra_in L f).mul v w)) where
    -- the order of the chart; its elements are those of the order
    abbrev pub local_order : ChartOrder (chart_of L f o.chart)
    local_order = order_of (lawful_field L) (algebra_in L f) (algebra_laws F L f hf two)
        (chart_of L f o.chart) (chart_laws F L f hf two o.chart) (poly_of F o.d) h.modulus
        (pred (length o.d)) (length o.space.basis) (vectors_of F o.space.basis) order_rows
        (pivot o.space) h.space.space.echelon order_ends closed

    -- the point of it; its values are those at the point
    abbrev pub local_point : (p : Point) → IsPoint L f o p
        → ChartPoint (chart_of L f o.chart) local_order
    local_point p q = point_of (lawful_field L) (algebra_in L f) (algebra_laws F L f hf two)
        (chart_of L f o.chart) (chart_laws F L f hf two o.chart) (poly_of F o.d) h.modulus
        (pred (length o.d)) (length o.space.basis) (vectors_of F o.space.basis) order_rows
        (pivot o.space) h.space.space.echelon order_ends closed (F.value p.a) (F.value p.theta)
        (vector_of F p.values) (root_modulus F L f o.chart (F.value p.a) q.at_infinity) q.root
        q.value_of_u q.sums q.products
