-- The descent keeps the integral elements, and ends with them alone.
use Rattle.std.proofs.Common.{◌≡◌, ℕ, suc, pred, ◌*◌ as times_ℕ, ◌<◌, ◌≤◌, Bool, true, false}
use Rattle.std.proofs.Common.{List, length, refl, sym, ◌∙◌, ap, subst, arith}
use Rattle.ff_theory.specs.Ring.{RingOps, IsCommRing, IsCharacteristic, Elements}
use Rattle.ff_theory.specs.Lawful.{Lawful, lawful_field, Field}
use Rattle.ff_theory.specs.Poly.{Poly, polynomials}
use Rattle.ff_theory.specs.Planes.{Plane}
use Rattle.ff_theory.specs.Span.{reduced, EndsAt}
use Rattle.ff_theory.specs.Vector.{vectors_of}
use Rattle.ff_theory.specs.Values.{poly_of, plane_of, IsPlane}
use Rattle.ff_theory.proofs.Frobenius.{HasCharacteristic}
use Rattle.ff_theory.proofs.ElementPower.{algebra_characteristic, polynomials_characteristic}
use Rattle.ff_theory.proofs.Span.{span-same}
use Rattle.ff_charts.specs.Chart.{Chart as ChartOf, at_u, InPowers, IsChart}
use Rattle.ff_charts.specs.Lattice.{HasShape, flat}
use Rattle.ff_charts.proofs.Lattice.{lat_above}
use Rattle.ff_charts.proofs.Flat.{plane_with, plane_with_shape, plane_with_flat}
use Rattle.ff_conductor.proofs.PowerParts.{HasRoots}
use Rattle.ff_conductor.proofs.Conductor.{different}
use Rattle.ff_conductor.proofs.Separable.{different_is}
use Rattle.ff_descent.specs.Descent.{IsStepped}
use Rattle.ff_descent.proofs.MaximalOrders.{field_least, field_roots, field_more}
use Rattle.ff_descent.proofs.Maximal.{integral_in_level}
use Rattle.ff_descent.proofs.Exact.{turn_keeps, turn_stands}
use Rattle.ff_lin.specs.Space.{SpaceParts, IsSpace, InSpace, pivot}
use Rattle.ff_lin.proofs.Echelon.{reduced-inside, inside-reduced}
use Rattle.ff_lin.proofs.Steps.{combined-past}
use Rattle.ff_lin.proofs.SpaceDimension.{dimension-subspace, dimension-proper}
use Rattle.ff_elem.specs.Elem.{algebra_in}
use Rattle.ff_data.specs.declared.order.Chart.{Chart}
use Rattle.ff_data.specs.Orders.{chart_of, different_of, InResidues, y_degree}
use Rattle.ff_order.specs.declared.chart.ChartRows.{ChartRows}
use Rattle.ff_order.specs.Rows.{IsChartRows}
use Rattle.ff_order.specs.Steps.{IsStart, IsTurn, HoldsIntegral, IsExact, IsResidueSpace, row_len}
use Rattle.ff_order.specs.Steps.{HasResidueShape}
use Rattle.ff_data.proofs.ChartLaws.{algebra_laws, chart_laws, chart_degree}
use Rattle.ff_order.proofs.ChartLaws.{integral_into}
use Rattle.ff_order.proofs.ChartLaws.{integral_back}
use Rattle.ff_order.proofs.FirstSpace.{row_len_is}

module _ (F : Elements ℕ) (L : Lawful F) where
  -- a subspace with the dimension of the space is the space
  pub whole_space : (s t : SpaceParts) → IsSpace F s
      → ((v : ℕ → F.carrier) → InSpace F s v → InSpace F t v)
      → length t.basis ≤ length s.basis → (v : ℕ → F.carrier) → InSpace F t v → InSpace F s v
  whole_space s t space inside few v h = reduced-inside F.ring L.laws (length s.basis)
      (vectors_of F s.basis) (pivot s) v
      (λ j. go j (F.same (reduced F.ring (length s.basis) (vectors_of F s.basis) (pivot s) v j)
      F.zero) refl)
    where
      apart : ¬ (true ≡ false)
      apart e = cc

      go : (j : ℕ) (b : Bool) → F.same
          (reduced F.ring (length s.basis) (vectors_of F s.basis) (pivot s) v j) F.zero ≡ b
          → reduced F.ring (length s.basis) (vectors_of F s.basis) (pivot s) v j ≡ F.zero
      go j true e = L.tests.same_true _ _ e
      go j false e = absurd
          (let p : length s.basis < length t.basis = dimension-proper L s t space inside v h
          (λ k. apart (sym (L.tests.same_refl F.zero) ∙ ap (λ x. F.same x F.zero)
          (sym (inside-reduced F.ring L.laws
          (length s.basis) (vectors_of F s.basis) (pivot s) space.echelon v k j)) ∙ e)) in omega
          (arith, p, few))

module _ (F : Elements ℕ) (L : Lawful F) (f : List (List ℕ)) (hf : IsPlane F f) (two : 1 < length f)
    (chart : Chart) (rows : ChartRows) (h : IsChartRows L f chart rows) where
  abbrev K : Field
  K = lawful_field L

  abbrev A : RingOps
  A = algebra_in L f

  abbrev AL : IsCommRing (algebra_in L f)
  AL = algebra_laws F L f hf two

  abbrev c : ChartOf F.ring (algebra_in L f)
  c = chart_of L f chart

  abbrev l : IsChart F.ring (algebra_in L f) (chart_of L f chart)
  l = chart_laws F L f hf two chart

  abbrev m : Poly F.ring
  m = poly_of F rows.d

  abbrev q : ℕ
  q = pred F.characteristic

  pub is_suc : F.characteristic ≡ suc (pred F.characteristic)
  is_suc = let p : 0 < F.characteristic = L.finite.least.positive in omega (arith, p)

  least : IsCharacteristic F.ring (suc (pred F.characteristic))
  least = field_least F.field L.laws L.finite (pred F.characteristic) is_suc

  pub more : 0 < pred F.characteristic
  more = field_more F.field L.laws L.finite (pred F.characteristic) is_suc

  pub roots : HasRoots F.ring (suc (pred F.characteristic))
  roots = field_roots F.field L.laws L.finite (pred F.characteristic) is_suc

  pub char : HasCharacteristic (algebra_in L f) (suc (pred F.characteristic))
  char = algebra_characteristic (lawful_field L) (suc (pred F.characteristic)) least (plane_of F f)

  pub charP : HasCharacteristic (polynomials F.ring) (suc (pred F.characteristic))
  charP = polynomials_characteristic (lawful_field L) (suc (pred F.characteristic)) least

  pub D_is : different K A AL c l ≡ different_of L f chart
  D_is = different_is K A AL c l

  pub product : A.mul h.factor (different K A AL c l) ≡ at_u c m
  product = ap (A.mul h.factor) D_is ∙ h.product

  pub nd : (polynomials F.ring).same (poly_of F rows.d) (polynomials F.ring).zero ≡ false
  nd = l.modulus_nonzero m h.modulus

  -- the space of the start holds the integral elements
  pub start_holds : (space : SpaceParts) → IsStart L f chart rows.d space
      → HoldsIntegral L f chart rows.d space
  start_holds space start w i = (start w).1 (subst (λ t. InPowers (chart_of L f chart)
      ((algebra_in L f).mul t w)) D_is
      (integral_in_level K A AL c l q more char charP roots h.factor m h.in_powers nd product 0 w
      (integral_into F L f hf two chart w i)))

  module _ (space next : SpaceParts) (hs : IsResidueSpace L f chart rows.d space)
      (hn : IsResidueSpace L f chart rows.d next) (turn : IsTurn L f chart rows.d space next) where
    abbrev T : Plane (lawful_field L) → Type 0
    T = InResidues F (pred (length rows.d)) space

    abbrev S : Plane (lawful_field L) → Type 0
    S = InResidues F (pred (length rows.d)) next

    -- a turn keeps the integral elements
    pub turn_holds : HoldsIntegral L f chart rows.d space → HoldsIntegral L f chart rows.d next
    turn_holds holds w i = lat_above K A AL c l m h.modulus (IsStepped c q m T) S
        (λ N shape s. (turn N shape).1 s) w
        (turn_keeps K A AL c l q more char charP roots h.factor m h.in_powers nd product m h.modulus
        T (λ s k. holds s (integral_back F L f hf two chart s k)) w
        (integral_into F L f hf two chart w i))

    -- and its vectors are in the old space
    pub turn_inside : (v : ℕ → F.carrier) → InSpace F next v → InSpace F space v
    turn_inside v k = span-same F.ring L.laws (length space.basis) (vectors_of F space.basis)
        (flat F.ring (pred (length rows.d)) N) v (λ j. sym (same j))
        ((turn N shape).0 (span-same F.ring L.laws (length next.basis) (vectors_of F next.basis) v
        (flat F.ring (pred (length rows.d)) N) same k)).is_in
      where
        n : ℕ
        n = y_degree L f

        δ : ℕ
        δ = pred (length rows.d)

        N : Plane (lawful_field L)
        N = plane_with K δ n v

        ends : EndsAt F.ring (times_ℕ n δ) v
        ends = subst (λ n. EndsAt F.ring n v) hn.len
            (λ j b. k.sum j ∙ combined-past F L.laws L.tests next k.coefficients j hn.space b)

        same : (j : ℕ) → flat F.ring δ N j ≡ v j
        same = plane_with_flat K δ n v ends

        shape : HasResidueShape L f chart rows.d (plane_with K (pred (length rows.d)) (y_degree L f)
            v)
        shape = subst (λ a. HasShape F.ring a (row_len L f chart rows.d) N)
            (sym (chart_degree F L f hf two chart))
            (subst (λ b. HasShape F.ring n b N) (sym (row_len_is F L f hf two chart rows.d h.d))
            (plane_with_shape K δ n v))

    pub turn_smaller : length next.basis ≤ length space.basis
    turn_smaller = dimension-subspace L next space hn.space
        turn_inside

    -- where the dimension stands still, there are integral elements alone
    pub last_space : HoldsIntegral L f chart rows.d space → length space.basis ≤ length next.basis
        → IsExact L f chart rows.d space
    last_space holds few w = (
      λ k. integral_back F L f hf two chart w
          (turn_stands K A AL c l q more char charP roots h.factor m h.in_powers nd product m
          h.modulus T (λ N shape t. (turn N shape).0
          (whole_space F L next space hn.space turn_inside few
          (flat F.ring (pred (length rows.d)) N)
          t)) w k),
      holds w,
    )
