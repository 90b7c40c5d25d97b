-- Residues of integral elements pass the linear test.
use Rattle.std.proofs.Common.{◌≡◌, ℕ, suc, pred, ◌<◌, ◌≤◌, [], List, length, get_or, sym, ◌∙◌, ap}
use Rattle.std.proofs.Common.{subst, arith}
use Rattle.ff_theory.specs.Ring.{RingOps, IsCommRing, Elements, power}
use Rattle.ff_theory.specs.Lawful.{Lawful, lawful_field, Field}
use Rattle.ff_theory.specs.Poly.{coeff, Poly, polynomials}
use Rattle.ff_theory.specs.Division.{size}
use Rattle.ff_theory.specs.Divides.{Divides}
use Rattle.ff_theory.specs.Parts.{sum_of_parts}
use Rattle.ff_theory.specs.Planes.{Plane}
use Rattle.ff_theory.specs.Values.{poly_of, polys_of, plane_of, IsPlane}
use Rattle.ff_theory.proofs.PolyMap.{polynomial_domain}
use Rattle.ff_theory.proofs.Sums.{sum-ext}
use Rattle.ff_charts.specs.Chart.{Chart as ChartOf, at_u, at_theta, IsChart}
use Rattle.ff_charts.specs.Lattice.{IsResidue}
use Rattle.ff_conductor.proofs.Conductor.{different, powers_different}
use Rattle.ff_conductor.proofs.PowerParts.{part}
use Rattle.ff_descent.specs.Descent.{InLevel}
use Rattle.ff_descent.proofs.LinearTest.{parts_of, parts_one, tested_into, level_tested}
use Rattle.ff_descent.proofs.Maximal.{integral_in_level}
use Rattle.ff_elem.specs.Elem.{algebra_in}
use Rattle.ff_elem.proofs.Reduction.{plane-size}
use Rattle.ff_data.specs.declared.order.Chart.{Chart}
use Rattle.ff_data.specs.Orders.{chart_of, y_degree, IsIntegral}
use Rattle.ff_order.specs.declared.chart.ChartRows.{ChartRows}
use Rattle.ff_order.specs.Rows.{IsChartRows}
use Rattle.ff_lin.specs.Space.{SpaceParts}
use Rattle.ff_order.specs.Steps.{HoldsIntegral}
use Rattle.ff_order.specs.Level.{IsTestPlane, AreRowParts, HoldsPassed, test_sum, part_at}
use Rattle.ff_data.proofs.ChartLaws.{algebra_laws, chart_laws, chart_degree}
use Rattle.ff_order.proofs.ChartLaws.{integral_into}
use Rattle.ff_order.proofs.FirstSpace.{chosen}
use Rattle.ff_order.proofs.LastSpace.{is_suc, more, roots, char, charP, D_is, product, nd}

module _ (F : Elements ℕ) (L : Lawful F) (f : List (List ℕ)) (hf : IsPlane F f) (two : 1 < length f)
    (chart : Chart) (rows : ChartRows) (h : IsChartRows L f chart rows) where
  abbrev K : Field
  K = lawful_field L

  abbrev A : RingOps
  A = algebra_in L f

  abbrev AL : IsCommRing (algebra_in L f)
  AL = algebra_laws F L f hf two

  abbrev c : ChartOf F.ring (algebra_in L f)
  c = chart_of L f chart

  abbrev l : IsChart F.ring (algebra_in L f) (chart_of L f chart)
  l = chart_laws F L f hf two chart

  abbrev m : Poly F.ring
  m = poly_of F rows.d

  abbrev q : ℕ
  q = pred F.characteristic

  abbrev b : (algebra_in L f).carrier
  b = different K A AL c l

  module _ (j : ℕ) (hj : j < y_degree L f) (lists : List (List (List ℕ)))
      (parts : AreRowParts L f chart j lists) where
    abbrev IsRow : ℕ → List (List ℕ) → Type 0
    IsRow i a = IsTestPlane L f chart i a
        × (coeff (polynomials F.ring) (plane_of F a).coeffs j
        ≡ sum_of_parts F.ring F.characteristic
        (coeff (polynomials F.ring) (polys_of F (get_or lists i []))))

    planes : (a : ℕ → List (List ℕ)) × ((i : ℕ) → i < y_degree L f → IsRow i (a i))
    planes = chosen IsRow (y_degree L f) (λ i e. let p = parts.each i (omega (arith, e, parts.len))
        in (p.plane, (p.is_plane, p.sum))) []

    abbrev M : ℕ → Plane (lawful_field L)
    M i = plane_of F (planes.0 i)

    below : (i : ℕ) → i < (chart_of L f chart).degree → i < y_degree L f
    below i e = let n = chart_degree F L f hf two chart in omega (arith, e, n)

    few : (i : ℕ) → i < (chart_of L f chart).degree
        → size (polynomials F.ring) (M i) ≤ (chart_of L f chart).degree
    few i e = let p = (planes.1 i (below i e)).0 in
        let s : size (polynomials F.ring) (M i) ≡ length (planes.0 i) =
        plane-size F L (planes.0 i) p.plane in
        let t : length (planes.0 i) ≤ y_degree L f = p.few in
        let n = chart_degree F L f hf two chart in omega (arith, s, t, n)

    powers : (i : ℕ) → i < (chart_of L f chart).degree
        → A.mul b (power A (power A c.theta i) (suc q)) ≡ at_theta c (M i)
    powers i e = ap (λ n. A.mul b (power A (power A c.theta i) n))
        (sym (is_suc F L f hf two chart rows h))
        ∙ ap (λ t. A.mul t (power A (power A c.theta i) F.characteristic))
        (D_is F L f hf two chart rows h) ∙ sym (planes.1 i (below i e)).0.value

    abbrev theory_parts : ℕ → ℕ → ℕ → Poly F.ring
    theory_parts i n = part K q (roots F L f hf two chart rows h)
        (coeff (polynomials F.ring) (M i).coeffs n)

    split : (i n : ℕ) → i < (chart_of L f chart).degree → n < (chart_of L f chart).degree
        → coeff (polynomials F.ring) (M i).coeffs n
        ≡ sum_of_parts F.ring (suc q) (theory_parts i n)
    split i n e t = parts_of K q (charP F L f hf two chart rows h) (roots F L f hf two chart rows h)
        (coeff (polynomials F.ring) (M i).coeffs n)

    same_part : (i s : ℕ) → i < (chart_of L f chart).degree → s < suc q
        → theory_parts i j s ≡ part_at F lists i s
    same_part i s e t = parts_one K q (charP F L f hf two chart rows h)
        (roots F L f hf two chart rows h) (theory_parts i j)
        (coeff (polynomials F.ring) (polys_of F (get_or lists i [])))
        (sym (parts_of K q (charP F L f hf two chart rows h) (roots F L f hf two chart rows h)
        (coeff (polynomials F.ring) (M i).coeffs j)) ∙ (planes.1 i (below i e)).1
        ∙ ap (λ n. sum_of_parts F.ring n
        (coeff (polynomials F.ring) (polys_of F (get_or lists i []))))
        (is_suc F L f hf two chart rows h)) s t

    pub integral_passes : (w : (algebra_in L f).carrier) → IsIntegral L f chart w
        → (N : Plane (lawful_field L)) → IsResidue (chart_of L f chart) (poly_of F rows.d)
        ((algebra_in L f).mul (at_u (chart_of L f chart) (poly_of F rows.d)) w) N
        → (s : ℕ) → s < F.characteristic
        → Divides (polynomials F.ring) (poly_of F rows.d) (test_sum F lists s (y_degree L f) N)
    integral_passes w integral N residue s small = subst
        (λ n. Divides (polynomials F.ring) (poly_of F rows.d) (test_sum F lists s n N))
        (chart_degree F L f hf two chart)
        (subst (Divides (polynomials F.ring) (poly_of F rows.d))
        (sum-ext (polynomials F.ring) (polynomial_domain (lawful_field L)).laws c.degree _ _
        (λ i e. ap ((polynomials F.ring).mul (coeff (polynomials F.ring) N.coeffs i))
        (same_part i s e below_p)))
        (tested_into K q (charP F L f hf two chart rows h)
        (roots F L f hf two chart rows h) A AL c l
        (char F L f hf two chart rows h) b M theory_parts few powers split m h.modulus N
        residue.shape.rows
        (level_tested K q (charP F L f hf two chart rows h) (roots F L f hf two chart rows h) A AL c
        l (char F L f hf two chart rows h) b (powers_different K A AL c l) m h.modulus w N residue
        level.1) j s (let n = chart_degree F L f hf two chart in omega (arith, n, hj)) below_p))
      where
        level : InLevel c b q 1 w
        level = integral_in_level K A AL c l q (more F L f hf two chart rows h)
            (char F L f hf two chart rows h) (charP F L f hf two chart rows h)
            (roots F L f hf two chart rows h) h.factor m h.in_powers (nd F L f hf two chart rows h)
            (product F L f hf two chart rows h) 1 w (integral_into F L f hf two chart w integral)

        below_p : s < suc q
        below_p = let e = is_suc F L f hf two chart rows h in omega (arith, e, small)

    -- so the space of what passes holds the integral elements
    pub passed_holds : (old new : SpaceParts) (s : ℕ) → s < F.characteristic
        → HoldsIntegral L f chart rows.d old → HoldsPassed L f chart rows.d lists s old new
        → HoldsIntegral L f chart rows.d new
    passed_holds old new s small holds passed w i = let q = holds w i in record {
      nums = q.nums;
      is_in = passed q.nums q.residue.shape q.is_in
          (integral_passes w i q.nums q.residue s small);
      residue = q.residue;
    }
