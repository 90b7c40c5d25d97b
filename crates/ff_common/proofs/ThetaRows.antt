-- An element by rows in powers of y' over a denominator in x, as the code makes it, for an equation
-- f over a field whose laws are L.
use Rattle.std.proofs.Common.{◌≡◌, ℕ, ◌-◌, ◌<◌, ◌≤◌, ◌⊎◌, inl, inr, List, length}
use Rattle.std.proofs.Common.{sym, ◌∙◌, ap, arith}
use Rattle.std.proofs.lemmas.Bool.{cases_lt}
use Rattle.std.proofs.lemmas.List.{length-map}
use Rattle.ff_theory.specs.Ring.{RingOps, Elements, power}
use Rattle.ff_theory.specs.Lawful.{Domain, Field, Lawful, lawful_field}
use Rattle.ff_theory.specs.Poly.{coeff, poly, polynomials}
use Rattle.ff_theory.specs.Division.{size}
use Rattle.ff_theory.specs.Planes.{Plane}
use Rattle.ff_theory.specs.Algebra.{value_of}
use Rattle.ff_theory.specs.Values.{poly_of, polys_of, plane_of, IsPoly, IsPlane}
use Rattle.ff_theory.proofs.Solver.{zero_mul}
use Rattle.ff_theory.proofs.Poly.{trim-coeff}
use Rattle.ff_theory.proofs.Coeffs.{coeff-past}
use Rattle.ff_theory.proofs.PolyMap.{polynomial_domain}
use Rattle.ff_theory.proofs.Element.{over_clear}
use Rattle.ff_charts.specs.Chart.{Chart as ChartOf, at_theta}
use Rattle.ff_charts.specs.FieldCharts.{leading_row, finite_chart}
use Rattle.ff_charts.proofs.FiniteChart.{at_is, from_theta, from_theta_at}
use Rattle.ff_charts.proofs.Rows.{equal_below, poly_size}
use Rattle.ff_elem.specs.Elem.{algebra_in, over_in}
use Rattle.ff_elem.proofs.PolyLemmas.{poly-nonzero}
use Rattle.ff_common.specs.Common.{IsOver}
use Rattle.ff_data.proofs.ChartLaws.{has}

module _ (F : Elements ℕ) (L : Lawful F) (f : List (List ℕ)) (hf : IsPlane F f) (two : 1 < length f)
  where
    abbrev K : Field
    K = lawful_field L

    abbrev P : Domain
    P = polynomial_domain (lawful_field L)

    abbrev A : RingOps
    A = algebra_in L f

    abbrev C : ChartOf F.ring (algebra_in L f)
    C = finite_chart (lawful_field L) (plane_of F f)

    abbrev n : ℕ
    n = length f - 1

    row-at : (a : List (List ℕ)) (i : ℕ) → coeff (polynomials F.ring) (plane_of F a).coeffs i
        ≡ coeff (polynomials F.ring) (polys_of F a) i
    unfolding poly
    row-at a i = trim-coeff P.ring P.laws P.tests (polys_of F a) i

    few-rows : (a : List (List ℕ)) → length a ≤ length f - 1
        → size (polynomials F.ring) (plane_of F a) ≤ length f - 1
    few-rows a h = let s : size (polynomials F.ring) (plane_of F a) ≤ length (polys_of F a)
        = poly_size P.ring P.laws P.tests (polys_of F a) in
        omega (arith, s, length-map a (λ p. poly_of F p), h)

    pub element_over : (rows items num : List (List ℕ)) (den : List ℕ) → IsPoly F den
        → 0 < length den → length rows ≤ length f - 1 → length items ≡ length rows
        → ((i : ℕ) → i < length rows → coeff (polynomials F.ring) (polys_of F items) i
        ≡ (polynomials F.ring).mul (coeff (polynomials F.ring) (polys_of F rows) i)
        (power (polynomials F.ring) (leading_row (lawful_field L) (plane_of F f)) i))
        → plane_of F num ≡ plane_of F items
        → IsOver L f den (plane_of F rows) (over_in L f num den)
    element_over rows items num den hd ld few len each e =
        ap (λ t. A.mul t (over_in L f num den)) (sym (at_is K (plane_of F f) n (has F L f hf two)
        (poly_of F den)))
        ∙ over_clear K (plane_of F f) (plane_of F num) (poly_of F den)
        (poly-nonzero F L den hd ld)
        ∙ ap (value_of K (plane_of F f)) (e ∙ same) ∙ sym t.1.1
      where
        t : (M : Plane (lawful_field L)) × ((size (polynomials F.ring) M ≤ length f - 1)
            × (at_theta (finite_chart (lawful_field L) (plane_of F f)) (plane_of F rows)
            ≡ value_of (lawful_field L) (plane_of F f) M))
        t = from_theta K (plane_of F f) n (has F L f hf two) (plane_of F rows) (few-rows rows few)

        row : (i : ℕ) → i < length f - 1 → (i < length rows) ⊎ (length rows ≤ i)
            → coeff (polynomials F.ring) (polys_of F items) i
            ≡ (polynomials F.ring).mul (coeff (polynomials F.ring) (polys_of F rows) i)
            (power (polynomials F.ring) (leading_row (lawful_field L) (plane_of F f)) i)
        row i l (inl h) = each i h
        row i l (inr h) = coeff-past P.ring (λ p. poly_of F p) items i (omega (arith, len, h))
            ∙ sym (ap (λ r. P.mul r (power P.ring (leading_row K (plane_of F f)) i))
            (coeff-past P.ring (λ p. poly_of F p) rows i h)
            ∙ zero_mul P.ring P.laws (power P.ring (leading_row K (plane_of F f)) i))

        same : plane_of F items ≡ t.0
        same = equal_below P.ring P.laws P.tests (plane_of F items) t.0 n
            (few-rows items (omega (arith, len, few))) t.1.0
            (λ i l. row-at items i ∙ row i l (cases_lt i (length rows))
            ∙ ap (λ r. P.mul r (power P.ring (leading_row K (plane_of F f)) i))
            (sym (row-at rows i))
            ∙ sym (from_theta_at K (plane_of F f) n (has F L f hf two) (plane_of F rows)
            (few-rows rows few) i l))
