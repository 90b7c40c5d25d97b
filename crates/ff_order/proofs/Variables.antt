-- The planes u and theta.
use Rattle.std.proofs.Common.{◌≡◌, ℕ, ◌<◌, List, [], ◌∷◌, length, ◌∙◌, ap, ap₂}
use Rattle.ff_theory.specs.Ring.{IsCommRing, Elements}
use Rattle.ff_theory.specs.Lawful.{Lawful, lawful_field, Domain}
use Rattle.ff_theory.specs.Poly.{poly, polynomials}
use Rattle.ff_theory.specs.Planes.{row_of}
use Rattle.ff_theory.specs.Monomial.{variable}
use Rattle.ff_theory.specs.Values.{poly_of, plane_of, IsPlane}
use Rattle.ff_theory.specs.Map.{IsMap}
use Rattle.ff_theory.proofs.PolyMap.{polynomial_domain}
use Rattle.ff_charts.specs.Chart.{at_u, at_theta, IsChart}
use Rattle.ff_charts.proofs.Chart.{at_u_map, at_row}
use Rattle.ff_charts.proofs.InvertedChart.{at_x}
use Rattle.ff_elem.specs.Elem.{algebra_in}
use Rattle.ff_data.specs.declared.order.Chart.{Chart}
use Rattle.ff_data.specs.Orders.{chart_of}
use Rattle.ff_data.proofs.ChartLaws.{algebra_laws, chart_laws}

module _ (F : Elements ℕ) (L : Lawful F) (f : List (List ℕ)) (hf : IsPlane F f) (two : 1 < length f)
    (chart : Chart) where
  abbrev D : Domain
  D = polynomial_domain (lawful_field L)

  abbrev l : IsChart F.ring (algebra_in L f) (chart_of L f chart)
  l = chart_laws F L f hf two chart

  abbrev AL : IsCommRing (algebra_in L f)
  AL = algebra_laws F L f hf two

  U : IsMap (polynomials F.ring) (algebra_in L f) (at_u (chart_of L f chart))
  U = at_u_map (lawful_field L) (algebra_in L f) AL (chart_of L f chart) l

  pub u_value : (z o : ℕ) (x : List ℕ) (rows r : List (List ℕ)) → F.value z ≡ F.zero
      → F.value o ≡ F.one → poly_of F x ≡ poly_of F (z ∷ o ∷ []) → rows ≡ x ∷ []
      → plane_of F r ≡ plane_of F rows
      → at_theta (chart_of L f chart) (plane_of F r) ≡ (chart_of L f chart).u
  u_value z o x rows r hz ho hx hr e = ap (at_theta (chart_of L f chart))
      (e ∙ ap (plane_of F) hr
      ∙ ap (row_of F.ring) (hx ∙ ap₂ (λ a b. poly F.ring (a ∷ b ∷ [])) hz ho))
      ∙ at_row (lawful_field L) (algebra_in L f) AL (chart_of L f chart) l (variable F.ring)
      ∙ at_x F.ring L.laws L.tests (algebra_in L f) AL (chart_of L f chart).constant l.constants
      (chart_of L f chart).u

  pub theta_value : (one : List ℕ) (rows r : List (List ℕ))
      → poly_of F one ≡ (polynomials F.ring).one → rows ≡ [] ∷ one ∷ []
      → plane_of F r ≡ plane_of F rows
      → at_theta (chart_of L f chart) (plane_of F r) ≡ (chart_of L f chart).theta
  theta_value one rows r ho hr e = ap (at_theta (chart_of L f chart))
      (e ∙ ap (plane_of F) hr
      ∙ ap (λ b. poly (polynomials F.ring) ((polynomials F.ring).zero ∷ b ∷ [])) ho)
      ∙ at_x (polynomials F.ring) D.laws D.tests (algebra_in L f) AL (at_u (chart_of L f chart)) U
      (chart_of L f chart).theta
