-- Residues of products in a chart of E(f), as the calls compute them.
use Rattle.std.proofs.Common.{◌≡◌, ℕ, suc, ◌-◌, ◌<◌, ◌≤◌, List, length, sym, ◌∙◌, ap}
use Rattle.std.proofs.Common.{subst, arith}
use Rattle.ff_theory.specs.Ring.{Elements}
use Rattle.ff_theory.specs.Lawful.{Lawful, lawful_field, Domain}
use Rattle.ff_theory.specs.Poly.{coeff, polynomials}
use Rattle.ff_theory.specs.Division.{size}
use Rattle.ff_theory.specs.Planes.{planes}
use Rattle.ff_theory.specs.Values.{poly_of, plane_of, IsPoly, IsPlane}
use Rattle.ff_theory.proofs.PolyMap.{polynomial_domain, nonzero_size}
use Rattle.ff_charts.specs.Chart.{at_theta, IsChart}
use Rattle.ff_lattice.specs.Remainder.{IsMonic, IsCongruent}
use Rattle.ff_lattice.specs.Residues.{AreResidues}
use Rattle.ff_poly.proofs.LongDivision.{poly-size, poly-size-le}
use Rattle.ff_elem.specs.Elem.{algebra_in}
use Rattle.ff_elem.proofs.Reduction.{plane-size}
use Rattle.ff_data.specs.declared.order.Chart.{Chart}
use Rattle.ff_data.specs.Orders.{chart_of}
use Rattle.ff_order.specs.declared.chart.ChartRows.{ChartRows}
use Rattle.ff_order.specs.Rows.{IsChartRows}
use Rattle.ff_order.specs.Steps.{KeepsResidues}
use Rattle.ff_data.proofs.ChartLaws.{algebra_laws, chart_laws}
use Rattle.ff_order.proofs.Products.{product_residue}

module _ (F : Elements ℕ) (L : Lawful F) (f : List (List ℕ)) (hf : IsPlane F f) (two : 1 < length f)
    (chart : Chart) where
  abbrev D : Domain
  D = polynomial_domain (lawful_field L)

  abbrev l : IsChart F.ring (algebra_in L f) (chart_of L f chart)
  l = chart_laws F L f hf two chart

  pub modulus_positive : (m : List ℕ) → IsPoly F m → (chart_of L f chart).IsModulus (poly_of F m)
      → 0 < length m
  modulus_positive m hm modulus =
      let k = nonzero_size (lawful_field L) (poly_of F m) (l.modulus_nonzero (poly_of F m) modulus)
      in
      let s : size F.ring (poly_of F m) ≡ suc k.0 = k.1 in
      let e : size F.ring (poly_of F m) ≡ length m =
      poly-size F.ring L.laws L.tests F.value m hm.canonical in omega (arith, s, e)

  module _ (rows : ChartRows) (h : IsChartRows L f chart rows) where
    pub equation_len : length rows.equation ≡ suc (chart_of L f chart).degree
    equation_len = let e : size (polynomials F.ring) (plane_of F rows.equation)
        ≡ length rows.equation = plane-size F L rows.equation h.equation in
        sym e ∙ ap (size (polynomials F.ring)) h.equation_is ∙ l.rows

    pub equation_positive : 0 < length rows.equation
    equation_positive = let e = equation_len in omega (arith, e)

    pub equation_monic : IsMonic (polynomials F.ring) (plane_of F rows.equation)
    equation_monic = subst (IsMonic (polynomials F.ring)) (sym h.equation_is)
        (ap (coeff (polynomials F.ring) (chart_of L f chart).equation.coeffs) top ∙ l.monic)
      where
        top : length (chart_of L f chart).equation.coeffs - 1 ≡ (chart_of L f chart).degree
        top = let e : length (chart_of L f chart).equation.coeffs
            ≡ suc (chart_of L f chart).degree = l.rows in omega (arith, e)

    pub product_keeps : (m : List ℕ) (a b t r : List (List ℕ))
        → IsCongruent (polynomials F.ring) (plane_of F rows.equation)
        ((planes (lawful_field L)).mul (plane_of F a) (plane_of F b)) (plane_of F t)
        → length t < length rows.equation
        → AreResidues F.ring (poly_of F m) (plane_of F t) (plane_of F r)
        → KeepsResidues L f chart m a r
        (λ v. (algebra_in L f).mul v (at_theta (chart_of L f chart) (plane_of F b)))
    product_keeps m a b t r congruent small residues v =
        product_residue (lawful_field L) (algebra_in L f) (algebra_laws F L f hf two)
        (chart_of L f chart) l (poly_of F m) v (plane_of F a) (plane_of F b) (plane_of F t)
        (plane_of F r) (subst (λ e. IsCongruent (polynomials F.ring) e
        ((planes (lawful_field L)).mul (plane_of F a) (plane_of F b)) (plane_of F t)) h.equation_is
        congruent)
        (let s : size (polynomials F.ring) (plane_of F t) ≤ length t = poly-size-le
        (polynomials F.ring) D.laws D.tests (λ p. poly_of F p) t in
        let e : length rows.equation ≡ suc (chart_of L f chart).degree = equation_len in
        omega (arith, s, e, small)) residues
