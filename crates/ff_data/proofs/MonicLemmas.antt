-- The monic form of an equation f and its leading row as the code reads them, the equation at
-- infinity, and powers of the variable, over a field whose laws are L.
use Rattle.std.proofs.Common.{◌≡◌, ℕ, suc, ◌-◌, ◌<◌, List, length, get_or, false, sym, ◌∙◌, ap, ap₂}
use Rattle.std.proofs.Common.{subst, arith}
use Rattle.ff_theory.specs.Ring.{RingOps, Elements, power}
use Rattle.ff_theory.specs.Lawful.{Domain, Lawful, lawful_field, Field}
use Rattle.ff_theory.specs.Poly.{coeff, Poly, poly, polynomials}
use Rattle.ff_theory.specs.Division.{size, IsDivision}
use Rattle.ff_theory.specs.Monic.{monic_form}
use Rattle.ff_theory.specs.Monomial.{variable}
use Rattle.ff_theory.specs.Planes.{Plane}
use Rattle.ff_theory.specs.Reversal.{reversed, slope}
use Rattle.ff_theory.specs.Values.{poly_of, polys_of, plane_of, IsPoly, IsPlane}
use Rattle.ff_theory.proofs.Poly.{trim-coeff}
use Rattle.ff_theory.proofs.Coeffs.{coeff-map}
use Rattle.ff_theory.proofs.PolyMap.{polynomial_domain, not_same, size_nonzero}
use Rattle.ff_charts.specs.Chart.{Chart}
use Rattle.ff_charts.specs.FieldCharts.{leading_row, finite_chart}
use Rattle.ff_charts.proofs.MonicForm.{form_size}
use Rattle.ff_charts.proofs.FiniteChart.{degree_is, power_nonzero}
use Rattle.ff_charts.proofs.InvertedChart.{variable_size}
use Rattle.ff_elem.specs.Elem.{algebra_in}
use Rattle.ff_elem.proofs.PolyLemmas.{nonzero-length}
use Rattle.ff_elem.proofs.Reduction.{plane-size, last-row}
use Rattle.ff_data.specs.declared.order.Chart.TheVariants.{Infinite}
use Rattle.ff_data.specs.Orders.{chart_of, slope_of}
use Rattle.ff_data.proofs.ChartLaws.{has}

-- a division of an equal polynomial
pub division-of : (R : RingOps) (a c b q r : Poly R) → a ≡ c → IsDivision R a b q r → (s : Poly R)
    × IsDivision R c b q s
division-of R a c b q r e h = (r, subst (λ a. IsDivision R a b q r) e h)

-- x^h times a polynomial that is not 0
pub raised-length : (F : Elements ℕ) (L : Lawful F) (by d : List ℕ) (h : ℕ)
    → (polynomials F.ring).same (poly_of F d) (polynomials F.ring).zero ≡ false
    → poly_of F by ≡ (polynomials F.ring).mul (power (polynomials F.ring) (variable F.ring) h)
    (poly_of F d) → 0 < length by
raised-length F L by d h nd e = let D = polynomial_domain (lawful_field L) in
    let K = lawful_field L in
    nonzero-length F L by (ap (λ t. D.same t D.zero) e ∙ D.no_divisors
    (power D.ring (variable F.ring) h) (poly_of F d)
    (power_nonzero D (variable F.ring) (size_nonzero K (variable F.ring) 1 (variable_size K)) h) nd)

module _ (F : Elements ℕ) (L : Lawful F) (f : List (List ℕ)) (hf : IsPlane F f) (two : 1 < length f)
  where
    abbrev K : Field
    K = lawful_field L

    abbrev D : Domain
    D = polynomial_domain (lawful_field L)

    abbrev g : Plane (lawful_field L)
    g = plane_of F f

    abbrev C : Chart F.ring (algebra_in L f)
    C = finite_chart (lawful_field L) (plane_of F f)

    whole : size (polynomials F.ring) (plane_of F f) ≡ length f
    whole = plane-size F L f hf

    rows-at : (a : List (List ℕ)) (i : ℕ) → coeff (polynomials F.ring) (plane_of F a).coeffs i
        ≡ coeff (polynomials F.ring) (polys_of F a) i
    unfolding poly
    rows-at a i = trim-coeff D.ring D.laws D.tests (polys_of F a) i

    -- the last row, as the code reads it
    pub lead-is : (rows : List (List ℕ)) (a : List ℕ) → rows ≡ f → a
        ≡ get_or rows (length rows - 1) a
        → poly_of F a ≡ leading_row (lawful_field L) (plane_of F f)
    lead-is rows a e h = ap (poly_of F) (h ∙ ap (λ r. get_or r (length r - 1) a) e)
        ∙ sym (coeff-map D.ring (poly_of F) f (length f - 1) a (omega (arith, two)))
        ∙ sym (rows-at f (length f - 1)) ∙ ap (coeff D.ring (plane_of F f).coeffs)
        (let s : size (polynomials F.ring) (plane_of F f) ≡ length f = whole in
        let t : length f - 1 ≡ length (plane_of F f).coeffs - 1 = omega (arith, s) in t)

    pub lead-row : (rows : List (List ℕ)) (a : List ℕ) → rows ≡ f → a
        ≡ get_or rows (length rows - 1) a
        → IsPoly F a × (0 < length a)
    lead-row rows a e h = last-row F L f (length f - 1) a hf (omega (arith, two))
        (h ∙ ap (λ r. get_or r (length r - 1) a) e)

    -- the monic form has as many rows as f
    pub monic-length : (m : List (List ℕ)) → IsPlane F m → plane_of F m
        ≡ monic_form (polynomials F.ring) (plane_of F f) → length m ≡ length f
    monic-length m hm e = let s : size (polynomials F.ring) (plane_of F m) ≡ length m
        = plane-size F L m hm in
        let t : size (polynomials F.ring) (plane_of F m)
        ≡ size (polynomials F.ring) (monic_form (polynomials F.ring) (plane_of F f))
        = ap (size (polynomials F.ring)) e in
        let u : size (polynomials F.ring) (monic_form (polynomials F.ring) (plane_of F f))
        ≡ suc (length f - 1) = form_size D.ring D.laws D.tests (plane_of F f) (length f - 1) (has F
        L f hf two)
        (not_same D.ring D.tests D.one D.zero D.proper) in omega (arith, s, t, u, two)

    pub slope-is : (m : List (List ℕ)) (e : ℕ) → IsPlane F m → plane_of F m
        ≡ monic_form (polynomials F.ring) (plane_of F f)
        → e ≡ slope F.ring (length m - 1) (plane_of F m) → e ≡ slope_of L f
    slope-is m e hm v h = h ∙ ap₂ (λ n p. slope F.ring (n - 1) p) (monic-length m hm v) v

    pub equation-is : (m r : List (List ℕ)) (e : ℕ) → IsPlane F m → plane_of F m
        ≡ monic_form (polynomials F.ring) (plane_of F f)
        → e ≡ slope F.ring (length m - 1) (plane_of F m)
        → plane_of F r ≡ reversed F.ring (length m - 1) e (plane_of F m)
        → plane_of F r ≡ (chart_of L f Infinite).equation
    equation-is m r e hm v h hr = hr
        ∙ ap₂ (λ n p. reversed F.ring n e p)
        (let n : length m ≡ length f = monic-length m hm v in let d : C.degree ≡ length f - 1
        = degree_is K g (length f - 1) (has F L f hf two) in let w : length m - 1
        ≡ C.degree = omega (arith, n, d) in w)
        v ∙ ap (λ e. reversed F.ring C.degree e (monic_form (polynomials F.ring) (plane_of F f)))
        (slope-is m e hm v h)
