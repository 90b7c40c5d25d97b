-- Shapes of residues, lengths of products with u - a, and the equation of a chart of E(f).
use Rattle.std.proofs.Common.{◌≡◌, ℕ, suc, pred, ◌+◌ as plus_ℕ, ◌-◌, ◌<◌, ◌≤◌, List, length}
use Rattle.std.proofs.Common.{sym, ◌∙◌}
use Rattle.std.proofs.Common.{ap, subst, arith, [], get_or}
use Rattle.std.proofs.lemmas.List.{length-map, get_or-map}
use Rattle.std.specs.Global.{Vec}
use Rattle.ff_theory.specs.Vector.{IsVector}
use Rattle.ff_lin.specs.Space.{SpaceParts, IsSpaceOf, rows_of}
use Rattle.ff_theory.specs.Ring.{Elements}
use Rattle.ff_theory.specs.Lawful.{Domain, Field, Lawful, lawful_field}
use Rattle.ff_theory.specs.Poly.{coeff, Poly, polynomials}
use Rattle.ff_theory.specs.Divides.{Divides}
use Rattle.ff_theory.specs.Division.{size, IsDivision}
use Rattle.ff_theory.specs.Planes.{Plane}
use Rattle.ff_theory.specs.Values.{poly_of, IsPoly, plane_of, IsPlane}
use Rattle.ff_theory.proofs.Division.{size-mul}
use Rattle.ff_theory.proofs.Divides.{divides_self}
use Rattle.ff_theory.proofs.PolyMap.{polynomial_domain}
use Rattle.ff_charts.specs.Chart.{IsChart}
use Rattle.ff_charts.specs.Lattice.{HasShape}
use Rattle.ff_lattice.specs.Remainder.{IsMonic}
use Rattle.ff_lattice.specs.Residues.{AreResidues}
use Rattle.ff_poly.proofs.LongDivision.{poly-size, poly-size-le}
use Rattle.ff_elem.specs.Elem.{algebra_in}
use Rattle.ff_elem.proofs.Reduction.{plane-size}
use Rattle.ff_data.specs.declared.order.Chart.{Chart}
use Rattle.ff_data.specs.Orders.{chart_of, y_degree}
use Rattle.ff_data.proofs.ChartLaws.{chart_laws, chart_degree}
use Rattle.ff_data.proofs.Denominators.{cofactor-some}

-- the first vector of the basis of a space
pub first_row : (s : SpaceParts) → 0 < length s.basis → (basis : List (Vec ℕ)) (v : Vec ℕ)
    → rows_of basis ≡ s.basis → v ≡ get_or basis 0 v → get_or s.basis 0 [] ≡ v.items
first_row s some basis v e is = ap (λ t. get_or t 0 []) (sym e)
    ∙ get_or-map (λ (r : Vec ℕ). r.items) basis 0 v []
    (omega (arith, some, ap length e, length-map basis (λ (r : Vec ℕ). r.items)))
    ∙ ap (λ (r : Vec ℕ). r.items) (sym is)

pub first_vector : (F : Elements ℕ) (n : ℕ) (s : SpaceParts) → IsSpaceOf F n s
    → 0 < length s.basis → (basis : List (Vec ℕ)) (v : Vec ℕ) → rows_of basis ≡ s.basis
    → v ≡ get_or basis 0 v → IsVector F n v.items
first_vector F n s h some basis v e is = subst (λ m. IsVector F m v.items) h.len
    (subst (IsVector F s.len) (first_row s some basis v e is) (h.space.rows 0 [] some))

module _ (F : Elements ℕ) (L : Lawful F) where
  abbrev K : Field
  K = lawful_field L

  abbrev D : Domain
  D = polynomial_domain (lawful_field L)

  -- residues modulo m of few rows
  pub residue_shape : (m : List ℕ) → IsPoly F m → (n : ℕ) (N low : Plane (lawful_field L))
      → AreResidues F.ring (poly_of F m) N low → size (polynomials F.ring) N ≤ n
      → HasShape F.ring n (pred (length m)) low
  residue_shape m hm n N low r few =
      let s : size F.ring (poly_of F m) ≡ length m = poly-size F.ring L.laws L.tests F.value m
      hm.canonical in record {
        rows = omega (arith, r.rows, few);
        each = λ i. omega (arith, r.each i, s);
      }

  pub listed_size : (rows : List (List ℕ)) (n : ℕ) → length rows ≤ n
      → size (polynomials F.ring) (plane_of F rows) ≤ n
  listed_size rows n few = let s : size (polynomials F.ring) (plane_of F rows) ≤ length rows =
      poly-size-le D.ring D.laws D.tests (λ p. poly_of F p) rows in omega (arith, s, few)

  pub listed_shape : (m : List ℕ) → IsPoly F m → (n : ℕ) (rows : List (List ℕ))
      (low : Plane (lawful_field L)) → AreResidues F.ring (poly_of F m) (plane_of F rows) low
      → length rows ≤ n → HasShape F.ring n (pred (length m)) low
  listed_shape m hm n rows low r few = residue_shape m hm n (plane_of F rows) low r
      (listed_size rows n few)

  -- a plane with a shape has few rows
  pub shape_rows : (rows : List (List ℕ)) → IsPlane F rows → (n l : ℕ)
      → HasShape F.ring n l (plane_of F rows) → length rows ≤ n
  shape_rows rows h n l s = let e : size (polynomials F.ring) (plane_of F rows) ≡ length rows =
      plane-size F L rows h in omega (arith, e, s.rows)

  -- the product with a polynomial of degree 1 has one coefficient more
  pub product_length : (a b c : List ℕ) → IsPoly F a → IsPoly F b → IsPoly F c → 0 < length a
      → length b ≡ 2 → poly_of F c ≡ (polynomials F.ring).mul (poly_of F a) (poly_of F b)
      → length c ≡ plus_ℕ (length a) 1
  product_length a b c ha hb hc positive two e =
      let sa : size F.ring (poly_of F a) ≡ length a
      = poly-size F.ring L.laws L.tests F.value a ha.canonical in
      let sb : size F.ring (poly_of F b) ≡ length b
      = poly-size F.ring L.laws L.tests F.value b hb.canonical in
      let sc : size F.ring (poly_of F c) ≡ length c
      = poly-size F.ring L.laws L.tests F.value c hc.canonical in
      let ka : size F.ring (poly_of F a) ≡ suc (pred (length a)) = omega (arith, sa, positive) in
      let kb : size F.ring (poly_of F b) ≡ suc 1 = sb ∙ two in
      let s : size F.ring (poly_of F c) ≡ suc (plus_ℕ (pred (length a)) 1)
      = ap (size F.ring) e
      ∙ size-mul K (poly_of F a) (poly_of F b)
      (pred (length a)) 1 ka kb in
      omega (arith, s, sc, positive)

  -- a quotient by a divisor is not 0
  pub quotient_nonzero : (d by q : List ℕ) (r : Poly F.ring) → IsPoly F d → 0 < length d
      → Divides (polynomials F.ring) (poly_of F by) (poly_of F d)
      → IsDivision F.ring (poly_of F d) (poly_of F by) (poly_of F q) r → 0 < length q
  quotient_nonzero d by q r hd positive divides division = cofactor-some F L by d by q r
      (record {
        of_first = divides_self D.ring D.laws (poly_of F by);
        of_second = divides;
        greatest = λ e h k. h;
      }) division hd positive

  module _ (f : List (List ℕ)) (hf : IsPlane F f) (two : 1 < length f) (chart : Chart)
      (r : List (List ℕ)) (h : IsPlane F r)
      (is : plane_of F r ≡ (chart_of L f chart).equation) where
    l : IsChart F.ring (algebra_in L f) (chart_of L f chart)
    l = chart_laws F L f hf two chart

    pub equation_length : length r ≡ suc (y_degree L f)
    equation_length = sym (plane-size F L r h) ∙ ap (size (polynomials F.ring)) is ∙ l.rows
        ∙ ap suc (chart_degree F L f hf two chart)

    pub equation_positive : 0 < length r
    equation_positive = let e = equation_length in omega (arith, e)

    pub equation_monic : IsMonic (polynomials F.ring) (plane_of F r)
    equation_monic = subst (IsMonic (polynomials F.ring)) (sym is)
        (ap (coeff (polynomials F.ring) (chart_of L f chart).equation.coeffs) top ∙ l.monic)
      where
        top : length (chart_of L f chart).equation.coeffs - 1 ≡ (chart_of L f chart).degree
        top = let e : length (chart_of L f chart).equation.coeffs
            ≡ suc (chart_of L f chart).degree = l.rows in omega (arith, e)
