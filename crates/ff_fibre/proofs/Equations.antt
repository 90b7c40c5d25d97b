-- The equation of a chart in code, residues of planes, and the table of products.
use Rattle.std.proofs.Common.{◌≡◌, ℕ, suc, pred, ◌-◌, ◌<◌, ◌≤◌, List, length, sym, ◌∙◌, ap}
use Rattle.std.proofs.Common.{subst, arith}
use Rattle.std.specs.Global.{Vec}
use mathlib.Core.Path.{fun_ext}
use Rattle.ff_theory.specs.Ring.{Elements}
use Rattle.ff_theory.specs.Lawful.{Lawful, lawful_field, Domain}
use Rattle.ff_theory.specs.Poly.{coeff, polynomials}
use Rattle.ff_theory.specs.Division.{size}
use Rattle.ff_theory.specs.Planes.{Plane}
use Rattle.ff_theory.specs.Values.{poly_of, plane_of, IsPoly, IsPlane}
use Rattle.ff_theory.specs.Vector.{vector_of}
use Rattle.ff_theory.proofs.Poly.{polynomial_laws}
use Rattle.ff_theory.proofs.PolyMap.{polynomial_domain}
use Rattle.ff_charts.specs.Chart.{IsChart}
use Rattle.ff_charts.specs.Lattice.{HasShape}
use Rattle.ff_lattice.specs.Remainder.{IsMonic, IsCongruent}
use Rattle.ff_lattice.specs.Residues.{AreResidues}
use Rattle.ff_lin.specs.Space.{rows_of}
use Rattle.ff_poly.proofs.LongDivision.{poly-size, poly-size-le}
use Rattle.ff_elem.specs.Elem.{algebra_in}
use Rattle.ff_elem.proofs.Reduction.{plane-size}
use Rattle.ff_modulo.specs.Modulo.{IsCombinationModulo, IsSpannedModulo}
use Rattle.ff_data.specs.declared.order.Chart.{Chart}
use Rattle.ff_data.specs.declared.order.Order.{Order}
use Rattle.ff_data.specs.Orders.{chart_of, y_degree}
use Rattle.ff_data.proofs.ChartLaws.{chart_laws, chart_degree}
use Rattle.ff_fibre.specs.declared.parts.Fibre.{Fibre}
use Rattle.ff_fibre.specs.Fibres.{IsResidueVector, AreCoordinatesOf, IsProductOver, IsEntryOf}
use Rattle.ff_fibre.specs.Fibres.{with_table, IsBasisAt, HasBasisForm}

module _ (F : Elements ℕ) (L : Lawful F) (f : List (List ℕ)) (hf : IsPlane F f) (two : 1 < length f)
    (chart : Chart) (equation : List (List ℕ)) (h : IsPlane F equation)
    (is : plane_of F equation ≡ (chart_of L f chart).equation) where
  abbrev l : IsChart F.ring (algebra_in L f) (chart_of L f chart)
  l = chart_laws F L f hf two chart

  pub equation_len : length equation ≡ suc (y_degree L f)
  equation_len = let e : size (polynomials F.ring) (plane_of F equation) ≡ length equation =
      plane-size F L equation h in
      sym e ∙ ap (size (polynomials F.ring)) is ∙ l.rows
      ∙ ap suc (chart_degree F L f hf two chart)

  pub equation_positive : 0 < length equation
  equation_positive = let e = equation_len in omega (arith, e)

  pub equation_monic : IsMonic (polynomials F.ring) (plane_of F equation)
  equation_monic = subst (IsMonic (polynomials F.ring)) (sym is)
      (ap (coeff (polynomials F.ring) (chart_of L f chart).equation.coeffs) top ∙ l.monic)
    where
      top : length (chart_of L f chart).equation.coeffs - 1 ≡ (chart_of L f chart).degree
      top = let e : length (chart_of L f chart).equation.coeffs
          ≡ suc (chart_of L f chart).degree = l.rows in omega (arith, e)

module _ (F : Elements ℕ) (L : Lawful F) where
  abbrev D : Domain
  D = polynomial_domain (lawful_field L)

  pub plane_few : (n : ℕ) (rows : List (List ℕ)) → length rows ≤ n
      → size (polynomials F.ring) (plane_of F rows) ≤ n
  plane_few n rows few = let s : size (polynomials F.ring) (plane_of F rows) ≤ length rows =
      poly-size-le (polynomials F.ring) D.laws D.tests (λ p. poly_of F p) rows in
      omega (arith, s, few)

  pub residue_shape : (m : List ℕ) → IsPoly F m → (n : ℕ) (rows : List (List ℕ))
      → length rows ≤ n → (low : Plane (lawful_field L))
      → AreResidues F.ring (poly_of F m) (plane_of F rows) low
      → HasShape F.ring n (pred (length m)) low
  residue_shape m hm n rows few low r = record {
    rows = let s = plane_few n rows few in omega (arith, s, r.rows);
    each = λ i. let e : size F.ring (poly_of F m) ≡ length m =
        poly-size F.ring L.laws L.tests F.value m hm.canonical in
        let s : size F.ring (coeff (polynomials F.ring) low.coeffs i) < size F.ring (poly_of F m) =
        r.each i in omega (arith, s, e);
  }

  module _ (f : List (List ℕ)) (s : Fibre) (a : Plane (lawful_field L)) (v : List ℕ)
      (k : IsResidueVector F (y_degree L f) s.modulus a (vector_of F v)) where
    -- coordinates that were found
    pub found_coordinates : (c : ℕ → F.carrier) → IsCombinationModulo F s.space
        (rows_of s.rows.items) c (vector_of F v) → AreCoordinatesOf L f s a c
    found_coordinates c h = record {
      residue = k.residue;
      residues = k.residues;
      shape = k.shape;
      value = λ sp. subst (IsCombinationModulo F s.space (rows_of s.rows.items) c)
          (fun_ext k.value) h;
    }

    -- and none
    pub no_coordinates : (c : ℕ → F.carrier) → ¬ (IsSpannedModulo F s.space
        (rows_of s.rows.items) (vector_of F v)) → AreCoordinatesOf L f s a c
    no_coordinates c n = record {
      residue = k.residue;
      residues = k.residues;
      shape = k.shape;
      value = λ sp. absurd (n (subst (IsSpannedModulo F s.space (rows_of s.rows.items))
          (sym (fun_ext k.value)) sp));
    }

  module _ (f : List (List ℕ)) (o : Order) where
    -- the product in the other order
    pub swapped_product : (a b q : Plane (lawful_field L)) → IsProductOver L f o a b q
        → IsProductOver L f o b a q
    swapped_product a b q h = record {
      square = h.square;
      congruent = subst (λ t. IsCongruent (polynomials F.ring) (chart_of L f o.chart).equation t
          h.square) ((polynomial_laws (polynomials F.ring) D.laws D.tests).mul_comm a b)
          h.congruent;
      few = h.few;
      quotients = h.quotients;
    }

    pub swapped_entry : (s : Fibre) (i j : ℕ) (c : ℕ → F.carrier) → IsEntryOf L f o s i j c
        → IsEntryOf L f o s j i c
    swapped_entry s i j c h = record {
      quotient = h.quotient;
      product = swapped_product _ _ h.quotient h.product;
      coordinates = h.coordinates;
    }

    -- the table takes no part in the basis and in coordinates
    pub tabled_form : (s : Fibre) (t : Vec (Vec (Vec ℕ))) → HasBasisForm L f s
        → HasBasisForm L f (with_table s t)
    tabled_form s t h = record {
      modulus = h.modulus;
      nonzero = h.nonzero;
      space = h.space;
      planes = h.planes;
      rows = h.rows;
      count = h.count;
    }

    pub tabled_basis : (a : F.carrier) (s : Fibre) (t : Vec (Vec (Vec ℕ))) → IsBasisAt L f o a s
        → IsBasisAt L f o a (with_table s t)
    tabled_basis a s t h = record {
      form = tabled_form s t h.form;
      len = h.len;
      modulus = h.modulus;
      space = h.space;
      vectors = h.vectors;
      basis = h.basis;
    }

    pub tabled_entry : (s : Fibre) (t : Vec (Vec (Vec ℕ))) (i j : ℕ) (c : ℕ → F.carrier)
        → IsEntryOf L f o s i j c → IsEntryOf L f o (with_table s t) i j c
    tabled_entry s t i j c h = record {
      quotient = h.quotient;
      product = h.product;
      coordinates = record {
        residue = h.coordinates.residue;
        residues = h.coordinates.residues;
        shape = h.coordinates.shape;
        value = h.coordinates.value;
      };
    }
