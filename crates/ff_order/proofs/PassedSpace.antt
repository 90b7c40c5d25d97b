-- The residues of a space that pass one test, by the relations of their images.
use Rattle.std.proofs.Common.{◌≡◌, ℕ, suc, pred, ◌+◌ as plus_ℕ, ◌-◌, ◌<◌, ◌≤◌}
use Rattle.std.proofs.Common.{List, length, refl, sym, ◌∙◌, ap, subst, arith}
use Rattle.ff_theory.specs.Ring.{RingOps, IsCommRing, Elements}
use Rattle.ff_theory.specs.Lawful.{Lawful, lawful_field, Field, Domain}
use Rattle.ff_theory.specs.Sum.{sum_below}
use Rattle.ff_theory.specs.Poly.{coeff, Poly, polynomials}
use Rattle.ff_theory.specs.Division.{size, IsDivision}
use Rattle.ff_theory.specs.Divides.{Divides}
use Rattle.ff_theory.specs.Planes.{Plane}
use Rattle.ff_theory.specs.Span.{combination, SameSpan}
use Rattle.ff_theory.specs.Vector.{vectors_of, combination_of}
use Rattle.ff_theory.specs.Values.{poly_of, polys_of, plane_of, IsPoly, IsPlane}
use Rattle.ff_theory.proofs.PolyMap.{polynomial_domain, nonzero_size}
use Rattle.ff_theory.proofs.Solver.{◌⊗◌, nil, ring1}
use Rattle.ff_theory.proofs.Span.{span-inside}
use Rattle.ff_theory.proofs.Sums.{sum-ext, sum-zero}
use Rattle.ff_theory.proofs.Coeffs.{coeff-past}
use Rattle.ff_lattice.specs.Residues.{IsRemainder}
use Rattle.ff_lattice.proofs.Remainders.{poly_at}
use Rattle.ff_poly.proofs.LongDivision.{poly-size}
use Rattle.ff_charts.specs.Chart.{Chart as ChartOf, IsChart}
use Rattle.ff_charts.specs.Lattice.{flat}
use Rattle.ff_descent.proofs.Start.{plane_combination}
use Rattle.ff_descent.proofs.RowProducts.{poly_combination, product_combination}
use Rattle.ff_descent.proofs.RowProducts.{relation_if_divides}
use Rattle.ff_lin.specs.Space.{SpaceParts, InSpace, HasExactly, IsRelation, combinations_of}
use Rattle.ff_lin.proofs.MeetSum.{sum-split}
use Rattle.ff_lin.proofs.MeetSum.{cut, cut-ends, combination-cut, combination-combination}
use Rattle.ff_elem.specs.Elem.{algebra_in}
use Rattle.ff_data.specs.declared.order.Chart.{Chart}
use Rattle.ff_data.specs.Orders.{chart_of, y_degree}
use Rattle.ff_order.specs.declared.chart.ChartRows.{ChartRows}
use Rattle.ff_order.specs.Rows.{IsChartRows}
use Rattle.ff_order.specs.Steps.{HasResidueShape, row_len}
use Rattle.ff_order.specs.Level.{IsImage, AreImages, HoldsPassed, test_sum, part_at}
use Rattle.ff_order.specs.Closing.{IsPlaneOf}
use Rattle.ff_data.proofs.ChartLaws.{algebra_laws, chart_laws, chart_degree}
use Rattle.ff_elem.proofs.Reduction.{plane-size}
use Rattle.ff_order.proofs.ClosedSpace.{plane_is}
use Rattle.ff_order.proofs.FirstSpace.{chosen, row_len_is}

module _ (F : Elements ℕ) (laws : IsCommRing F.ring) where
  -- a combination with a relation of the images for coefficients
  pub passed_span : (basis images : List (List ℕ)) (c s : SpaceParts) → length images ≡ length basis
      → c.len ≡ length images → HasExactly F c (IsRelation F images)
      → SameSpan F.ring (length s.basis) (vectors_of F s.basis) (length c.basis)
      (combinations_of F basis c.basis) → (v k : ℕ → F.carrier)
      → ((j : ℕ) → v j ≡ combination_of F basis k j)
      → ((j : ℕ) → combination_of F images k j ≡ F.zero) → InSpace F s v
  passed_span basis images c s len clen exact same v k sum relation = span-inside F.ring laws
      (length c.basis) (combinations_of F basis c.basis) (length s.basis) (vectors_of F s.basis) v
      same.back (record {
        coefficients = e.coefficients;
        sum = λ j. sum j ∙ sym (combination-cut F.ring laws (length basis) k (vectors_of F basis) j)
            ∙ sum-ext F.ring laws (length basis)
            (λ i. F.mul (d i) (vectors_of F basis i j))
            (λ i. F.mul (combination F.ring (length c.basis) e.coefficients
            (vectors_of F c.basis) i) (vectors_of F basis i j))
            (λ i l. ap (λ t. F.mul t (vectors_of F basis i j)) (e.sum i))
            ∙ combination-combination F.ring laws (length basis) (length c.basis) e.coefficients
            (vectors_of F c.basis) (vectors_of F basis) j;
      })
    where
      d : ℕ → F.carrier
      d = cut F.ring laws (length basis) k

      zero_at : (j : ℕ) → combination_of F images d j ≡ F.zero
      zero_at j = ap (λ n. combination F.ring n d (vectors_of F images) j) len
          ∙ combination-cut F.ring laws (length basis) k (vectors_of F images) j
          ∙ ap (λ n. combination F.ring n k (vectors_of F images) j) (sym len) ∙ relation j

      e : InSpace F c d
      e = (exact d).1 (
        (λ i l. cut-ends F.ring laws (length basis) k i (omega (arith, l, clen, len))),
        zero_at,
      )

module _ (F : Elements ℕ) (L : Lawful F) (f : List (List ℕ)) (hf : IsPlane F f) (two : 1 < length f)
    (chart : Chart) (rows : ChartRows) (h : IsChartRows L f chart rows) where
  abbrev K : Field
  K = lawful_field L

  abbrev A : RingOps
  A = algebra_in L f

  abbrev AL : IsCommRing (algebra_in L f)
  AL = algebra_laws F L f hf two

  abbrev c : ChartOf F.ring (algebra_in L f)
  c = chart_of L f chart

  abbrev l : IsChart F.ring (algebra_in L f) (chart_of L f chart)
  l = chart_laws F L f hf two chart

  abbrev m : Poly F.ring
  m = poly_of F rows.d

  module _ (lists : List (List (List ℕ))) (s : ℕ) (space relations next : SpaceParts)
      (images : List (List ℕ)) (len : length images ≡ length space.basis)
      (are : AreImages L f chart rows.d lists s space.basis images (length space.basis))
      (clen : relations.len ≡ length images) (exact : HasExactly F relations (IsRelation F images))
      (same : SameSpan F.ring (length next.basis) (vectors_of F next.basis) (length relations.basis)
      (combinations_of F space.basis relations.basis)) where
    abbrev r : ℕ
    r = length space.basis

    abbrev IsOne : ℕ → Plane (lawful_field L) × Poly F.ring × Poly F.ring → Type 0
    IsOne i x = HasResidueShape L f chart rows.d x.0
        × (((j : ℕ) → flat F.ring (row_len L f chart rows.d) x.0 j ≡ vectors_of F space.basis i j)
        × (IsDivision F.ring (test_sum F lists s (y_degree L f) x.0) (poly_of F rows.d) x.1 x.2
        × ((j : ℕ) → vectors_of F images i j ≡ coeff F.ring x.2.coeffs j)))

    all : (x : ℕ → Plane (lawful_field L) × Poly F.ring × Poly F.ring)
        × ((i : ℕ) → i < length space.basis → IsOne i (x i))
    all = chosen IsOne r (λ i e. let g = are i e in (
      (g.plane, g.quotient, g.rest),
      (g.shape, (g.vector, (g.division, g.value))),
    )) (
      (polynomials (polynomials F.ring)).zero,
      (polynomials F.ring).zero,
      (polynomials F.ring).zero,
    )

    pub holds_passed : HoldsPassed L f chart rows.d lists s space next
    holds_passed N shape k w = passed_span F L.laws space.basis images relations next len clen exact
        same (flat F.ring (pred (length rows.d)) N) k.coefficients k.sum zero_at
      where
        is : N ≡ plane_combination K r k.coefficients (λ i. (all.0 i).0)
        is = plane_is K A AL c l m h.modulus r (vectors_of F space.basis) (λ i. (all.0 i).0)
            (λ i e. (all.1 i e).0) (λ i e. (all.1 i e).1.0) N shape (record {
              coefficients = k.coefficients;
              sum = λ j. ap (λ e. flat F.ring e N j) (row_len_is F L f hf two chart rows.d h.d)
                  ∙ k.sum j;
            })

        sums : test_sum F lists s (y_degree L f) N
            ≡ poly_combination K r k.coefficients
            (λ i. test_sum F lists s (y_degree L f) (all.0 i).0)
        sums = ap (test_sum F lists s (y_degree L f)) is
            ∙ product_combination K (y_degree L f) (λ i. part_at F lists i s) r k.coefficients
            (λ i. (all.0 i).0)

        δ : (n : ℕ) × (size F.ring (poly_of F rows.d) ≡ suc n)
        δ = nonzero_size K m (l.modulus_nonzero m h.modulus)

        zero_at : (j : ℕ) → combination_of F images k.coefficients j ≡ F.zero
        zero_at j = ap (λ n. combination F.ring n k.coefficients (vectors_of F images) j) len
            ∙ sum-ext F.ring L.laws r
            (λ i. F.mul (k.coefficients i) (vectors_of F images i j))
            (λ i. F.mul (k.coefficients i) (coeff F.ring (all.0 i).2.coeffs j))
            (λ i e. ap (F.mul (k.coefficients i)) ((all.1 i e).1.1.1 j))
            ∙ relation_if_divides K m δ.0 δ.1
            (λ i. test_sum F lists s (y_degree L f) (all.0 i).0) (λ i. (all.0 i).1)
            (λ i. (all.0 i).2) r k.coefficients (λ i e. (all.1 i e).1.1.0)
            (subst (Divides (polynomials F.ring) m) sums w) j

  -- the remainder of a sum of products for a plane, whose rows past the last are zero
  pub plane_rows : (a : List (List ℕ)) (v : ℕ → F.carrier) → IsPlaneOf L f chart rows.d v a
      → length a ≤ y_degree L f
  plane_rows a v p = let s : size (polynomials F.ring) (plane_of F a) ≡ length a =
      plane-size F L a p.plane in
      let t : size (polynomials F.ring) (plane_of F a) ≤
      (chart_of L f chart).degree = p.shape.rows in
      let n = chart_degree F L f hf two chart in omega (arith, s, t, n)

  abbrev PD : Domain
  PD = polynomial_domain (lawful_field L)

  pub test_whole : (lists : List (List (List ℕ))) (s n : ℕ) (a : List (List ℕ)) → length a ≤ n
      → test_sum F lists s (length a) (plane_of F a) ≡ test_sum F lists s n (plane_of F a)
  test_whole lists s n a few = sym (ap (λ t. sum_below (polynomials F.ring) t g)
      (let e : n ≡ plus_ℕ (length a) (n - length a) = omega (arith, few) in e)
      ∙ sum-split (polynomials F.ring) PD.laws (length a) (n - length a) g
      ∙ ap ((polynomials F.ring).add (sum_below (polynomials F.ring) (length a) g))
      (sum-ext (polynomials F.ring) PD.laws (n - length a) (λ i. g (plus_ℕ (length a) i))
      (λ i. (polynomials F.ring).zero) (λ i e. past (plus_ℕ (length a) i) (omega arith))
      ∙ sum-zero (polynomials F.ring) PD.laws (n - length a))
      ∙ PD.laws.add_zero (sum_below (polynomials F.ring) (length a) g))
    where
      g : ℕ → Poly F.ring
      g i = (polynomials F.ring).mul (coeff (polynomials F.ring) (plane_of F a).coeffs i)
          (part_at F lists i s)

      past : (i : ℕ) → length a ≤ i → g i ≡ (polynomials F.ring).zero
      past i e = ap (λ t. (polynomials F.ring).mul t (part_at F lists i s))
          (poly_at (polynomials F.ring) PD.laws PD.tests (polys_of F a) i
          ∙ coeff-past (polynomials F.ring) (λ p. poly_of F p) a i e)
          ∙ ring1 (polynomials F.ring) PD.laws (λ m. nil ⊗ m) (λ m. nil) refl (part_at F lists i s)

  pub image_is : (lists : List (List (List ℕ))) (s : ℕ) (a b : List (List ℕ)) (p r : List ℕ)
      (v w : ℕ → F.carrier) → IsPlaneOf L f chart rows.d v a → b ≡ a
      → poly_of F p ≡ test_sum F lists s (length b) (plane_of F b)
      → IsRemainder F.ring (poly_of F rows.d) (poly_of F p) (poly_of F r)
      → ((j : ℕ) → w j ≡ coeff F.ring (poly_of F r).coeffs j)
      → IsImage L f chart rows.d lists s v w
  image_is lists s a b p r v w hp same sum division value = record {
    plane = plane_of F a;
    shape = hp.shape;
    vector = hp.value;
    quotient = division.0;
    rest = poly_of F r;
    division = subst (λ t. IsDivision F.ring t (poly_of F rows.d) division.0 (poly_of F r))
        (sum ∙ ap (λ b. test_sum F lists s (length b) (plane_of F b)) same
        ∙ test_whole lists s (y_degree L f) a (plane_rows a v hp)) division.1;
    value = value;
  }

  pub rest_few : (p : Poly F.ring) (r e : List ℕ) → IsPoly F r → e ≡ rows.d
      → IsRemainder F.ring (poly_of F rows.d) p (poly_of F r) → length r ≤ length e - 1
  rest_few p r e hr same division = let s : size F.ring (poly_of F r) ≡ length r =
      poly-size F.ring L.laws L.tests F.value r hr.canonical in
      let t : size F.ring (poly_of F rows.d) ≡ length rows.d =
      poly-size F.ring L.laws L.tests F.value rows.d h.d.canonical in
      let u : size F.ring (poly_of F r) < size F.ring (poly_of F rows.d) = division.1.smaller in
      let n : length e ≡ length rows.d = ap length same in omega (arith, s, t, u, n)
