-- Whether the rows of a plane are multiples of a polynomial, by its quotients.
use Rattle.std.proofs.Common.{◌≡◌, ℕ, zero, suc, ◌<◌, List, [], ◌∷◌, length, map, refl, sym, ◌∙◌}
use Rattle.std.proofs.Common.{ap, ap₂, arith, false, All, ◌≤◌}
use Rattle.ff_theory.specs.Ring.{Elements, IsElement}
use Rattle.ff_theory.specs.Lawful.{Domain, Field, Lawful, lawful_field}
use Rattle.ff_theory.specs.Poly.{poly, coeff, Poly, polynomials}
use Rattle.ff_theory.specs.Division.{size}
use Rattle.ff_theory.specs.Planes.{planes, Plane, row_of}
use Rattle.ff_theory.specs.Values.{poly_of, plane_of, IsPoly, IsPlane}
use Rattle.ff_theory.proofs.Solver.{◌⊕◌, nil, ring1}
use Rattle.ff_theory.proofs.Values.{one_list}
use Rattle.ff_theory.proofs.Poly.{trim_same, polynomial_laws}
use Rattle.ff_theory.proofs.PolyMap.{polynomial_domain, nonzero_size}
use Rattle.ff_charts.proofs.Lattice.{shape_zero}
use Rattle.ff_elem.proofs.PolyLemmas.{poly-nonzero}
use Rattle.ff_data.specs.Numerators.{AreQuotients}
use Rattle.ff_data.proofs.PlaneQuotients.{quotient_is}

module _ (F : Elements ℕ) (L : Lawful F) (one : (a b : ℕ) → IsElement F a → IsElement F b
    → F.value a ≡ F.value b → a ≡ b) where
  abbrev K : Field
  K = lawful_field L

  abbrev P : Domain
  P = polynomial_domain (lawful_field L)

  one_polys : (v w : List (List ℕ)) → All (λ p. IsPoly F p) v → All (λ p. IsPoly F p) w
      → map (λ p. poly_of F p) v ≡ map (λ p. poly_of F p) w → v ≡ w
  one_polys [] [] hv hw e = refl
  one_polys [] (q ∷ w) hv hw e = cc
  one_polys (p ∷ v) [] hv hw e = cc
  one_polys (p ∷ v) (q ∷ w) hv hw e =
      let h : poly_of F p ≡ poly_of F q = cc in
      let t : map (λ p. poly_of F p) v ≡ map (λ p. poly_of F p) w = cc in
      ap₂ (λ p v. p ∷ v) (one_list F one L.laws L.tests p q (hv zero p (omega arith))
      (hw zero q (omega arith)) h)
      (one_polys v w (λ k d l. hv (suc k) d (omega (arith, l)))
      (λ k d l. hw (suc k) d (omega (arith, l))) t)

  -- a plane has one list of rows
  one_plane : (p q : List (List ℕ)) → IsPlane F p → IsPlane F q → plane_of F p ≡ plane_of F q
      → p ≡ q
  unfolding poly
  one_plane p q hp hq e = one_polys p q hp.each hq.each
      (sym (trim_same P.ring P.laws P.tests (map (λ p. poly_of F p) p) hp.canonical)
      ∙ ap (λ (r : Poly (polynomials F.ring)). r.coeffs) e
      ∙ trim_same P.ring P.laws P.tests (map (λ p. poly_of F p) q) hq.canonical)

  -- where the product with the quotients is another plane, there is no such multiple
  pub no_multiple : (a r product : List (List ℕ)) (by : List ℕ) → IsPlane F a → IsPlane F product
      → IsPoly F by → 0 < length by → AreQuotients F (poly_of F by) (plane_of F a) (plane_of F r)
      → plane_of F product ≡ (planes (lawful_field L)).mul (row_of F.ring (poly_of F by))
      (plane_of F r) → ¬ (product ≡ a) → (N : Plane (lawful_field L))
      → ¬ (plane_of F a ≡ (planes (lawful_field L)).mul (row_of F.ring (poly_of F by)) N)
  no_multiple a r product by ha hp hb pos q e differ N h = differ (one_plane product a hp ha
      (e ∙ ap ((planes K).mul (row_of F.ring (poly_of F by))) (quotient_is K (poly_of F by) nd
      (plane_of F a) (plane_of F r) (planes K).zero N
      (h ∙ ring1 (planes K) (polynomial_laws P.ring P.laws P.tests) (λ n. n) (λ n. nil ⊕ n) refl
      ((planes K).mul (row_of F.ring (poly_of F by)) N)) small q) ∙ sym h))
    where
      nd : (polynomials F.ring).same (poly_of F by) (polynomials F.ring).zero ≡ false
      nd = poly-nonzero F L by hb pos

      small : (i : ℕ) → size F.ring (coeff (polynomials F.ring)
          (planes (lawful_field L)).zero.coeffs i) < size F.ring (poly_of F by)
      small i = let z : size F.ring (coeff (polynomials F.ring) (planes K).zero.coeffs i) ≤ 0
          = (shape_zero K 0 0).each i in omega (arith, z, (nonzero_size K (poly_of F by) nd).1)
