-- The planes of few short rows.
use Rattle.std.proofs.Common.{◌≡◌, ℕ, ◌<◌, ◌≤◌, ◌⊎◌, inl, inr, List, []}
use Rattle.std.proofs.Common.{length, map, get_or, sym, ◌∙◌, ap, arith}
use Rattle.std.proofs.lemmas.Bool.{cases_lt}
use Rattle.std.proofs.lemmas.List.{get_or_past, length-map}
use Rattle.ff_theory.specs.Ring.{Elements}
use Rattle.ff_theory.specs.Lawful.{Domain, Field, Lawful, lawful_field}
use Rattle.ff_theory.specs.Poly.{coeff, Poly, poly, polynomials}
use Rattle.ff_theory.specs.Division.{size}
use Rattle.ff_theory.specs.Values.{poly_of, plane_of, x_size}
use Rattle.ff_theory.proofs.Poly.{trim-coeff}
use Rattle.ff_theory.proofs.Coeffs.{coeff-map, coeff-past}
use Rattle.ff_theory.proofs.PolyMap.{polynomial_domain}
use Rattle.ff_charts.specs.Lattice.{HasShape}
use Rattle.ff_charts.proofs.Rows.{poly_size}
use Rattle.ff_poly.proofs.RowLists.{row-length}

module _ (K : Elements ℕ) (L : Lawful K) where
  abbrev F : Field
  F = lawful_field L

  abbrev D : Domain
  D = polynomial_domain (lawful_field L)

  -- a row of a plane
  pub row-of : (rows : List (List ℕ)) (i : ℕ) → coeff (polynomials K.ring) (plane_of K rows).coeffs
      i
      ≡ poly_of K (get_or rows i [])
  unfolding poly
  row-of rows i = trim-coeff D.ring D.laws D.tests (map (λ p. poly_of K p) rows) i
      ∙ go (cases_lt i (length rows))
    where
      go : (i < length rows) ⊎ (length rows ≤ i)
          → coeff (polynomials K.ring) (map (λ p. poly_of K p) rows) i
          ≡ poly_of K (get_or rows i [])
      go (inl h) = coeff-map (polynomials K.ring) (λ p. poly_of K p) rows i [] h
      go (inr h) = coeff-past (polynomials K.ring) (λ p. poly_of K p) rows i h
          ∙ ap (poly_of K) (sym (get_or_past rows i [] h))

  -- the shape of a plane with few rows, none longer than l
  pub shape-of : (rows : List (List ℕ)) (n l : ℕ) → length rows ≤ n → x_size rows ≤ l
      → HasShape K.ring n l (plane_of K rows)
  unfolding poly
  shape-of rows n l h k = record {
    rows = let s : size (polynomials K.ring) (plane_of K rows)
        ≤ length (map (λ p. poly_of K p) rows) = poly_size D.ring D.laws D.tests (map (λ
        p. poly_of K p) rows) in omega (arith, s, length-map rows (λ p. poly_of K p), h);
    each = λ i. let e : size K.ring (coeff (polynomials K.ring) (plane_of K rows).coeffs i)
        ≡ size K.ring (poly_of K (get_or rows i [])) = ap (size K.ring) (row-of rows i) in
        let s : size K.ring (poly_of K (get_or rows i []))
        ≤ length (map K.value (get_or rows i [])) = poly_size K.ring L.laws L.tests
        (map K.value (get_or rows i [])) in
        omega (arith, e, s, length-map (get_or rows i []) K.value, row-length rows i, k);
  }
