-- Planes of few short rows, and the vectors that list their coefficients, as lists of values.
use Rattle.std.proofs.Common.{◌≡◌, ℕ, zero, suc, ◌+◌, ◌*◌, ◌-◌, ◌<◌, ◌≤◌, ◌⊎◌, inl, inr}
use Rattle.std.proofs.Common.{List, [], length, map, take, drop, get_or, sym, ◌∙◌, ap, subst, arith}
use Rattle.std.proofs.lemmas.Bool.{cases_lt}
use Rattle.std.proofs.lemmas.List.{length-map, length-take-le, length-drop, get_or-take}
use Rattle.std.proofs.lemmas.List.{get_or-drop}
use Rattle.ff_theory.specs.Ring.{Elements}
use Rattle.ff_theory.specs.Lawful.{Domain, Lawful, lawful_field}
use Rattle.ff_theory.specs.Poly.{coeff, Poly, polynomials}
use Rattle.ff_theory.specs.Division.{size}
use Rattle.ff_theory.specs.Span.{EndsAt}
use Rattle.ff_theory.specs.Vector.{vector_of}
use Rattle.ff_theory.specs.Values.{poly_of, polys_of, plane_of}
use Rattle.ff_theory.proofs.Coeffs.{coeff-map}
use Rattle.ff_theory.proofs.Division.{coeff-beyond, zero_from}
use Rattle.ff_theory.proofs.PolyMap.{polynomial_domain, zero_size}
use Rattle.ff_charts.specs.Lattice.{HasShape, flat}
use Rattle.ff_charts.proofs.Flat.{flat_ends, plane_with, plane_with_shape, plane_with_flat}
use Rattle.ff_charts.proofs.Rows.{polynomial_of, polynomial_at, polynomial_size, equal_below}
use Rattle.ff_poly.proofs.LongDivision.{poly-size-le}
use Rattle.ff_poly.proofs.RowLists.{row-value}
use Rattle.ff_lattice.specs.Vectors.{IsPart}
use Rattle.ff_lattice.proofs.Remainders.{poly_at}

-- what a product that is not zero has for a factor
pub factor_positive : (n l : ℕ) → 0 < n * l → 0 < l
factor_positive n zero h = let e : n * 0 ≡ 0 = omega arith in omega (arith, h, e)
factor_positive n (suc l) h = omega arith

-- row i is inside
pub row_inside : (i l n : ℕ) → i < n → i * l + l ≤ n * l
row_inside i l zero h = absurd (omega arith)
row_inside zero l (suc n) h = let e : suc n * l ≡ l + n * l = omega arith in
    let z : 0 * l ≡ 0 = omega arith in omega (arith, e, z)
row_inside (suc i) l (suc n) h = let k : i * l + l ≤ n * l = row_inside i l n (omega arith) in
    let e : suc n * l ≡ l + n * l = omega arith in
    let z : suc i * l ≡ l + i * l = omega arith in omega (arith, k, e, z)

module _ {F : Elements ℕ} (L : Lawful F) where
  abbrev D : Domain
  D = polynomial_domain (lawful_field L)

  -- an entry of a list of rows
  pub entry_at : (rows : List (List ℕ)) (i j : ℕ)
      → coeff F.ring (coeff (polynomials F.ring) (plane_of F rows).coeffs i).coeffs j
      ≡ coeff F.ring (poly_of F (get_or rows i [])).coeffs j
  entry_at rows i j = ap (λ (p : Poly F.ring). coeff F.ring p.coeffs j)
      (poly_at (polynomials F.ring) D.laws D.tests (polys_of F rows) i ∙ sym (row-value F rows i))

  pub entry_past : (rows : List (List ℕ)) (i j : ℕ) → length rows ≤ i
      → coeff F.ring (coeff (polynomials F.ring) (plane_of F rows).coeffs i).coeffs j ≡ F.zero
  entry_past rows i j l = ap (λ (p : Poly F.ring). coeff F.ring p.coeffs j)
      (poly_at (polynomials F.ring) D.laws D.tests (polys_of F rows) i
      ∙ coeff-beyond (polynomials F.ring) D.laws D.tests (polys_of F rows) i
      (let e = length-map rows (λ p. poly_of F p) in omega (arith, e, l)))
      ∙ zero_from F.ring L.laws L.tests D.zero j
      (let z : size F.ring D.zero ≡ 0 = zero_size (lawful_field L) in omega (arith, z))

  vector_ends : (v : List ℕ) (n : ℕ) → length v ≡ n → EndsAt F.ring n (vector_of F v)
  vector_ends v n e j l = coeff-beyond F.ring L.laws L.tests (map F.value v) j
      (let s = length-map v F.value in omega (arith, s, e, l))

  -- a list with the entries of a plane
  pub vector_whole : (v : List ℕ) (a : List (List ℕ)) (n l : ℕ) → length v ≡ n * l
      → HasShape F.ring n l (plane_of F a)
      → ((j : ℕ) → j < n * l → vector_of F v j ≡ flat F.ring l (plane_of F a) j) → (j : ℕ)
      → vector_of F v j ≡ flat F.ring l (plane_of F a) j
  vector_whole v a n l e shape h j = go (cases_lt j (n * l))
    where
      go : (j < n * l) ⊎ (n * l ≤ j) → vector_of F v j ≡ flat F.ring l (plane_of F a) j
      go (inl s) = h j s
      go (inr s) = vector_ends v (n * l) e j s
          ∙ sym (flat_ends (lawful_field L) l n (plane_of F a) shape j s)

  -- the polynomial of a part of a list
  pub part_of_list : (v s p : List ℕ) (at l : ℕ) → at + l ≤ length v
      → s ≡ take (at + l - at) (drop at v) → poly_of F p ≡ poly_of F s
      → IsPart F.ring l (vector_of F v) at (poly_of F p)
  part_of_list v s p at l room e value = record {
    few = let h : size F.ring (poly_of F s) ≤ length s =
        poly-size-le F.ring L.laws L.tests F.value s in
        let q = ap (size F.ring) value in omega (arith, h, q, len);
    value = λ j i. ap (λ (p : Poly F.ring). coeff F.ring p.coeffs j) value
        ∙ poly_at F.ring L.laws L.tests (map F.value s) j
        ∙ coeff-map F.ring F.value s j 0 (omega (arith, len, i))
        ∙ ap F.value (ap (λ s. get_or s j 0) e
        ∙ get_or-take (at + l - at) (drop at v) j 0 (omega (arith, i)) ∙ get_or-drop at v j 0)
        ∙ sym (coeff-map F.ring F.value v (at + j) 0 (omega (arith, room, i)));
  }
    where
      len : length s ≡ l
      len = let d : length (drop at v) ≡ length v - at = omega (arith, length-drop at v) in
          let t = length-take-le (at + l - at) (drop at v) (omega (arith, d, room)) in
          let q = ap length e in omega (arith, t, q)

  -- the plane of the parts
  module _ (v : List ℕ) (rows : List (List ℕ)) (n l : ℕ) (len : length rows ≡ n)
      (whole : length v ≡ n * l) (parts : (i : ℕ) → i < n
      → IsPart F.ring l (vector_of F v) (i * l) (coeff (polynomials F.ring) (polys_of F rows) i))
    where
      same_plane : plane_of F rows ≡ plane_with (lawful_field L) l n (vector_of F v)
      same_plane = equal_below (polynomials F.ring) D.laws D.tests (plane_of F rows)
          (plane_with (lawful_field L) l n (vector_of F v)) n
          (let s : size (polynomials F.ring) (plane_of F rows) ≤ length rows =
          poly-size-le (polynomials F.ring) D.laws D.tests (λ p. poly_of F p) rows in
          omega (arith, s, len))
          (polynomial_size (polynomials F.ring) D.laws D.tests n g)
          (λ i q. poly_at (polynomials F.ring) D.laws D.tests (polys_of F rows) i
          ∙ equal_below F.ring L.laws L.tests (coeff (polynomials F.ring) (polys_of F rows) i)
          (g i) l
          (parts i q).few
          (polynomial_size F.ring L.laws L.tests l (λ j. vector_of F v (i * l + j)))
          (λ j t. (parts i q).value j t
          ∙ sym (polynomial_at F.ring L.laws L.tests l (λ j. vector_of F v (i * l + j)) j t))
          ∙ sym (polynomial_at (polynomials F.ring) D.laws D.tests n g i q))
        where
          g : ℕ → Poly F.ring
          g i = polynomial_of F.ring L.laws L.tests l (λ j. vector_of F v (i * l + j))

      pub parts_shape : HasShape F.ring n l (plane_of F rows)
      parts_shape = subst (HasShape F.ring n l) (sym same_plane)
          (plane_with_shape (lawful_field L) l n (vector_of F v))

      pub parts_flat : (j : ℕ) → flat F.ring l (plane_of F rows) j ≡ vector_of F v j
      parts_flat j = ap (λ N. flat F.ring l N j) same_plane
          ∙ plane_with_flat (lawful_field L) l n (vector_of F v) (vector_ends v (n * l) whole) j
