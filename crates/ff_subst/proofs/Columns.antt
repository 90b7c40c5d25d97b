-- The loops of the evaluation, over plain values.
use Rattle.std.proofs.Common.{◌≡◌, ℕ, ◌+◌, ◌-◌, ◌<◌, ◌≤◌, ◌⊎◌, inl, inr, List, [], length, map}
use Rattle.std.proofs.Common.{get_or, Result, Ok, Err, IfOk, refl, sym, ◌∙◌, ap, arith}
use Rattle.std.proofs.lemmas.Bool.{cases_lt}
use Rattle.ff_theory.specs.Ring.{RingOps, IsCommRing, Elements}
use Rattle.ff_theory.specs.Lawful.{Field, Lawful, lawful_field}
use Rattle.ff_theory.specs.Poly.{coeff, Poly, poly, polynomials}
use Rattle.ff_theory.specs.Eval.{plane_at}
use Rattle.ff_theory.proofs.Poly.{trim-coeff, polynomial_laws, polynomial_tests}
use Rattle.ff_theory.proofs.Coeffs.{coeff-map, coeff-past}
use Rattle.ff_theory.proofs.Division.{size_le}
use Rattle.ff_theory.specs.Planes.{Plane}
use Rattle.ff_theory.specs.Algebra.{algebra_of, constant}
use Rattle.ff_theory.proofs.Element.{algebra_is_ring}
use Rattle.ff_theory.proofs.Constants.{plane_at-columns}
use Rattle.ff_theory.proofs.Horner.{horner, horner-ext, from_index}
use Rattle.ff_theory.specs.Values.{poly_of, plane_of}
use Rattle.ff_subst.specs.Columns.{column_of}

pub if_ok2 : {T E : Type 0} (r : Result T E) (P Q S : T → Type 0) → ((x : T) → P x → Q x → S x)
    → IfOk r P → IfOk r Q → IfOk r S
if_ok2 (Ok x) P Q S f h k = f x h k
if_ok2 (Err e) P Q S f h k = tt

module _ (K : Elements ℕ) (L : Lawful K) where
  abbrev F : Field
  F = lawful_field L

  -- entry i of row j of a polynomial in code
  pub plane-entry : (rows : List (List ℕ)) (j i : ℕ) (d : List ℕ) → j < length rows
      → coeff K.ring (coeff (polynomials K.ring) (plane_of K rows).coeffs j).coeffs i
      ≡ coeff K.ring (map K.value (get_or rows j d)) i
  unfolding poly
  plane-entry rows j i d h =
      ap (λ (p : Poly K.ring). coeff K.ring p.coeffs i)
      (trim-coeff (polynomials K.ring) (polynomial_laws K.ring L.laws L.tests)
      (polynomial_tests K.ring L.laws L.tests) (map (poly_of K) rows) j
      ∙ coeff-map (polynomials K.ring) (poly_of K) rows j d h)
      ∙ trim-coeff K.ring L.laws L.tests (map K.value (get_or rows j d)) i

  pub poly-short : (p : List ℕ) → length (poly_of K p).coeffs ≤ length p
  unfolding poly
  poly-short p = size_le K.ring L.laws L.tests (poly_of K p) (length p)
      (λ i h. trim-coeff K.ring L.laws L.tests (map K.value p) i ∙ coeff-past K.ring K.value p i h)

  pub plane-rows : (rows : List (List ℕ)) → length (plane_of K rows).coeffs ≤ length rows
  unfolding poly
  plane-rows rows = size_le (polynomials K.ring) (polynomial_laws K.ring L.laws L.tests)
      (polynomial_tests K.ring L.laws L.tests) (plane_of K rows) (length rows)
      (λ i h. trim-coeff (polynomials K.ring) (polynomial_laws K.ring L.laws L.tests)
      (polynomial_tests K.ring L.laws L.tests) (map (poly_of K) rows) i
      ∙ coeff-past (polynomials K.ring) (poly_of K) rows i h)

  pub plane-columns : (rows : List (List ℕ)) (w : ℕ) → ((j : ℕ) → length (get_or rows j []) ≤ w)
      → (j : ℕ) → length (coeff (polynomials K.ring) (plane_of K rows).coeffs j).coeffs ≤ w
  unfolding poly
  plane-columns rows w h j = go (cases_lt j (length rows))
    where
      at : coeff (polynomials K.ring) (plane_of K rows).coeffs j
          ≡ coeff (polynomials K.ring) (map (poly_of K) rows) j
      at = trim-coeff (polynomials K.ring) (polynomial_laws K.ring L.laws L.tests)
          (polynomial_tests K.ring L.laws L.tests) (map (poly_of K) rows) j

      go : (j < length rows) ⊎ (length rows ≤ j)
          → length (coeff (polynomials K.ring) (plane_of K rows).coeffs j).coeffs ≤ w
      go (inl l) = let e : length (coeff (polynomials K.ring) (plane_of K rows).coeffs j).coeffs
          ≡ length (poly_of K (get_or rows j [])).coeffs = ap (λ (p : Poly K.ring). length p.coeffs)
          (at ∙ coeff-map (polynomials K.ring) (poly_of K) rows j [] l) in
          omega (arith, e, poly-short (get_or rows j []), h j)
      go (inr l) = let e : length (coeff (polynomials K.ring) (plane_of K rows).coeffs j).coeffs
          ≡ length (polynomials K.ring).zero.coeffs = ap (λ (p : Poly K.ring). length p.coeffs)
          (at ∙ coeff-past (polynomials K.ring) (poly_of K) rows j l) in
          let z : length (polynomials K.ring).zero.coeffs ≡ 0 = refl in omega (arith, e, z)

module _ (F : Field) (g : Plane F) where
  abbrev R : RingOps
  R = algebra_of F g

  laws : IsCommRing (algebra_of F g)
  laws = algebra_is_ring F g

  -- the whole polynomial
  pub plane-whole : (X Y : R.carrier) (N : Plane F) (n w i : ℕ) (s : R.carrier) → i ≡ 0
      → length N.coeffs ≤ n → ((j : ℕ) → length (coeff (polynomials F.ring) N.coeffs j).coeffs ≤ w)
      → s ≡ horner R X (from_index i (column_of F g Y N n)) (w - i) → s
      ≡ plane_at F.ring R (constant F g) X Y N
  plane-whole X Y N n w i s z rows columns h =
      let e : w - 0 ≡ w = omega arith in
      h ∙ ap (λ k. horner R X (from_index k (column_of F g Y N n)) (w - k)) z
      ∙ ap (horner R X (from_index 0 (column_of F g Y N n))) e
      ∙ horner-ext R laws X (from_index 0 (column_of F g Y N n)) (column_of F g Y N n) w
      (λ k l. let e : 0 + k ≡ k = omega arith in ap (column_of F g Y N n) e)
      ∙ sym (plane_at-columns F g X Y N w n rows columns)
