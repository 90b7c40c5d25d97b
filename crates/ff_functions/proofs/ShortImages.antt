-- Where an element with a numerator over d has poles of low order at infinity, its image is whole.
use Rattle.std.proofs.Common.{◌≡◌, ℕ, zero, suc, pred, ◌+◌ as plus_ℕ, ◌*◌ as times_ℕ, ◌-◌, ◌<◌}
use Rattle.std.proofs.Common.{◌≤◌}
use Rattle.std.proofs.Common.{List, [], ◌∷◌, length, refl, ◌∙◌, ap, subst, arith}
use Rattle.std.proofs.Math.Nat.{mul-le-mul_right}
use Rattle.ff_theory.specs.Ring.{Elements, power}
use Rattle.ff_theory.specs.Lawful.{Domain, Field, Lawful, lawful_field}
use Rattle.ff_theory.specs.Poly.{coeff, Poly, polynomials}
use Rattle.ff_theory.specs.Division.{size, IsDivision}
use Rattle.ff_theory.specs.Monomial.{variable}
use Rattle.ff_theory.specs.Values.{poly_of, polys_of, IsPoly, ArePolys, IsPlane, x_size}
use Rattle.ff_theory.proofs.Division.{size-add, size-neg, size-mul, size-mul-le}
use Rattle.ff_theory.proofs.PolyMap.{polynomial_domain}
use Rattle.ff_theory.proofs.Solver.{◌⊕◌, neg, ring2}
use Rattle.ff_charts.proofs.InvertedChart.{variable_size}
use Rattle.ff_quotients.proofs.QuotientResidues.{variable_power_size}
use Rattle.ff_poly.proofs.LongDivision.{poly-size}
use Rattle.ff_data.specs.Orders.{slope_of, y_degree}
use Rattle.ff_common.specs.Common.{AreQuotients, IsReversed, IsImage}
use Rattle.ff_common.proofs.ReversedImages.{image_of, by_is, d_size}
use Rattle.ff_functions.specs.Images.{IsShortOver}

-- a quotient of a short polynomial is short
pub quotient_size : (K : Field) (b row Q R : Poly K.ring) (h n m : ℕ) → size K.ring b ≡ suc n
    → IsDivision K.ring ((polynomials K.ring).mul (power (polynomials K.ring) (variable K.ring) h)
    row) b Q R → plus_ℕ h (size K.ring row) ≤ plus_ℕ m n → size K.ring Q ≤ m
quotient_size K b row Q R h n m hb division fits = go (size K.ring Q) refl
  where
    P : Domain
    P = polynomial_domain K

    S : Poly K.ring
    S = (polynomials K.ring).mul (power (polynomials K.ring) (variable K.ring) h) row

    raised : size K.ring ((polynomials K.ring).mul
        (power (polynomials K.ring) (variable K.ring) h) row) ≤ plus_ℕ m n
    raised = let s : size K.ring (power (polynomials K.ring) (variable K.ring) h) ≡ suc h
        = variable_power_size K h in
        size-mul-le K.ring K.laws K.tests (power (polynomials K.ring) (variable K.ring) h) row
        (plus_ℕ m n) (omega (arith, s, fits))

    product : size K.ring ((polynomials K.ring).mul Q b) ≤ plus_ℕ m n
    product = subst (λ p. size K.ring p ≤ plus_ℕ m n)
        (ap (λ s. P.add s (P.neg R)) division.sum
        ∙ ring2 P.ring P.laws (λ p r. (p ⊕ r) ⊕ neg r) (λ p r. p) refl
        ((polynomials K.ring).mul Q b) R)
        (size-add K.ring K.laws K.tests S (P.neg R) (plus_ℕ m n) raised
        (let s : size K.ring (P.neg R) ≤ size K.ring R = size-neg K.ring K.laws K.tests R in
        let r : size K.ring R < size K.ring b = division.smaller in omega (arith, s, r, hb)))

    go : (s : ℕ) → size K.ring Q ≡ s → size K.ring Q ≤ m
    go zero e = omega (arith, e)
    go (suc c) e = let s : size K.ring ((polynomials K.ring).mul Q b) ≡ suc (plus_ℕ c n)
        = size-mul K Q b c n e hb in
        omega (arith, s, product, e)

module _ (F : Elements ℕ) (L : Lawful F) where
  short_rows : (q : List (List ℕ)) (m : ℕ) → ArePolys F q
      → ((i : ℕ) → i < length q
      → size F.ring (coeff (polynomials F.ring) (polys_of F q) i) ≤ m) → x_size q ≤ m
  short_rows [] m h k = omega arith
  short_rows (p ∷ q) m h k =
      let s : size F.ring (poly_of F p) ≡ length p = poly-size F.ring L.laws L.tests F.value p
      (h 0 [] (omega arith)).canonical in
      let a : size F.ring (poly_of F p) ≤ m = k 0 (omega arith) in
      let b : x_size q ≤ m = short_rows q m (λ i d l. h (suc i) d (omega (arith, l)))
      (λ i l. k (suc i) (omega (arith, l))) in
      omega (arith, s, a, b)

  pub short_image : (f : List (List ℕ)) (hf : IsPlane F f) (two : 1 < length f) (d : List ℕ)
      (hd : IsPoly F d) (nonzero : 0 < length d) (l h : ℕ) → 0 < h → (q : List (List ℕ))
      (v image : ℕ → F.carrier) (by : List ℕ)
      → poly_of F by ≡ (polynomials F.ring).mul
      (power (polynomials F.ring) (variable F.ring) 1) (poly_of F d)
      → AreQuotients L f (poly_of F by) l v q → IsReversed F h q image
      → IsShortOver L f d l h v → IsImage L f d l h v image
  short_image f hf two d hd nonzero l h positive q v image by hb are reversed short =
      image_of F L f hf two d hd nonzero l q v
      (subst (λ b. AreQuotients L f b l v q) (hb ∙ by_is F L d hd nonzero) are) h positive
      (short_rows q h are.rows.polys small) image reversed
    where
      K : Field
      K = lawful_field L

      size_is : size F.ring (poly_of F by) ≡ suc (suc (pred (length d)))
      size_is = let s : size F.ring ((polynomials F.ring).mul (variable F.ring) (poly_of F d))
          ≡ suc (plus_ℕ 1 (pred (length d)))
          = size-mul (lawful_field L)
          (variable F.ring) (poly_of F d) 1 (pred (length d)) (variable_size (lawful_field L))
          (d_size F L d hd nonzero) in
          omega (arith, s, ap (size F.ring) (hb ∙ by_is F L d hd nonzero))

      small : (i : ℕ) → i < length q
          → size F.ring (coeff (polynomials F.ring) (polys_of F q) i) ≤ h
      small i k = let e = are.each i k in
          let few : length q ≤ y_degree L f = are.rows.few in
          quotient_size (lawful_field L) (poly_of F by)
          (coeff (polynomials F.ring) are.plane.coeffs i)
          (coeff (polynomials F.ring) (polys_of F q) i) e.0 (times_ℕ i (slope_of L f))
          (suc (pred (length d))) h size_is e.1
          (let s : plus_ℕ (times_ℕ i (slope_of L f)) (size F.ring
          (coeff (polynomials F.ring) are.plane.coeffs i)) ≤ plus_ℕ h (length d)
          = short are.plane are.shape are.vector i (omega (arith, k, few)) in
          omega (arith, s, nonzero))

-- a plane of residues modulo d is short
pub low_short : (F : Elements ℕ) (L : Lawful F) (f : List (List ℕ)) (d : List ℕ) (l h : ℕ)
    (u : ℕ → F.carrier) → l ≤ length d → times_ℕ (y_degree L f - 1) (slope_of L f) ≤ h
    → IsShortOver L f d l h u
low_short F L f d l h u low steep = λ N shape same i q.
    let n : i ≤ y_degree L f - 1 = omega (arith, q) in
    let a : times_ℕ i (slope_of L f) ≤ times_ℕ (y_degree L f - 1) (slope_of L f)
    = mul-le-mul_right (slope_of L f) n in
    let b : size F.ring (coeff (polynomials F.ring) N.coeffs i) ≤ l = shape.each i in
    omega (arith, a, b, low, steep)
