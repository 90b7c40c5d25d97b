-- The slope of an equation and the rows of the equation at infinity, as loops compute them.
use Rattle.std.proofs.Common.{◌≡◌, ℕ, suc, pred, max, ◌-◌, ◌*◌, ◌<◌, List, [], length, map, get_or}
use Rattle.std.proofs.Common.{sym, ◌∙◌, ap, arith}
use Rattle.ff_theory.specs.Ring.{RingOps, IsCommRing, IsTested, Elements}
use Rattle.ff_theory.specs.Poly.{coeff, Poly, poly, polynomials}
use Rattle.ff_theory.specs.Division.{size}
use Rattle.ff_theory.specs.Reversal.{reversal, reversed, quotient_up, slope_below}
use Rattle.ff_theory.specs.Values.{poly_of, plane_of, IsPlane}
use Rattle.ff_theory.proofs.Poly.{polynomial_laws, polynomial_tests}
use Rattle.ff_theory.proofs.Listed.{listed_by_loop}
use Rattle.ff_theory.proofs.Product.{poly-coeff}
use Rattle.ff_poly.proofs.LongDivision.{poly-size}
use Rattle.ff_poly.proofs.RowLists.{row-value}

module _ (R : RingOps) (laws : IsCommRing R) (tests : IsTested R) where
  pub reversal_by_loop : {A : Type 0} (f : A → R.carrier) (p q : List A) (m : ℕ) → length q ≡ suc m
      → ((i : ℕ) → i < suc m → coeff R (map f q) i ≡ coeff R (map f p) (m - i)) → poly R (map f q)
      ≡ reversal R m (poly R (map f p))
  unfolding reversal
  reversal_by_loop f p q m len h = listed_by_loop R laws tests f q (suc m)
      (λ i. coeff R (poly R (map f p)).coeffs (m - i)) len
      (λ i l. h i l ∙ sym (poly-coeff R laws tests (map f p) (m - i)))

  pub reversed_by_loop : {A : Type 0} (f : A → Poly R) (p q : List A) (n e : ℕ) → length q ≡ suc n
      → ((i : ℕ) → i < suc n → coeff (polynomials R) (map f q) i
      ≡ reversal R ((n - i) * e) (coeff (polynomials R) (map f p) i))
      → poly (polynomials R) (map f q) ≡ reversed R n e (poly (polynomials R) (map f p))
  unfolding reversed
  reversed_by_loop f p q n e len h = listed_by_loop P PL PT f q (suc n)
      (λ i. reversal R ((n - i) * e) (coeff P (poly P (map f p)).coeffs i)) len
      (λ i l. h i l ∙ ap (reversal R ((n - i) * e)) (sym (poly-coeff P PL PT (map f p) i)))
    where
      P : RingOps
      P = polynomials R

      PL : IsCommRing (polynomials R)
      PL = polynomial_laws R laws tests

      PT : IsTested (polynomials R)
      PT = polynomial_tests R laws tests

module _ {E : Type 0} (K : Elements E) (laws : IsCommRing K.ring) (tests : IsTested K.ring) where
  -- the slope with one row more
  pub slope-step : (rows : List (List E)) (n i m : ℕ) → IsPlane K rows → i < length rows → m ≡ suc i
      → max (slope_below K.ring n (plane_of K rows) i)
      (quotient_up (length (get_or rows i []) - 1) (n - i))
      ≡ slope_below K.ring n (plane_of K rows) m
  slope-step rows n i m h l e = ap (λ a. max (slope_below K.ring n (plane_of K rows) i)
      (quotient_up a (n - i))) degree ∙ ap (slope_below K.ring n (plane_of K rows)) (sym e)
    where
      P : RingOps
      P = polynomials K.ring

      row : coeff P (plane_of K rows).coeffs i ≡ poly_of K (get_or rows i [])
      row = poly-coeff P (polynomial_laws K.ring laws tests) (polynomial_tests K.ring laws tests)
          (map (λ p. poly_of K p) rows) i ∙ sym (row-value K rows i)

      degree : length (get_or rows i []) - 1 ≡ pred
          (size K.ring (coeff P (plane_of K rows).coeffs i))
      degree = let s : size K.ring (coeff P (plane_of K rows).coeffs i)
          ≡ length (get_or rows i []) = ap (size K.ring) row
          ∙ poly-size K.ring laws tests K.value (get_or rows i []) (h.each i [] l).canonical in
          omega (arith, s)
