-- The power to the characteristic of a polynomial, by its coefficients.
use Rattle.std.proofs.Common.{◌≡◌, ℕ, zero, suc, ◌*◌ as times_ℕ, List, [], ◌∷◌, ◌++◌, length, refl}
use Rattle.std.proofs.Common.{sym, ◌∙◌, ap, ap₂}
use Rattle.ff_theory.specs.Ring.{RingOps, IsCommRing, IsTested, power}
use Rattle.ff_theory.specs.Poly.{coeff, Poly, poly, polynomials}
use Rattle.ff_theory.proofs.Solver.{◌⊕◌, ◌⊗◌, nil, unit, ring1, ring4}
use Rattle.ff_theory.specs.Map.{IsMap}
use Rattle.ff_theory.proofs.Poly.{polynomial_laws}
use Rattle.ff_theory.proofs.Coeffs.{poly_ext}
use Rattle.ff_theory.proofs.Division.{const, x, cons}
use Rattle.ff_theory.proofs.Evaluate.{const_map}
use Rattle.ff_theory.proofs.Powers.{power-mul}
use Rattle.ff_theory.proofs.Frobenius.{HasCharacteristic, power-power, frobenius-add}

-- a map of rings keeps powers
pub map-power : (S R : RingOps) (f : S.carrier → R.carrier) → IsMap S R f → (a : S.carrier) (n : ℕ)
    → f (power S a n) ≡ power R (f a) n
map-power S R f map a zero = map.on_one
map-power S R f map a (suc n) = map.on_mul a (power S a n)
    ∙ ap (R.mul (f a)) (map-power S R f map a n)

module _ (R : RingOps) (laws : IsCommRing R) (tests : IsTested R) where
  abbrev P : RingOps
  P = polynomials R

  PL : IsCommRing (polynomials R)
  PL = polynomial_laws R laws tests

  abbrev X : Poly R
  X = x R laws tests

  abbrev C : R.carrier → Poly R
  C c = const R laws tests c

  -- one list after another
  pub poly-append : (v w : List R.carrier) → poly R (v ++ w)
      ≡ (polynomials R).add (poly R v)
      ((polynomials R).mul (power (polynomials R) (x R laws tests) (length v)) (poly R w))
  poly-append [] w = ring1 P PL (λ w. w) (λ w. nil ⊕ unit ⊗ w) refl (poly R w)
  poly-append (c ∷ v) w = cons R laws tests c (v ++ w)
      ∙ ap (λ t. P.add (C c) (P.mul X t)) (poly-append v w)
      ∙ regroup (C c) X (poly R v) (power P X (length v)) (poly R w)
      ∙ ap (λ t. P.add t (P.mul (P.mul X (power P X (length v))) (poly R w)))
      (sym (cons R laws tests c v))
    where
      regroup : (c x v q w : Poly R) → P.add c (P.mul x (P.add v (P.mul q w)))
          ≡ P.add (P.add c (P.mul x v)) (P.mul (P.mul x q) w)
      regroup c x v q w = ap (P.add c) (ring4 P PL (λ x v q w. x ⊗ (v ⊕ q ⊗ w))
          (λ x v q w. x ⊗ v ⊕ (x ⊗ q) ⊗ w) refl x v q w)
          ∙ sym (PL.add_assoc c (P.mul x v) (P.mul (P.mul x q) w))

  pub poly-push : (v : List R.carrier) (c : R.carrier) → poly R (v ++ c ∷ [])
      ≡ (polynomials R).add (poly R v)
      ((polynomials R).mul (power (polynomials R) (x R laws tests) (length v))
      (const R laws tests c))
  poly-push v c = poly-append v (c ∷ [])

  -- zeros at the end
  pub poly-zeros : (v zs : List R.carrier) → ((i : ℕ) → coeff R zs i ≡ R.zero) → poly R (v ++ zs)
      ≡ poly R v
  poly-zeros v zs h = poly_ext R laws tests (v ++ zs) v (go v)
    where
      go : (v : List R.carrier) (i : ℕ) → coeff R (v ++ zs) i ≡ coeff R v i
      go [] i = h i
      go (c ∷ v) zero = refl
      go (c ∷ v) (suc i) = go v i

  -- the power of a polynomial with one coefficient more: that coefficient's power, p coefficients
  -- further on
  pub frobenius-push : (p : ℕ) → HasCharacteristic (polynomials R) p
      → (v m zs : List R.carrier) (d c : R.carrier) → length m ≡ times_ℕ p (length v)
      → ((i : ℕ) → coeff R zs i ≡ R.zero)
      → poly R m ≡ power (polynomials R) (poly R v) p → c ≡ power R d p → poly R (m ++ c ∷ zs)
      ≡ power (polynomials R) (poly R (v ++ d ∷ [])) p
  frobenius-push p char v m zs d c len none before is =
      ap (poly R) (regroup m) ∙ poly-zeros (m ++ c ∷ []) zs none ∙ poly-push m c
      ∙ ap₂ P.add before (ap₂ (λ n t. P.mul (power P X n) (C t)) len is
      ∙ ap₂ P.mul (sym (power-power P PL X (length v) p)) (map-power R P C (const_map R laws tests)
      d p) ∙ sym (power-mul P PL (power P X (length v)) (C d) p))
      ∙ sym (frobenius-add P PL p char (poly R v) (P.mul (power P X (length v)) (C d)))
      ∙ ap (λ t. power P t p) (sym (poly-push v d))
    where
      regroup : (m : List R.carrier) → m ++ c ∷ zs ≡ (m ++ c ∷ []) ++ zs
      regroup [] = refl
      regroup (a ∷ m) = ap (λ t. a ∷ t) (regroup m)
