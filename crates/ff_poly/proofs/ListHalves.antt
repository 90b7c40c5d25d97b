-- Products by halves: lists as their two halves, and one ring identity.
use Rattle.std.proofs.Common.{◌≡◌, ℕ, zero, suc, ◌≤◌, List, [], ◌∷◌, ◌++◌, length, map, take, drop}
use Rattle.std.proofs.Common.{replicate, refl, sym, ◌∙◌, ap, ap₂}
use Rattle.std.proofs.lemmas.List.{map-append, take-append-drop, length-map, length-take-le}
use Rattle.ff_theory.specs.Ring.{RingOps, IsCommRing, IsTested, power}
use Rattle.ff_theory.specs.Poly.{coeff, Poly, poly, polynomials}
use Rattle.ff_theory.specs.Monomial.{monomial, variable}
use Rattle.ff_theory.proofs.Solver.{◌⊕◌, ◌⊗◌, neg, unit, ring1, ring6}
use Rattle.ff_theory.proofs.Poly.{polynomial_laws}
use Rattle.ff_theory.proofs.Product.{zeros_poly, power-mul}
use Rattle.ff_poly.proofs.Negative.{neg_by_coeffs, neg-zero}
use Rattle.ff_theory.proofs.FrobeniusPoly.{poly-append}

module _ (R : RingOps) (laws : IsCommRing R) (tests : IsTested R) where
  PL : IsCommRing (polynomials R)
  PL = polynomial_laws R laws tests

  pub replicate-zero : {E : Type 0} (f : E → R.carrier) (n : ℕ) (z : E) → f z ≡ R.zero
      → poly R (map f (replicate n z)) ≡ (polynomials R).zero
  replicate-zero f n z e = zeros_poly R laws tests (map f (replicate n z)) (go n)
    where
      go : (n i : ℕ) → coeff R (map f (replicate n z)) i ≡ R.zero
      go zero i = refl
      go (suc n) zero = e
      go (suc n) (suc i) = go n i

  -- times the constant 1, and times the constant -1
  pub one-scaled : (c : R.carrier) (p : Poly R) → c ≡ R.one → (polynomials R).mul (monomial R c 0) p
      ≡ p
  one-scaled c p e = ap (λ c. (polynomials R).mul (monomial R c 0) p) e
      ∙ ring1 (polynomials R) PL (λ p. unit ⊗ p) (λ p. p) refl p

  pub minus-scaled : (c : R.carrier) (p : Poly R) → c ≡ R.neg R.one
      → (polynomials R).mul (monomial R c 0) p ≡ (polynomials R).neg p
  minus-scaled c p e = ap (λ c. (polynomials R).mul (monomial R c 0) p) e
      ∙ ap (λ t. (polynomials R).mul t p) (neg_by_coeffs R laws tests (R.one ∷ [])
      (R.neg R.one ∷ []) single)
      ∙ ring1 (polynomials R) PL (λ p. neg unit ⊗ p) (λ p. neg p) refl p
    where
      single : (j : ℕ) → coeff R (R.neg R.one ∷ []) j ≡ R.neg (coeff R (R.one ∷ []) j)
      single zero = refl
      single (suc j) = sym (neg-zero R laws)

  -- the monomial x^n
  monomial-power : (n : ℕ) → monomial R R.one n ≡ power (polynomials R) (variable R) n
  monomial-power n = sym (power-mul R laws tests n (R.one ∷ []))
      ∙ PL.mul_one (power (polynomials R) (variable R) n)

  pub power-scaled : (c : R.carrier) (n : ℕ) (p : Poly R) → c ≡ R.one
      → (polynomials R).mul (monomial R c n) p ≡ (polynomials R).mul
      (power (polynomials R) (variable R) n) p
  power-scaled c n p e = ap (λ c. (polynomials R).mul (monomial R c n) p) e
      ∙ ap (λ t. (polynomials R).mul t p) (monomial-power n)

  -- one list after another, and a list by its parts
  pub join-list : {E : Type 0} (f : E → R.carrier) (v w : List E) (n : ℕ) → length v ≡ n
      → poly R (map f (v ++ w)) ≡ (polynomials R).add (poly R (map f v))
      ((polynomials R).mul (power (polynomials R) (variable R) n) (poly R (map f w)))
  join-list f v w n e = ap (poly R) (map-append f v w)
      ∙ poly-append R laws tests (map f v) (map f w)
      ∙ ap (λ n. (polynomials R).add (poly R (map f v))
      ((polynomials R).mul (power (polynomials R) (variable R) n) (poly R (map f w))))
      (length-map v f ∙ e)

  pub split-list : {E : Type 0} (f : E → R.carrier) (p : List E) (h : ℕ) → h ≤ length p
      → poly R (map f p) ≡ (polynomials R).add (poly R (map f (take h p)))
      ((polynomials R).mul (power (polynomials R) (variable R) h) (poly R (map f (drop h p))))
  split-list f p h l = ap (λ p. poly R (map f p)) (sym (take-append-drop h p))
      ∙ join-list f (take h p) (drop h p) h (length-take-le h p l)

  -- Karatsuba's rule
  pub by_halves : (a b c d low high middle t u out q s : Poly R) → low ≡ (polynomials R).mul a c
      → high ≡ (polynomials R).mul b d
      → middle ≡ (polynomials R).mul ((polynomials R).add a b) ((polynomials R).add c d)
      → t ≡ (polynomials R).add middle ((polynomials R).neg low) → u
      ≡ (polynomials R).add t ((polynomials R).neg high)
      → s ≡ (polynomials R).mul q q → out ≡ (polynomials R).add
      ((polynomials R).add low ((polynomials R).mul s high)) ((polynomials R).mul q u)
      → out ≡ (polynomials R).mul ((polynomials R).add a ((polynomials R).mul q b))
      ((polynomials R).add c ((polynomials R).mul q d))
  by_halves a b c d low high middle t u out q s hl hh hm ht hu hs ho =
      ho ∙ ap₂ (λ s u. P.add (P.add low (P.mul s high)) (P.mul q u)) hs
      (hu ∙ ap (λ t. P.add t (P.neg high)) (ht ∙ ap (λ m. P.add m (P.neg low)) hm))
      ∙ ap₂ (λ low high. P.add (P.add low (P.mul (P.mul q q) high))
      (P.mul q (P.add (P.add (P.mul (P.add a b) (P.add c d)) (P.neg low)) (P.neg high)))) hl hh
      ∙ ring6 P PL (λ a b c d q z. (a ⊗ c ⊕ (q ⊗ q) ⊗ (b ⊗ d)) ⊕ q ⊗
      (((a ⊕ b) ⊗ (c ⊕ d) ⊕ neg (a ⊗ c)) ⊕ neg (b ⊗ d))) (λ a b c d q z. (a ⊕ q ⊗ b) ⊗ (c ⊕ q ⊗ d))
      refl a b c d q P.zero
    where
      P : RingOps
      P = polynomials R
