-- Lists of rows, and sums whose top rows cancel.
use Rattle.std.proofs.Common.{◌≡◌, ℕ, ◌+◌, List, [], ◌∷◌, ◌++◌, length, refl, sym, ◌∙◌, ap, ap₂}
use Rattle.std.proofs.Common.{subst, arith, All, length-append}
use Rattle.std.proofs.lemmas.List.Elements.{All-push, All-cons}
use Rattle.ff_theory.specs.Ring.{RingOps, IsCommRing, IsTested, Elements, power}
use Rattle.ff_theory.specs.Poly.{Poly, poly, polynomials}
use Rattle.ff_theory.proofs.Solver.{◌⊕◌, ◌⊗◌, ring4, mul_zero}
use Rattle.ff_theory.specs.Map.{IsMap}
use Rattle.ff_theory.proofs.Powers.{power-add}
use Rattle.ff_theory.proofs.Division.{const, x}
use Rattle.ff_theory.proofs.Evaluate.{const_map}
use Rattle.ff_theory.proofs.FrobeniusPoly.{poly-push}
use Rattle.ff_theory.proofs.Product.{power-mul}
use Rattle.ff_theory.proofs.Poly.{polynomial_laws}
use Rattle.ff_theory.specs.Values.{IsPoly, ArePolys}
use Rattle.ff_theory.specs.Monomial.{monomial}

-- a list that one entry more was pushed onto
pub pushed-length : {X : Type 0} (xs : List X) (x : X) (ys : List X) (i : ℕ) → ys ≡ xs ++ x ∷ []
    → length xs ≡ i → length ys ≡ i + 1
pushed-length xs x ys i e l = ap length e ∙ length-append xs (x ∷ []) ∙ ap (λ n. n + 1) l

pub pushed-each : {X : Type 0} (P : X → Type 0) (xs : List X) (x : X) (ys : List X) → ys
    ≡ xs ++ x ∷ [] → All P xs → P x → All P ys
pushed-each P xs x ys e h k = subst (All P) (sym e) (All-push P xs x h k)

module _ (R : RingOps) (laws : IsCommRing R) (tests : IsTested R) where
  abbrev P : RingOps
  P = polynomials R

  PL : IsCommRing (polynomials R)
  PL = polynomial_laws R laws tests

  abbrev C : R.carrier → Poly R
  C c = const R laws tests c

  abbrev X : ℕ → Poly R
  X n = power P (x R laws tests) n

  C_map : IsMap R (polynomials R) (const R laws tests)
  C_map = const_map R laws tests

  -- c * x^n as a product
  pub monomial-power : (c : R.carrier) (n : ℕ) → monomial R c n
      ≡ (polynomials R).mul (power (polynomials R) (x R laws tests) n) (const R laws tests c)
  monomial-power c n = sym (power-mul R laws tests n (c ∷ []))

  -- where e * t + q * a is zero, the top entries t and a of two lists cancel
  pub tops-cancel : (e q t a : R.carrier) (v w : List R.carrier) (at : ℕ)
      → R.add (R.mul e t) (R.mul q a) ≡ R.zero → length v ≡ at + length w
      → (polynomials R).add ((polynomials R).mul (monomial R e 0) (poly R v))
      ((polynomials R).mul (monomial R q at) (poly R w))
      ≡ (polynomials R).add ((polynomials R).mul (monomial R e 0) (poly R (v ++ t ∷ [])))
      ((polynomials R).mul (monomial R q at) (poly R (w ++ a ∷ [])))
  tops-cancel e q t a v w at none len = sym (
      ap₂ (λ v w. P.add (P.mul (C e) v) (P.mul (monomial R q at) w)) (poly-push R laws tests v t)
      (poly-push R laws tests w a)
      ∙ ap₂ P.add (PL.mul_add (C e) (poly R v) (P.mul (X (length v)) (C t)))
      (PL.mul_add (monomial R q at) (poly R w) (P.mul (X (length w)) (C a)))
      ∙ ring4 P PL (λ a b c d. (a ⊕ b) ⊕ (c ⊕ d)) (λ a b c d. (a ⊕ c) ⊕ (b ⊕ d)) refl
      (P.mul (C e) (poly R v)) (P.mul (C e) (P.mul (X (length v)) (C t)))
      (P.mul (monomial R q at) (poly R w))
      (P.mul (monomial R q at) (P.mul (X (length w)) (C a)))
      ∙ ap (P.add (P.add (P.mul (C e) (poly R v)) (P.mul (monomial R q at) (poly R w)))) tops
      ∙ PL.add_zero _)
    where
      tops : P.add (P.mul (C e) (P.mul (X (length v)) (C t)))
          (P.mul (monomial R q at) (P.mul (X (length w)) (C a))) ≡ P.zero
      tops = ap (λ m. P.add (P.mul (C e) (P.mul (X (length v)) (C t)))
          (P.mul m (P.mul (X (length w)) (C a)))) (monomial-power q at)
          ∙ ap (P.add (P.mul (C e) (P.mul (X (length v)) (C t))))
          (ring4 P PL (λ x q y a. (x ⊗ q) ⊗ (y ⊗ a)) (λ x q y a. (x ⊗ y) ⊗ (q ⊗ a)) refl (X at)
          (C q) (X (length w)) (C a) ∙ ap (λ m. P.mul m (P.mul (C q) (C a))) (sym (power-add P
          PL (x R laws tests) at (length w)) ∙ ap X (sym len)))
          ∙ ring4 P PL (λ e x t s. e ⊗ (x ⊗ t) ⊕ x ⊗ s) (λ e x t s. x ⊗ (e ⊗ t ⊕ s)) refl (C e)
          (X (length v)) (C t) (P.mul (C q) (C a))
          ∙ ap (P.mul (X (length v))) (ap₂ P.add (sym (C_map.on_mul e t)) (sym (C_map.on_mul q a))
          ∙ sym (C_map.on_add (R.mul e t) (R.mul q a)) ∙ ap C none ∙ C_map.on_zero)
          ∙ mul_zero P PL (X (length v))

module _ (K : Elements ℕ) where
  empty : IsPoly K []
  empty = record { each = λ k d l. absurd (omega arith); canonical = refl }

  pub zero-poly : (p : List ℕ) → p ≡ [] → IsPoly K p
  zero-poly p h = subst (IsPoly K) (sym h) empty

  -- lists of no row, of one and of two
  pub no-polys : (rows : List (List ℕ)) → rows ≡ [] → ArePolys K rows
  no-polys rows e = subst (ArePolys K) (sym e) (λ k d l. absurd (omega arith))

  pub single-polys : (rows : List (List ℕ)) (p : List ℕ) → rows ≡ p ∷ [] → IsPoly K p
      → ArePolys K rows
  single-polys rows p e h = subst (ArePolys K) (sym e)
      (All-cons (IsPoly K) p [] h (no-polys [] refl))

  pub pair-polys : (rows : List (List ℕ)) (p q : List ℕ) → rows ≡ p ∷ q ∷ [] → IsPoly K p
      → IsPoly K q → ArePolys K rows
  pair-polys rows p q e hp hq = subst (ArePolys K) (sym e)
      (All-cons (IsPoly K) p (q ∷ []) hp (single-polys (q ∷ []) q refl hq))
