-- A plane that is not 0, and its degree in y.
use Rattle.std.proofs.Common.{◌≡◌, ℕ, zero, suc, pred, Bool, true, false, cond, eqb, [], ◌∷◌}
use Rattle.std.proofs.Common.{length, refl, sym, ◌∙◌, ap, arith}
use Rattle.std.proofs.lemmas.Bool.{eqb-true}
use Rattle.ff_theory.specs.Lawful.{Field}
use Rattle.ff_theory.specs.Poly.{Poly, poly, polynomials}
use Rattle.ff_theory.specs.Division.{size}
use Rattle.ff_theory.specs.Planes.{planes, Plane, row_of}
use Rattle.ff_theory.specs.Algebra.{proper, degree}
use Rattle.ff_theory.proofs.PolyMap.{polynomial_domain}
use Rattle.ff_theory.proofs.Booleans.{differ}

module _ (K : Field) where
  pub proper_size : (f : Plane K) → size (polynomials K.ring) (proper K f) ≡ suc (degree K f)
  unfolding poly
  proper_size f = go (eqb (length f.coeffs) 0) refl
    where
      up : (p : Plane K) → ¬ (size (polynomials K.ring) p ≡ 0) → size (polynomials K.ring) p
          ≡ suc (pred (size (polynomials K.ring) p))
      up p h = pick (size (polynomials K.ring) p) refl
        where
          pick : (k : ℕ) → size (polynomials K.ring) p ≡ k → size (polynomials K.ring) p
              ≡ suc (pred (size (polynomials K.ring) p))
          pick zero e = absurd (h e)
          pick (suc k) e = e ∙ sym (ap (λ t. suc (pred t)) e)

      go : (b : Bool) → eqb (length f.coeffs) 0 ≡ b
          → size (polynomials K.ring) (cond b (planes K).one f)
          ≡ suc (pred (size (polynomials K.ring) (cond b (planes K).one f)))
      go true e = up (planes K).one (λ h. let one : size (polynomials K.ring) (planes K).one
          ≡ 1 = ap (λ b. length (cond b [] ((polynomials K.ring).one ∷ [])))
          (polynomial_domain K).proper in absurd (omega (arith, h, one)))
      go false e = up f (λ h. differ _ (ap (λ t. eqb t 0) h) e)

  pub proper_is : (f : Plane K) → ¬ (size (polynomials K.ring) f ≡ 0) → proper K f ≡ f
  proper_is f n = go (eqb (length f.coeffs) 0) refl
    where
      go : (b : Bool) → eqb (length f.coeffs) 0 ≡ b → cond b (planes K).one f ≡ f
      go true e = absurd (n (eqb-true (length f.coeffs) 0 e))
      go false e = refl

  -- the size of a plane of one row
  pub row_size : (c : Poly K.ring) → (polynomials K.ring).same c (polynomials K.ring).zero ≡ false
      → size (polynomials K.ring) (row_of K.ring c) ≡ 1
  unfolding poly
  row_size c nc = ap (λ b. length (cond b [] (c ∷ []))) nc
