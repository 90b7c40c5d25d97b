-- Polynomials in code, and which of them are not 0.
use Rattle.std.proofs.Common.{◌≡◌, ℕ, ◌<◌, true, false, List, [], ◌∷◌, length, sym, ◌∙◌, ap, arith}
use Rattle.std.proofs.lemmas.Bool.{ne_eqb}
use Rattle.ff_theory.specs.Ring.{Elements}
use Rattle.ff_theory.specs.Lawful.{Lawful, lawful_field, Domain}
use Rattle.ff_theory.specs.Poly.{polynomials}
use Rattle.ff_theory.proofs.Coeffs.{zero_test}
use Rattle.ff_theory.proofs.PolyMap.{polynomial_domain}
use Rattle.ff_theory.specs.Values.{poly_of, IsPoly}

module _ (K : Elements ℕ) (L : Lawful K) where
  abbrev D : Domain
  D = polynomial_domain (lawful_field L)

  -- a list that is not empty stands for a polynomial that is not 0
  pub poly-nonzero : (p : List ℕ) → IsPoly K p → 0 < length p
      → (polynomials K.ring).same (poly_of K p) (polynomials K.ring).zero ≡ false
  poly-nonzero p h l = zero_test K.ring L.laws L.tests K.value p h.canonical
      ∙ ne_eqb (length p) 0 (λ e. absurd (omega (arith, e, l)))

  pub nonzero-length : (p : List ℕ)
      → (polynomials K.ring).same (poly_of K p) (polynomials K.ring).zero ≡ false → 0 < length p
  nonzero-length [] h = let e : true ≡ false = sym (D.tests.same_refl D.zero) ∙ h in cc
  nonzero-length (c ∷ p) h = omega arith

  pub product-length : (p e c : List ℕ) → IsPoly K e → IsPoly K c → 0 < length e → 0 < length c
      → poly_of K p ≡ (polynomials K.ring).mul (poly_of K e) (poly_of K c) → 0 < length p
  product-length p e c he hc le lc h = nonzero-length p
      (ap (λ t. D.same t D.zero) h ∙ D.no_divisors (poly_of K e) (poly_of K c) (poly-nonzero e he
      le) (poly-nonzero c hc lc))
