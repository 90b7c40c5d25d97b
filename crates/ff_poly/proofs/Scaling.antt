use Rattle.std.proofs.Common.{◌≡◌, ℕ, zero, suc, ◌+◌, ◌-◌, ◌<◌, ◌≤◌, List, [], ◌∷◌, cond, length}
use Rattle.std.proofs.Common.{map, get_or, refl, sym, ◌∙◌, ap, ap₂, subst, arith}
use Rattle.std.proofs.lemmas.List.{nil_from_length}
use Rattle.ff_theory.specs.Ring.{RingOps, IsCommRing, IsTested, Elements}
use Rattle.ff_theory.specs.Lawful.{Lawful, lawful_field}
use Rattle.ff_theory.specs.Poly.{coeff, list_scale, Poly, poly, polynomials}
use Rattle.ff_theory.specs.Division.{size}
use Rattle.ff_theory.proofs.Solver.{◌⊗◌, ring3, mul_zero, zero_mul}
use Rattle.ff_theory.proofs.Poly.{scale-coeff, polynomial_laws}
use Rattle.ff_theory.proofs.Coeffs.{coeff-past, poly_ext}
use Rattle.ff_theory.proofs.Division.{const_mul_at, top_nonzero, size-mul}
use Rattle.ff_theory.proofs.PolyMap.{same_false}
use Rattle.ff_theory.specs.Values.{poly_of, IsPoly, leading}
use Rattle.ff_theory.specs.Monomial.{monomial}
use Rattle.ff_theory.specs.Divides.{IsGcd}
use Rattle.ff_theory.proofs.Values.{entry_at}
use Rattle.ff_theory.proofs.Monomial.{monomial-mul}
use Rattle.ff_theory.proofs.Product.{poly-coeff, times_zero}
use Rattle.ff_poly.proofs.Gcd.{gcd-unit}
use Rattle.ff_poly.proofs.LongDivision.{poly-size, monomial-mul-monomial}

module _ (R : RingOps) (laws : IsCommRing R) (tests : IsTested R) where
  -- a list whose coefficients are those of p times c
  pub scale_by_coeffs : (c : R.carrier) (p r : List R.carrier)
      → ((i : ℕ) → coeff R r i ≡ R.mul c (coeff R p i)) → poly R r
      ≡ (polynomials R).mul (monomial R c 0) (poly R p)
  scale_by_coeffs c p r h = poly_ext R laws tests r (list_scale R c p)
      (λ i. h i ∙ sym (scale-coeff R laws tests c p i)) ∙ sym (monomial-mul R laws tests 0 c p)

  pub scale-past : {E : Type 0} (f : E → R.carrier) (c : R.carrier) (p : List E) (i : ℕ)
      → length p ≤ i → coeff R (map f p) i ≡ R.mul c (coeff R (map f p) i)
  scale-past f c p i l = coeff-past R f p i l ∙ sym
      (ap (R.mul c) (coeff-past R f p i l) ∙ mul_zero R laws c)

module _ {E : Type 0} (K : Elements E) (L : Lawful K) where
  pub lead-nonzero : (p : List E) → IsPoly K p → 0 < length p → ¬ (leading K p ≡ K.zero)
  lead-nonzero p h l z = top_nonzero K.ring L.laws L.tests (poly_of K p) (length p - 1)
      (poly-size K.ring L.laws L.tests K.value p h.canonical ∙ omega (arith, l))
      (poly-coeff K.ring L.laws L.tests (map K.value p) (length p - 1) ∙ z)

  -- the last entry that the code read
  pub lead-entry : (p q m : List E) (x : E) → q ≡ p → m ≡ p → ¬ (length m ≡ 0)
      → K.value (get_or q (length m - 1) x) ≡ leading K p
  lead-entry p q m x hq hm some = entry_at K q (length m - 1) x
      (omega (arith, ap length hq, ap length hm)) ∙ ap₂
      (λ q m. coeff K.ring (map K.value q) (length m - 1)) hq hm

  -- times a constant that is not 0
  pub scaled-size : (c : K.carrier) (p : Poly K.ring) (n : ℕ) → ¬ (c ≡ K.zero) → size K.ring p
      ≡ suc n → size K.ring ((polynomials K.ring).mul (monomial K.ring c 0) p) ≡ suc n
  unfolding poly
  scaled-size c p n nc e = let one : size K.ring (monomial K.ring c 0)
      ≡ suc 0 = ap (λ b. length (cond b [] (c ∷ []))) (same_false K.ring L.tests c K.zero nc) in
      let whole : size K.ring ((polynomials K.ring).mul (monomial K.ring c 0) p)
      ≡ suc (0 + n) = size-mul (lawful_field L) (monomial K.ring c 0)
      p 0 n one e in omega (arith, whole)

  -- the multiple with the leading coefficient d
  module _ (p r : List E) (c d : K.carrier) (hp : IsPoly K p) (hr : IsPoly K r)
      (some : 0 < length p) (nd : ¬ (d ≡ K.zero)) (hc : c ≡ K.mul d (K.inverse (leading K p)))
      (e : poly_of K r ≡ (polynomials K.ring).mul (monomial K.ring c 0) (poly_of K p)) where
    product : K.mul c (leading K p) ≡ d
    product = ap (λ t. K.mul t (leading K p)) hc ∙ ring3 K.ring L.laws (λ d i l. (d ⊗ i) ⊗ l)
        (λ d i l. d ⊗ (l ⊗ i)) refl d (K.inverse (leading K p)) (leading K p)
        ∙ ap (K.mul d) (L.finite.field.mul_inverse (leading K p) (lead-nonzero p hp some))
        ∙ L.laws.mul_one d

    factor : ¬ (c ≡ K.zero)
    factor z = nd (sym product ∙ ap (λ t. K.mul t (leading K p)) z
        ∙ zero_mul K.ring L.laws (leading K p))

    pub led-length : length r ≡ length p
    led-length = sym (poly-size K.ring L.laws L.tests K.value r hr.canonical) ∙ ap (size K.ring) e
        ∙ scaled-size c (poly_of K p) (length p - 1) factor
        (poly-size K.ring L.laws L.tests K.value p hp.canonical ∙ omega (arith, some))
        ∙ omega (arith, some)

    pub led-leading : leading K r ≡ d
    led-leading = sym (poly-coeff K.ring L.laws L.tests (map K.value r) (length r - 1))
        ∙ ap (λ (t : Poly K.ring). coeff K.ring t.coeffs (length r - 1)) e
        ∙ const_mul_at K.ring L.laws L.tests c (poly_of K p) (length r - 1)
        ∙ ap (K.mul c) (poly-coeff K.ring L.laws L.tests (map K.value p) (length r - 1)
        ∙ ap (λ n. coeff K.ring (map K.value p) (n - 1)) led-length) ∙ product

    pub led-unit : (polynomials K.ring).mul (monomial K.ring (K.inverse c) 0) (monomial K.ring c 0)
        ≡ (polynomials K.ring).one
    led-unit = monomial-mul-monomial K.ring L.laws L.tests 0 0 0 (K.inverse c) c refl
        ∙ ap (λ t. monomial K.ring t 0) (L.laws.mul_comm (K.inverse c) c
        ∙ L.finite.field.mul_inverse c factor)

  module _ (p r : List E) (c d : K.carrier) (hp : IsPoly K p) (hr : IsPoly K r)
      (nd : ¬ (d ≡ K.zero)) (hc : c ≡ K.mul d (K.inverse (leading K p)))
      (e : poly_of K r ≡ (polynomials K.ring).mul (monomial K.ring c 0) (poly_of K p)) where
    -- the multiple of 0 is 0
    led-nil : length p ≡ 0 → poly_of K r ≡ poly_of K p
    led-nil n = e ∙ ap (λ q. (polynomials K.ring).mul (monomial K.ring c 0) (poly_of K q))
        (nil_from_length p n) ∙ sym (times_zero K.ring L.laws L.tests (monomial K.ring c 0))
        ∙ ap (poly_of K) (sym (nil_from_length p n))

    pub led-monic : 0 < length r → leading K r ≡ d
    led-monic l = led-leading p r c d hp hr (go (length p) refl) nd hc e
      where
        go : (n : ℕ) → length p ≡ n → 0 < length p
        go zero n = absurd (omega (
          arith,
          l,
          poly-size K.ring L.laws L.tests K.value r hr.canonical,
          poly-size K.ring L.laws L.tests K.value p hp.canonical,
          ap (size K.ring) (led-nil n),
          n,
        ))
        go (suc m) n = omega arith

    pub led-gcd : (a b : Poly K.ring) → IsGcd (polynomials K.ring) a b (poly_of K p)
        → IsGcd (polynomials K.ring) a b (poly_of K r)
    led-gcd a b h = go (length p) refl
      where
        go : (n : ℕ) → length p ≡ n → IsGcd (polynomials K.ring) a b (poly_of K r)
        go zero n = subst (IsGcd (polynomials K.ring) a b) (sym (led-nil n)) h
        go (suc m) n = gcd-unit (polynomials K.ring) (polynomial_laws K.ring L.laws L.tests)
            (poly_of K p) (poly_of K r) (monomial K.ring c 0) (monomial K.ring (K.inverse c) 0) e
            (led-unit p r c d hp hr (omega arith) nd hc e) a b h
