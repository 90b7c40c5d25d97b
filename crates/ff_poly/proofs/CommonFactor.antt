use Rattle.std.proofs.Common.{◌≡◌, ℕ, zero, suc, pred, ◌+◌, ◌-◌, ◌<◌, List, [], ◌∷◌, length, map}
use Rattle.std.proofs.Common.{get_or, refl, sym, ◌∙◌, ap, arith}
use Rattle.std.proofs.lemmas.Bool.{lt-ltb, eq-eqb}
use Rattle.std.proofs.lemmas.List.{length-map, nil_from_length}
use Rattle.ff_theory.specs.Ring.{RingOps, IsCommRing, Elements}
use Rattle.ff_theory.specs.Lawful.{Field, Lawful, lawful_field}
use Rattle.ff_theory.specs.Poly.{coeff, Poly, poly, polynomials}
use Rattle.ff_theory.specs.Division.{size, IsDivision}
use Rattle.ff_theory.proofs.Solver.{◌⊗◌, unit, ring1, ring3, mul_zero, zero_mul}
use Rattle.ff_theory.proofs.Poly.{polynomial_laws}
use Rattle.ff_theory.proofs.Series.{mul_top}
use Rattle.ff_theory.proofs.Division.{one_division, mul_at, zero_from, top_nonzero, size-mul}
use Rattle.ff_theory.proofs.Gcd.{no_size}
use Rattle.ff_theory.proofs.PolyMap.{zero_size, one_size, size_nonzero, polynomial_domain}
use Rattle.ff_theory.proofs.LowestTerms.{cancel}
use Rattle.ff_theory.specs.LowestTerms.{IsLowest}
use Rattle.ff_theory.specs.Values.{poly_of, IsPoly, leading, polys_of, products_with}
use Rattle.ff_theory.specs.Monomial.{monomial}
use Rattle.ff_theory.specs.Divides.{Divides, IsGcdOfAll}
use Rattle.ff_theory.proofs.Values.{entry_at}
use Rattle.ff_theory.proofs.Product.{poly-coeff, coeff_of}
use Rattle.ff_poly.proofs.LongDivision.{poly-size}
use Rattle.ff_poly.proofs.Gcd.{gcds-unit}
use Rattle.ff_poly.proofs.Scaling.{lead-nonzero, led-length, led-leading, led-unit}

-- a list of products with g
coeff-scaled : (R : RingOps) (laws : IsCommRing R) {A : Type 0} (f : A → R.carrier) (g : R.carrier)
    (xs : List A) (i : ℕ) → coeff R (map (λ x. R.mul (f x) g) xs) i ≡ R.mul (coeff R (map f xs) i) g
coeff-scaled R laws f g [] i = sym (zero_mul R laws g)
coeff-scaled R laws f g (x ∷ xs) zero = refl
coeff-scaled R laws f g (x ∷ xs) (suc i) = coeff-scaled R laws f g xs i

module _ (F : Field) where
  PL : IsCommRing (polynomials F.ring)
  PL = polynomial_laws F.ring F.laws F.tests

  sized : (p : Poly F.ring) → ¬ (p ≡ (polynomials F.ring).zero) → (n : ℕ) × (size F.ring p ≡ suc n)
  sized p np = go (size F.ring p) refl
    where
      go : (k : ℕ) → size F.ring p ≡ k → (n : ℕ) × (size F.ring p ≡ suc n)
      go zero e = absurd (np (no_size F p e))
      go (suc n) e = (n, e)

  -- what divides 1 is a constant
  unit-size : (d : Poly F.ring) → Divides (polynomials F.ring) d (polynomials F.ring).one
      → size F.ring d ≡ 1
  unit-size d h = go (sized h.0 (λ z. none
      (ap (λ t. (polynomials F.ring).mul t d) z ∙ zero_mul (polynomials F.ring) PL d)))
      (sized d (λ z. none (ap ((polynomials F.ring).mul h.0) z
      ∙ mul_zero (polynomials F.ring) PL h.0)))
    where
      none : ¬ ((polynomials F.ring).mul h.0 d ≡ (polynomials F.ring).zero)
      none z = absurd (omega (arith, one_size F, ap (size F.ring) (h.1 ∙ z), zero_size F))

      go : (m : ℕ) × (size F.ring h.0 ≡ suc m) → (n : ℕ) × (size F.ring d ≡ suc n) → size F.ring d
          ≡ 1
      go m n = omega (
        arith,
        n.1,
        one_size F,
        ap (size F.ring) h.1,
        size-mul F h.0 d m.0 n.0 m.1 n.1,
      )

  -- a quotient of two polynomials with the same leading coefficient is monic
  monic-quotient : (d g : Poly F.ring) (m n : ℕ) → size F.ring d ≡ suc m → size F.ring g ≡ suc n
      → coeff F.ring ((polynomials F.ring).mul d g).coeffs (m + n) ≡ coeff F.ring g.coeffs n
      → coeff F.ring d.coeffs m ≡ F.one
  monic-quotient d g m n hd hg e = ring1 F.ring F.laws (λ a. a) (λ a. a ⊗ unit) refl a
      ∙ ap (F.mul a) (sym (F.is_field.mul_inverse b nb)) ∙ sym (F.laws.mul_assoc a b (F.inverse b))
      ∙ ap (λ t. F.mul t (F.inverse b)) product ∙ F.is_field.mul_inverse b nb
    where
      a : F.carrier
      a = coeff F.ring d.coeffs m

      b : F.carrier
      b = coeff F.ring g.coeffs n

      nb : ¬ (b ≡ F.zero)
      nb = top_nonzero F.ring F.laws F.tests g n hg

      product : F.mul a b ≡ b
      product = sym (mul_top F.ring F.laws (coeff F.ring d.coeffs) (coeff F.ring g.coeffs) m n
          (m + n) (λ i l. zero_from F.ring F.laws F.tests d i (omega arith))
          (λ i l. zero_from F.ring F.laws F.tests g i (omega arith)) refl)
          ∙ sym (mul_at F.ring F.laws F.tests d g (m + n)) ∙ e

module _ {E : Type 0} (K : Elements E) (L : Lawful K) where
  abbrev F : Field
  F = lawful_field L

  -- the polynomial 1
  pub one_poly : (p q : List E) (x : E) → q ≡ p → length q ≡ 1 → K.value (get_or q 0 x) ≡ K.one
      → poly_of K p ≡ (polynomials K.ring).one
  one_poly p q x e l v = ap (poly_of K) (sym e) ∙ go q l v
    where
      go : (q : List E) → length q ≡ 1 → K.value (get_or q 0 x) ≡ K.one → poly_of K q
          ≡ (polynomials K.ring).one
      go [] l v = absurd (omega arith)
      go (y ∷ []) l v = ap (λ t. poly K.ring (t ∷ [])) v
      go (y ∷ z ∷ q) l v = absurd (omega arith)

  pub one-length : (p : List E) → IsPoly K p → poly_of K p ≡ (polynomials K.ring).one → length p ≡ 1
  one-length p h e = omega (
    arith,
    poly-size K.ring L.laws L.tests K.value p h.canonical,
    ap
        (size K.ring) e,
    one_size F,
  )

  pub one-value : (p : List E) (x : E) → length p ≡ 1 → poly_of K p ≡ (polynomials K.ring).one
      → K.value (get_or p 0 x) ≡ K.one
  one-value p x l e = entry_at K p 0 x (omega (arith, l))
      ∙ coeff_of K.ring L.laws L.tests (map K.value p) (K.one ∷ []) e 0

  -- the quotient by a divisor
  pub exact_division : (a b q r : Poly K.ring) → IsDivision K.ring a b q r
      → Divides (polynomials K.ring) b a → (polynomials K.ring).mul q b ≡ a
  exact_division a b q r d h = go (size K.ring b) refl
    where
      go : (k : ℕ) → size K.ring b ≡ k → (polynomials K.ring).mul q b ≡ a
      go zero e = absurd (omega (arith, e, d.smaller))
      go (suc n) e = ap (λ t. (polynomials K.ring).mul t b)
          (one_division (lawful_field L) b n e a q r h.0
          (polynomials K.ring).zero d (record {
            sum = h.1 ∙ sym ((PL F).add_zero ((polynomials K.ring).mul h.0 b));
            smaller = omega (arith, e, zero_size F);
          })).0 ∙ sym h.1

  -- a greatest common divisor of den and others, with the leading coefficient x of den
  module _ (den p r : List E) (x : E) (hden : IsPoly K den) (hp : IsPoly K p) (hr : IsPoly K r)
      (some : 0 < length den) (hx : K.value x ≡ leading K den)
      (e : poly_of K r ≡ (polynomials K.ring).mul
      (monomial K.ring (K.mul (K.value x) (K.inverse (leading K p))) 0) (poly_of K p))
      (list : List (Poly K.ring)) (n : ℕ) (gcd : IsGcdOfAll (polynomials K.ring) (poly_of K den)
      list n (poly_of K p)) where
    lead : ¬ (K.value x ≡ K.zero)
    lead z = lead-nonzero K L den hden some (sym hx ∙ z)

    divisor_some : 0 < length p
    divisor_some = go (length p) refl
      where
        go : (k : ℕ) → length p ≡ k → 0 < length p
        go zero z = absurd (omega (
          arith,
          some,
          poly-size K.ring L.laws L.tests K.value den
              hden.canonical,
          ap (size K.ring) (gcd.of_first.1
              ∙ ap (λ q. (polynomials K.ring).mul gcd.of_first.0 (poly_of K q))
              (nil_from_length p z)
              ∙ mul_zero (polynomials K.ring) (PL F) gcd.of_first.0),
          zero_size F,
        ))
        go (suc k) z = omega arith

    pub shared-some : 0 < length r
    shared-some = omega (
      arith,
      divisor_some,
      led-length K L p r
          (K.mul (K.value x) (K.inverse (leading K p))) (K.value x) hp hr divisor_some lead refl e,
    )

    pub shared-leading : leading K r ≡ leading K den
    shared-leading = led-leading K L p r (K.mul (K.value x) (K.inverse (leading K p))) (K.value x)
        hp hr divisor_some lead refl e ∙ hx

    pub shared-gcd : IsGcdOfAll (polynomials K.ring) (poly_of K den) list n (poly_of K r)
    shared-gcd = gcds-unit (polynomials K.ring) (PL F) (poly_of K p) (poly_of K r)
        (monomial K.ring (K.mul (K.value x) (K.inverse (leading K p))) 0)
        (monomial K.ring (K.inverse (K.mul (K.value x) (K.inverse (leading K p)))) 0) e
        (led-unit K L p r (K.mul (K.value x) (K.inverse (leading K p))) (K.value x) hp hr
        divisor_some lead refl e) (poly_of K den) list n gcd

  leading-at : (p : List E) (n : ℕ) → IsPoly K p → size K.ring (poly_of K p) ≡ suc n
      → coeff K.ring (poly_of K p).coeffs n ≡ leading K p
  leading-at p n h e = poly-coeff K.ring L.laws L.tests (map K.value p) n
      ∙ ap (coeff K.ring (map K.value p)) (let k : n
      ≡ length p - 1 = omega (arith, e, poly-size K.ring L.laws L.tests K.value p h.canonical) in k)

  -- the fractions with all their numerators and the denominator divided by a greatest common
  -- divisor
  module _ (den low common : List E) (nums lows : List (List E)) (hden : IsPoly K den)
      (hlow : IsPoly K low) (hcommon : IsPoly K common)
      (lead : leading K common ≡ leading K den) (some : 0 < length den)
      (whole : (polynomials K.ring).mul (poly_of K low) (poly_of K common) ≡ poly_of K den)
      (parts : products_with K (poly_of K common) lows ≡ polys_of K nums)
      (gcd : IsGcdOfAll (polynomials K.ring) (poly_of K den) (polys_of K nums) (length nums)
      (poly_of K common)) where
    P : IsCommRing (polynomials K.ring)
    P = PL F

    part : (i : ℕ) → (polynomials K.ring).mul (coeff (polynomials K.ring) (polys_of K lows) i)
        (poly_of K common) ≡ coeff (polynomials K.ring) (polys_of K nums) i
    part i = sym (coeff-scaled (polynomials K.ring) P (λ p. poly_of K p) (poly_of K common) lows i)
        ∙ ap (λ l. coeff (polynomials K.ring) l i) parts

    pub lowest-cross : (i : ℕ) → (polynomials K.ring).mul
        (coeff (polynomials K.ring) (polys_of K lows) i) (poly_of K den)
        ≡ (polynomials K.ring).mul (coeff (polynomials K.ring) (polys_of K nums) i) (poly_of K low)
    lowest-cross i = ap ((polynomials K.ring).mul (coeff (polynomials K.ring) (polys_of K lows) i))
        (sym whole)
        ∙ ring3 (polynomials K.ring) P (λ n d g. n ⊗ (d ⊗ g)) (λ n d g. (n ⊗ g) ⊗ d) refl
        (coeff (polynomials K.ring) (polys_of K lows) i) (poly_of K low) (poly_of K common)
        ∙ ap (λ t. (polynomials K.ring).mul t (poly_of K low)) (part i)

    nonzero : ¬ ((polynomials K.ring).mul (poly_of K low) (poly_of K common)
        ≡ (polynomials K.ring).zero)
    nonzero z = absurd (omega (
      arith,
      some,
      poly-size K.ring L.laws L.tests K.value den
          hden.canonical,
      ap (size K.ring) (sym whole ∙ z),
      zero_size F,
    ))

    low_size : (m : ℕ) × (size K.ring (poly_of K low) ≡ suc m)
    low_size = sized F (poly_of K low) (λ z. nonzero
        (ap (λ t. (polynomials K.ring).mul t (poly_of K common)) z
        ∙ zero_mul (polynomials K.ring) P (poly_of K common)))

    common_size : (n : ℕ) × (size K.ring (poly_of K common) ≡ suc n)
    common_size = sized F (poly_of K common)
        (λ z. nonzero (ap ((polynomials K.ring).mul (poly_of K low)) z
        ∙ mul_zero (polynomials K.ring) P (poly_of K low)))

    den_size : size K.ring (poly_of K den) ≡ suc (low_size.0 + common_size.0)
    den_size = ap (size K.ring) (sym whole)
        ∙ size-mul (lawful_field L) (poly_of K low)
        (poly_of K common) low_size.0 common_size.0 low_size.1
        common_size.1

    lead_one : coeff K.ring (poly_of K low).coeffs low_size.0 ≡ K.one
    lead_one = monic-quotient F (poly_of K low) (poly_of K common) low_size.0 common_size.0
        low_size.1 common_size.1
        (ap (λ (t : Poly K.ring). coeff K.ring t.coeffs (low_size.0 + common_size.0)) whole
        ∙ leading-at den (low_size.0 + common_size.0) hden den_size ∙ sym lead
        ∙ sym (leading-at common common_size.0 hcommon common_size.1))

    -- what divides all of them times the divisor divides the divisor
    only_units : (d : Poly K.ring) → Divides (polynomials K.ring) d (poly_of K low)
        → ((i : ℕ) → i < length nums → Divides (polynomials K.ring) d
        (coeff (polynomials K.ring) (polys_of K lows) i))
        → Divides (polynomials K.ring) d (polynomials K.ring).one
    only_units d hd hn = (
      w.0,
      cancel (polynomial_domain F) (polynomials K.ring).one ((polynomials K.ring).mul w.0 d)
          (poly_of K common) (size_nonzero F (poly_of K common) common_size.0 common_size.1)
          (ring1 (polynomials K.ring) P (λ g. unit ⊗ g) (λ g. g) refl (poly_of K common) ∙ w.1
          ∙ sym (P.mul_assoc w.0 d (poly_of K common))),
    )
      where
        times : (a b : Poly K.ring) → (polynomials K.ring).mul a (poly_of K common) ≡ b
            → Divides (polynomials K.ring) d a → Divides (polynomials K.ring)
            ((polynomials K.ring).mul d (poly_of K common)) b
        times a b e h = (
          h.0,
          sym e ∙ ap (λ t. (polynomials K.ring).mul t (poly_of K common)) h.1
              ∙ P.mul_assoc h.0 d (poly_of K common),
        )

        w : Divides (polynomials K.ring) ((polynomials K.ring).mul d (poly_of K common))
            (poly_of K common)
        w = gcd.greatest ((polynomials K.ring).mul d (poly_of K common))
            (times (poly_of K low) (poly_of K den) whole hd)
            (λ i l. times (coeff (polynomials K.ring) (polys_of K lows) i)
            (coeff (polynomials K.ring) (polys_of K nums) i) (part i) (hn i l))

    pub lowest-form : IsLowest (lawful_field L) (length nums) (poly_of K low) (polys_of K lows)
    lowest-form = record {
      monic = ap (λ t. K.same t K.one) (ap (λ k. coeff K.ring (poly_of K low).coeffs (pred k))
          low_size.1 ∙ lead_one) ∙ L.tests.same_refl K.one;
      count = eq-eqb (length (polys_of K lows)) (length nums)
          (length-map lows (λ p. poly_of K p) ∙ sym
          (length-map lows (λ q. (polynomials K.ring).mul (poly_of K q) (poly_of K common)))
          ∙ ap length parts ∙ length-map nums (λ p. poly_of K p));
      lowest = λ d hd hn. lt-ltb (size K.ring d) 2
          (omega (arith, unit-size F d (only_units d hd hn)));
    }
