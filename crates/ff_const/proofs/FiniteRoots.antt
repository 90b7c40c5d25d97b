-- Polynomials over a field that vanish at more points than they have roots. They are functions of
-- the index of a coefficient here.
use Rattle.std.proofs.Common.{◌≡◌, ℕ, zero, suc, ◌+◌ as plus_ℕ, ◌<◌, ◌≤◌, ◌⊎◌, inl, inr}
use Rattle.std.proofs.Common.{refl, sym, ◌∙◌, ap, ap₂, arith}
use Rattle.std.proofs.lemmas.Bool.{cases_lt}
use Rattle.ff_theory.specs.Ring.{RingOps, IsCommRing}
use Rattle.ff_theory.specs.Map.{IsMap}
use Rattle.ff_theory.specs.Lawful.{Domain}
use Rattle.ff_theory.proofs.Solver.{◌⊕◌, ◌⊗◌, neg, nil, unit, ring1, ring2, ring3, ring4, ring6}
use Rattle.ff_theory.proofs.Solver.{mul_zero, zero_mul}
use Rattle.ff_theory.proofs.Series.{tail}
use Rattle.ff_const.specs.Fixed.{product_below}
use Rattle.ff_theory.proofs.Horner.{horner, horner-ext, horner-longer}
use Rattle.ff_theory.proofs.Domains.{no_divisors}

-- the quotient by the variable less a, of n coefficients and one more
abbrev pub quotient_at : (R : RingOps) → R.carrier → (ℕ → R.carrier) → ℕ → ℕ → R.carrier
quotient_at R a c zero i = R.zero
quotient_at R a c (suc n) zero = horner R a (tail c) (suc n)
quotient_at R a c (suc n) (suc i) = quotient_at R a (tail c) n i

-- the coefficients of the product of the variable less e 0, .., less e (n - 1)
abbrev pub product_coeffs : (R : RingOps) → (ℕ → R.carrier) → ℕ → ℕ → R.carrier
product_coeffs R e zero zero = R.one
product_coeffs R e zero (suc i) = R.zero
product_coeffs R e (suc n) zero = R.mul (R.neg (e n)) (product_coeffs R e n zero)
product_coeffs R e (suc n) (suc i) = R.add (product_coeffs R e n i)
    (R.mul (R.neg (e n)) (product_coeffs R e n (suc i)))

module _ (R : RingOps) (laws : IsCommRing R) where
  infixl 60 ◌+◌
  infixl 70 ◌*◌
  open R use {add as ◌+◌, mul as ◌*◌, carrier as C}

  -- the value at x is that at a, and x - a times that of the quotient
  pub divided : (x a : C) (c : ℕ → C) (n : ℕ) → horner R x c (suc n)
      ≡ horner R a c (suc n) + (x + R.neg a) * horner R x (quotient_at R a c n) n
  divided x a c zero = ring3 R laws (λ c x a. c ⊕ x ⊗ nil)
      (λ c x a. (c ⊕ a ⊗ nil) ⊕ (x ⊕ neg a) ⊗ nil) refl (c zero) x a
  divided x a c (suc n) = ap (λ t. c zero + x * t) (divided x a (tail c) n)
      ∙ ring6 R laws (λ c x a h q z. c ⊕ x ⊗ (h ⊕ (x ⊕ neg a) ⊗ q))
      (λ c x a h q z. (c ⊕ a ⊗ h) ⊕ (x ⊕ neg a) ⊗ (h ⊕ x ⊗ q)) refl (c zero) x a
      (horner R a (tail c) (suc n)) (horner R x (quotient_at R a (tail c) n) n) x

  -- with root a and quotient 0 the polynomial is 0
  pub quotient-zero : (a : C) (c : ℕ → C) (n : ℕ) → horner R a c (suc n) ≡ R.zero
      → ((i : ℕ) → i < n → quotient_at R a c n i ≡ R.zero) → (i : ℕ) → i < suc n → c i ≡ R.zero
  quotient-zero a c zero root none zero l = ring2 R laws (λ c a. c) (λ c a. c ⊕ a ⊗ nil) refl
      (c zero) a ∙ root
  quotient-zero a c zero root none (suc i) l = absurd (omega (arith, l))
  quotient-zero a c (suc n) root none zero l = ring3 R laws (λ c a h. c)
      (λ c a h. (c ⊕ a ⊗ h) ⊕ neg (a ⊗ h)) refl (c zero) a (horner R a (tail c) (suc n))
      ∙ ap₂ (λ s t. s + R.neg (a * t)) root (none zero (omega arith))
      ∙ ring1 R laws (λ a. nil ⊕ neg (a ⊗ nil)) (λ a. nil) refl a
  quotient-zero a c (suc n) root none (suc i) l = quotient-zero a (tail c) n (none zero (omega
      arith)) (λ j q. none (suc j) (omega (arith, q))) i (omega (arith, l))

  -- a product with the factor 0
  pub product-zero : (n k : ℕ) (f : ℕ → C) → k < n → f k ≡ R.zero → product_below R n f ≡ R.zero
  product-zero zero k f l z = absurd (omega (arith, l))
  product-zero (suc n) k f l z = go (cases_lt k n) (λ m. product-zero n k f m z)
    where
      go : (k < n) ⊎ (n ≤ k) → (k < n → product_below R n f ≡ R.zero)
          → product_below R n f * f n ≡ R.zero
      go (inl m) rest = ap (λ t. t * f n) (rest m) ∙ zero_mul R laws (f n)
      go (inr m) rest = let e : n ≡ k = omega (arith, m, l) in
          ap (λ t. product_below R n f * t) (ap f e ∙ z) ∙ mul_zero R laws (product_below R n f)

  -- beyond the leading coefficient, which is 1, there is nothing
  pub product-past : (e : ℕ → C) (n i : ℕ) → n < i → product_coeffs R e n i ≡ R.zero
  product-past e n zero l = absurd (omega (arith, l))
  product-past e zero (suc i) l = refl
  product-past e (suc n) (suc i) l = ap₂ (λ s t. s + R.neg (e n) * t)
      (product-past e n i (omega (arith, l))) (product-past e n (suc i) (omega (arith, l)))
      ∙ ring1 R laws (λ a. nil ⊕ neg a ⊗ nil) (λ a. nil) refl (e n)

  pub product-top : (e : ℕ → C) (n : ℕ) → product_coeffs R e n n ≡ R.one
  product-top e zero = refl
  product-top e (suc n) = ap₂ (λ s t. s + R.neg (e n) * t) (product-top e n)
      (product-past e n (suc n) (omega arith))
      ∙ ring1 R laws (λ a. unit ⊕ neg a ⊗ nil) (λ a. unit) refl (e n)

  -- sums of multiples
  pub horner-linear : (x d : C) (f h : ℕ → C) (n : ℕ) → horner R x (λ i. f i + d * h i) n
      ≡ horner R x f n + d * horner R x h n
  horner-linear x d f h zero = ring1 R laws (λ d. nil) (λ d. nil ⊕ d ⊗ nil) refl d
  horner-linear x d f h (suc n) = ap (λ t. (f zero + d * h zero) + x * t)
      (horner-linear x d (tail f) (tail h) n)
      ∙ ring6 R laws (λ a b d x s t. (a ⊕ d ⊗ b) ⊕ x ⊗ (s ⊕ d ⊗ t))
      (λ a b d x s t. (a ⊕ x ⊗ s) ⊕ d ⊗ (b ⊕ x ⊗ t)) refl (f zero) (h zero) d x
      (horner R x (tail f) n) (horner R x (tail h) n)

module _ (D : Domain) where
  infixl 60 ◌+◌
  infixl 70 ◌*◌
  open D use {ring as R, laws}
  open D.ring use {add as ◌+◌, mul as ◌*◌, carrier as C}

  -- n coefficients with n roots are 0
  pub no-coefficients : (n : ℕ) (e : ℕ → C) → ((i j : ℕ) → i < j → j < n → ¬ (e i ≡ e j))
      → (c : ℕ → C) → ((j : ℕ) → j < n → horner R (e j) c n ≡ R.zero)
      → (i : ℕ) → i < n → c i ≡ R.zero
  no-coefficients zero e distinct c roots = λ i l. absurd (omega (arith, l))
  no-coefficients (suc n) e distinct c roots = quotient-zero R laws (e n) c n
      (roots n (omega arith))
      (no-coefficients n e (λ i j p q. distinct i j p (omega (arith, q)))
      (quotient_at R (e n) c n) below)
    where
      below : (j : ℕ) → j < n → horner R (e j) (quotient_at R (e n) c n) n ≡ R.zero
      below j l = no_divisors D (horner R (e j) (quotient_at R (e n) c n) n) (e j + R.neg (e n))
          (laws.mul_comm _ _ ∙ ring2 R laws (λ t h. t) (λ t h. nil ⊕ t) refl _ R.zero
          ∙ ap (λ t. t + (e j + R.neg (e n)) * horner R (e j) (quotient_at R (e n) c n) n)
          (sym (roots n (omega arith))) ∙ sym (divided R laws (e j) (e n) c n)
          ∙ roots j (omega (arith, l)))
          (λ z. distinct j n l (omega arith) (ring2 R laws (λ x a. x)
          (λ x a. (x ⊕ neg a) ⊕ a) refl (e j) (e n) ∙ ap (λ t. t + e n) z
          ∙ ring1 R laws (λ a. nil ⊕ a) (λ a. a) refl (e n)))

-- the value of the product at an element of a ring
pub product-value : (k A : RingOps) → IsCommRing k → (AL : IsCommRing A)
    → (ι : k.carrier → A.carrier) → IsMap k A ι → (e : ℕ → k.carrier) (n : ℕ) (w : A.carrier)
    → horner A w (λ i. ι (product_coeffs k e n i)) (suc n)
    ≡ product_below A n (λ i. A.add w (A.neg (ι (e i))))
product-value k A KL AL ι map e zero w = ap (λ t. A.add t (A.mul w A.zero)) map.on_one
    ∙ ring1 A AL (λ w. unit ⊕ w ⊗ nil) (λ w. unit) refl w
product-value k A KL AL ι map e (suc n) w = ap₂ (λ s t. A.add s (A.mul w t))
    (map.on_mul (k.neg (e n)) (g zero) ∙ ap (λ t. A.mul t (a zero)) (map.on_neg (e n)))
    (horner-ext A AL w (λ i. ι (k.add (g i) (k.mul (k.neg (e n)) (g (suc i)))))
    (λ i. A.add (a i) (A.mul (A.neg E) (a (suc i)))) (suc n) (λ i l. map.on_add _ _
    ∙ ap (A.add (a i)) (map.on_mul _ _ ∙ ap (λ t. A.mul t (a (suc i))) (map.on_neg (e n))))
    ∙ horner-linear A AL w (A.neg E) a (tail a) (suc n)
    ∙ ap (λ t. A.add (horner A w a (suc n)) (A.mul (A.neg E) t)) short)
    ∙ ring4 A AL (λ z w t d. (neg d ⊗ z) ⊕ w ⊗ ((z ⊕ w ⊗ t) ⊕ neg d ⊗ t))
    (λ z w t d. (z ⊕ w ⊗ t) ⊗ (w ⊕ neg d)) refl (a zero) w (horner A w (tail a) n) E
    ∙ ap (λ t. A.mul t (A.add w (A.neg E))) (product-value k A KL AL ι map e n w)
  where
    g : ℕ → k.carrier
    g i = product_coeffs k e n i

    a : ℕ → A.carrier
    a i = ι (product_coeffs k e n i)

    E : A.carrier
    E = ι (e n)

    short : horner A w (tail a) (suc n) ≡ horner A w (tail a) n
    short = let s : plus_ℕ n 1 ≡ suc n = omega arith in ap (horner A w (tail a)) (sym s)
        ∙ horner-longer A AL w (tail a) n 1 (λ i l. ap ι (product-past k KL e n (suc i)
        (omega (arith, l))) ∙ map.on_zero)
