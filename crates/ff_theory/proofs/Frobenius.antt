-- The power to the characteristic keeps sums, in every ring to which a field maps.
use Rattle.std.proofs.Common.{◌≡◌, ℕ, zero, suc, ◌<◌, ◌*◌ as times_ℕ, ◌+◌ as plus_ℕ, refl, sym, ◌∙◌}
use Rattle.std.proofs.Common.{ap, ap₂, arith}
use Rattle.ff_theory.specs.Ring.{RingOps, IsCommRing, IsField, IsCharacteristic, power, multiple}
use Rattle.ff_theory.specs.Sum.{sum_below}
use Rattle.ff_theory.proofs.Solver.{◌⊕◌, ◌⊗◌, nil, unit, ring1, ring2, ring3, ring4, zero_mul}
use Rattle.ff_theory.proofs.Solver.{mul_zero}
use Rattle.ff_theory.proofs.Series.{tail}
use Rattle.ff_theory.proofs.Sums.{sum-ext, sum-zero, sum-front, sum-add, sum-mul}
use Rattle.ff_theory.specs.Map.{IsMap}
use Rattle.ff_theory.proofs.Powers.{power-add}

-- the coefficient of x^i in (x + b)^n
abbrev pub binomial : (R : RingOps) → R.carrier → ℕ → ℕ → R.carrier
binomial R b zero zero = R.one
binomial R b zero (suc i) = R.zero
binomial R b (suc n) zero = R.mul b (binomial R b n zero)
binomial R b (suc n) (suc i) = R.add (binomial R b n i) (R.mul b (binomial R b n (suc i)))

-- p times anything is zero, and a smaller positive number of times only zero
pub record HasCharacteristic (R : RingOps) (p : ℕ) : Type 0 where
  pub positive : 0 < p
  pub vanishes : (a : R.carrier) → multiple R p a ≡ R.zero
  pub cancels : (n : ℕ) → 0 < n → n < p → (a : R.carrier) → multiple R n a ≡ R.zero → a ≡ R.zero

module _ (R : RingOps) (laws : IsCommRing R) where
  infixl 60 ◌+◌
  infixl 70 ◌*◌
  open R use {add as ◌+◌, mul as ◌*◌, carrier as C}

  pub multiple-add : (n : ℕ) (a b : C) → multiple R n (a + b) ≡ multiple R n a + multiple R n b
  multiple-add zero a b = sym (laws.add_zero R.zero)
  multiple-add (suc n) a b = ap (λ t. (a + b) + t) (multiple-add n a b)
      ∙ ring4 R laws (λ a b s t. (a ⊕ b) ⊕ (s ⊕ t)) (λ a b s t. (a ⊕ s) ⊕ (b ⊕ t)) refl a b
      (multiple R n a) (multiple R n b)

  pub multiple-mul : (n : ℕ) (b a : C) → multiple R n (b * a) ≡ b * multiple R n a
  multiple-mul zero b a = sym (mul_zero R laws b)
  multiple-mul (suc n) b a = ap (λ t. b * a + t) (multiple-mul n b a)
      ∙ sym (laws.mul_add b a (multiple R n a))

  pub multiple-zero : (n : ℕ) → multiple R n R.zero ≡ R.zero
  multiple-zero zero = refl
  multiple-zero (suc n) = ap (λ t. R.zero + t) (multiple-zero n) ∙ laws.add_zero R.zero

  pub multiple-one : (n : ℕ) (a : C) → multiple R n a ≡ multiple R n R.one * a
  multiple-one n a = ap (multiple R n) (sym (laws.mul_one a)) ∙ multiple-mul n a R.one
      ∙ laws.mul_comm a (multiple R n R.one)

  pub power-zero : (n : ℕ) → 0 < n → power R R.zero n ≡ R.zero
  power-zero zero h = absurd (omega arith)
  power-zero (suc n) h = zero_mul R laws (power R R.zero n)

  pub power-power : (a : C) (m n : ℕ) → power R (power R a m) n ≡ power R a (times_ℕ n m)
  power-power a m zero = let e : 0 ≡ times_ℕ 0 m = omega arith in ap (power R a) e
  power-power a m (suc n) = let e : plus_ℕ m (times_ℕ n m) ≡ times_ℕ (suc n) m = omega arith in
      ap (λ t. power R a m * t) (power-power a m n) ∙ sym (power-add R laws a m (times_ℕ n m))
      ∙ ap (power R a) e

  module _ (b : C) where
    abbrev w : ℕ → ℕ → C
    w n i = binomial R b n i

    past : (n i : ℕ) → n < i → w n i ≡ R.zero
    past n zero h = absurd (omega arith)
    past zero (suc i) h = refl
    past (suc n) (suc i) h = ap₂ (λ s t. s + b * t) (past n i (omega arith))
        (past n (suc i) (omega arith)) ∙ ring1 R laws (λ b. nil ⊕ b ⊗ nil) (λ b. nil) refl b

    top : (n : ℕ) → w n n ≡ R.one
    top zero = refl
    top (suc n) = ap₂ (λ s t. s + b * t) (top n) (past n (suc n) (omega arith))
        ∙ ring1 R laws (λ b. unit ⊕ b ⊗ nil) (λ b. unit) refl b

    bottom : (n : ℕ) → w n zero ≡ power R b n
    bottom zero = refl
    bottom (suc n) = ap (λ t. b * t) (bottom n)

    -- i + 1 times the coefficient i + 1 of the power n + 1 is n + 1 times the coefficient i of the
    -- power n
    derivative : (n i : ℕ) → multiple R (suc i) (w (suc n) (suc i)) ≡ multiple R (suc n) (w n i)
    derivative zero zero = ring1 R laws (λ b. (unit ⊕ b ⊗ nil) ⊕ nil) (λ b. unit ⊕ nil) refl b
    derivative zero (suc i) = ap (multiple R (suc (suc i))) (ring1 R laws (λ b. nil ⊕ b ⊗ nil)
        (λ b. nil) refl b) ∙ multiple-zero (suc (suc i)) ∙ sym (multiple-zero 1)
    derivative (suc n) i = multiple-add (suc i) (w (suc n) i) (b * w (suc n) (suc i))
        ∙ ap (λ t. multiple R (suc i) (w (suc n) i) + t) (multiple-mul (suc i) b (w (suc n) (suc i))
        ∙ ap (λ t. b * t) (derivative n i) ∙ sym (multiple-mul (suc n) b (w n i)))
        ∙ rest i (derivative n)
      where
        rest : (i : ℕ) → ((j : ℕ) → multiple R (suc j) (w (suc n) (suc j))
            ≡ multiple R (suc n) (w n j))
            → multiple R (suc i) (w (suc n) i) + multiple R (suc n) (b * w n i)
            ≡ multiple R (suc (suc n)) (w (suc n) i)
        rest zero before = ap (λ t. t + multiple R (suc n) (b * w n zero))
            (laws.add_zero (w (suc n) zero))
        rest (suc j) before = ap (λ t. (w (suc n) (suc j) + t) + multiple R (suc n)
            (b * w n (suc j))) (before j)
            ∙ laws.add_assoc (w (suc n) (suc j)) (multiple R (suc n) (w n j))
            (multiple R (suc n) (b * w n (suc j)))
            ∙ ap (λ t. w (suc n) (suc j) + t) (sym (multiple-add (suc n) (w n j) (b * w n (suc j))))

    -- the power of a sum
    pub power-sum : (a : C) (n : ℕ) → power R (a + b) n
        ≡ sum_below R (suc n) (λ i. binomial R b n i * power R a i)
    power-sum a zero = ring1 R laws (λ a. unit) (λ a. nil ⊕ unit ⊗ unit) refl a
    power-sum a (suc n) = ap (λ t. (a + b) * t) (power-sum a n)
        ∙ ring3 R laws (λ a b s. (a ⊕ b) ⊗ s) (λ a b s. a ⊗ s ⊕ b ⊗ s) refl a b
        (sum_below R (suc n) term) ∙ sym expanded
      where
        term : ℕ → C
        term i = w n i * power R a i

        whole : sum_below R (suc (suc n)) term ≡ sum_below R (suc n) term
        whole = ap (λ t. sum_below R (suc n) term + t * power R a (suc n))
            (past n (suc n) (omega arith)) ∙ ring2 R laws (λ s p. s ⊕ nil ⊗ p) (λ s p. s) refl
            (sum_below R (suc n) term) (power R a (suc n))

        expanded : sum_below R (suc (suc n)) (λ i. w (suc n) i * power R a i)
            ≡ a * sum_below R (suc n) term + b * sum_below R (suc n) term
        expanded = sum-front R laws (suc n) (λ i. w (suc n) i * power R a i)
            ∙ ap (λ t. b * w n zero * R.one + t)
            (sum-ext R laws (suc n) (λ i. (w n i + b * w n (suc i)) * (a * power R a i))
            (λ i. a * term i + b * term (suc i)) (λ i l.
            ring6' (w n i) b (w n (suc i)) a (power R a i))
            ∙ sum-add R laws (suc n) (λ i. a * term i) (λ i. b * term (suc i)))
            ∙ ap₂ (λ s t. b * w n zero * R.one + (s + t)) (sum-mul R laws (suc n) a term)
            (sum-mul R laws (suc n) b (tail term))
            ∙ ring4 R laws (λ b t s u. b ⊗ t ⊗ unit ⊕ (s ⊕ b ⊗ u))
            (λ b t s u. s ⊕ b ⊗ (t ⊗ unit ⊕ u)) refl b (w n zero) (a * sum_below R (suc n) term)
            (sum_below R (suc n) (tail term))
            ∙ ap (λ t. a * sum_below R (suc n) term + b * t) (sym (sum-front R laws (suc n) term)
            ∙ whole)
          where
            ring6' : (u b v a p : C) → (u + b * v) * (a * p) ≡ a * (u * p) + b * (v * (a * p))
            ring6' u b v a p = ring3 R laws (λ u w q. (u ⊕ w) ⊗ q) (λ u w q. u ⊗ q ⊕ w ⊗ q) refl u
                (b * v) (a * p)
                ∙ ap₂ (λ s t. s + t) (ring3 R laws (λ u a p. u ⊗ (a ⊗ p)) (λ u a p. a ⊗ (u ⊗ p))
                refl u a p) (laws.mul_assoc b v (a * p))

  -- the power to the characteristic keeps sums
  pub frobenius-add : (p : ℕ) → HasCharacteristic R p → (a b : C) → power R (a + b) p
      ≡ power R a p + power R b p
  frobenius-add zero h a b = absurd (let no : 0 < 0 = h.positive in omega (arith, no))
  frobenius-add (suc n) h a b = power-sum b a (suc n)
      ∙ ap (λ t. t + term (suc n)) (sum-front R laws n term
      ∙ ap (λ t. term zero + t) (sum-ext R laws n (tail term) (λ i. R.zero) middle
      ∙ sum-zero R laws n))
      ∙ ap₂ (λ s t. (s * R.one + R.zero) + t * power R a (suc n)) (bottom b (suc n)) (top b (suc n))
      ∙ ring2 R laws (λ s t. (s ⊗ unit ⊕ nil) ⊕ unit ⊗ t) (λ s t. t ⊕ s) refl (power R b (suc n))
      (power R a (suc n))
    where
      term : ℕ → C
      term i = binomial R b (suc n) i * power R a i

      middle : (i : ℕ) → i < n → binomial R b (suc n) (suc i) * power R a (suc i) ≡ R.zero
      middle i l = ap (λ t. t * power R a (suc i)) (h.cancels (suc i) (omega arith) (omega arith)
          (binomial R b (suc n) (suc i)) (derivative b n i ∙ h.vanishes (binomial R b n i)))
          ∙ zero_mul R laws (power R a (suc i))

-- a ring to which a field maps has the characteristic of the field
module _ (S R : RingOps) (laws : IsCommRing S) (inverse : S.carrier → S.carrier)
    (field : IsField S inverse) (p : ℕ) (least : IsCharacteristic S p) (ring : IsCommRing R)
    (h : S.carrier → R.carrier) (map : IsMap S R h) where
  on_multiple : (n : ℕ) → h (multiple S n S.one) ≡ multiple R n R.one
  on_multiple zero = map.on_zero
  on_multiple (suc n) = map.on_add S.one (multiple S n S.one) ∙ ap₂ R.add map.on_one (on_multiple n)

  pub characteristic_along : HasCharacteristic R p
  characteristic_along = record {
    positive = least.positive;
    vanishes = λ a. multiple-one R ring p a ∙ ap (λ t. R.mul t a) (sym (on_multiple p)
        ∙ ap h least.makes_zero ∙ map.on_zero) ∙ zero_mul R ring a;
    cancels = λ n pos small a e. let c : S.carrier = multiple S n S.one in let i : S.carrier =
        inverse c in
        sym (ring.mul_one a) ∙ ring.mul_comm a R.one ∙ ap (λ t. R.mul t a) (sym map.on_one
        ∙ ap h (sym (field.mul_inverse c (least.is_least n pos small)) ∙ laws.mul_comm c i)
        ∙ map.on_mul i c ∙ ap (R.mul (h i)) (on_multiple n))
        ∙ ring.mul_assoc (h i) (multiple R n R.one) a
        ∙ ap (R.mul (h i)) (sym (multiple-one R ring n a) ∙ e) ∙ mul_zero R ring (h i);
  }
