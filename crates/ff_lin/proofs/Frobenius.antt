-- Spaces and powers by the characteristic.
use Rattle.std.proofs.Common.{◌≡◌, ℕ, zero, suc, ◌<◌, sym, ◌∙◌, ap}
use Rattle.ff_theory.specs.Ring.{IsCommRing, FieldOps, IsFiniteField, power}
use Rattle.ff_theory.specs.Sum.{sum_below}
use Rattle.ff_theory.proofs.Sums.{sum-ext}
use Rattle.ff_theory.proofs.Powers.{power-mul}
use Rattle.ff_theory.proofs.Frobenius.{power-zero}
use Rattle.ff_theory.specs.Span.{combination, InSpan, IsEchelon}
use Rattle.ff_lin.proofs.Echelon.{coordinates}

module _ (F : FieldOps) (laws : IsCommRing F.ring) (finite : IsFiniteField F) where
  pub power-sum : (n : ℕ) (f : ℕ → F.carrier) → power F.ring (sum_below F.ring n f) F.characteristic
      ≡ sum_below F.ring n (λ i. power F.ring (f i) F.characteristic)
  power-sum zero f = power-zero F.ring laws F.characteristic finite.least.positive
  power-sum (suc n) f = finite.power_of_sum (sum_below F.ring n f) (f n)
      ∙ ap (λ t. F.add t (power F.ring (f n) F.characteristic)) (power-sum n f)

  pub power-combination : (r : ℕ) (c : ℕ → F.carrier) (w : ℕ → ℕ → F.carrier) (j : ℕ)
      → power F.ring (combination F.ring r c w j) F.characteristic
      ≡ combination F.ring r (λ i. power F.ring (c i) F.characteristic)
      (λ i j. power F.ring (w i j) F.characteristic) j
  power-combination r c w j = power-sum r (λ i. F.mul (c i) (w i j))
      ∙ sum-ext F.ring laws r (λ i. power F.ring (F.mul (c i) (w i j)) F.characteristic)
      (λ i. F.mul (power F.ring (c i) F.characteristic) (power F.ring (w i j) F.characteristic))
      (λ i l. power-mul F.ring laws (c i) (w i j) F.characteristic)

  -- an echelon basis b, and vectors a whose powers are those of b: v is in the span of a exactly
  -- where its power is in the span of b
  module _ (r : ℕ) (a b : ℕ → ℕ → F.carrier) (pivot : ℕ → ℕ) (echelon : IsEchelon F.ring r b pivot)
      (powers : (i j : ℕ) → i < r → power F.ring (a i j) F.characteristic ≡ b i j)
      (v : ℕ → F.carrier) where
    pub power-in : InSpan F.ring r a v
        → InSpan F.ring r b (λ j. power F.ring (v j) F.characteristic)
    power-in h = record {
      coefficients = λ i. power F.ring (h.coefficients i) F.characteristic;
      sum = λ j. ap (λ t. power F.ring t F.characteristic) (h.sum j)
          ∙ power-combination r h.coefficients a j
          ∙ sum-ext F.ring laws r (λ i. F.mul (power F.ring (h.coefficients i) F.characteristic)
          (power F.ring (a i j) F.characteristic))
          (λ i. F.mul (power F.ring (h.coefficients i) F.characteristic) (b i j))
          (λ i l. ap (F.mul (power F.ring (h.coefficients i) F.characteristic)) (powers i j l));
    }

    pub power-out : InSpan F.ring r b (λ j. power F.ring (v j) F.characteristic)
        → InSpan F.ring r a v
    power-out h = record {
      coefficients = λ i. v (pivot i);
      sum = λ j. finite.one_root (v j) (combination F.ring r (λ i. v (pivot i)) a j) (h.sum j
          ∙ sum-ext F.ring laws r (λ i. F.mul (h.coefficients i) (b i j))
          (λ i. F.mul (power F.ring (v (pivot i)) F.characteristic)
          (power F.ring (a i j) F.characteristic))
          (λ i l. ap (λ t. F.mul t (b i j))
          (coordinates F.ring laws r b pivot echelon (λ j. power F.ring (v j) F.characteristic)
          h i l) ∙ ap (F.mul (power F.ring (v (pivot i)) F.characteristic))
          (sym (powers i j l)))
          ∙ sym (power-combination r (λ i. v (pivot i)) a j));
    }
