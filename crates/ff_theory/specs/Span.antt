-- Combinations, spans and echelon bases of vectors.
use Rattle.std.specs.Prelude.{◌≡◌, ℕ, zero, suc, ◌<◌, ◌≤◌}
use Rattle.ff_theory.specs.Ring.{RingOps}
use Rattle.ff_theory.specs.Sum.{sum_below}

-- A vector is the function of its entries, zero past its length; w 0, .., w (r - 1) are r vectors.

-- c 0 * w 0 + c 1 * w 1 + .. , r vectors
abbrev pub combination : (R : RingOps) → ℕ → (ℕ → R.carrier) → (ℕ → ℕ → R.carrier) → ℕ → R.carrier
combination R r c w j = sum_below R r (λ i. R.mul (c i) (w i j))

-- v - c * w
abbrev pub less : (R : RingOps) → (ℕ → R.carrier) → R.carrier → (ℕ → R.carrier) → ℕ → R.carrier
less R v c w j = R.add (v j) (R.neg (R.mul c (w j)))

-- one at index i alone
abbrev pub unit_at : (R : RingOps) → ℕ → ℕ → R.carrier
unit_at R zero zero = R.one
unit_at R zero (suc l) = R.zero
unit_at R (suc i) zero = R.zero
unit_at R (suc i) (suc l) = unit_at R i l

-- v 0 * w 0 + v 1 * w 1 + .. , n entries
abbrev pub product : (R : RingOps) → ℕ → (ℕ → R.carrier) → (ℕ → R.carrier) → R.carrier
product R n v w = sum_below R n (λ j. R.mul (v j) (w j))

-- the entries from index n on are zero
abbrev pub EndsAt : (R : RingOps) → ℕ → (ℕ → R.carrier) → Type 0
EndsAt R n v = (j : ℕ) → n ≤ j → v j ≡ R.zero

-- the vector is a combination of r vectors
pub record InSpan (R : RingOps) (r : ℕ) (w : ℕ → ℕ → R.carrier) (v : ℕ → R.carrier) : Type 0 where
  pub coefficients : ℕ → R.carrier
  pub sum : (j : ℕ) → v j ≡ combination R r coefficients w j

-- two families have the same combinations
pub record SameSpan (R : RingOps) (r : ℕ) (w : ℕ → ℕ → R.carrier) (s : ℕ)
    (u : ℕ → ℕ → R.carrier) : Type 0 where
  pub into : (i : ℕ) → i < r → InSpan R s u (w i)
  pub back : (i : ℕ) → i < s → InSpan R r w (u i)

-- only the combination with zeros alone is zero
abbrev pub IsIndependent : (R : RingOps) → ℕ → (ℕ → ℕ → R.carrier) → Type 0
IsIndependent R r w = (c : ℕ → R.carrier) → ((j : ℕ) → combination R r c w j ≡ R.zero)
    → (i : ℕ) → i < r → c i ≡ R.zero

-- a relation of the first m entries of r vectors, not all of whose coefficients are zero
pub record Dependence (R : RingOps) (r m : ℕ) (w : ℕ → ℕ → R.carrier) : Type 0 where
  pub coefficients : ℕ → R.carrier
  pub index : ℕ
  pub below : index < r
  pub nonzero : ¬ (coefficients index ≡ R.zero)
  pub sum : (j : ℕ) → j < m → combination R r coefficients w j ≡ R.zero

-- at its pivot each vector has one and the others zero; it begins there, and the pivots rise
pub record IsEchelon (R : RingOps) (r : ℕ) (b : ℕ → ℕ → R.carrier) (pivot : ℕ → ℕ) : Type 0 where
  pub one_at : (i : ℕ) → i < r → b i (pivot i) ≡ R.one
  pub zero_at : (i l : ℕ) → i < r → l < r → ¬ (l ≡ i) → b l (pivot i) ≡ R.zero
  pub begins : (i j : ℕ) → i < r → j < pivot i → b i j ≡ R.zero
  pub rises : (i l : ℕ) → i < l → l < r → pivot i < pivot l

-- v without its entries at the pivots: v - v (pivot 0) * b 0 - ..
abbrev pub reduced : (R : RingOps) → ℕ → (ℕ → ℕ → R.carrier) → (ℕ → ℕ) → (ℕ → R.carrier)
    → ℕ → R.carrier
reduced R r b pivot v j = R.add (v j) (R.neg (combination R r (λ i. v (pivot i)) b j))
