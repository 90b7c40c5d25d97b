-- How kernels and solutions are computed.
use Rattle.std.specs.Prelude.{◌≡◌, ℕ, zero, suc, ◌-◌, ◌<◌, ◌⊎◌, nat_lt, cond, List, [], length}
use Rattle.std.specs.Prelude.{get_or, drop}
use Rattle.ff_theory.specs.Ring.{RingOps, Elements}
use Rattle.ff_theory.specs.Span.{combination, less, product, unit_at}
use Rattle.ff_theory.specs.Vector.{vector_of, vectors_of}
use Rattle.ff_lin.specs.Space.{SpaceParts, HasExactly, pivot}

-- Equations are kept with their entries from the last to the first.

-- the index as far from the end of n entries as j is from their start; from n on the index itself
abbrev pub mirror : ℕ → ℕ → ℕ
mirror n j = cond (nat_lt j n) (n - 1 - j) j

-- one at index f, and at the pivots what makes the products with the r vectors b zero
abbrev pub null_vector :
    (R : RingOps) → ℕ → (ℕ → ℕ → R.carrier) → (ℕ → ℕ) → ℕ → ℕ → R.carrier
null_vector R r b pivots f =
    less R (unit_at R f) R.one (combination R r (λ i. b i f) (λ i. unit_at R (pivots i)))

-- rows of length n with their entries from the last to the first
abbrev pub mirrored_rows : (K : Elements ℕ) → ℕ → List (List ℕ) → ℕ → ℕ → K.carrier
mirrored_rows K n rows i j = vectors_of K rows i (mirror n j)

-- entry j of each row, from the last row to the first
abbrev pub mirrored_columns : (K : Elements ℕ) → List (List ℕ) → ℕ → ℕ → K.carrier
mirrored_columns K rows j i = vectors_of K rows (mirror (length rows) i) j

-- the basis of the space with its entries from the last to the first
abbrev pub mirrored : (K : Elements ℕ) → SpaceParts → ℕ → ℕ → K.carrier
mirrored K s = mirrored_rows K s.len s.basis

-- the null vector of index f for the first i vectors of that basis
abbrev pub null_before : (K : Elements ℕ) → SpaceParts → ℕ → ℕ → ℕ → K.carrier
null_before K s i f = null_vector K.ring i (mirrored K s) (λ l. mirror s.len (pivot s l)) f

-- the null vector of index f for that basis
abbrev pub null_of : (K : Elements ℕ) → SpaceParts → ℕ → ℕ → K.carrier
null_of K s = null_before K s (length s.basis)

-- t consists of the vectors whose product with each vector of the mirrored basis of s is zero
abbrev pub IsSolvedBy : (K : Elements ℕ) → SpaceParts → SpaceParts → Type 0
IsSolvedBy K s t = HasExactly K t (λ v. (i : ℕ) → i < length s.basis →
    product K.ring s.len v (mirrored K s i) ≡ K.zero)

-- minus the right side of equations, and then their columns
abbrev pub augmented_of :
    (K : Elements ℕ) → List (List ℕ) → List ℕ → ℕ → ℕ → K.carrier
augmented_of K cols rhs zero j = K.neg (vector_of K rhs j)
augmented_of K cols rhs (suc i) j = vectors_of K cols i j

-- no basis vector begins at index 0
abbrev pub BeginsLater : SpaceParts → Type 0
BeginsLater s = (length s.basis ≡ 0) ⊎ (0 < pivot s 0)

-- w is the basis vector that begins at index 0, without its first entry
pub record IsTailOfFirst (s : SpaceParts) (w : List ℕ) : Type 0 where
  pub some : 0 < length s.basis
  pub first : pivot s 0 ≡ 0
  pub tail : w ≡ drop 1 (get_or s.basis 0 [])
