-- Combinations of vectors up to a vector of a space.
use Rattle.std.specs.Prelude.{◌≡◌, ℕ, suc, ◌<◌, ◌-◌, List, [], length, get_or}
use Rattle.ff_theory.specs.Ring.{Elements}
use Rattle.ff_theory.specs.Vector.{vector_of, vectors_of, combination_of}
use Rattle.ff_lin.specs.Space.{SpaceParts, InSpace}

-- the row is one of the list
abbrev pub IsRowOf : List (List ℕ) → List ℕ → Type 0
IsRowOf rows r = (t : ℕ) × ((t < length rows) × (r ≡ get_or rows t []))

-- the first entry of v is not 0, and c has the negatives of the others
pub record IsNegativeTail (F : Elements ℕ) (v : List ℕ) (c : ℕ → F.carrier) : Type 0 where
  pub nonzero : ¬ (vector_of F v 0 ≡ F.zero)
  pub rest : (i : ℕ) → i < length v - 1 → c i ≡ F.neg (vector_of F v (suc i))

module _ (F : Elements ℕ) (s : SpaceParts) where
  -- the vector is the combination of the rows with the coefficients c, up to one of the space
  abbrev pub IsCombinationModulo : List (List ℕ) → (ℕ → F.carrier) → (ℕ → F.carrier) → Type 0
  IsCombinationModulo rows c v = InSpace F s (λ j. F.add (v j) (F.neg (combination_of F rows c j)))

  -- it is one of some combination of the rows
  abbrev pub IsSpannedModulo : List (List ℕ) → (ℕ → F.carrier) → Type 0
  IsSpannedModulo rows v = (c : ℕ → F.carrier) × IsCombinationModulo rows c v

  -- only the combination with zeros alone is in the space
  abbrev pub IsIndependentModulo : List (List ℕ) → Type 0
  IsIndependentModulo rows = (c : ℕ → F.carrier) → InSpace F s (combination_of F rows c) → (i : ℕ)
      → i < length rows → c i ≡ F.zero

  -- the rows are some of the vectors, independent modulo the space, and span all of them modulo it
  pub record IsBasisModulo (vectors rows : List (List ℕ)) : Type 0 where
    pub chosen : (i : ℕ) → i < length rows → IsRowOf vectors (get_or rows i [])
    pub independent : IsIndependentModulo rows
    pub spans : (t : ℕ) → t < length vectors → IsSpannedModulo rows (vectors_of F vectors t)

  -- the negatives of the entries after the first of a vector of the space that begins with 1
  pub record IsTailOfOne (c : ℕ → F.carrier) : Type 0 where
    pub whole : ℕ → F.carrier
    pub inside : InSpace F s whole
    pub first : whole 0 ≡ F.one
    pub rest : (i : ℕ) → suc i < s.len → c i ≡ F.neg (whole (suc i))

  -- all vectors of the space begin with 0
  abbrev pub BeginsWithZero : Type 0
  BeginsWithZero = (v : ℕ → F.carrier) → InSpace F s v → v 0 ≡ F.zero
