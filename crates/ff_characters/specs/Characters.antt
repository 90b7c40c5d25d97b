-- The characters of a finite algebra over a field: the functionals that keep 1 and products, by the
-- table of the products of a basis. This project's own.
use Rattle.std.specs.Prelude.{◌≡◌, ℕ, ◌<◌, ◌⊎◌, List, [], length, map, get_or}
use Rattle.std.specs.List.{All}
use Rattle.std.specs.Global.{Vec}
use Rattle.ff_theory.specs.Ring.{Elements}
use Rattle.ff_theory.specs.Span.{product}
use Rattle.ff_theory.specs.Vector.{vector_of, vectors_of, IsVector}
use Rattle.ff_lin.specs.Space.{rows_of, AreVectors, SpaceParts, InSpace}

-- the lists of rows that a list of matrices holds
abbrev pub tables_of : List (Vec (Vec ℕ)) → List (List (List ℕ))
tables_of table = map (λ (m : Vec (Vec ℕ)). rows_of m.items) table

module _ (F : Elements ℕ) (n : ℕ) where
  -- n rows of n elements
  pub record IsMatrix (m : Vec (Vec ℕ)) : Type 0 where
    pub rows : AreVectors F n m.items
    pub count : length m.items ≡ n

  -- n matrices
  pub record IsTable (table : List (Vec (Vec ℕ))) : Type 0 where
    pub each : All IsMatrix table
    pub count : length table ≡ n

  -- the matrix with these rows carries the vector to c times itself
  abbrev pub IsEigenvector : List (List ℕ) → F.carrier → (ℕ → F.carrier) → Type 0
  IsEigenvector rows c v = (j : ℕ) → j < n → product F.ring n (vectors_of F rows j) v
      ≡ F.mul c (v j)

  -- the matrix carries all vectors of the space to the same multiple of them
  abbrev pub IsScaled : SpaceParts → List (List ℕ) → Type 0
  IsScaled s rows = (c : F.carrier) × ((v : ℕ → F.carrier) → InSpace F s v
      → IsEigenvector rows c v)

  module _ (table : List (List (List ℕ))) where
    -- the first m matrices do so
    abbrev pub AreScaled : ℕ → SpaceParts → Type 0
    AreScaled m s = (i : ℕ) → i < m → IsScaled s (get_or table i [])

    -- the space has dimension 1, or all matrices do so
    abbrev pub IsSettled : SpaceParts → Type 0
    IsSettled s = (length s.basis ≡ 1) ⊎ AreScaled n s

    -- chi is 1 at the element with the coordinates `one`, and has at the product of two elements of
    -- the basis, which the table has, the product of its values
    pub record IsCharacter (one : List ℕ) (chi : ℕ → F.carrier) : Type 0 where
      pub unit : product F.ring n (vector_of F one) chi ≡ F.one
      pub products : (i : ℕ) → i < n → IsEigenvector (get_or table i []) (chi i) chi

    -- the list has characters alone
    abbrev pub AreCharacters : List ℕ → List (Vec ℕ) → Type 0
    AreCharacters one list = (i : ℕ) → i < length list
        → IsVector F n (get_or (rows_of list) i [])
        × IsCharacter one (vectors_of F (rows_of list) i)

-- the vector is one of the list
abbrev pub HasVector : (F : Elements ℕ) → List (Vec ℕ) → (ℕ → F.carrier) → Type 0
HasVector F list v = (i : ℕ) × ((i < length list)
    × ((j : ℕ) → vectors_of F (rows_of list) i j ≡ v j))
