-- Lists of values that stand for vectors.
use Rattle.std.specs.Prelude.{◌≡◌, ℕ, List, [], map, length, get_or}
use Rattle.std.specs.List.{All}
use Rattle.ff_theory.specs.Ring.{Elements, IsElement}
use Rattle.ff_theory.specs.Poly.{coeff}
use Rattle.ff_theory.specs.Span.{combination}

-- the vector that a list of values stands for
abbrev pub vector_of : {E : Type 0} (K : Elements E) → List E → ℕ → K.carrier
vector_of K v = coeff K.ring (map K.value v)

-- the vectors that a list of rows stands for
abbrev pub vectors_of : {E : Type 0} (K : Elements E) → List (List E) → ℕ → ℕ → K.carrier
vectors_of K rows i = vector_of K (get_or rows i [])

-- a list of n elements
pub record IsVector {E : Type 0} (K : Elements E) (n : ℕ) (v : List E) : Type 0 where
  pub each : All (IsElement K) v
  pub len : length v ≡ n

-- v 0 * row 0 + v 1 * row 1 + ..
abbrev pub combination_of : {E : Type 0} (K : Elements E) → List (List E) → (ℕ → K.carrier)
    → ℕ → K.carrier
combination_of K rows v = combination K.ring (length rows) v (vectors_of K rows)
