-- Keys of polynomials in x and y.
use Rattle.std.specs.Prelude.{ℕ, List, ◌∷◌, length}
use Rattle.ff_theory.specs.Ring.{Elements}
use Rattle.ff_elem.specs.Key.{rows_key}

-- the number of rows, and their keys by rising power of y
abbrev pub plane_key : Elements ℕ → List (List ℕ) → List ℕ
plane_key F g = length g ∷ rows_key F g
