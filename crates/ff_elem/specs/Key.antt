-- Keys of polynomials in x, of lists of them and of elements, and their dictionary order.
use Rattle.std.specs.Prelude.{ℕ, List, [], ◌∷◌, ◌++◌, length, map, reverse}
use Rattle.std.specs.declared.cmp.Ordering.{Ordering}
use Rattle.std.specs.Ordering.{nat_cmp}
use Rattle.std.specs.Cmp.Lexicographic.{slice_cmp}
use Rattle.ff_theory.specs.Ring.{Elements}
use Rattle.ff_elem.specs.declared.elem.Elem.{Elem}

-- the indices of the coefficients from the last one down
abbrev pub indices : Elements ℕ → List ℕ → List ℕ
indices F p = reverse (map (λ c. F.index (F.value c)) p)

-- the number of coefficients, and their indices from the leading one down
abbrev pub poly_key : Elements ℕ → List ℕ → List ℕ
poly_key F p = length p ∷ indices F p

-- the keys of rows, one after another
abbrev pub rows_key : Elements ℕ → List (List ℕ) → List ℕ
rows_key F [] = []
rows_key F (p ∷ rows) = poly_key F p ++ rows_key F rows

-- the key of the denominator, and the keys of the numerators
abbrev pub elem_key : Elements ℕ → Elem → List ℕ
elem_key F e = poly_key F e.den ++ rows_key F e.num

-- the dictionary order of keys
abbrev pub key_cmp : List ℕ → List ℕ → Ordering
key_cmp = slice_cmp nat_cmp
