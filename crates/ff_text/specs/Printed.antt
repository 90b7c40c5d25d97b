-- The printed texts of faults and of polynomials.
use Rattle.std.specs.Prelude.{ℕ, zero, suc, ◌≤◌, ◌==◌, ◌&&◌, ◌+◌, not, List, [], ◌∷◌, ◌++◌, map}
use Rattle.std.specs.Prelude.{codes, Bool, false, if◌then◌else◌}
use Rattle.std.specs.List.{flat_map}
use Rattle.std.specs.Fmt.{decimal}
use Rattle.ff_text.specs.declared.fault.TextFault.{TextFault}
use Rattle.ff_text.specs.declared.fault.TextFault.TheVariants as fault
use Rattle.ff_text.specs.declared.reader.Monomial.{Monomial}
use Rattle.ff_text.specs.Grammar.{monomial}

-- ---- Faults

-- the letter of an element: 3 to 6 are X, Y, U and V
abbrev pub letter_of : ℕ → List ℕ
letter_of (suc (suc (suc zero))) = codes "X"
letter_of (suc (suc (suc (suc zero)))) = codes "Y"
letter_of (suc (suc (suc (suc (suc zero))))) = codes "U"
letter_of _ = codes "V"

-- an equation by its number, an element by its letter
abbrev pub degree_of : ℕ → List ℕ
degree_of (suc zero) = codes "equation 1"
degree_of (suc (suc zero)) = codes "equation 2"
degree_of w = letter_of w

-- the line for a fault; out of memory has none
abbrev pub fault_text : TextFault → List ℕ
fault_text (fault.Syntax at) = codes "bad input: syntax at " ++ decimal at ++ codes "\n"
fault_text fault.NotPrime = codes "bad input: p is not in the table\n"
fault_text (fault.NoY w) = codes "bad input: equation " ++ decimal w ++ codes " has no y\n"
fault_text (fault.ZeroDenominator w) =
    codes "bad input: denominator of " ++ letter_of w ++ codes " is zero\n"
fault_text (fault.Degree w) = codes "limit: degree of " ++ degree_of w ++ codes "\n"
fault_text fault.NoMemory = codes ""

-- faults that have a text: the entry is an equation, an element or either
abbrev pub HasText : TextFault → Type 0
HasText (fault.NoY w) = (1 ≤ w) × (w ≤ 2)
HasText (fault.ZeroDenominator w) = (3 ≤ w) × (w ≤ 6)
HasText (fault.Degree w) = (1 ≤ w) × (w ≤ 6)
HasText fault.NoMemory = ⊥
HasText _ = Unit {0}

-- ---- Polynomials

-- the texts with the separator between each two
abbrev pub join : List ℕ → List (List ℕ) → List ℕ
join separator [] = []
join separator (t ∷ ts) = t ++ flat_map (λ u. separator ++ u) ts

-- the coefficient, where it is printed: 1 is left out before a power
abbrev pub coefficient_factor : Monomial → List (List ℕ)
coefficient_factor m =
    if (m.coefficient == 1) && not ((m.x == 0) && (m.y == 0)) then []
    else decimal m.coefficient ∷ []

-- a power of a letter, where it is printed: not with the exponent 0, and without the exponent 1
abbrev pub power_text : List ℕ → ℕ → List ℕ
power_text letter n = if n == 1 then letter else letter ++ codes "^" ++ decimal n

abbrev pub power_factor : List ℕ → ℕ → List (List ℕ)
power_factor letter n = if n == 0 then [] else power_text letter n ∷ []

-- a coefficient, then a power of x, then a power of y
abbrev pub term_text : Monomial → List ℕ
term_text m =
    join (codes "*")
    (coefficient_factor m ++ power_factor (codes "x") m.x ++ power_factor (codes "y") m.y)

-- c*x^i*y^j, where c is not 0
abbrev pub nonzero_term : ℕ → ℕ → ℕ → List Monomial
nonzero_term j i c = if c == 0 then [] else monomial c i j ∷ []

-- the terms of a list of coefficients of x^i*y^j, x^(i+1)*y^j, .., by falling power of x
abbrev pub row_terms : ℕ → ℕ → List ℕ → List Monomial
row_terms j i [] = []
row_terms j i (c ∷ cs) = row_terms j (i + 1) cs ++ nonzero_term j i c

-- the terms of a list of rows of y^j, y^(j+1), .., by falling power of y and, for equal powers of
-- y, by falling power of x
abbrev pub rows_terms : ℕ → List (List ℕ) → List Monomial
rows_terms j [] = []
rows_terms j (row ∷ rows) = rows_terms (j + 1) rows ++ row_terms j 0 row

abbrev pub sum_text : List Monomial → List ℕ
sum_text [] = codes "0"
sum_text (m ∷ ms) = join (codes "+") (map term_text (m ∷ ms))

-- a polynomial by its rows
abbrev pub poly_text : List (List ℕ) → List ℕ
poly_text rows = sum_text (rows_terms 0 rows)

-- the coefficients of the polynomial 1
abbrev pub is_one : List ℕ → Bool
is_one [] = false
is_one (c ∷ []) = c == 1
is_one (c ∷ d ∷ cs) = false
