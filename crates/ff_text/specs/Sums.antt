-- The sum of terms, with like terms added modulo p.
use Rattle.std.specs.Prelude.{◌≡◌, ℕ, ◌%◌, ◌<◌, ◌==◌, ◌&&◌, List, [], slice_index, slice_index_or}
use Rattle.std.specs.Prelude.{slice_set, if◌then◌else◌}
use Rattle.std.specs.declared.cmp.Ordering.{Ordering}
use Rattle.std.specs.Ordering.{ordering_then, nat_cmp}
use Rattle.std.specs.List.{sum_by, Any, All, fold}
use Rattle.ff_theory.specs.PrimeTable.{prime_elements}
use Rattle.ff_theory.specs.Values.{IsPoly, IsPlane}
use Rattle.ff_text.specs.declared.reader.Monomial.{Monomial}

-- what a term adds to the coefficient of x^i*y^j
abbrev pub share : ℕ → ℕ → Monomial → ℕ
share i j m = if (m.x == i) && (m.y == j) then m.coefficient else 0

-- the coefficient of x^i*y^j in the sum of the terms
abbrev pub total : ℕ → List Monomial → ℕ → ℕ → ℕ
total p ms i j = sum_by (share i j) ms % p

abbrev pub HasPowers : ℕ → ℕ → Monomial → Type 0
HasPowers i j m = (m.x ≡ i) × (m.y ≡ j)

-- the terms of the sum with their coefficients, which are not 0; a term may stand more than once
pub record IsCollected (p : ℕ) (terms collected : List Monomial) : Type 0 where
  pub each : All (λ m. (m.coefficient ≡ total p terms m.x m.y) × (0 < m.coefficient)) collected
  pub all : (i j : ℕ) → 0 < total p terms i j → Any (HasPowers i j) collected

-- the order of powers of x and y
abbrev pub powers_cmp : ℕ × ℕ → ℕ × ℕ → Ordering
powers_cmp a b = ordering_then (nat_cmp a.0 b.0) (nat_cmp a.1 b.1)

-- ---- The polynomials of sums

-- the polynomial in x that is the sum of the terms over the field of p elements
pub record IsSumInX (p : ℕ) (terms : List Monomial) (coefficients : List ℕ) : Type 0 where
  pub poly : IsPoly (prime_elements p) coefficients
  pub same : (i : ℕ) → slice_index coefficients i ≡ total p terms i 0

-- the polynomial in x and y that is the sum of the terms over the field of p elements
pub record IsSum (p : ℕ) (terms : List Monomial) (rows : List (List ℕ)) : Type 0 where
  pub plane : IsPlane (prime_elements p) rows
  pub same : (i j : ℕ) → slice_index (slice_index_or rows j []) i ≡ total p terms i j

-- the coefficients of the terms with y^j, written into a row
abbrev pub write : ℕ → List ℕ → Monomial → List ℕ
write j row m = if m.y == j then slice_set row m.x m.coefficient else row

abbrev pub write_all : ℕ → List ℕ → List Monomial → List ℕ
write_all j row ms = fold (write j) row ms
