-- What rows of coefficients write as polynomials. This project's own.
use Rattle.std.specs.Prelude.{◌≡◌, ℕ, ◌+◌, ◌-◌, ◌*◌, ◌<◌, ◌≤◌, List, [], length, get_or}
use Rattle.ff_theory.specs.Ring.{Elements}
use Rattle.ff_theory.specs.Span.{unit_at}
use Rattle.ff_theory.specs.Values.{IsPoly, ArePolys}
use Rattle.ff_theory.specs.Vector.{vector_of, vectors_of}
use Rattle.ff_lin.specs.Space.{SpaceParts}
use Rattle.ff_data.specs.declared.system.Coords.{Coords}
use Rattle.ff_describe.specs.Levels.{offset, triangle}

module _ (F : Elements ℕ) where
  -- the entries from `start` on, cut into parts of the given lengths, are the negatives of the
  -- coefficients of the polynomials
  pub record AreCut (counts : List ℕ) (start : ℕ) (v : ℕ → F.carrier) (c : List (List ℕ))
      : Type 0 where
    pub each : ArePolys F c
    pub count : length c ≡ length counts
    pub short : (l : ℕ) → l < length counts → length (get_or c l []) ≤ get_or counts l 0
    pub value : (l a : ℕ) → l < length counts → a < get_or counts l 0
        → vector_of F (get_or c l []) a ≡ F.neg (v (start + (offset counts l + a)))

  -- the first n entries are one at an index and zeros before it
  pub record IsLed (n : ℕ) (v : ℕ → F.carrier) : Type 0 where
    pub index : ℕ
    pub below : index < n
    pub one : v index ≡ F.one
    pub zeros : (j : ℕ) → j < index → v j ≡ F.zero

  -- a row writes the polynomial of its first n entries, from the last to the first, and then
  -- coordinates
  pub record IsWrittenBy (n : ℕ) (counts : List ℕ) (v : ℕ → F.carrier) (c : Coords)
      : Type 0 where
    pub q : IsPoly F c.q
    pub short : length c.q ≤ n
    pub value : (a : ℕ) → a < n → vector_of F c.q a ≡ v (n - 1 - a)
    pub cut : AreCut counts n v c.c

  -- a vector of the space that is led by a one among the first n entries does so
  pub record IsWrittenIn (n : ℕ) (counts : List ℕ) (s : SpaceParts) (c : Coords)
      : Type 0 where
    pub index : ℕ
    pub below : index < length s.basis
    pub led : IsLed n (vectors_of F s.basis index)
    pub written : IsWrittenBy n counts (vectors_of F s.basis index) c

  -- the first n entries are zeros
  abbrev pub AreZero : ℕ → (ℕ → F.carrier) → Type 0
  AreZero n v = (j : ℕ) → j < n → v j ≡ F.zero

  -- the first n entries are zeros, but for a one at r
  abbrev pub IsUnit : ℕ → ℕ → (ℕ → F.carrier) → Type 0
  IsUnit n r v = (j : ℕ) → j < n → v j ≡ unit_at F.ring r j

-- no term of the coordinates has a weight above the bound
abbrev pub AreLight : ℕ → List ℕ → ℕ → List (List ℕ) → Type 0
AreLight e weights bound c = (l : ℕ) → l < length c → 0 < length (get_or c l [])
    → e * (length (get_or c l []) - 1) + get_or weights l 0 ≤ bound

-- row r is one at r alone among the first n entries, and the rest writes the coordinates
pub record IsReading (F : Elements ℕ) (e : ℕ) (weights counts : List ℕ)
    (rows : ℕ → ℕ → F.carrier) (n r bound : ℕ) (c : List (List ℕ)) : Type 0 where
  pub unit : IsUnit F n r (rows r)
  pub cut : AreCut F counts n (rows r) c
  pub light : AreLight e weights bound c

-- row r is one at r alone among the first n entries, and coordinates that the rest writes have no
-- term of a weight above the bound
pub record IsReadable (F : Elements ℕ) (e : ℕ) (weights counts : List ℕ)
    (rows : ℕ → ℕ → F.carrier) (n r bound : ℕ) : Type 0 where
  pub unit : IsUnit F n r (rows r)
  pub light : (c : List (List ℕ)) → AreCut F counts n (rows r) c → AreLight e weights bound c

-- row j of the triangle, and all rows
abbrev pub IsReadableRow : (F : Elements ℕ) (e : ℕ) (weights counts : List ℕ)
    (rows : ℕ → ℕ → F.carrier) (n j : ℕ) → Type 0
IsReadableRow F e weights counts rows n j = (i : ℕ) → i < j + 1
    → IsReadable F e weights counts rows n (triangle j + i)
    (get_or weights i 0 + get_or weights j 0)

abbrev pub AreReadable : (F : Elements ℕ) (e : ℕ) (weights counts : List ℕ)
    (rows : ℕ → ℕ → F.carrier) (n : ℕ) → Type 0
AreReadable F e weights counts rows n = (j : ℕ) → j < length weights
    → IsReadableRow F e weights counts rows n j

-- the first m lists of row j of the triangle: what the rows from `triangle j` on write
pub record IsTriangleRow (F : Elements ℕ) (e : ℕ) (weights counts : List ℕ)
    (rows : ℕ → ℕ → F.carrier) (n j m : ℕ) (lists : List (List (List ℕ))) : Type 0 where
  pub count : length lists ≡ m
  pub reading : (i : ℕ) → i < m → IsReading F e weights counts rows n (triangle j + i)
      (get_or weights i 0 + get_or weights j 0) (get_or lists i [])

-- m rows of the triangle
pub record IsTriangle (F : Elements ℕ) (e : ℕ) (weights counts : List ℕ)
    (rows : ℕ → ℕ → F.carrier) (n m : ℕ) (lists : List (List (List (List ℕ)))) : Type 0 where
  pub count : length lists ≡ m
  pub row : (j : ℕ) → j < m
      → IsTriangleRow F e weights counts rows n j (j + 1) (get_or lists j [])

-- entry i of row j, and entry j of row i where that is longer
pub record IsSide (lists : List (List (List (List ℕ)))) (i m : ℕ) (r : List (List (List ℕ)))
    : Type 0 where
  pub count : length r ≡ m
  pub lower : (j : ℕ) → j < m → i ≤ j → get_or r j [] ≡ get_or (get_or lists j []) i []
  pub upper : (j : ℕ) → j < m → j ≤ i → get_or r j [] ≡ get_or (get_or lists i []) j []

-- m such rows
pub record AreSides (lists : List (List (List (List ℕ)))) (m : ℕ)
    (table : List (List (List (List ℕ)))) : Type 0 where
  pub count : length table ≡ m
  pub side : (i : ℕ) → i < m → IsSide lists i (length lists) (get_or table i [])

-- the rows of a triangle have 1, 2, .. entries
abbrev pub HasTriangleShape : List (List (List (List ℕ))) → Type 0
HasTriangleShape lists = (j : ℕ) → j < length lists → length (get_or lists j []) ≡ j + 1
