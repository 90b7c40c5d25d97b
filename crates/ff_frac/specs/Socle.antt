-- The linear equations of the coordinates of an element of an order modulo u - a that each element
-- of value 0 carries to 0. This project's own.
use Rattle.std.specs.Prelude.{◌≡◌, ℕ, ◌<◌, pred, ◌==◌, Bool, true, false, List, [], length}
use Rattle.std.specs.Prelude.{get_or, ◌↔◌}
use Rattle.ff_theory.specs.Ring.{Elements}
use Rattle.ff_theory.specs.Lawful.{Lawful}
use Rattle.ff_theory.specs.Span.{product, EndsAt}
use Rattle.ff_theory.specs.Values.{plane_of}
use Rattle.ff_theory.specs.Vector.{vectors_of, combination_of}
use Rattle.ff_charts.specs.Lattice.{HasShape, flat}
use Rattle.ff_lin.specs.Space.{rows_of, SpaceParts, InSpace}
use Rattle.ff_data.specs.Orders.{y_degree}
use Rattle.ff_fibre.specs.declared.parts.Fibre.{Fibre}

-- the entry, less the value where it is the element's own
abbrev pub shifted_value : (F : Elements ℕ) → F.carrier → F.carrier → Bool → F.carrier
shifted_value F entry chi true = F.add entry (F.neg chi)
shifted_value F entry chi false = entry

module _ (F : Elements ℕ) (n : ℕ) (table : List (List (List ℕ))) where
  -- coordinate l of the product of elements i and j, which the table has, less the value of
  -- element j where i is l
  abbrev pub shifted_entry_at : F.carrier → ℕ → ℕ → ℕ → F.carrier
  shifted_entry_at chi j l i = shifted_value F (vectors_of F (get_or table i []) j l) chi (i == l)

  -- the row has them for all i
  abbrev pub IsSocleRow : F.carrier → ℕ → ℕ → (ℕ → F.carrier) → Type 0
  IsSocleRow chi j l row = (i : ℕ) → i < n → row i ≡ shifted_entry_at chi j l i

  module _ (chi : ℕ → F.carrier) where
    -- row t of a list is that of some j and l
    pub record IsSomeRow (rows : List (List ℕ)) (t : ℕ) : Type 0 where
      pub j : ℕ
      pub l : ℕ
      pub j_below : j < n
      pub l_below : l < n
      pub row : IsSocleRow (chi j) j l (vectors_of F rows t)

    -- the row of j and l is one of the list
    pub record HasSocleRow (rows : List (List ℕ)) (j l : ℕ) : Type 0 where
      pub index : ℕ
      pub below : index < length rows
      pub row : IsSocleRow (chi j) j l (vectors_of F rows index)

    -- the list has the rows of all l for the first j, and then those of the first l
    pub record AreSocleRows (j l : ℕ) (rows : List (List ℕ)) : Type 0 where
      pub each : (t : ℕ) → t < length rows → IsSomeRow rows t
      pub all : (i k : ℕ) → i < j → k < n → HasSocleRow rows i k
      pub last : (k : ℕ) → k < l → HasSocleRow rows j k

    -- c solves the equations of all rows
    abbrev pub SolvesRows : (ℕ → F.carrier) → Type 0
    SolvesRows c = (j l : ℕ) → j < n → l < n
        → product F.ring n c (shifted_entry_at (chi j) j l) ≡ F.zero

    -- the space has the vectors of length n that do so
    abbrev pub IsSocleSpace : SpaceParts → Type 0
    IsSocleSpace s = (c : ℕ → F.carrier) → InSpace F s c ↔ (EndsAt F.ring n c × SolvesRows c)

module _ {F : Elements ℕ} (L : Lawful F) (f : List (List ℕ)) where
  -- the plane whose vector is the combination of the rows of a fibre
  pub record IsCombinedPlane (s : Fibre) (c : ℕ → F.carrier) (N : List (List ℕ)) : Type 0 where
    pub shape : HasShape F.ring (y_degree L f) (pred (length s.modulus)) (plane_of F N)
    pub value : (j : ℕ) → flat F.ring (pred (length s.modulus)) (plane_of F N) j
        ≡ combination_of F (rows_of s.rows.items) c j

  -- with the coordinates of the first vector of a space
  abbrev pub IsFirstPlane : Fibre → SpaceParts → List (List ℕ) → Type 0
  IsFirstPlane s space = IsCombinedPlane s (vectors_of F space.basis 0)
