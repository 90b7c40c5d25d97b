-- What rows of an elimination mean, over a field. This project's own.
use Rattle.std.specs.Prelude.{◌≡◌, ℕ, zero, suc, ◌+◌, ◌<◌, List, [], map, length, get_or, Option}
use Rattle.std.specs.Prelude.{None, Some}
use Rattle.std.specs.Global.{Vec}
use Rattle.ff_theory.specs.Ring.{Elements}
use Rattle.ff_theory.specs.Poly.{coeff}
use Rattle.ff_theory.specs.Monomial.{raised}
use Rattle.ff_theory.specs.Span.{combination, InSpan}
use Rattle.ff_theory.specs.Vector.{vector_of, vectors_of}
use Rattle.ff_lin.specs.Space.{SpaceParts, InSpace}
use Rattle.ff_functions.specs.declared.echelon.Row.{Row}

-- g below r, and v there
abbrev pub put_last : {C : Type 0} → ℕ → (ℕ → C) → C → ℕ → C
put_last zero g v i = v
put_last (suc r) g v zero = g zero
put_last (suc r) g v (suc i) = put_last r (λ n. g (suc n)) v i

module _ (F : Elements ℕ) where
  -- the vector of a row, which is 0 before its pivot, and its origin
  abbrev pub vector_list : Row → List F.carrier
  vector_list r = raised F.ring r.pivot (map F.value r.tail.items)

  abbrev pub origin_list : Row → List F.carrier
  origin_list r = map F.value r.origin.items

  abbrev pub row_vectors : List Row → ℕ → ℕ → F.carrier
  row_vectors rows i = coeff F.ring (get_or (map vector_list rows) i [])

  abbrev pub row_origins : List Row → ℕ → ℕ → F.carrier
  row_origins rows i = coeff F.ring (get_or (map origin_list rows) i [])

  abbrev pub pivot_at : List Row → ℕ → ℕ
  pivot_at rows i = get_or (map (λ (r : Row). r.pivot) rows) i 0

  -- each row has one at its pivot, and zeros at the pivots of the rows before it
  pub record AreStepped (rows : List Row) : Type 0 where
    pub one_at : (i : ℕ) → i < length rows → row_vectors rows i (pivot_at rows i) ≡ F.one
    pub zero_at : (i l : ℕ) → i < l → l < length rows
        → row_vectors rows l (pivot_at rows i) ≡ F.zero

  -- w and d are v and c with the multiple of the row, and of its origin, that makes w zero at the
  -- pivot
  pub record IsCleared (r : Row) (v c w d : ℕ → F.carrier) : Type 0 where
    pub vector : (j : ℕ)
        → w j ≡ F.add (v j) (F.mul (F.neg (v r.pivot)) (coeff F.ring (vector_list r) j))
    pub origin : (j : ℕ)
        → d j ≡ F.add (c j) (F.mul (F.neg (v r.pivot)) (coeff F.ring (origin_list r) j))

  -- w and d are v and c with one combination of the first r rows and of their origins
  pub record IsShifted (rows : List Row) (r : ℕ) (v c w d : ℕ → F.carrier) : Type 0 where
    pub factors : ℕ → F.carrier
    pub vector : (j : ℕ)
        → w j ≡ F.add (v j) (combination F.ring r factors (row_vectors rows) j)
    pub origin : (j : ℕ)
        → d j ≡ F.add (c j) (combination F.ring r factors (row_origins rows) j)

  -- and w is 0 at the pivots of these rows
  pub record IsReduced (rows : List Row) (r : ℕ) (v c w d : ℕ → F.carrier) : Type 0 where
    pub shifted : IsShifted rows r v c w d
    pub cleared : (i : ℕ) → i < r → w (pivot_at rows i) ≡ F.zero

  -- the vector is a combination of the rows
  abbrev pub InRows : List Row → (ℕ → F.carrier) → Type 0
  InRows rows v = InSpan F.ring (length rows) (row_vectors rows) v

  -- the rows, and after them one whose vector and origin are those of v and c times a number that
  -- is not 0
  pub record IsExtended (rows : List Row) (v c : ℕ → F.carrier) (new : List Row) : Type 0 where
    pub count : length new ≡ length rows + 1
    pub same_vectors : (i j : ℕ) → i < length rows → row_vectors new i j ≡ row_vectors rows i j
    pub same_origins : (i j : ℕ) → i < length rows → row_origins new i j ≡ row_origins rows i j
    pub factor : F.carrier
    pub nonzero : ¬ (factor ≡ F.zero)
    pub vector : (j : ℕ) → row_vectors new (length rows) j ≡ F.mul factor (v j)
    pub origin : (j : ℕ) → row_origins new (length rows) j ≡ F.mul factor (c j)

  -- v is a combination of the rows, and d is c with the one that takes v to 0
  abbrev pub IsDependent : List Row → (v c d : ℕ → F.carrier) → Type 0
  IsDependent rows v c d = IsShifted rows (length rows) v c (λ j. F.zero) d

  -- v is no combination of the rows, and there is one row more, of v and c with a combination of
  -- the rows and of their origins
  pub record IsIndependentOf (rows : List Row) (v c : ℕ → F.carrier) (new : List Row) : Type 0 where
    pub outside : ¬ InRows rows v
    pub w : ℕ → F.carrier
    pub d : ℕ → F.carrier
    pub shifted : IsShifted rows (length rows) v c w d
    pub extended : IsExtended rows w d new

  -- the rows stay, with a relation
  pub record IsRelated (rows : List Row) (v c : ℕ → F.carrier) (new : List Row) (d : List ℕ)
      : Type 0 where
    pub same : new ≡ rows
    pub dependent : IsDependent rows v c (vector_of F d)

  -- what inserting v with the coefficients c makes of the rows
  abbrev pub IsInserted : (rows : List Row) (v c : ℕ → F.carrier) (new : List Row)
      → Option (Vec ℕ) → Type 0
  IsInserted rows v c new None = IsIndependentOf rows v c new
  IsInserted rows v c new (Some d) = IsRelated rows v c new d.items

  -- the new rows span the rows and v
  pub record IsSpannedWith (rows : List Row) (v : ℕ → F.carrier) (new : List Row) : Type 0 where
    pub old : (w : ℕ → F.carrier) → InRows rows w → InRows new w
    pub one : InRows new v
    pub only : (s : ℕ) (u : ℕ → ℕ → F.carrier)
        → ((i : ℕ) → i < length rows → InSpan F.ring s u (row_vectors rows i))
        → InSpan F.ring s u v
        → (i : ℕ) → i < length new → InSpan F.ring s u (row_vectors new i)

  -- v is a vector of the target and the combination of n images with the coefficients c
  pub record IsImageBy (t : SpaceParts) (n : ℕ) (images : ℕ → ℕ → F.carrier)
      (c v : ℕ → F.carrier) : Type 0 where
    pub rest : ℕ → F.carrier
    pub in_target : InSpace F t rest
    pub sum : (j : ℕ) → v j ≡ F.add (rest j) (combination F.ring n c images j)

  -- v is the image of a combination, up to the target
  abbrev pub IsSpanned : SpaceParts → ℕ → (ℕ → ℕ → F.carrier) → (ℕ → F.carrier) → Type 0
  IsSpanned t n images v = (c : ℕ → F.carrier) × IsImageBy t n images c v

  -- each row is the image by its origin, and the rows span the target and n images
  pub record HoldImages (t : SpaceParts) (n : ℕ) (images : ℕ → ℕ → F.carrier) (rows : List Row)
      : Type 0 where
    pub each : (i : ℕ) → i < length rows
        → IsImageBy t n images (row_origins rows i) (row_vectors rows i)
    pub target : (v : ℕ → F.carrier) → InSpace F t v → InRows rows v
    pub spanned : (l : ℕ) → l < n → InRows rows (images l)

  -- the rows are in the space, and span the first n of its basis vectors
  pub record HoldBasis (t : SpaceParts) (n : ℕ) (rows : List Row) : Type 0 where
    pub each : (i : ℕ) → i < length rows → InSpace F t (row_vectors rows i)
    pub spanned : (l : ℕ) → l < n → InRows rows (vectors_of F t.basis l)
