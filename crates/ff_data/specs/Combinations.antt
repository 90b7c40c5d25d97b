-- Lists of elements of E(f) and their combinations with constants, for an equation f over a field
-- whose laws are L.
use Rattle.std.specs.Prelude.{◌≡◌, ℕ, ◌<◌, List, map, length}
use Rattle.std.specs.List.{All}
use Rattle.ff_theory.specs.Ring.{Elements}
use Rattle.ff_theory.specs.Lawful.{Lawful, lawful_field}
use Rattle.ff_theory.specs.Sum.{sum_below}
use Rattle.ff_theory.specs.Poly.{coeff}
use Rattle.ff_theory.specs.Values.{plane_of}
use Rattle.ff_theory.specs.Algebra.{constant}
use Rattle.ff_elem.specs.declared.elem.Elem.{Elem}
use Rattle.ff_elem.specs.Elem.{algebra_in, elem_of, IsElem}

module _ {F : Elements ℕ} (L : Lawful F) (f : List (List ℕ)) where
  -- each of them is in lowest terms
  abbrev pub AreElems : List Elem → Type 0
  AreElems ws = All (IsElem L f) ws

  -- the elements that a list stands for, by index, and 0 past its end
  abbrev pub elems_of : List Elem → ℕ → (algebra_in L f).carrier
  elems_of ws = coeff (algebra_in L f) (map (elem_of L f) ws)

  -- an element of the field as one of E(f)
  abbrev pub constant_in : F.carrier → (algebra_in L f).carrier
  constant_in c = constant (lawful_field L) (plane_of F f) c

  -- c 0 * w 0 + c 1 * w 1 + .. , r elements
  abbrev pub combination_in : ℕ → (ℕ → F.carrier) → (ℕ → (algebra_in L f).carrier)
      → (algebra_in L f).carrier
  combination_in r c w = sum_below (algebra_in L f) r
      (λ i. (algebra_in L f).mul (constant_in (c i)) (w i))

  -- the combination of the elements with the coefficients is 0
  abbrev pub IsRelationOf : List Elem → (ℕ → F.carrier) → Type 0
  IsRelationOf ws c = combination_in (length ws) c (elems_of ws) ≡ (algebra_in L f).zero

  -- w is a combination of r elements
  pub record InSpanOf (r : ℕ) (ws : ℕ → (algebra_in L f).carrier)
      (w : (algebra_in L f).carrier) : Type 0 where
    pub coefficients : ℕ → F.carrier
    pub sum : w ≡ combination_in r coefficients ws

  -- The list is a basis over the field of the elements with the property:
  -- each of its elements has it, only the combination with zeros alone is 0, and each element with
  -- the property is a combination of them.
  pub record IsBasisOf (P : (algebra_in L f).carrier → Type 0) (ws : List Elem) : Type 0 where
    pub elems : AreElems ws
    pub each : (i : ℕ) → i < length ws → P (elems_of ws i)
    pub independent : (c : ℕ → F.carrier) → IsRelationOf ws c
        → (i : ℕ) → i < length ws → c i ≡ F.zero
    pub spans : (w : (algebra_in L f).carrier) → P w → InSpanOf (length ws) (elems_of ws) w
