-- The printed texts of elements and lists.
use Rattle.std.specs.Prelude.{ℕ, List, [], ◌∷◌, ◌++◌, length, codes, if◌then◌else◌}
use Rattle.std.specs.List.{flat_map}
use Rattle.std.specs.Fmt.{decimal}
use Rattle.ff_elem.specs.declared.elem.Elem.{Elem}
use Rattle.ff_data.specs.declared.pair.Entry.{Entry}
use Rattle.ff_data.specs.declared.pair.IsoList.{IsoList}
use Rattle.ff_text.specs.declared.layout.Mode.{Mode}
use Rattle.ff_text.specs.declared.layout.Mode.TheVariants as mode
use Rattle.ff_text.specs.Printed.{is_one, poly_text}

-- ---- Elements

-- the numerator, over a denominator that is not 1
unfoldable pub elem_text : Elem → List ℕ
elem_text e =
    if is_one e.den then poly_text e.num
    else codes "(" ++ poly_text e.num ++ codes ")/(" ++ poly_text (e.den ∷ []) ++ codes ")"

-- the line with the number of what follows
abbrev pub heading : List ℕ → ℕ → List ℕ
heading name count = name ++ codes ": " ++ decimal count ++ codes "\n"

-- ---- Lists of pairs with their inverse pairs

-- a pair X, Y and its inverse pair U, V
abbrev pub entry_text : Entry → List ℕ
entry_text e =
    codes "X=" ++ elem_text e.pair.x ++ codes "; Y=" ++ elem_text e.pair.y
    ++ codes "; U=" ++ elem_text e.back.x ++ codes "; V=" ++ elem_text e.back.y ++ codes "\n"

-- what the entries of a list are; the modes Check and Order have no list
abbrev pub list_name : Mode → List ℕ
list_name mode.Iso = codes "isomorphisms"
list_name mode.Aut = codes "automorphisms"
list_name _ = codes ""

abbrev pub HasList : Mode → Type 0
HasList mode.Iso = Unit {0}
HasList mode.Aut = Unit {0}
HasList _ = ⊥

-- the number of the entries, and a line for each entry
abbrev pub list_text : Mode → IsoList → List ℕ
list_text mode list =
    heading (list_name mode) (length list.entries) ++ flat_map entry_text list.entries

-- the line of the first entry, where there is one
abbrev pub first_entry_text : List Entry → List ℕ
first_entry_text [] = []
first_entry_text (e ∷ es) = entry_text e

-- a prime and two equations, as an input has them
abbrev pub equation_lines : ℕ → (f g : List (List ℕ)) → List ℕ
equation_lines p f g =
    codes "p " ++ decimal p ++ codes "\nf " ++ poly_text f ++ codes "\ng " ++ poly_text g
    ++ codes "\n"

-- two equations, the number of the entries of their list, and the first entry
abbrev pub made_text : ℕ → (f g : List (List ℕ)) → IsoList → List ℕ
made_text p f g list =
    equation_lines p f g ++ heading (codes "isomorphisms") (length list.entries)
    ++ first_entry_text list.entries

-- ---- Bases of orders

abbrev pub elem_line : Elem → List ℕ
elem_line e = elem_text e ++ codes "\n"

-- the number of the elements, and a line for each of them
abbrev pub basis_text : List ℕ → List Elem → List ℕ
basis_text name elems = heading name (length elems) ++ flat_map elem_line elems

-- a basis of the finite maximal order, and one of the infinite maximal order
abbrev pub order_text : List Elem → List Elem → List ℕ
order_text finite infinite =
    basis_text (codes "finite") finite ++ basis_text (codes "infinite") infinite
