-- The printed texts of refusals.
use Rattle.std.specs.Prelude.{ℕ, ◌≤◌, ◌<◌, List, ◌++◌, codes}
use Rattle.std.specs.Fmt.{decimal}
use Rattle.ff_data.specs.declared.order.Refusal.{Refusal}
use Rattle.ff_data.specs.declared.order.Refusal.TheVariants as refusal
use Rattle.ff_data.specs.Systems.{gaps_of}
use Rattle.ff_text.specs.Printed.{poly_text}

-- the equation has the derivative 0 in y
abbrev pub inseparable_text : ℕ → List ℕ
inseparable_text w = codes "premise: equation " ++ decimal w ++ codes " is inseparable in y\n"

-- two factors, each in parentheses
unfoldable pub product_text : (g h : List (List ℕ)) → List ℕ
product_text g h = codes "(" ++ poly_text g ++ codes ")*(" ++ poly_text h ++ codes ")"

-- the equation has these factors
abbrev pub reducible_text : ℕ → (g h : List (List ℕ)) → List ℕ
reducible_text w g h =
    codes "premise: equation " ++ decimal w ++ codes " is reducible: " ++ product_text g h
    ++ codes "\n"

-- the first field has no point, no point with a pole system within the limit, or a small genus
abbrev pub no_rational_place_text : List ℕ
no_rational_place_text = codes "premise: the first field has no rational place\n"

abbrev pub pole_limit_text : List ℕ
pole_limit_text = codes "limit: no pole system within 1200\n"

abbrev pub small_genus_text : ℕ → List ℕ
small_genus_text genus = codes "premise: the genus is " ++ decimal genus ++ codes "\n"

-- the line for a refusal; out of memory has none
abbrev pub refusal_text : Refusal → List ℕ
refusal_text (refusal.Inseparable w) = inseparable_text w
refusal_text (refusal.Reducible w g h) = reducible_text w g h
refusal_text (refusal.NoRationalPlace finite infinite) = no_rational_place_text
refusal_text refusal.PoleLimit = pole_limit_text
refusal_text (refusal.SmallGenus s) = small_genus_text (gaps_of s.e s.weights)
refusal_text refusal.NoMemory = codes ""

-- refusals that have a line: the equation is the first or the second one, the gap number 0 or 1
abbrev pub HasLine : Refusal → Type 0
HasLine (refusal.Inseparable w) = (1 ≤ w) × (w ≤ 2)
HasLine (refusal.Reducible w g h) = (1 ≤ w) × (w ≤ 2)
HasLine (refusal.NoRationalPlace finite infinite) = Unit {0}
HasLine refusal.PoleLimit = Unit {0}
HasLine (refusal.SmallGenus s) = (0 < s.e) × (gaps_of s.e s.weights ≤ 1)
HasLine refusal.NoMemory = ⊥
