-- Tests on the terms of a sum, and the first fault that they find.
use Rattle.std.specs.Prelude.{ℕ, ◌+◌, ◌-◌, ◌*◌, ◌==◌, ◌&&◌, ◌||◌, nat_lt, not, min, Bool, false}
use Rattle.std.specs.Prelude.{List, [], ◌∷◌, length, take, drop, Option, Some, None, position}
use Rattle.std.specs.Prelude.{if◌then◌else◌}
use Rattle.std.specs.List.{list_any, fold}
use Rattle.ff_poly.specs.declared.limits.TheConstants.{MAX_X_DEGREE, MAX_Y_DEGREE, MAX_MONIC_DEGREE}
use Rattle.ff_text.specs.declared.limits.TheConstants.{MAX_ELEM_X_DEGREE, MAX_ELEM_Y_DEGREE}
use Rattle.ff_text.specs.declared.fault.TextFault.{TextFault}
use Rattle.ff_text.specs.declared.fault.TextFault.TheVariants as fault
use Rattle.ff_text.specs.declared.reader.Monomial.{Monomial}
use Rattle.ff_text.specs.declared.sums.Ratio.{Ratio}

abbrev pub has_y : List Monomial → Bool
has_y ms = list_any (λ (m : Monomial). nat_lt 0 m.y) ms

-- some power of x is above the first number, or some power of y above the second
abbrev pub exceeds : ℕ → ℕ → List Monomial → Bool
exceeds x y ms = list_any (λ (m : Monomial). nat_lt x m.x || nat_lt y m.y) ms

-- a higher power of y, or the same one and a higher power of x
abbrev pub is_above : Monomial → Monomial → Bool
is_above m t = nat_lt t.y m.y || ((m.y == t.y) && nat_lt t.x m.x)

abbrev pub higher : Monomial → Monomial → Monomial
higher t m = if is_above m t then m else t

abbrev pub top : Monomial → List Monomial → Monomial
top t ms = fold higher t ms

-- the monic form has a power of x above the limit by this term, with t the leading one
abbrev pub raises : ℕ → Monomial → Monomial → Bool
raises limit t m = nat_lt m.y t.y && nat_lt limit (m.x + (t.y - 1 - m.y) * t.x)

-- the degree of the monic form is above the limit
unfoldable pub monic_exceeds : ℕ → List Monomial → Bool
monic_exceeds limit [] = false
monic_exceeds limit (first ∷ rest) =
    list_any (raises limit (top first rest)) (first ∷ rest)

abbrev pub lacks_y : Ratio → Bool
lacks_y r = not (has_y r.numerator.items)

abbrev pub is_over_zero : Ratio → Bool
is_over_zero r = length r.denominator.items == 0

abbrev pub equation_exceeds : Ratio → Bool
equation_exceeds r =
    exceeds MAX_X_DEGREE MAX_Y_DEGREE r.numerator.items
    || monic_exceeds MAX_MONIC_DEGREE r.numerator.items

abbrev pub element_exceeds : Ratio → Bool
element_exceeds r =
    exceeds MAX_ELEM_X_DEGREE MAX_ELEM_Y_DEGREE r.numerator.items
    || exceeds MAX_ELEM_X_DEGREE MAX_ELEM_Y_DEGREE r.denominator.items

-- the first two lines, and the others
abbrev pub equations : List Ratio → List Ratio
equations rs = take (min (length rs) 2) rs

abbrev pub elements : List Ratio → List Ratio
elements rs = drop (min (length rs) 2) rs

abbrev pub if_some : Option ℕ → (ℕ → TextFault) → Option TextFault → Option TextFault
if_some None f o = o
if_some (Some i) f o = Some (f i)

-- the first fault of these lines
unfoldable pub first_fault : List Ratio → Option TextFault
first_fault rs = if_some (position lacks_y (equations rs)) (λ i. fault.NoY (i + 1))
    (if_some (position is_over_zero (elements rs)) (λ i. fault.ZeroDenominator (i + 3))
    (if_some (position equation_exceeds (equations rs)) (λ i. fault.Degree (i + 1))
    (if_some (position element_exceeds (elements rs)) (λ i. fault.Degree (i + 3))
    None)))
