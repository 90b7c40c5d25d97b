-- What a byte means in the grammar.
use Rattle.std.specs.Prelude.{ℕ, ◌-◌, ◌<◌, ◌==◌, ◌||◌, ◌&&◌, nat_le, Bool, List, map, if◌then◌else◌}
use Rattle.std.specs.Prelude.{Option, Some, None}
use Rattle.ff_text.specs.declared.symbol.Sign.TheVariants.{Plus, Minus}
use Rattle.ff_text.specs.declared.symbol.Variable.TheVariants as variable
use Rattle.ff_text.specs.declared.symbol.Symbol.{Symbol}
use Rattle.ff_text.specs.declared.symbol.Symbol.TheVariants as symbol

-- a space, a tab or a carriage return
abbrev pub is_blank : ℕ → Bool
is_blank b = (b == 32) || (b == 9) || (b == 13)

abbrev pub is_digit : ℕ → Bool
is_digit b = nat_le 48 b && nat_le b 57

-- a letter that a line begins with: p, f, g, X, Y, U or V
abbrev pub is_letter : ℕ → Bool
is_letter b =
    (b == 112) || (b == 102) || (b == 103) || (b == 88) || (b == 89) || (b == 85) || (b == 86)

unfoldable pub symbol_of : ℕ → Symbol
symbol_of b =
    if is_blank b then symbol.Blank
    else if b == 10 then symbol.LineFeed
    else if is_digit b then symbol.Digit (b - 48)
    else if b == 43 then symbol.Sign Plus
    else if b == 45 then symbol.Sign Minus
    else if b == 42 then symbol.Times
    else if b == 94 then symbol.Power
    else if b == 40 then symbol.Open
    else if b == 41 then symbol.Close
    else if b == 47 then symbol.Slash
    else if b == 120 then symbol.Variable variable.X
    else if b == 121 then symbol.Variable variable.Y
    else if is_letter b then symbol.Letter b
    else symbol.Other

abbrev pub symbols : List ℕ → List Symbol
symbols bytes = map symbol_of bytes

-- the digit that a symbol is
abbrev pub digit_of : Symbol → Option ℕ
digit_of (symbol.Digit d) = Some d
digit_of _ = None

abbrev pub IsDigitShort : Symbol → Type 0
IsDigitShort (symbol.Digit d) = d < 10
IsDigitShort _ = Unit {0}
