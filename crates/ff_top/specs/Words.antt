-- The words that a run is given, and the texts that need no input.
use Rattle.std.specs.Prelude.{◌≡◌, ◌++◌, ℕ, List, [], ◌∷◌, codes}
use Rattle.ff_text.specs.declared.layout.Mode.{Mode}
use Rattle.ff_text.specs.declared.layout.Mode.TheVariants as mode
use Rattle.ff_text.specs.Grammar.{Number}
use Rattle.ff_text.specs.Symbols.{symbols}
use Rattle.ff_top.specs.declared.command.Command.{Command}
use Rattle.ff_top.specs.declared.command.Command.TheVariants.{Read, Make}

-- the word of a mode
abbrev pub word_of : Mode → List ℕ
word_of mode.Iso = codes "iso"
word_of mode.Aut = codes "aut"
word_of mode.Check = codes "check"
word_of mode.Order = codes "order"

-- The words are this command: the one word of a mode, or `make` and one to nine decimal digits.
abbrev pub IsCommand : List (List ℕ) → Command → Type 0
IsCommand words (Read m) = words ≡ word_of m ∷ []
IsCommand words (Make n) =
    (digits : List ℕ) × (words ≡ codes "make" ∷ digits ∷ []) × Number (symbols digits) n []

-- the words are a command
abbrev pub HasCommand : List (List ℕ) → Type 0
HasCommand words = (c : Command) × IsCommand words c

-- the words are a command that reads the source
abbrev pub ReadsSource : List (List ℕ) → Type 0
ReadsSource words = (m : Mode) × IsCommand words (Read m)

-- the text as one line
abbrev pub line : List ℕ → List ℕ
line text = text ++ 10 ∷ []

abbrev pub usage_text : List ℕ
usage_text = line (codes "usage: iso | aut | check | order | make N")

abbrev pub read_fault_text : List ℕ
read_fault_text = line (codes "read fault")

abbrev pub too_long_text : List ℕ
too_long_text = line (codes "limit: input longer than 65536 bytes")
