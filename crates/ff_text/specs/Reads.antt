-- What the reading of a whole text gives.
use Rattle.std.specs.Prelude.{◌≡◌, ℕ, List, Result, Ok, Err, Some}
use Rattle.ff_text.specs.declared.fault.TextFault.{TextFault}
use Rattle.ff_text.specs.declared.fault.TextFault.TheVariants as fault
use Rattle.ff_text.specs.declared.layout.Mode.{Mode}
use Rattle.ff_text.specs.Grammar.{IsFaultAt}
use Rattle.ff_text.specs.Reading.{Progress, finish, reads}

-- how far the text is read at its end, or the index of the fault
abbrev pub Reads : Mode → List ℕ → Result Progress TextFault → Type 0
Reads mode bytes (Ok S) = finish (reads mode bytes) ≡ Some S
Reads mode bytes (Err (fault.Syntax at)) = IsFaultAt mode bytes at
Reads mode bytes (Err fault.NoMemory) = Unit {0}
Reads mode bytes _ = ⊥
